-- Texts that are written one behind another.
use Rattle.std.proofs.Common.{◌≡◌, ◌∙◌, sym, ap, refl, subst, ℕ, ◌+◌, Bool, true, false, List, [], ◌++◌, length, take, drop, append_assoc, Option}
use Rattle.std.proofs.lemmas.List.{append-nil, take-append-drop}
use Rattle.std.proofs.Math.Seq.{take-append_seam, take-append-add}
use Rattle.std.specs.Io.KnownBytes.{Appends}
use Rattle.std.proofs.KnownBytes.{Appends-trans}
use Rattle.io_edge.specs.Told.{AppendsFront}
use Rattle.reply_text.specs.Reply.{Sat}
use Rattle.reply_text.specs.Text.{reply_text, checked_text}
use Rattle.icnf_runner.specs.Output.{printed_reply}
use Rattle.std.specs.Prelude.{Result, Ok, Err, OnOk, OnErr, IfOk}
use Rattle.io_edge.specs.declared.outside.Failed.{Failed}
use Rattle.icnf_runner.specs.declared.status.Status.{Status}
use Rattle.icnf_runner.specs.declared.session.Break.{Break}
use Rattle.icnf_runner.specs.declared.session.Break.TheVariants as breaks
use Rattle.icnf_runner.specs.Session.{status_if}

-- a front of a text is a front of a longer one
pub front_more : (a b : Option (List ℕ)) (text more : List ℕ) → AppendsFront a b text → AppendsFront a b (text ++ more)
front_more a b text more h =
    let P : List ℕ → Type 0 = λ t. Appends a b t in
    let same : take (length (take h.0 text)) (text ++ more) ≡ take h.0 text =
    ap (λ t. take (length (take h.0 text)) (t ++ more)) (sym (take-append-drop h.0 text)) ∙ ap (take (length (take h.0 text))) (append_assoc (take h.0 text) (drop h.0 text) more)
    ∙ take-append_seam (take h.0 text) (drop h.0 text ++ more) in
    (length (take h.0 text), subst P (sym same) h.1)

-- a text, and then a front of the one behind it
pub then_front : (a b c : Option (List ℕ)) (text more : List ℕ) → Appends a b text → AppendsFront b c more → AppendsFront a c (text ++ more)
then_front a b c text more h k =
    let P : List ℕ → Type 0 = λ t. Appends a c t in
    (length text + k.0, subst P (sym (take-append-add text more k.0)) (Appends-trans a b c text (take k.0 more) h k.1))

-- the reply of a model with the count behind it, and without
pub with_check : (check : Bool) (count : ℕ) (m : List Bool) → check ≡ true → reply_text (Sat m) ++ checked_text count ≡ printed_reply check count (Sat m)
with_check check count m e = ap (λ c. printed_reply c count (Sat m)) (sym e)

pub without_check : (check : Bool) (count : ℕ) (m : List Bool) → check ≡ false → reply_text (Sat m) ≡ printed_reply check count (Sat m)
without_check check count m e = sym (append-nil (reply_text (Sat m))) ∙ ap (λ c. printed_reply c count (Sat m)) (sym e)

-- what the status says, where all was written, and where not
pub status_ok : (wrote : Result (Unit {0}) Failed) (status : Status) (r : Result Status Break) (X : Type 0) (Q : Status → Type 0) → r ≡ status_if wrote status → OnOk wrote X → (X → Q status) → IfOk r Q
status_ok (Ok u) status r X Q e x f = let P : Result Status Break → Type 0 = λ y. IfOk y Q in subst P (sym e) (f x)
status_ok (Err z) status r X Q e x f = let P : Result Status Break → Type 0 = λ y. IfOk y Q in subst P (sym e) tt

pub status_err : (wrote : Result (Unit {0}) Failed) (status : Status) (r : Result Status Break) (X R : Type 0) → r ≡ status_if wrote status → OnErr wrote X → (X → R) → r ≡ Err breaks.Write → R
status_err (Ok u) status r X R e x f is = let no : Ok status ≡ Err breaks.Write = sym e ∙ is in absurd (cc)
status_err (Err z) status r X R e x f is = f x

-- the count counts only where it is printed
pub same_count : (check : Bool) (n k : ℕ) (m : List Bool) → (check ≡ true → n ≡ k) → printed_reply check n (Sat m) ≡ printed_reply check k (Sat m)
same_count true n k m h = ap (λ c. printed_reply true c (Sat m)) (h refl)
same_count false n k m h = refl

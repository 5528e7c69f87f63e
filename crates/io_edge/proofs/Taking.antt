-- One turn of gathering a line.
use Rattle.std.proofs.Common.{◌≡◌, ◌∙◌, sym, ap, refl, ℕ, List, [], ◌∷◌, ◌++◌, append_assoc}
use Rattle.std.specs.Prelude.{Contains, ◌≢◌, Bool, true, false, IsTrue}
use Rattle.std.specs.declared.option.Option.{Option}
use Rattle.std.specs.Io.KnownBytes.{Consumes, Keeps}
use Rattle.std.proofs.KnownBytes.{Consumes-trans, Consumes-kept, Keeps-refl}
use Rattle.std.proofs.lemmas.List.{append-nil}
use Rattle.std.proofs.lemmas.List.Elements.{All-append, All-contains, Contains-append_left}
use Rattle.io_edge.specs.Lines.{NoLf}
use Rattle.io_edge.specs.Reading.{Takes, end_of}

-- the rest is moved to the line, and new bytes come
pub takes_more : (a b d : Option (List ℕ)) (ahead rest line new : List ℕ) → Takes a b ahead rest line [] → NoLf rest → Consumes b d new
    → Takes a d ahead new (line ++ rest) []
takes_more a b d ahead rest line new t n h = record {
  got = t.got ++ new;
  consumed = Consumes-trans a b d t.got new t.consumed h;
  bytes = sym (append_assoc ahead t.got new) ∙ ap (λ l. l ++ new) (t.bytes ∙ ap (λ l. l ++ rest) (append-nil line) ∙ sym (append-nil (line ++ rest)));
  no_end = All-append (λ b. b ≢ 10) line rest t.no_end n;
}

-- the rest is moved to the line, and nothing comes
pub takes_rest : (a b d : Option (List ℕ)) (ahead rest line : List ℕ) → Takes a b ahead rest line [] → NoLf rest → Keeps b d
    → Takes a d ahead [] (line ++ rest) []
takes_rest a b d ahead rest line t n h = record {
  got = t.got;
  consumed = Consumes-kept a b d t.got t.consumed h;
  bytes = t.bytes ∙ ap (λ l. l ++ rest) (append-nil line) ∙ sym (append-nil (line ++ rest)) ∙ sym (append-nil ((line ++ rest) ++ []));
  no_end = All-append (λ b. b ≢ 10) line rest t.no_end n;
}

-- where the line takes all, what was read ahead has no LF
pub no_lf_ahead : (a b : Option (List ℕ)) (ahead line : List ℕ) → Takes a b ahead [] line [] → Contains ahead 10 → ⊥
no_lf_ahead a b ahead line t h =
    let all : NoLf (ahead ++ t.got) = rw (t.bytes ∙ append-nil (line ++ []) ∙ append-nil line) t.no_end in
    All-contains (λ b. b ≢ 10) (ahead ++ t.got) 10 all (Contains-append_left ahead t.got 10 h) refl

-- what one look for an LF leaves
pub takes_end : (found : Bool) (a b : Option (List ℕ)) (ahead rest rest' line line' : List ℕ) → Takes a b ahead rest line []
    → (IsTrue found → (part : List ℕ) × NoLf part × (rest ≡ part ++ 10 ∷ rest') × (line' ≡ line ++ part))
    → (found ≡ false → NoLf rest × (rest' ≡ []) × (line' ≡ line ++ rest))
    → Takes a b ahead rest' line' (end_of found)
takes_end true a b ahead rest rest' line line' t is isnt = let p = is refl in record {
  got = t.got;
  consumed = t.consumed;
  bytes = t.bytes ∙ ap (λ l. (line ++ []) ++ l) p.2 ∙ rw (p.3, append-nil, append_assoc, append_assoc) refl;
  no_end = rw p.3 (All-append (λ b. b ≢ 10) line p.0 t.no_end p.1);
}
takes_end false a b ahead rest rest' line line' t is isnt = let p = isnt refl in record {
  got = t.got;
  consumed = t.consumed;
  bytes = t.bytes ∙ rw (p.1, p.2, append-nil, append-nil, append-nil) refl;
  no_end = rw p.2 (All-append (λ b. b ≢ 10) line rest t.no_end p.0);
}

-- a source is read only where no end of a line was read ahead
pub not_needed : {P : Type 0} (a b : Option (List ℕ)) (ahead rest line : List ℕ) → Takes a b ahead rest line [] → NoLf rest → Contains ahead 10 → P
not_needed a b ahead rest line t n h = absurd (no_lf_ahead a b ahead (line ++ rest) (takes_rest a b b ahead rest line t n (Keeps-refl b)) h)

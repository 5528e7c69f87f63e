-- The tokens that are left, from turn to turn.
use Rattle.std.proofs.Common.{◌≡◌, ◌∙◌, sym, ap, refl, arith, subst, ⊎_elim, ℕ, ◌+◌, ◌<◌, ◌≤◌, Bool, true, false, List, [], ◌∷◌, ◌++◌, length, Some, None, leb, ltb, Ok, inl, inr}
use Rattle.std.specs.Prelude.{map, max, ◌⊎◌, IfSome}
use Rattle.std.specs.declared.option.Option.{Option}
use Rattle.std.specs.Io.KnownBytes.{IsAtEnd}
use Rattle.std.proofs.lemmas.Bool.{cases_lt}
use Rattle.std.proofs.lemmas.Bool.Decides.{nat_tests}
use Rattle.io_edge.specs.Told.{WhereTold}
use Rattle.sat_terms.specs.Limits.{max_line, max_input}
use Rattle.io_edge.specs.Lines.{lines, line_text, Fits, IsTooLong, IsTooMuch}
use Rattle.io_edge.specs.Reading.{LineState, rest_of, GivesLine, TakesPart, Answers}
use Rattle.io_edge.specs.declared.lines.LineStop.TheVariants as stop
use Rattle.std.specs.Prelude.{Err}
use Rattle.io_edge.specs.declared.lines.LineGot.{LineGot}
use Rattle.io_edge.specs.declared.lines.LineGot.TheVariants.{Line}
use Rattle.icnf_reader.specs.Words.{line_words}
use Rattle.icnf_reader.specs.Tokens.{Word, Fault, tokens}
use Rattle.icnf_reader.specs.declared.item.Why.TheVariants.{LineTooLong, InputTooLong}
use Rattle.icnf_reader.specs.WordState.{WordState, left_over, SameLeft, GivesWord, TakesLines, BreaksOff, flat}
use Rattle.std.proofs.Common.{append_assoc}
use Rattle.std.proofs.lemmas.List.{append-nil}
use Rattle.std.proofs.lemmas.Bool.{false≢true}

-- what is told is told through two calls
pub told_both : {P Q R : List ℕ → List ℕ → Type 0} (a b c : Option (List ℕ)) → ((x y z : List ℕ) → P x y → Q y z → R x z) → WhereTold a b P → WhereTold b c Q → WhereTold a c R
told_both None b c f p q = tt
told_both (Some x) None c f p q = absurd p
told_both (Some x) (Some y) None f p q = absurd q
told_both (Some x) (Some y) (Some z) f p q = f x y z p q

pub told_more : {P R : List ℕ → List ℕ → Type 0} (a b : Option (List ℕ)) → ((x y : List ℕ) → P x y → R x y) → WhereTold a b P → WhereTold a b R
told_more None b f p = tt
told_more (Some x) None f p = absurd p
told_more (Some x) (Some y) f p = f x y p

pub told_then : {P : List ℕ → List ℕ → Type 0} {Q R : List ℕ → Type 0} (a b : Option (List ℕ)) → ((x y : List ℕ) → P x y → Q y → R x) → WhereTold a b P → IfSome b Q → IfSome a R
told_then None b f p q = tt
told_then (Some x) None f p q = absurd p
told_then (Some x) (Some y) f p q = f x y p q

pub told_left : {P : List ℕ → List ℕ → Type 0} {Q : List ℕ → Type 0} (a b : Option (List ℕ)) → ((x y : List ℕ) → P x y → Q x) → WhereTold a b P → IfSome a Q
told_left None b f p = tt
told_left (Some x) None f p = absurd p
told_left (Some x) (Some y) f p = f x y p

pub lt_is : (a b : ℕ) → a < b → ltb a b ≡ true
lt_is a b h = grind (arith, nat_tests)

pub lt_is_not : (a b : ℕ) → b ≤ a → ltb a b ≡ false
lt_is_not a b h = grind (arith, nat_tests)

le_is : (a b : ℕ) → a ≤ b → leb a b ≡ true
le_is a b h = grind (arith, nat_tests)

le_is_not : (a b : ℕ) → b < a → leb a b ≡ false
le_is_not a b h = grind (arith, nat_tests)

-- a line that fits gives its words
fits_tokens : (used n : ℕ) (p : List ℕ) (ps : List (List ℕ)) → Fits used p
    → tokens used n (p ∷ ps) ≡ map (Word n) (line_words (line_text p)) ++ tokens (used + length p) (n + 1) ps
fits_tokens used n p ps f = rw (lt_is_not max_line (length (line_text p)) f.short, lt_is_not max_input (used + length p) f.within) refl

long_tokens : (used n : ℕ) (p : List ℕ) (ps : List (List ℕ)) → IsTooLong used p → tokens used n (p ∷ ps) ≡ Fault n LineTooLong ∷ []
long_tokens used n p ps f = rw (lt_is max_line (length (line_text p)) f.passed, le_is (used + max_line) max_input f.first) refl

much_tokens : (used n : ℕ) (p : List ℕ) (ps : List (List ℕ)) → IsTooMuch used p → tokens used n (p ∷ ps) ≡ Fault n InputTooLong ∷ []
much_tokens used n p ps f = ⊎_elim
    (λ (long : max_line < length (line_text p)).
    rw (lt_is max_line (length (line_text p)) long, le_is_not (used + max_line) max_input (f.first long), lt_is max_input (used + length p) f.passed) refl)
    (λ (short : length (line_text p) ≤ max_line).
    rw (lt_is_not max_line (length (line_text p)) short, lt_is max_input (used + length p) f.passed) refl)
    (cases_lt max_line (length (line_text p)))

-- the next line is gone to
pub line_same : (old new : WordState) (before after : List ℕ) → old.pending ≡ [] → new.pending ≡ line_words new.lines.line → new.lines.number ≡ old.lines.number + 1
    → GivesLine old.lines.used new.lines.line new.lines.used new.lines.ended before after → SameLeft old new before after
line_same old new before after none words number g = record {
  same = ap (λ ws. map (Word old.lines.number) ws ++ tokens old.lines.used (old.lines.number + 1) (lines before)) none
      ∙ ap (tokens old.lines.used (old.lines.number + 1)) g.cut ∙ fits_tokens old.lines.used (old.lines.number + 1) g.piece (lines after) g.fits
      ∙ sym (rw (words, number, g.text, g.size) refl);
  last = ap (λ ls. max 1 (old.lines.number + length ls)) g.cut ∙ ap (max 1) (omega (arith, number));
  pieces = g.piece ∷ [];
  taken = record {
    bytes = g.first ∙ ap (λ l. l ++ after) (sym (append-nil g.piece));
    whatever = λ e more. ap (λ l. lines (l ++ more)) (append-nil g.piece) ∙ g.whatever e more;
  };
  over = λ others. ap (λ ws. map (Word old.lines.number) ws ++ tokens old.lines.used (old.lines.number + 1) (g.piece ∷ others)) none
      ∙ fits_tokens old.lines.used (old.lines.number + 1) g.piece others g.fits
      ∙ sym (rw (words, number, g.text, g.size) refl);
}

-- a word of the line is given
pub word_given : (old new : WordState) (rest : List ℕ) → new.lines ≡ old.lines → old.pending ≡ new.text ∷ new.pending → GivesWord old new new.lines.number rest rest
word_given old new rest same word = record {
  first = ap (λ ws. map (Word old.lines.number) ws ++ tokens old.lines.used (old.lines.number + 1) (lines rest)) word
      ∙ ap (λ s. map (Word s.number) (new.text ∷ new.pending) ++ tokens s.used (s.number + 1) (lines rest)) (sym same);
  last = ap (λ s. max 1 (s.number + length (lines rest))) (sym same);
  pieces = [];
  taken = record { bytes = refl; whatever = λ e more. refl };
  over = λ others. ap (λ ws. map (Word old.lines.number) ws ++ tokens old.lines.used (old.lines.number + 1) others) word
      ∙ ap (λ s. map (Word s.number) (new.text ∷ new.pending) ++ tokens s.used (s.number + 1) others) (sym same);
}

-- no word is left on the line
pub line_done : (old new : WordState) (rest : List ℕ) → new.lines ≡ old.lines → old.pending ≡ [] → new.pending ≡ [] → SameLeft old new rest rest
line_done old new rest same none none' = record {
  same = ap (λ ws. map (Word old.lines.number) ws ++ tokens old.lines.used (old.lines.number + 1) (lines rest)) (none ∙ sym none')
      ∙ ap (λ s. map (Word s.number) new.pending ++ tokens s.used (s.number + 1) (lines rest)) (sym same);
  last = ap (λ s. max 1 (s.number + length (lines rest))) (sym same);
  pieces = [];
  taken = record { bytes = refl; whatever = λ e more. refl };
  over = λ others. ap (λ ws. map (Word old.lines.number) ws ++ tokens old.lines.used (old.lines.number + 1) others) (none ∙ sym none')
      ∙ ap (λ s. map (Word s.number) new.pending ++ tokens s.used (s.number + 1) others) (sym same);
}

pub told_refl : (R : List ℕ → List ℕ → Type 0) (a : Option (List ℕ)) → ((x : List ℕ) → R x x) → WhereTold a a R
told_refl R None f = tt
told_refl R (Some x) f = f x

flat-append : (ps qs : List (List ℕ)) → flat (ps ++ qs) ≡ flat ps ++ flat qs
flat-append [] qs = refl
flat-append (p ∷ ps) qs = ap (λ l. p ++ l) (flat-append ps qs) ∙ sym (append_assoc p (flat ps) (flat qs))

-- lines are taken and then others
pub lines_then : (ps qs : List (List ℕ)) (b c : Bool) (x y z : List ℕ) → (c ≡ false → b ≡ false) → TakesLines ps b x y → TakesLines qs c y z → TakesLines (ps ++ qs) c x z
lines_then ps qs b c x y z going p q = record {
  bytes = p.bytes ∙ ap (λ l. flat ps ++ l) q.bytes ∙ sym (append_assoc (flat ps) (flat qs) z) ∙ ap (λ l. l ++ z) (sym (flat-append ps qs));
  whatever = λ e more. ap (λ l. lines (l ++ more)) (flat-append ps qs) ∙ ap lines (append_assoc (flat ps) (flat qs) more) ∙ p.whatever (going e) (flat qs ++ more)
      ∙ ap (λ l. ps ++ l) (q.whatever e more) ∙ sym (append_assoc ps qs (lines more));
}

pub not_ended : (b c : Bool) → (b ≡ true → c ≡ true) → c ≡ false → b ≡ false
not_ended true c stays e = absurd (false≢true (sym e ∙ stays refl))
not_ended false c stays e = refl

pub same_then : (a b c : WordState) (x y z : List ℕ) → (b.lines.ended ≡ true → c.lines.ended ≡ true) → SameLeft a b x y → SameLeft b c y z → SameLeft a c x z
same_then a b c x y z stays p q = record {
  same = p.same ∙ q.same;
  last = p.last ∙ q.last;
  pieces = p.pieces ++ q.pieces;
  taken = lines_then p.pieces q.pieces b.lines.ended c.lines.ended x y z (not_ended b.lines.ended c.lines.ended stays) p.taken q.taken;
  over = λ others. ap (left_over a) (append_assoc p.pieces q.pieces others) ∙ p.over (q.pieces ++ others) ∙ q.over others;
}

pub same_gives : (a b c : WordState) (n : ℕ) (x y z : List ℕ) → (b.lines.ended ≡ true → c.lines.ended ≡ true) → SameLeft a b x y → GivesWord b c n y z → GivesWord a c n x z
same_gives a b c n x y z stays p q = record {
  first = p.same ∙ q.first;
  last = p.last ∙ q.last;
  pieces = p.pieces ++ q.pieces;
  taken = lines_then p.pieces q.pieces b.lines.ended c.lines.ended x y z (not_ended b.lines.ended c.lines.ended stays) p.taken q.taken;
  over = λ others. ap (left_over a) (append_assoc p.pieces q.pieces others) ∙ p.over (q.pieces ++ others) ∙ q.over others;
}

-- a turn that gives a word
pub turn_word : (old mid new : WordState) (left left' : Option (List ℕ)) (n : ℕ) → WhereTold (rest_of old.lines left) (rest_of mid.lines left') (SameLeft old mid)
    → new.lines ≡ mid.lines → mid.pending ≡ new.text ∷ new.pending → n ≡ new.lines.number
    → WhereTold (rest_of old.lines left) (rest_of new.lines left') (GivesWord old new n)
turn_word old mid new left left' n told same word is =
    let here : WhereTold (rest_of mid.lines left') (rest_of mid.lines left') (GivesWord mid new new.lines.number) =
    told_refl (GivesWord mid new new.lines.number) (rest_of mid.lines left') (λ x. word_given mid new x same word) in
    let P : LineState → Type 0 = λ s. WhereTold (rest_of old.lines left) (rest_of s left') (GivesWord old new n) in
    let Q : ℕ → Type 0 = λ k. WhereTold (rest_of old.lines left) (rest_of mid.lines left') (GivesWord old new k) in
    subst P (sym same) (subst Q (sym is) (told_both (rest_of old.lines left) (rest_of mid.lines left') (rest_of mid.lines left')
    (λ x y z. same_gives old mid new new.lines.number x y z (λ e. ap (λ s. s.ended) same ∙ e)) told here))

-- a turn that goes to the next line
pub turn_line : (old mid done new : WordState) (left left' left'' : Option (List ℕ)) (got : LineGot) (n : ℕ)
    → WhereTold (rest_of old.lines left) (rest_of mid.lines left') (SameLeft old mid)
    → done.lines ≡ mid.lines → mid.pending ≡ [] → done.pending ≡ []
    → Answers done.lines new.lines (rest_of done.lines left') (rest_of new.lines left'') (Ok got) → got ≡ Line n → new.pending ≡ line_words new.lines.line
    → (done.lines.ended ≡ true → new.lines.ended ≡ true) → WhereTold (rest_of old.lines left) (rest_of new.lines left'') (SameLeft old new)
turn_line old mid done new left left' left'' got n told same none none' answer is words stays =
    let P : LineGot → Type 0 = λ x. Answers done.lines new.lines (rest_of done.lines left') (rest_of new.lines left'') (Ok x) in
    let a = subst P is answer in
    let next : WhereTold (rest_of done.lines left') (rest_of new.lines left'') (SameLeft done new) =
    told_more (rest_of done.lines left') (rest_of new.lines left'') (λ x y. line_same done new x y none' words (a.1 ∙ a.0)) a.2 in
    let here : WhereTold (rest_of mid.lines left') (rest_of mid.lines left') (SameLeft mid done) =
    told_refl (SameLeft mid done) (rest_of mid.lines left') (λ x. line_done mid done x same none none') in
    let Q : LineState → Type 0 = λ s. WhereTold (rest_of mid.lines left') (rest_of s left') (SameLeft mid done) in
    let there = told_both (rest_of mid.lines left') (rest_of done.lines left') (rest_of new.lines left'') (λ x y z. same_then mid done new x y z stays) (subst Q (sym same) here) next in
    told_both (rest_of old.lines left) (rest_of mid.lines left') (rest_of new.lines left'') (λ x y z. same_then old mid new x y z (λ e. stays (ap (λ s. s.ended) same ∙ e))) told there

-- the end of the input was seen in an earlier call, or the source is at its end
pub ended_on : {S : Type 0} {mid mid' : Bool} (left : S → Option (List ℕ)) (source source' : S) (Q : Type 0) → (mid ≡ true → Q ⊎ IsAtEnd (left source)) → mid' ≡ mid
    → (mid' ≡ true → source' ≡ source) → (mid' ≡ true) ⊎ IsAtEnd (left source') → Q ⊎ IsAtEnd (left source')
ended_on {S} {mid} {mid'} left source source' Q before same unread = ⊎_elim
    (λ (is : mid' ≡ true). let e = unread is in
    let P : S → Type 0 = λ s. IsAtEnd (left s) in
    ⊎_elim inl (λ (p : P source). inr (subst P (sym e) p)) (before (sym same ∙ is)))
    inr

-- reading is cut off after the lines that were taken
off : (old mid done : WordState) (x y z : List ℕ) → (old.lines.ended ≡ true → mid.lines.ended ≡ true) → done.lines ≡ mid.lines → mid.pending ≡ [] → done.lines.ended ≡ false → SameLeft old mid x y → TakesPart y z → BreaksOff old x z
off old mid done x y z stays same none going p t = record {
  going = not_ended old.lines.ended mid.lines.ended stays (sym (ap (λ s. s.ended) same) ∙ going);
  pieces = p.pieces;
  part = t.part;
  taken = record { bytes = p.taken.bytes ∙ ap (λ l. flat p.pieces ++ l) t.first; whatever = λ e. p.taken.whatever (sym (ap (λ s. s.ended) same) ∙ going) };
  no_end = t.no_end;
  none = sym (ap (left_over old) (append-nil p.pieces)) ∙ p.over [] ∙ ap (λ ws. map (Word mid.lines.number) ws ++ []) none;
}

pub turn_off : (old mid done new : WordState) (left left' left'' : Option (List ℕ)) → (old.lines.ended ≡ true → mid.lines.ended ≡ true) → WhereTold (rest_of old.lines left) (rest_of mid.lines left') (SameLeft old mid)
    → done.lines ≡ mid.lines → mid.pending ≡ [] → Answers done.lines new.lines (rest_of done.lines left') (rest_of new.lines left'') (Err stop.ReadFault)
    → WhereTold (rest_of old.lines left) (rest_of new.lines left'') (BreaksOff old)
turn_off old mid done new left left' left'' stays told same none answer =
    let Q : LineState → Type 0 = λ s. WhereTold (rest_of s left') (rest_of new.lines left'') TakesPart in
    told_both (rest_of old.lines left) (rest_of mid.lines left') (rest_of new.lines left'') (λ x y z. off old mid done x y z stays same none answer.0) told (subst Q same answer.1)

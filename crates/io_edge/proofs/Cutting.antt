-- How a text is cut into lines.
use Rattle.std.proofs.lemmas.Bool.Decides.{eqb_tells}
use Rattle.std.proofs.Common.{⊎_elim, subst, ◌≡◌, ◌∙◌, sym, ap, refl, eqb, ℕ, ◌+◌, ◌<◌, ◌≤◌, Bool, true, false, List, [], ◌∷◌, ◌++◌, length, arith, not, add-zero, append_assoc, length-append}
use Rattle.std.specs.Prelude.{◌≢◌}
use Rattle.std.proofs.lemmas.List.{append-nil, length_push}
use Rattle.std.proofs.lemmas.Bool.{false≢true, cases_lt}
use Rattle.std.specs.Prelude.{Some, None, IfSome}
use Rattle.std.specs.declared.option.Option.{Option}
use Rattle.std.specs.Io.KnownBytes.{prepend_known, IsAtEnd}
use Rattle.io_edge.specs.Told.{WhereTold}
use Rattle.io_edge.specs.declared.lines.LineStop.{LineStop}
use Rattle.std.specs.Prelude.{Err, IsErrOf, if◌then◌else◌}
use Rattle.io_edge.specs.declared.lines.Broken.{Broken}
use Rattle.io_edge.specs.declared.lines.Broken.TheVariants as broken
use Rattle.io_edge.specs.Reading.{Takes, GivesLine, StopsAtLine, TakesPart, end_of, LineState, Answers, rest_of, stop_for}
use Rattle.std.proofs.lemmas.List.Elements.{All-head, All-tail}
use Rattle.io_edge.specs.Lines.{NoLf, lines, line_text, put_before, IsTooLong, IsTooMuch}

abbrev first_piece : List (List ℕ) → List ℕ
first_piece [] = []
first_piece (p ∷ ps) = p

abbrev other_pieces : List (List ℕ) → List (List ℕ)
other_pieces [] = []
other_pieces (p ∷ ps) = ps

put_more : (b : ℕ) (ps : List (List ℕ)) → put_before b ps ≡ (b ∷ first_piece ps) ∷ other_pieces ps
put_more b [] = refl
put_more b (p ∷ ps) = refl

not_lf : (b : ℕ) → b ≢ 10 → eqb b 10 ≡ false
not_lf b h = ⊎_elim (λ t. absurd (h t.1)) (λ f. f.0) (eqb_tells b 10)

-- bytes without LF stand in one line with what comes after them
pub lines_front : (b : ℕ) (bs after : List ℕ) → NoLf (b ∷ bs) → lines ((b ∷ bs) ++ after) ≡ ((b ∷ bs) ++ first_piece (lines after)) ∷ other_pieces (lines after)
lines_front b [] after h = rw (not_lf b (All-head (λ x. x ≢ 10) b [] h)) (put_more b (lines after))
lines_front b (x ∷ xs) after h =
    rw (not_lf b (All-head (λ y. y ≢ 10) b (x ∷ xs) h)) (ap (put_before b) (lines_front x xs after (All-tail (λ y. y ≢ 10) b (x ∷ xs) h)))

-- an LF ends a line
pub lines_lf : (line after : List ℕ) → NoLf line → lines ((line ++ 10 ∷ []) ++ after) ≡ (line ++ 10 ∷ []) ∷ lines after
lines_lf [] after h = refl
lines_lf (b ∷ bs) after h = ap lines (append_assoc (b ∷ bs) (10 ∷ []) after) ∙ lines_front b bs (10 ∷ after) h

pub text_front : (line after : List ℕ) → NoLf line → line_text (line ++ after) ≡ line ++ line_text after
text_front [] after h = refl
text_front (b ∷ bs) after h = rw (not_lf b (All-head (λ y. y ≢ 10) b bs h)) (ap (λ l. b ∷ l) (text_front bs after (All-tail (λ y. y ≢ 10) b bs h)))

last_line : (line : List ℕ) → NoLf line → 0 < length line → lines (line ++ []) ≡ line ∷ []
last_line [] no_lf some = absurd (omega arith)
last_line (b ∷ bs) no_lf some = lines_front b bs [] no_lf ∙ ap (λ l. l ∷ []) (append-nil (b ∷ bs))

-- the bytes that were told
told_bytes : (ahead xs got ys front ahead' : List ℕ) → xs ≡ got ++ ys → ahead ++ got ≡ front ++ ahead' → ahead ++ xs ≡ front ++ (ahead' ++ ys)
told_bytes ahead xs got ys front ahead' e f = ap (λ l. ahead ++ l) e ∙ sym (append_assoc ahead got ys) ∙ ap (λ l. l ++ ys) f ∙ append_assoc front ahead' ys

-- where both limits are passed, the earlier byte decides
earlier : (lf : Bool) (line piece : List ℕ) (used : ℕ) → (lf ≡ true → line_text piece ≡ line) → 1099511627776 < used + length line + length (end_of lf)
    → (16777216 < length line → 1099511627776 < used + 16777216) → 16777216 < length (line_text piece) → 1099511627776 < used + 16777216
earlier true line piece used whole much first h = first (rw (sym (whole refl)) h)
earlier false line piece used whole much first h = ⊎_elim first (λ (l : length line ≤ 16777216). omega arith) (cases_lt 16777216 (length line))

-- a line that an LF ended is given
pub given_lf : (left left' : Option (List ℕ)) (ahead ahead' line : List ℕ) (used : ℕ) → Takes left left' ahead ahead' line (10 ∷ [])
    → length line ≤ 16777216 → used + length line + 1 ≤ 1099511627776
    → WhereTold (prepend_known ahead left) (prepend_known ahead' left') (GivesLine used line (used + (length line + 1)) false)
given_lf None left' ahead ahead' line used t short within = tt
given_lf (Some xs) None ahead ahead' line used t short within = absurd t.consumed
given_lf (Some xs) (Some ys) ahead ahead' line used t short within =
    let first : ahead ++ xs ≡ (line ++ 10 ∷ []) ++ (ahead' ++ ys) = told_bytes ahead xs t.got ys (line ++ 10 ∷ []) ahead' t.consumed t.bytes in
    let text : line_text (line ++ 10 ∷ []) ≡ line = text_front line (10 ∷ []) t.no_end ∙ append-nil line in
    let size : length (line ++ 10 ∷ []) ≡ length line + 1 = length_push line 10 in
    record {
      piece = line ++ 10 ∷ [];
      first = first;
      cut = ap lines first ∙ lines_lf line (ahead' ++ ys) t.no_end;
      text = sym text;
      size = ap (λ n. used + n) (sym size);
      fits = record { short = rw text short; within = omega (arith, size) };
      whatever = λ e more. lines_lf line more t.no_end;
    }

-- the last line, which no LF ended, is given
pub given_end : (left left' : Option (List ℕ)) (ahead ahead' line : List ℕ) (used : ℕ) → Takes left left' ahead ahead' line [] → ahead' ≡ [] → IsAtEnd left'
    → 0 < length line → length line ≤ 16777216 → used + length line ≤ 1099511627776
    → WhereTold (prepend_known ahead left) (Some []) (GivesLine used line (used + length line) true)
given_end None left' ahead ahead' line used t none end some short within = tt
given_end (Some xs) None ahead ahead' line used t none end some short within = absurd t.consumed
given_end (Some xs) (Some ys) ahead ahead' line used t none end some short within =
    let first : ahead ++ xs ≡ line ++ [] = told_bytes ahead xs t.got ys (line ++ []) ahead' t.consumed t.bytes ∙ rw (none, end, append-nil) refl in
    let text : line_text line ≡ line = sym (ap line_text (append-nil line)) ∙ text_front line [] t.no_end ∙ append-nil line in
    record {
      piece = line;
      first = first;
      cut = ap lines first ∙ last_line line t.no_end some;
      text = sym text;
      size = refl;
      fits = record { short = rw text short; within = within };
      whatever = λ e more. absurd (false≢true (sym e));
    }

-- nothing is left
pub given_none : (left left' : Option (List ℕ)) (ahead ahead' line : List ℕ) → Takes left left' ahead ahead' line [] → ahead' ≡ [] → IsAtEnd left' → line ≡ []
    → WhereTold (prepend_known ahead left) (Some []) (λ before after. (before ≡ []) × (after ≡ []))
given_none None left' ahead ahead' line t none end no_lf = tt
given_none (Some xs) None ahead ahead' line t none end no_lf = absurd t.consumed
given_none (Some xs) (Some ys) ahead ahead' line t none end no_lf =
    (told_bytes ahead xs t.got ys (line ++ []) ahead' t.consumed t.bytes ∙ rw (none, end, no_lf) refl, refl)

-- a fault in mid-line
pub given_part : (left left' : Option (List ℕ)) (ahead ahead' line : List ℕ) → Takes left left' ahead ahead' line []
    → WhereTold (prepend_known ahead left) (prepend_known ahead' left') TakesPart
given_part None left' ahead ahead' line t = tt
given_part (Some xs) None ahead ahead' line t = absurd t.consumed
given_part (Some xs) (Some ys) ahead ahead' line t = record {
  part = line;
  first = told_bytes ahead xs t.got ys (line ++ []) ahead' t.consumed t.bytes ∙ rw append-nil refl;
  no_end = t.no_end;
}

-- the line that was begun, whole
pub record Begun (lf : Bool) (line before : List ℕ) : Type 0 where
  pub piece : List ℕ
  pub others : List (List ℕ)
  pub cut : lines before ≡ piece ∷ others
  pub longer : length line + length (end_of lf) ≤ length piece
  pub text : length line ≤ length (line_text piece)
  pub whole : lf ≡ true → line_text piece ≡ line

pub begun : (lf : Bool) (line after before : List ℕ) → NoLf line → 0 < length line + length (end_of lf) → before ≡ (line ++ end_of lf) ++ after → Begun lf line before
begun true line after before no_lf some is =
    let text : line_text (line ++ 10 ∷ []) ≡ line = text_front line (10 ∷ []) no_lf ∙ append-nil line in
    record {
      piece = line ++ 10 ∷ [];
      others = lines after;
      cut = ap lines is ∙ lines_lf line after no_lf;
      longer = omega (arith, length_push line 10);
      text = omega (arith, ap length text);
      whole = λ _. text;
    }
begun false [] after before no_lf some is = absurd (omega arith)
begun false (b ∷ bs) after before no_lf some is =
    let text = text_front (b ∷ bs) (first_piece (lines after)) no_lf in
    record {
      piece = (b ∷ bs) ++ first_piece (lines after);
      others = other_pieces (lines after);
      cut = ap lines (is ∙ ap (λ l. l ++ after) (append-nil (b ∷ bs))) ∙ lines_front b bs after no_lf;
      longer = omega (arith, length-append (b ∷ bs) (first_piece (lines after)));
      text = omega (arith, ap length text, length-append (b ∷ bs) (line_text (first_piece (lines after))));
      whole = λ e. absurd (false≢true e);
    }

pub stops_long : (lf : Bool) (left left' : Option (List ℕ)) (ahead ahead' line : List ℕ) (used : ℕ) → Takes left left' ahead ahead' line (end_of lf)
    → 16777216 < length line → used + 16777216 ≤ 1099511627776 → IfSome (prepend_known ahead left) (StopsAtLine IsTooLong used)
stops_long lf None left' ahead ahead' line used t long first = tt
stops_long lf (Some xs) None ahead ahead' line used t long first = absurd t.consumed
stops_long lf (Some xs) (Some ys) ahead ahead' line used t long first =
    let b = begun lf line (ahead' ++ ys) (ahead ++ xs) t.no_end (omega arith) (told_bytes ahead xs t.got ys (line ++ end_of lf) ahead' t.consumed t.bytes) in
    record { piece = b.piece; others = b.others; cut = b.cut; fault = record { passed = omega (arith, b.text); first = first } }

pub stops_much : (lf : Bool) (left left' : Option (List ℕ)) (ahead ahead' line : List ℕ) (used : ℕ) → Takes left left' ahead ahead' line (end_of lf)
    → used ≤ 1099511627776 → 1099511627776 < used + length line + length (end_of lf) → (16777216 < length line → 1099511627776 < used + 16777216)
    → IfSome (prepend_known ahead left) (StopsAtLine IsTooMuch used)
stops_much lf None left' ahead ahead' line used t before much first = tt
stops_much lf (Some xs) None ahead ahead' line used t before much first = absurd t.consumed
stops_much lf (Some xs) (Some ys) ahead ahead' line used t before much first =
    let b = begun lf line (ahead' ++ ys) (ahead ++ xs) t.no_end (omega arith) (told_bytes ahead xs t.got ys (line ++ end_of lf) ahead' t.consumed t.bytes) in
    record {
      piece = b.piece;
      others = b.others;
      cut = b.cut;
      fault = record {
        passed = omega (arith, b.longer);
        first = earlier lf line b.piece used b.whole much first;
      };
    }

-- a line is given
pub given : (lf : Bool) (left left' : Option (List ℕ)) (ahead ahead' line : List ℕ) (used : ℕ)
    → (lf ≡ true → Takes left left' ahead ahead' line (10 ∷ []))
    → (lf ≡ false → Takes left left' ahead ahead' line [] × (ahead' ≡ []) × IsAtEnd left')
    → (lf ≡ false → 0 < length line) → length line ≤ 16777216 → used + length line + length (end_of lf) ≤ 1099511627776
    → WhereTold (prepend_known ahead left) (if not lf then Some [] else prepend_known ahead' left')
    (GivesLine used line (used + (length line + length (end_of lf))) (not lf))
given true left left' ahead ahead' line used t end some short within = given_lf left left' ahead ahead' line used (t refl) short within
given false left left' ahead ahead' line used t end some short within =
    let e = end refl in
    rw add-zero (given_end left left' ahead ahead' line used e.0 e.1 e.2 (some refl) short (omega (arith, within)))

-- what is answered where the line is not gathered
pub stopped : (b : Broken) (old new : LineState) (left left' : Option (List ℕ)) (line : List ℕ) → old.ended ≡ false → new.ended ≡ false → old.used ≤ 1099511627776
    → (IsErrOf {T = Bool} (Err b) broken.Memory → Takes left left' old.ahead new.ahead line [])
    → (IsErrOf {T = Bool} (Err b) broken.ReadFault → Takes left left' old.ahead new.ahead line [])
    → (IsErrOf {T = Bool} (Err b) broken.TooLong → (lf : Bool) × Takes left left' old.ahead new.ahead line (end_of lf) × (16777216 < length line) × (old.used + 16777216 ≤ 1099511627776))
    → (IsErrOf {T = Bool} (Err b) broken.TooMuch → (lf : Bool) × Takes left left' old.ahead new.ahead line (end_of lf)
    × (1099511627776 < old.used + length line + length (end_of lf)) × (16777216 < length line → 1099511627776 < old.used + 16777216))
    → Answers old new (rest_of old left) (rest_of new left') (Err (stop_for b (old.number + 1)))
stopped broken.ReadFault old new left left' line e f before memory fault long much = (e, rw (e, f) (given_part left left' old.ahead new.ahead line (fault refl)))
stopped broken.TooLong old new left left' line e f before memory fault long much = let t = long refl in
    (refl, rw e (stops_long t.0 left left' old.ahead new.ahead line old.used t.1 t.2 t.3))
stopped broken.TooMuch old new left left' line e f before memory fault long much = let t = much refl in
    (refl, rw e (stops_much t.0 left left' old.ahead new.ahead line old.used t.1 before t.2 t.3))
stopped broken.Memory old new left left' line e f before memory fault long much = (e, rw (e, f) (given_part left left' old.ahead new.ahead line (memory refl)))

-- the same, where the state before the call is known by an equation
pub stopped_as : (b : Broken) (old now new : LineState) (left left' : Option (List ℕ)) (line : List ℕ) (r : LineStop) → old ≡ now → r ≡ stop_for b (old.number + 1)
    → old.ended ≡ false → new.ended ≡ false → old.used ≤ 1099511627776
    → (IsErrOf {T = Bool} (Err b) broken.Memory → Takes left left' old.ahead new.ahead line [])
    → (IsErrOf {T = Bool} (Err b) broken.ReadFault → Takes left left' old.ahead new.ahead line [])
    → (IsErrOf {T = Bool} (Err b) broken.TooLong → (lf : Bool) × Takes left left' old.ahead new.ahead line (end_of lf) × (16777216 < length line) × (old.used + 16777216 ≤ 1099511627776))
    → (IsErrOf {T = Bool} (Err b) broken.TooMuch → (lf : Bool) × Takes left left' old.ahead new.ahead line (end_of lf)
    × (1099511627776 < old.used + length line + length (end_of lf)) × (16777216 < length line → 1099511627776 < old.used + 16777216))
    → Answers now new (rest_of now left) (rest_of new left') (Err r)
stopped_as b old now new left left' line r is q e f before memory fault long much =
    let P : LineState → Type 0 = λ o. Answers o new (rest_of o left) (rest_of new left') (Err r) in
    let Q : LineStop → Type 0 = λ s. Answers old new (rest_of old left) (rest_of new left') (Err s) in
    subst P is (subst Q (sym q) (stopped b old new left left' line e f before memory fault long much))

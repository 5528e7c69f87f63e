-- The text that is written from number to number is the wrapped text.
use Rattle.std.proofs.Common.{◌≡◌, ◌∙◌, sym, ap, refl, subst, arith, ◌<◌, ℕ, suc, zero, ◌+◌, ◌≤◌, cond, eqb, List, ℤ, [], ◌∷◌, ◌++◌, length, take, drop, append_assoc, length-drop, map, add-one}
use Rattle.std.specs.Prelude.{codes, ◌≢◌, Result, Ok, Err, OnOk, OnErr}
use Rattle.std.specs.List.{flat_map, join_with_byte}
use Rattle.std.specs.Fmt.{signed_decimal}
use Rattle.std.proofs.lemmas.Bool.{eq-eqb, ne_eqb}
use Rattle.std.specs.declared.option.Option.{Option}
use Rattle.std.specs.Io.KnownBytes.{Appends}
use Rattle.std.proofs.KnownBytes.{Appends-trans, Appends-nil}
use Rattle.std.proofs.Math.Seq.{take-append_seam}
use Rattle.std.proofs.lemmas.List.{take-append-drop}
use Rattle.io_edge.specs.Told.{AppendsFront}
use Rattle.io_edge.specs.Wrapped.{runs_within, line_of, wrap, lead, flow, LineSoFar, still_to_come, TakesNumber, FailsAt, IsUnderWay}

-- words from a place of the open line on
abbrev flow_of_words : List ℕ → ℕ → List (List ℕ) → List ℕ
flow_of_words prefix k [] = []
flow_of_words prefix k (w ∷ []) = lead prefix k ++ (w ++ (10 ∷ []))
flow_of_words prefix k (w ∷ v ∷ ws) = lead prefix k ++ (w ++ cond (eqb k 19) (10 ∷ flow_of_words prefix 0 (v ∷ ws)) (flow_of_words prefix (k + 1) (v ∷ ws)))

words_of : List ℤ → List (List ℕ)
words_of ls = map signed_decimal ls ++ codes "0" ∷ []

flow_words : (prefix : List ℕ) (k : ℕ) (ls : List ℤ) → flow prefix k ls ≡ flow_of_words prefix k (words_of ls)
unfolding words_of
flow_words prefix k [] = refl
flow_words prefix k (l ∷ []) = append_assoc (lead prefix k) (signed_decimal l) (cond (eqb k 19) (10 ∷ flow prefix 0 []) (flow prefix (k + 1) []))
flow_words prefix k (l ∷ m ∷ ls) =
    append_assoc (lead prefix k) (signed_decimal l) (cond (eqb k 19) (10 ∷ flow prefix 0 (m ∷ ls)) (flow prefix (k + 1) (m ∷ ls)))
    ∙ ap (λ t. lead prefix k ++ (signed_decimal l ++ cond (eqb k 19) (10 ∷ t) (flow prefix (k + 1) (m ∷ ls)))) (flow_words prefix 0 (m ∷ ls))
    ∙ ap (λ t. lead prefix k ++ (signed_decimal l ++ cond (eqb k 19) (10 ∷ flow_of_words prefix 0 (words_of (m ∷ ls))) t)) (flow_words prefix (k + 1) (m ∷ ls))

-- the first run is a line, and the other words follow on new lines
first_run : (prefix : List ℕ) (k n : ℕ) (w : List ℕ) (ws : List (List ℕ)) → k + suc n ≡ 20
    → flow_of_words prefix k (w ∷ ws) ≡ lead prefix k ++ (join_with_byte 32 (w ∷ take n ws) ++ (10 ∷ flow_of_words prefix 0 (drop n ws)))
first_run prefix k zero w [] room = refl
first_run prefix k (suc n) w [] room = refl
first_run prefix k zero w (v ∷ ws) room = let last : k ≡ 19 = omega arith in rw (eq-eqb k 19 last) refl
first_run prefix k (suc n) w (v ∷ ws) room =
    let other : k ≢ 19 = omega arith in
    let next : k + 1 + suc n ≡ 20 = omega arith in
    let rest = join_with_byte 32 (v ∷ take n ws) in
    let lines = 10 ∷ flow_of_words prefix 0 (drop n ws) in
    let space : lead prefix (k + 1) ≡ 32 ∷ [] = rw (add-one k) refl in
    rw (ne_eqb k 19 other)
    (ap (λ t. lead prefix k ++ (w ++ t)) (first_run prefix (k + 1) n v ws next ∙ ap (λ t. t ++ (rest ++ lines)) space)
    ∙ ap (λ t. lead prefix k ++ t) (sym (append_assoc w (32 ∷ rest) lines)))

by_runs : (prefix : List ℕ) (most : ℕ) (ws : List (List ℕ)) → length ws ≤ most → flow_of_words prefix 0 ws ≡ flat_map (line_of prefix) (runs_within 20 most ws)
by_runs prefix zero [] few = refl
by_runs prefix zero (w ∷ ws) few = absurd (omega arith)
by_runs prefix (suc most) [] few = refl
by_runs prefix (suc most) (w ∷ ws) few =
    first_run prefix 0 19 w ws refl
    ∙ ap (λ t. prefix ++ (join_with_byte 32 (w ∷ take 19 ws) ++ (10 ∷ t))) (by_runs prefix most (drop 19 ws) (omega (arith, length-drop 19 ws)))
    ∙ sym (append_assoc prefix (join_with_byte 32 (w ∷ take 19 ws) ++ (10 ∷ [])) (flat_map (line_of prefix) (runs_within 20 most (drop 19 ws)))
    ∙ ap (λ t. prefix ++ t) (append_assoc (join_with_byte 32 (w ∷ take 19 ws)) (10 ∷ []) (flat_map (line_of prefix) (runs_within 20 most (drop 19 ws)))))

pub flow_is_wrapped : (prefix : List ℕ) (ls : List ℤ) → flow prefix 0 ls ≡ wrap prefix ls
unfolding words_of
flow_is_wrapped prefix ls = flow_words prefix 0 ls ∙ by_runs prefix (length (words_of ls)) (words_of ls) (omega arith)

-- a number is taken, and the line stays open
pub takes_open : (w : Option (List ℕ)) (prefix : List ℕ) (number : ℤ) (bytes led all : List ℕ) (count : ℕ) → count < 19 → led ≡ bytes ++ lead prefix count → all ≡ led ++ signed_decimal number
    → TakesNumber prefix number (record { bytes = bytes; count = count }) (record { bytes = all; count = count + 1 }) w w
takes_open w prefix number bytes led all count few is_led is_all = record {
  text = [];
  wrote = Appends-nil w;
  same = λ rest.
      let other : count ≢ 19 = omega arith in
      rw (ne_eqb count 19 other, is_all, is_led) (simp append_assoc);
}

-- what is still to come begins with the last number of its line
last_of_line : (prefix : List ℕ) (number : ℤ) (bytes led all line : List ℕ) (count : ℕ) (rest : List ℤ) → count ≡ 19 → led ≡ bytes ++ lead prefix count → all ≡ led ++ signed_decimal number → line ≡ all ++ 10 ∷ []
    → bytes ++ flow prefix count (number ∷ rest) ≡ line ++ flow prefix 0 rest
last_of_line prefix number bytes led all line count rest full is_led is_all is_line =
    rw (eq-eqb count 19 full, is_line, is_all, is_led) (simp append_assoc)

-- the line is full, and waits
pub takes_full : (w : Option (List ℕ)) (prefix : List ℕ) (number : ℤ) (bytes led all line : List ℕ) (count : ℕ) → count ≡ 19 → led ≡ bytes ++ lead prefix count → all ≡ led ++ signed_decimal number → line ≡ all ++ 10 ∷ []
    → TakesNumber prefix number (record { bytes = bytes; count = count }) (record { bytes = line; count = 0 }) w w
takes_full w prefix number bytes led all line count full is_led is_all is_line = record {
  text = [];
  wrote = Appends-nil w;
  same = λ rest. last_of_line prefix number bytes led all line count rest full is_led is_all is_line;
}

-- the line is full, and was written
pub takes_last : (w w' : Option (List ℕ)) (prefix : List ℕ) (number : ℤ) (bytes led all line : List ℕ) (count : ℕ) → count ≡ 19 → led ≡ bytes ++ lead prefix count → all ≡ led ++ signed_decimal number → line ≡ all ++ 10 ∷ []
    → Appends w w' line → TakesNumber prefix number (record { bytes = bytes; count = count }) (record { bytes = []; count = 0 }) w w'
takes_last w w' prefix number bytes led all line count full is_led is_all is_line wrote = record {
  text = line;
  wrote = wrote;
  same = λ rest. last_of_line prefix number bytes led all line count rest full is_led is_all is_line;
}

pub fails_last : (w w' : Option (List ℕ)) (prefix : List ℕ) (number : ℤ) (bytes led all line : List ℕ) (count : ℕ) → count ≡ 19 → led ≡ bytes ++ lead prefix count → all ≡ led ++ signed_decimal number → line ≡ all ++ 10 ∷ []
    → AppendsFront w w' line → FailsAt prefix number (record { bytes = bytes; count = count }) w w'
fails_last w w' prefix number bytes led all line count full is_led is_all is_line wrote = record {
  text = take wrote.0 line;
  wrote = wrote.1;
  front = λ rest. (
    drop wrote.0 line ++ flow prefix 0 rest,
    last_of_line prefix number bytes led all line count rest full is_led is_all is_line
        ∙ ap (λ l. l ++ flow prefix 0 rest) (sym (take-append-drop wrote.0 line))
        ∙ append_assoc (take wrote.0 line) (drop wrote.0 line) (flow prefix 0 rest),
  );
}

-- nothing is written yet
pub under_way : (w : Option (List ℕ)) (whole : List ℕ) → IsUnderWay whole whole w w
under_way w whole = record { text = []; wrote = Appends-nil w; same = refl }

-- a text is written first
pub under_way_more : (a b d : Option (List ℕ)) (whole rest text next : List ℕ) → IsUnderWay whole rest a b → Appends b d text → rest ≡ text ++ next → IsUnderWay whole next a d
under_way_more a b d whole rest text next h wrote is = record {
  text = h.text ++ text;
  wrote = Appends-trans a b d h.text text h.wrote wrote;
  same = append_assoc h.text text next ∙ ap (λ l. h.text ++ l) (sym is) ∙ h.same;
}

-- a number is taken
pub under_way_takes : (a b d : Option (List ℕ)) (whole prefix : List ℕ) (number : ℤ) (rest : List ℤ) (old new : LineSoFar) → IsUnderWay whole (still_to_come prefix old (number ∷ rest)) a b
    → TakesNumber prefix number old new b d → IsUnderWay whole (still_to_come prefix new rest) a d
under_way_takes a b d whole prefix number rest old new h t =
    under_way_more a b d whole (still_to_come prefix old (number ∷ rest)) t.text (still_to_come prefix new rest) h t.wrote (t.same rest)

-- all is written
pub under_way_ends : (a b d : Option (List ℕ)) (whole rest : List ℕ) → IsUnderWay whole rest a b → Appends b d rest → Appends a d whole
under_way_ends a b d whole rest h wrote =
    let P : List ℕ → Type 0 = λ t. Appends a d t in
    subst P h.same (Appends-trans a b d h.text rest h.wrote wrote)

-- a front of what is still to come is written
front_of_whole : (a d : Option (List ℕ)) (whole text more : List ℕ) → Appends a d text → text ++ more ≡ whole → AppendsFront a d whole
front_of_whole a d whole text more wrote is =
    let P : List ℕ → Type 0 = λ t. Appends a d t in
    (length text, subst P (sym (ap (take (length text)) (sym is) ∙ take-append_seam text more)) wrote)

pub under_way_front : (a b d : Option (List ℕ)) (whole rest : List ℕ) → IsUnderWay whole rest a b → AppendsFront b d rest → AppendsFront a d whole
under_way_front a b d whole rest h wrote =
    front_of_whole a d whole (h.text ++ take wrote.0 rest) (drop wrote.0 rest) (Appends-trans a b d h.text (take wrote.0 rest) h.wrote wrote.1)
    (append_assoc h.text (take wrote.0 rest) (drop wrote.0 rest) ∙ ap (λ l. h.text ++ l) (take-append-drop wrote.0 rest) ∙ h.same)

pub under_way_fails : (a b d : Option (List ℕ)) (whole prefix : List ℕ) (number : ℤ) (rest : List ℤ) (old : LineSoFar) → IsUnderWay whole (still_to_come prefix old (number ∷ rest)) a b
    → FailsAt prefix number old b d → AppendsFront a d whole
under_way_fails a b d whole prefix number rest old h f =
    let m = f.front rest in
    front_of_whole a d whole (h.text ++ f.text) m.0 (Appends-trans a b d h.text f.text h.wrote f.wrote)
    (append_assoc h.text f.text m.0 ∙ ap (λ l. h.text ++ l) (sym m.1) ∙ h.same)

-- an answer about a whole line, by what it was
pub fails_if : {T E : Type 0} (r : Result T E) (P Q : Type 0) → (P → Q) → OnErr r P → OnErr r Q
fails_if (Ok x) P Q f h = tt
fails_if (Err e) P Q f h = f h

pub takes_if : {T E : Type 0} (r : Result T E) (P Q : Type 0) → (P → Q) → OnOk r P → OnOk r Q
takes_if (Ok x) P Q f h = f h
takes_if (Err e) P Q f h = tt

pub err_always : {T E : Type 0} (r : Result T E) (Q : Type 0) → Q → OnErr r Q
err_always (Ok x) Q q = tt
err_always (Err e) Q q = q

-- Laws of the marks that the walk makes.
use Rattle.std.proofs.Common.{◌≡◌, length-set, ℕ, ◌+◌, ◌<◌, Bool, true, false, cond, ◌||◌, eqb, List, [], ◌∷◌, ◌++◌, length, get_or, set, take, inl, inr, refl, sym, ap, ◌∙◌, arith, add-one}
use Rattle.std.proofs.lemmas.Bool.{cases_eq, or_cases, or_left, or_right, false≢true, eqb-true, eq-eqb}
use Rattle.std.proofs.lemmas.List.{get_or-set_same, get_or-set_other, get_or_read}
use Rattle.std.proofs.lemmas.List.Folds.{list_any_more, list_any-append}
use Rattle.sat_terms.specs.Literal.{neg, has}
use Rattle.sat_terms.proofs.Literals.{neg-neg}
use Rattle.sat_terms.proofs.Members.{same_tests}
use Rattle.redundancy.specs.Redundancy.{Entry, touches, entry}
use Rattle.redundancy.proofs.Touching.{touches-some, touches-from}
use Rattle.witness_stack.specs.MarkSet.{marked, tainted}
use Rattle.taint_restore.specs.Needed.{SayNeeded}
use Rattle.taint_restore.specs.Marking.{MarksMore}
use Rattle.taint_restore.proofs.Walk.{marks_at, chosen_at}
use Rattle.taint_restore.proofs.Walking.{marks_at-next, needed-from_chosen, chosen-from_needed}

-- opposite literals are equal together
eqb-neg : (a b : ℕ) → eqb (neg a) (neg b) ≡ eqb a b
eqb-neg a b = same_tests (eqb (neg a) (neg b)) (eqb a b)
    (λ h. eq-eqb a b (sym (neg-neg a) ∙ ap neg (eqb-true (neg a) (neg b) h) ∙ neg-neg b))
    (λ h. eq-eqb (neg a) (neg b) (ap neg (eqb-true a b h)))

or_swap : (a b c : Bool) → (a || (b || c)) ≡ ((b || a) || c)
or_swap true true c = refl
or_swap true false c = refl
or_swap false true c = refl
or_swap false false c = refl

has-append : (c d : List ℕ) (l : ℕ) → has (c ++ d) l ≡ (has c l || has d l)
has-append c d l = list_any-append (λ x. eqb x l) c d

-- one more literal is marked
pub mark_step : (lits : List ℕ) (i x : ℕ) (m0 m m' : List Bool) → i < length lits → x ≡ get_or lits i x → MarksMore (take i lits) m0 m → ((l : ℕ) → marked m' l ≡ (eqb (neg x) l || marked m l))
    → MarksMore (take (i + 1) lits) m0 m'
mark_step lits i x m0 m m' in' is before more k =
    let here : has (take (i + 1) lits) k ≡ (has (take i lits) k || eqb x k) = list_any_more (λ y. eqb y k) lits i x in' ∙ rw (← is) refl in
    rw (more (neg k), eqb-neg x k, before k, here) (or_swap (eqb x k) (has (take i lits) k) (marked m0 (neg k)))

-- marks that are the negations of a list
abbrev pub MarksAre : List Bool → List ℕ → Type 0
MarksAre m ms = (l : ℕ) → marked m (neg l) ≡ has ms l

tainted-some : (m : List Bool) (w : List ℕ) → tainted m w ≡ true → (l : ℕ) × (has w l ≡ true) × (marked m l ≡ true)
tainted-some m [] h = absurd (false≢true h)
tainted-some m (x ∷ w) h =
    elim (or_cases (marked m x) (tainted m w) h) [
      | inl t ↦ (x, or_left (eqb x x) (has w x) (eq-eqb x x refl), t)
      | inr h' ↦ let r = tainted-some m w h' in (r.0, or_right (eqb x r.0) (has w r.0) r.1, r.2)
    ]

tainted-from : (m : List Bool) (w : List ℕ) (l : ℕ) → has w l ≡ true → marked m l ≡ true → tainted m w ≡ true
tainted-from m [] l h t = absurd (false≢true h)
tainted-from m (x ∷ w) l h t =
    elim (or_cases (eqb x l) (has w l) h) [
      | inl e ↦ or_left (marked m x) (tainted m w) (rw (eqb-true x l e) t)
      | inr h' ↦ or_right (marked m x) (tainted m w) (tainted-from m w l h' t)
    ]

pub tainted-touches : (m : List Bool) (ms w : List ℕ) → MarksAre m ms → tainted m w ≡ touches w ms
tainted-touches m ms w are = same_tests (tainted m w) (touches w ms)
    (λ h. let r = tainted-some m w h in
    let n = neg-neg r.0 in
    touches-from w ms (neg r.0) (sym (are (neg r.0)) ∙ ap (marked m) n ∙ r.2) (rw n r.1))
    (λ h. let r = touches-some w ms h in
    tainted-from m w (neg r.0) r.2 (are r.0 ∙ r.1))

-- the walk, once it has come to a place
pub record Scanned (m flags : List Bool) (lits : List ℕ) (s : List Entry) (from : ℕ) : Type 0 where
  pub long : length flags ≡ length s
  pub marks : MarksAre m (marks_at lits s from)
  pub done : (k : ℕ) → k < from → get_or flags k false ≡ chosen_at lits s k

-- before the first entry
pub scan_start : (m0 m flags : List Bool) (lits : List ℕ) (s : List Entry) → ((l : ℕ) → marked m0 l ≡ false) → MarksMore lits m0 m → length flags ≡ length s → Scanned m flags lits s 0
scan_start m0 m flags lits s none more long = record {
  long = long;
  marks = λ l. more l ∙ rw (none (neg l)) (or_false (has lits l));
  done = λ k lt. absurd (omega arith);
} where
  or_false : (b : Bool) → (b || false) ≡ b
  or_false true = refl
  or_false false = refl

module _ (m flags : List Bool) (lits : List ℕ) (s : List Entry) (k : ℕ) (scanned : Scanned m flags lits s k) where
  -- one entry was looked at
  pub scan_step : (m' : List Bool) (b : Bool) → k < length s → b ≡ tainted m (entry s k).witness
      → (b ≡ true → MarksMore (entry s k).clause m m') → (b ≡ false → m' ≡ m)
      → Scanned m' (set flags k b) lits s (k + 1)
  scan_step m' b in' is more same =
      let here : b ≡ chosen_at lits s k = is ∙ tainted-touches m (marks_at lits s k) (entry s k).witness scanned.marks in
      let long = scanned.long in
      record {
        long = length-set flags k b ∙ long;
        marks = λ l. rw (add-one, marks_at-next lits s k in', ← here) (next b more same l);
        done = λ j lt.
            elim (cases_eq j k) [
              | inl e ↦ rw e (get_or-set_same flags k b false (omega arith) ∙ here)
              | inr n ↦ get_or-set_other flags k j b false n ∙ scanned.done j (omega arith)
            ];
      } where
        next : (b : Bool) → (b ≡ true → MarksMore (entry s k).clause m m') → (b ≡ false → m' ≡ m)
            → (l : ℕ) → marked m' (neg l) ≡ has (cond b ((entry s k).clause ++ marks_at lits s k) (marks_at lits s k)) l
        next true more same l = more refl l ∙ ap (λ x. has (entry s k).clause l || x) (scanned.marks l) ∙ sym (has-append (entry s k).clause (marks_at lits s k) l)
        next false more same l = rw (same refl) (scanned.marks l)

  -- after the last entry the flags say which are needed
  pub scan_end : k ≡ length s → SayNeeded flags lits s
  scan_end e j in' =
      let is = scanned.done j (omega arith) in (
        (λ t. needed-from_chosen lits s j in' (sym is ∙ t)),
        (λ n. is ∙ (chosen-from_needed lits s j n).1),
      )

-- what a flag says
pub flag_at : (flags : List Bool) (lits : List ℕ) (s : List Entry) (j : ℕ) (x b : Bool) → length flags ≡ length s → SayNeeded flags lits s → j < length s → x ≡ get_or flags j x → x ≡ b → chosen_at lits s j ≡ b
flag_at flags lits s j x b long are in' is was =
    let same : get_or flags j false ≡ chosen_at lits s j = same_tests (get_or flags j false) (chosen_at lits s j)
    (λ t. (chosen-from_needed lits s j ((are j in').0 t)).1)
    (λ t. (are j in').1 (needed-from_chosen lits s j in' t)) in
    sym same ∙ sym (get_or_read flags j x (omega arith) is false) ∙ was

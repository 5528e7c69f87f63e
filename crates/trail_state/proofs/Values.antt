-- Laws of the table of values.
use Rattle.std.proofs.Common.{◌≡◌, ◌≢◌, ℕ, zero, suc, ◌+◌, ◌-◌, ◌*◌, ◌<◌, ◌≤◌, Bool, true, false, ◌||◌, cond, eqb, List, [], ◌∷◌, ◌++◌, length, length-set, length-append, get_or, set, take, replicate, inl, inr, refl, sym, ap, ◌∙◌, arith, Option, Some, None}
use Rattle.std.proofs.lemmas.Bool.{cases_eq, cases_lt, or_left, or_right, eq-eqb, ne_eqb}
use Rattle.std.proofs.lemmas.List.{get_or_past, get_or_append_left, get_or-append_right, get_or-take, length-replicate, length-take-le, get_or-set_same, get_or-set_other, take_more, take_all}
use Rattle.sat_terms.specs.Literal.{neg, var_of}
use Rattle.sat_terms.proofs.Literals.{neg-neg, neg-other, var_of-neg}
use Rattle.trail_state.specs.declared.trail.Step.{Step}
use Rattle.trail_state.specs.Trail.{step, no_step, true_on, value_on, IsApart}
use Rattle.trail_state.specs.Mark.{says_true, says_false}
use Rattle.trail_state.specs.Table.{IsValued, TableFits}
use Rattle.trail_state.proofs.Places.{value_none, place_none, place_of_true}
use Rattle.trail_state.proofs.Backing.{step_take}

-- the codes of the variables up to n
pub code_below : (l n : ℕ) → var_of l ≤ n → l < 2 * n + 2
unfolding var_of
code_below l n h = omega arith

code_above : (l n : ℕ) → 2 * n + 2 ≤ l → n < var_of l
unfolding var_of
code_above l n h = omega arith

pub var_positive : (l : ℕ) → 2 ≤ l → 0 < var_of l
unfolding var_of
var_positive l h = omega arith

true_more : (t : List Step) (x : Step) (l : ℕ) → x.lit ≢ l → true_on (t ++ x ∷ []) l ≡ true_on t l
true_more [] x l n = rw (ne_eqb x.lit l n) refl
true_more (y ∷ t) x l n = ap (λ b. eqb y.lit l || b) (true_more t x l n)

true_last : (t : List Step) (x : Step) → true_on (t ++ x ∷ []) x.lit ≡ true
true_last [] x = or_left (eqb x.lit x.lit) false (eq-eqb x.lit x.lit refl)
true_last (y ∷ t) x = or_right (eqb y.lit x.lit) (true_on (t ++ x ∷ []) x.lit) (true_last t x)

-- neither a literal with no value nor its opposite is true
none_on : (t : List Step) (l : ℕ) → value_on t l ≡ None → true_on t l ≡ false
none_on t l free = go (true_on t l) refl where
  go : (b : Bool) → true_on t l ≡ b → b ≡ false
  go true h = let f : Some true ≡ None = rw h at free in cc
  go false h = refl

none_off : (t : List Step) (l : ℕ) → value_on t l ≡ None → true_on t (neg l) ≡ false
none_off t l free = go (true_on t (neg l)) refl where
  go : (b : Bool) → true_on t (neg l) ≡ b → b ≡ false
  go true h = let f : Some false ≡ None = rw (none_on t l free, h) at free in cc
  go false h = refl

none_neg : (t : List Step) (l : ℕ) → value_on t l ≡ None → value_on t (neg l) ≡ None
none_neg t l free = rw (none_off t l free, neg-neg l, none_on t l free) refl

-- the values with a literal more
pub value_last : (t : List Step) (x : Step) → value_on (t ++ x ∷ []) x.lit ≡ Some true
value_last t x = rw (true_last t x) refl

pub value_opposite : (t : List Step) (x : Step) → value_on t x.lit ≡ None → value_on (t ++ x ∷ []) (neg x.lit) ≡ Some false
value_opposite t x free =
    rw (true_more t x (neg x.lit) (λ e. neg-other x.lit (sym e)), none_off t x.lit free, neg-neg x.lit, true_last t x) refl

pub value_before : (t : List Step) (x : Step) (l : ℕ) → l ≢ x.lit → l ≢ neg x.lit → value_on (t ++ x ∷ []) l ≡ value_on t l
value_before t x l n m =
    rw (true_more t x l (λ e. n (sym e)), true_more t x (neg l) (λ e. m (sym (neg-neg l) ∙ ap neg (sym e)))) refl

-- what a literal more makes of the table
pub valued_push : (vs : List (Option Bool)) (d : ℕ) (t t' : List Step) (x : Step) (a b : ℕ) → IsValued vs d t → 0 < var_of x.lit → var_of x.lit ≤ d → value_on t x.lit ≡ None → t' ≡ t ++ x ∷ [] → a ≡ x.lit → b ≡ neg x.lit
    → IsValued (set (set vs a (Some true)) b (Some false)) d t'
valued_push vs d t t' x a b h pos in' free e a-is b-is =
    let vs' = set vs a (Some true) in
    let size : length vs' ≡ length vs = length-set vs a (Some true) in
    let size' : length (set vs' b (Some false)) ≡ length vs' = length-set vs' b (Some false) in
    let v = var_of-neg x.lit in
    let in-a : a < length vs = rw a-is (h.wide x.lit pos in') in
    let in-b : b < length vs = rw b-is (h.wide (neg x.lit) (omega arith) (omega arith)) in
    record {
      wide = λ l p w. let r = h.wide l p w in omega arith;
      valued = λ l.
          elim (cases_eq l b) [
            | inl q ↦
                let r : get_or (set vs' b (Some false)) l None ≡ Some false = rw q (get_or-set_same vs' b (Some false) None (omega arith)) in
                let v : value_on t' l ≡ Some false = rw (q, b-is, e) (value_opposite t x free) in
                r ∙ sym v
            | inr n ↦
                let first : get_or (set vs' b (Some false)) l None ≡ get_or vs' l None = get_or-set_other vs' b l (Some false) None n in
                let then : get_or vs' l None ≡ value_on t' l =
                elim (cases_eq l a) [
                  | inl q ↦
                      let r : get_or vs' l None ≡ Some true = rw q (get_or-set_same vs a (Some true) None in-a) in
                      let v : value_on t' l ≡ Some true = rw (q, a-is, e) (value_last t x) in
                      r ∙ sym v
                  | inr m ↦ get_or-set_other vs a l (Some true) None m ∙ h.valued l ∙ sym (value_before t x l (λ q. m (q ∙ sym a-is)) (λ q. n (q ∙ sym b-is))) ∙ ap (λ z. value_on z l) (sym e)
                ] in
                first ∙ then
          ];
    }

-- what a literal less makes of it
pub valued_pop : (vs : List (Option Bool)) (d : ℕ) (t t' : List Step) (x : Step) (a b : ℕ) → IsValued vs d t' → 0 < var_of x.lit → var_of x.lit ≤ d → value_on t x.lit ≡ None → t' ≡ t ++ x ∷ [] → a ≡ x.lit → b ≡ neg x.lit
    → IsValued (set (set vs a None) b None) d t
valued_pop vs d t t' x a b h pos in' free e a-is b-is =
    let vs' : List (Option Bool) = set vs a None in
    let size : length vs' ≡ length vs = length-set vs a None in
    let size' : length (set vs' b None) ≡ length vs' = length-set vs' b None in
    let v = var_of-neg x.lit in
    let in-a : a < length vs = rw a-is (h.wide x.lit pos in') in
    let in-b : b < length vs = rw b-is (h.wide (neg x.lit) (omega arith) (omega arith)) in
    record {
      wide = λ l p w. let r = h.wide l p w in omega arith;
      valued = λ l.
          elim (cases_eq l b) [
            | inl q ↦
                let r : get_or (set vs' b None) l None ≡ None = rw q (get_or-set_same vs' b None None (omega arith)) in
                let v : value_on t l ≡ None = rw (q, b-is) (none_neg t x.lit free) in
                r ∙ sym v
            | inr n ↦
                let first : get_or (set vs' b None) l None ≡ get_or vs' l None = get_or-set_other vs' b l None None n in
                let then : get_or vs' l None ≡ value_on t l =
                elim (cases_eq l a) [
                  | inl q ↦
                      let r : get_or vs' l None ≡ None = rw q (get_or-set_same vs a None None in-a) in
                      let v : value_on t l ≡ None = rw (q, a-is) free in
                      r ∙ sym v
                  | inr m ↦ get_or-set_other vs a l None None m ∙ h.valued l ∙ ap (λ z. value_on z l) e ∙ value_before t x l (λ q. m (q ∙ sym a-is)) (λ q. n (q ∙ sym b-is))
                ] in
                first ∙ then
          ];
    }

-- one step back of a walk
pub valued_back : (vs : List (Option Bool)) (d : ℕ) (t : List Step) (n k : ℕ) (l a b : ℕ) → IsApart t → IsValued vs d (take n t) → n ≡ k + 1 → k < length t → 0 < var_of l → var_of l ≤ d → l ≡ (step t k).lit → a ≡ l → b ≡ neg l
    → IsValued (set (set vs a None) b None) d (take k t)
valued_back vs d t n k l a b apart h n-is in' pos le l-is a-is b-is =
    let x = step t k in
    let free : value_on (take k t) x.lit ≡ None = value_none (take k t) x.lit (place_none (take k t) (var_of x.lit) (λ j below same.
    let size : length (take k t) ≡ k = length-take-le k t (omega arith) in
    let e = apart j k (omega arith) in' (rw (step_take t k j (omega arith)) at same) in
    omega arith)) in
    valued_pop vs d (take k t) (take n t) x a b h (rw l-is at pos) (rw l-is at le) free (rw n-is (take_more t k no_step in')) (a-is ∙ l-is) (b-is ∙ ap neg l-is)

-- no literal of an undeclared variable has a value
pub undeclared : (p : List ℕ) (t : List Step) (l : ℕ) → TableFits p t → length p < var_of l → value_on t l ≡ None
undeclared p t l fits gt = value_none t l (place_none t (var_of l) (λ j b e. let d = (fits.placed j b).declared in absurd (omega (arith, e, d))))

nothing : (k i : ℕ) → get_or {A = Option Bool} (replicate k None) i None ≡ None
nothing zero i = refl
nothing (suc k) zero = refl
nothing (suc k) (suc i) = nothing k i

-- the table with more variables, as `declare` makes it
pub valued_wider : (vs vs' : List (Option Bool)) (p : List ℕ) (d d' count n had : ℕ) (t : List Step) → IsValued vs d t → TableFits p t → length p < count → d' ≤ count → n ≡ 2 * count + 2 → had ≡ length vs
    → vs' ≡ take n vs ++ replicate (n - had) None → IsValued vs' d' t
valued_wider vs vs' p d d' count n had t h fits more le n-is had-is vs-is = record {
  wide = λ l q w. let r = code_below l count (omega arith) in let z = long in omega arith;
  valued = λ l. rw vs-is
      (elim (cases_lt l n) [
        | inl lt ↦
            (elim (cases_lt l (length vs)) [
              | inl lt' ↦
                  get_or_append_left (take n vs) (replicate (n - had) None) None l (let z = taken in omega arith) ∙ get_or-take n vs l None lt ∙ h.valued l
              | inr ge ↦
                  rw (take_all n vs (omega arith))
                  (get_or-append_right vs (replicate (n - had) None) (length vs) l None refl ge ∙ nothing (n - had) (l - length vs) ∙ sym (get_or_past vs l None ge) ∙ h.valued l)
            ])
        | inr ge ↦
            let ge' : 2 * count + 2 ≤ l = omega arith in
            get_or_past (take n vs ++ replicate (n - had) None) l None (let z = long' in omega arith) ∙ sym (undeclared p t l fits (let z = code_above l count ge' in omega arith))
      ]);
}
  where
    taken : length (take n vs) ≡ (n - (n - length vs))
    taken = elim (cases_lt n (length vs)) [
      | inl lt ↦ (let z = length-take-le n vs (omega arith) in omega arith)
      | inr ge ↦ ap length (take_all n vs (omega arith)) ∙ omega arith
    ]

    long' : length (take n vs ++ replicate (n - had) None) ≡ n
    long' = let a = length-append (take n vs) (replicate (n - had) None) in let b = length-replicate {A = Option Bool} (n - had) None in let z = taken in omega arith

    long : length vs' ≡ n
    long = ap length vs-is ∙ long'

-- a literal and its negation are not both true
pub not_both : (t : List Step) (l : ℕ) → IsApart t → true_on t l ≡ true → true_on t (neg l) ≡ true → ⊥
not_both t l apart h m =
    let a = place_of_true t l h in
    let b = place_of_true t (neg l) m in
    let same = apart a.0 b.0 a.1 b.1 (ap var_of a.2 ∙ sym (var_of-neg l) ∙ sym (ap var_of b.2)) in
    neg-other l (sym b.2 ∙ sym (ap (λ i. (step t i).lit) same) ∙ a.2)

-- what a value says
true_of : (a b : Bool) → says_true (cond a (Some true) (cond b (Some false) None)) ≡ a
true_of true b = refl
true_of false true = refl
true_of false false = refl

false_of : (a b : Bool) → (a ≡ true → b ≡ true → ⊥) → says_false (cond a (Some true) (cond b (Some false) None)) ≡ b
false_of true true h = absurd (h refl refl)
false_of true false h = refl
false_of false true h = refl
false_of false false h = refl

pub value_true : (t : List Step) (l : ℕ) → says_true (value_on t l) ≡ true_on t l
value_true t l = true_of (true_on t l) (true_on t (neg l))

pub value_false : (t : List Step) (l : ℕ) → IsApart t → says_false (value_on t l) ≡ true_on t (neg l)
value_false t l apart = false_of (true_on t l) (true_on t (neg l)) (not_both t l apart)

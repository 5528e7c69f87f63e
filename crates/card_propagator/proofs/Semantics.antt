-- What follows from a cardinality on a seen trail.
use Rattle.std.proofs.Common.{◌≡◌, ◌≢◌, ◌⊎◌, ℕ, zero, suc, ◌+◌, ◌-◌, ◌*◌, ◌/◌, ◌%◌, ◌<◌, ◌≤◌, Bool, true, false, not, ◌&&◌, ◌||◌, cond, eqb, leb, ltb, List, [], ◌∷◌, ◌++◌, length, get_or, Option, Some, None, IsTrue, All, Contains, inl, inr, refl, sym, ap, ◌∙◌, subst, arith}
use Rattle.std.specs.List.{count_by, list_any, list_all, filter}
use Rattle.std.proofs.lemmas.Bool.{cases_eq, cases_lt, cases_Bool, eq-eqb, ne_eqb, eqb-true, eqb-false, lt-ltb, ltb-true, leb-true, and_parts, and_from, or_cases, or_left, or_right, or_parts, false≢true}
use Rattle.std.proofs.lemmas.List.Elements.{All-head, All-tail, All-cons, All-nil}
use Rattle.std.proofs.lemmas.List.Sums.{sum_by-cons}
use Rattle.sat_terms.specs.Literal.{has, var_of, neg}
use Rattle.sat_terms.specs.Truth.{Assignment, lit_true, clause_true}
use Rattle.sat_terms.proofs.Truths.{lit_true-neg}
use Rattle.sat_model.specs.Constraint.{constraint_true, kind_of}
use Rattle.user_propagator.specs.Meaning.{counted_lits}
use Rattle.sat_model.specs.declared.constraint.Constraint.{Constraint}
use Rattle.sat_model.specs.declared.constraint.Constraint.TheVariants.{AtLeast, Parity}
use Rattle.sat_model.specs.declared.constraint.Kind.TheVariants.{Card}
use Rattle.sat_model.specs.declared.constraint.Kind.TheVariants as kinds
use Rattle.user_propagator.specs.Board.{trail_value, SeenTrail}
use Rattle.user_propagator.specs.Meaning.{MakesTrue}
use Rattle.user_propagator.specs.Meaning.{IsFalseSeen}
use Rattle.user_propagator.proofs.Lawful.{value_holds}
use Rattle.user_propagator.specs.declared.seen.Seen.{Seen}
use Rattle.card_propagator.specs.declared.told.Told.{Told}
use Rattle.clause_store.specs.Listing.{times}
use Rattle.card_propagator.specs.Values.{told, told_value, value, trues, falses, is_true, is_false, true_count, false_count, open_count, open_but}
use Rattle.card_propagator.specs.Following.{first_told, Follows}
use Rattle.card_propagator.specs.Counting.{Counting, rule, lits_at, bound_at, bound_of, IsSettled, IsProper}
use Rattle.card_propagator.specs.Cards.{are_kept, is_forced, can_explain, fallen, IsQuiet}
use Rattle.clause_store.proofs.Counts.{times-cons}
use Rattle.card_propagator.proofs.Valuing.{seen_value}
use Rattle.card_propagator.proofs.Admitting.{count_same}

not_true : (b : Bool) → not b ≡ true → b ≡ false
not_true true h = cc
not_true false h = refl

cond_le : (a b : Bool) → (a ≡ true → b ≡ true) → cond {A = ℕ} a 1 0 ≤ cond {A = ℕ} b 1 0
cond_le true b h = rw (h refl) (omega arith)
cond_le false true h = omega arith
cond_le false false h = omega arith

pub filter_yes : (q : ℕ → Bool) (x : ℕ) (c : List ℕ) → q x ≡ true → filter q (x ∷ c) ≡ x ∷ filter q c
filter_yes q x c h = ap (λ b. cond b (x ∷ filter q c) (filter q c)) h

pub filter_no : (q : ℕ → Bool) (x : ℕ) (c : List ℕ) → q x ≡ false → filter q (x ∷ c) ≡ filter q c
filter_no q x c h = ap (λ b. cond b (x ∷ filter q c) (filter q c)) h

pub false_some : (o : Option Bool) → is_false o ≡ true → o ≡ Some false
false_some None h = cc
false_some (Some true) h = cc
false_some (Some false) h = refl

one_of_two : (b : Bool) → cond {A = ℕ} (not b) 1 0 + cond {A = ℕ} b 1 0 ≡ 1
one_of_two true = refl
one_of_two false = refl

one_of_three : (a b : Bool) → (a ≡ true → b ≡ false) → cond {A = ℕ} (not a && not b) 1 0 + cond {A = ℕ} a 1 0 + cond {A = ℕ} b 1 0 ≡ 1
one_of_three true b h = rw (h refl) refl
one_of_three false true h = refl
one_of_three false false h = refl

-- counts by tests of which one implies the other on the list
pub count_le : (p q : ℕ → Bool) (c : List ℕ) → ((l : ℕ) → 0 < times c l → p l ≡ true → q l ≡ true) → count_by p c ≤ count_by q c
count_le p q [] h = omega arith
count_le p q (x ∷ c) h =
    let pos : 0 < times (x ∷ c) x = let e = times-cons x c x in let one : ◌≡◌ {A = ℕ} (cond {A = ℕ} (eqb x x) 1 0) 1 = ap (λ b. cond {A = ℕ} b 1 0) (eq-eqb x x refl) in omega (arith, e, one) in
    let here : cond {A = ℕ} (p x) 1 0 ≤ cond {A = ℕ} (q x) 1 0 = cond_le (p x) (q x) (h x pos) in
    let rest = count_le p q c (λ l more. h l (let e = times-cons x c l in omega (arith, e))) in
    let a = sum_by-cons (λ y. cond {A = ℕ} (p y) 1 0) x c in
    let b = sum_by-cons (λ y. cond {A = ℕ} (q y) 1 0) x c in
    omega (arith, a, b, here, rest)

-- none of those that pass q passes p
pub filter_false : (p q : ℕ → Bool) (c : List ℕ) → list_any p (filter q c) ≡ false → (l : ℕ) → 0 < times c l → q l ≡ true → p l ≡ false
filter_false p q [] h l pos y = absurd (omega arith)
filter_false p q (x ∷ c) h l pos y =
    elim (cases_Bool (q x)) [
      | inl t ↦
          let h' : (p x || list_any p (filter q c)) ≡ false = rw (filter_yes q x c t) at h in
          let parts = or_parts (p x) (list_any p (filter q c)) h' in
          elim (cases_eq x l) [
            | inl e ↦ ap p (sym e) ∙ parts.0
            | inr n ↦ filter_false p q c parts.1 l (let e = times-cons x c l in let z : ◌≡◌ {A = ℕ} (cond {A = ℕ} (eqb x l) 1 0) 0 = ap (λ b. cond {A = ℕ} b 1 0) (ne_eqb x l n) in omega (arith, e, z)) y
          ]
      | inr f ↦
          let h' : list_any p (filter q c) ≡ false = rw (filter_no q x c f) at h in
          elim (cases_eq x l) [
            | inl e ↦ let k : false ≡ true = sym f ∙ ap q e ∙ y in cc
            | inr n ↦ filter_false p q c h' l (let e = times-cons x c l in let z : ◌≡◌ {A = ℕ} (cond {A = ℕ} (eqb x l) 1 0) 0 = ap (λ b. cond {A = ℕ} b 1 0) (ne_eqb x l n) in omega (arith, e, z)) y
          ]
    ]

pub broken_true : (m : Assignment) (seen : List Seen) (bound : ℕ) (c : List ℕ) → bound ≤ count_by (lit_true m) c → open_count seen c < bound → clause_true m (fallen seen c) ≡ true
broken_true m seen bound c kept short =
    elim (cases_Bool (clause_true m (fallen seen c))) [
      | inl y ↦ y
      | inr n ↦
          let none = filter_false (lit_true m) (λ x. is_false (trail_value seen x)) c n in
          let le = count_le (lit_true m) (λ x. not (is_false (trail_value seen x))) c (λ l pos t. elim (cases_Bool (is_false (trail_value seen l))) [
            | inl y ↦ let k : true ≡ false = sym t ∙ none l pos y in cc
            | inr f ↦ ap not f
          ]) in
          absurd (omega (arith, le))
    ]

pub reason_true : (m : Assignment) (seen : List Seen) (bound l : ℕ) (c : List ℕ) → bound ≤ count_by (lit_true m) c → open_but seen l c < bound → clause_true m (l ∷ fallen seen c) ≡ true
reason_true m seen bound l c kept short =
    elim (cases_Bool (lit_true m l)) [
      | inl y ↦ or_left (lit_true m l) (clause_true m (fallen seen c)) y
      | inr n ↦ elim (cases_Bool (clause_true m (fallen seen c))) [
        | inl y ↦ or_right (lit_true m l) (clause_true m (fallen seen c)) y
        | inr none' ↦
            let none = filter_false (lit_true m) (λ x. is_false (trail_value seen x)) c none' in
            let le = count_le (lit_true m) (λ x. not (is_false (trail_value seen x)) && not (eqb x l)) c (λ x pos t.
            and_from (not (is_false (trail_value seen x))) (not (eqb x l))
            (elim (cases_Bool (is_false (trail_value seen x))) [ inl y ↦ let k : true ≡ false = sym t ∙ none x pos y in cc | inr f ↦ ap not f ])
            (ap not (ne_eqb x l (λ e. let k : true ≡ false = sym t ∙ ap (lit_true m) e ∙ n in cc)))) in
            absurd (omega (arith, le))
      ]
    ]

pub forced_true : (m : Assignment) (seen : List Seen) (bound l : ℕ) (c : List ℕ) → MakesTrue m seen → bound ≤ count_by (lit_true m) c → open_but seen l c < bound → lit_true m l ≡ true
forced_true m seen bound l c made kept short =
    elim (cases_Bool (lit_true m l)) [
      | inl y ↦ y
      | inr n ↦
          let le = count_le (lit_true m) (λ x. not (is_false (trail_value seen x)) && not (eqb x l)) c (λ x pos t.
          and_from (not (is_false (trail_value seen x))) (not (eqb x l))
          (elim (cases_Bool (is_false (trail_value seen x))) [ inl y ↦ let k : true ≡ false = sym t ∙ value_holds m seen x false made (false_some (trail_value seen x) y) in cc | inr f ↦ ap not f ])
          (ap not (ne_eqb x l (λ e. let k : true ≡ false = sym t ∙ ap (lit_true m) e ∙ n in cc)))) in
          absurd (omega (arith, le))
    ]

pub fallen_false : (seen : List Seen) (c : List ℕ) → IsFalseSeen seen (fallen seen c)
fallen_false seen [] l h = absurd (false≢true h)
fallen_false seen (x ∷ c) l h =
    let p : ℕ → Bool = λ y. is_false (trail_value seen y) in
    elim (cases_Bool (p x)) [
      | inl y ↦ elim (or_cases (eqb x l) (has (fallen seen c) l) (rw (filter_yes p x c y) at h)) [
        | inl e ↦ subst (λ (z : ℕ). trail_value seen z ≡ Some false) (eqb-true x l e) (false_some (trail_value seen x) y)
        | inr more ↦ fallen_false seen c l more
      ]
      | inr n ↦ fallen_false seen c l (rw (filter_no p x c n) at h)
    ]

-- sums
pub open_false : (seen : List Seen) (c : List ℕ) → open_count seen c + false_count seen c ≡ length c
open_false seen [] = refl
open_false seen (x ∷ c) =
    let a = sum_by-cons (λ y. cond {A = ℕ} (not (is_false (trail_value seen y))) 1 0) x c in
    let b = sum_by-cons (λ y. cond {A = ℕ} (is_false (trail_value seen y)) 1 0) x c in
    omega (arith, a, b, one_of_two (is_false (trail_value seen x)), open_false seen c)

pub but_false : (seen : List Seen) (l : ℕ) (c : List ℕ) → trail_value seen l ≡ None → open_but seen l c + false_count seen c + times c l ≡ length c
but_false seen l [] h = refl
but_false seen l (x ∷ c) h =
    let a = sum_by-cons (λ y. cond {A = ℕ} (not (is_false (trail_value seen y)) && not (eqb y l)) 1 0) x c in
    let b = sum_by-cons (λ y. cond {A = ℕ} (is_false (trail_value seen y)) 1 0) x c in
    let d = times-cons x c l in
    let apart : is_false (trail_value seen x) ≡ true → eqb x l ≡ false = λ f. ne_eqb x l (λ e. let k : false ≡ true = sym (ap is_false (ap (trail_value seen) e ∙ h)) ∙ f in cc) in
    omega (arith, a, b, d, one_of_three (is_false (trail_value seen x)) (eqb x l) apart, but_false seen l c h)

-- the table and the trail
pub value_seen : (t : List (Option Told)) (level : ℕ) (trail : SeenTrail) (l : ℕ) → Follows t level trail → 0 < var_of l → var_of l < length t → value t l ≡ trail_value trail.seen l
value_seen t level trail l f pos lt = ap (λ o. told_value o l) (f.table (var_of l) pos lt) ∙ sym (seen_value trail.seen l)

pub falses_seen : (t : List (Option Told)) (level : ℕ) (trail : SeenTrail) (c : List ℕ) → Follows t level trail → ((l : ℕ) → 0 < times c l → (0 < var_of l) × (var_of l < length t)) → falses t c ≡ false_count trail.seen c
falses_seen t level trail c f known = count_same (λ l. is_false (value t l)) (λ l. is_false (trail_value trail.seen l)) c (λ l pos. ap is_false (value_seen t level trail l f (known l pos).0 (known l pos).1))

pub trues_seen : (t : List (Option Told)) (level : ℕ) (trail : SeenTrail) (c : List ℕ) → Follows t level trail → ((l : ℕ) → 0 < times c l → (0 < var_of l) × (var_of l < length t)) → trues t c ≡ true_count trail.seen c
trues_seen t level trail c f known = count_same (λ l. is_true (value t l)) (λ l. is_true (trail_value trail.seen l)) c (λ l pos. ap is_true (value_seen t level trail l f (known l pos).0 (known l pos).1))

pub settled_quiet : (t : List (Option Told)) (level : ℕ) (trail : SeenTrail) (bound : ℕ) (c : List ℕ) → Follows t level trail → ((l : ℕ) → 0 < times c l → (0 < var_of l) × (var_of l < length t)) → IsSettled t bound c → IsQuiet trail.seen bound c
settled_quiet t level trail bound c f known s =
    let same = falses_seen t level trail c f known in
    record {
      holds = omega (arith, open_false trail.seen c, same, s.holds);
      spare = λ l free. elim (cases_lt 0 (times c l)) [
        | inl pos ↦
            let k = known l pos in
            let here : value t l ≡ None = value_seen t level trail l f k.0 k.1 ∙ free in
            omega (arith, but_false trail.seen l c free, same, s.spare l here)
        | inr none ↦ omega (arith, but_false trail.seen l c free, same, s.holds)
      ];
    }

pub filter_same_on : (p q : ℕ → Bool) (c : List ℕ) → ((l : ℕ) → 0 < times c l → p l ≡ q l) → filter p c ≡ filter q c
filter_same_on p q [] h = refl
filter_same_on p q (x ∷ c) h =
    let pos : 0 < times (x ∷ c) x = let e = times-cons x c x in let one : ◌≡◌ {A = ℕ} (cond {A = ℕ} (eqb x x) 1 0) 1 = ap (λ b. cond {A = ℕ} b 1 0) (eq-eqb x x refl) in omega (arith, e, one) in
    let rest = filter_same_on p q c (λ l more. h l (let e = times-cons x c l in omega (arith, e))) in
    ap (λ b. cond b (x ∷ filter p c) (filter p c)) (h x pos) ∙ ap (λ r. cond (q x) (x ∷ r) r) rest

pub fallen_same : (t : List (Option Told)) (level : ℕ) (trail : SeenTrail) (c : List ℕ) → Follows t level trail → ((l : ℕ) → 0 < times c l → (0 < var_of l) × (var_of l < length t)) → filter (λ x. is_false (value t x)) c ≡ fallen trail.seen c
fallen_same t level trail c f known = filter_same_on (λ x. is_false (value t x)) (λ x. is_false (trail_value trail.seen x)) c (λ l pos. ap is_false (value_seen t level trail l f (known l pos).0 (known l pos).1))

-- the rules
pub kept_at : (m : Assignment) (rules : List Constraint) (k : ℕ) → are_kept m rules ≡ true → k < length rules → constraint_true m (rule rules k) ≡ true
kept_at m [] k h lt = absurd (omega arith)
kept_at m (r ∷ rs) zero h lt = (and_parts (constraint_true m r) (are_kept m rs) h).0
kept_at m (r ∷ rs) (suc k) h lt = kept_at m rs k (and_parts (constraint_true m r) (are_kept m rs) h).1 (omega arith)

pub card_count : (m : Assignment) (r : Constraint) → kind_of r ≡ Card → constraint_true m r ≡ true → bound_of r ≤ count_by (lit_true m) (counted_lits r)
card_count m (AtLeast b l) k h = leb-true b (count_by (lit_true m) l) h
card_count m (Parity p l) k h = cc

pub explain_from : (rules : List Constraint) (seen : List Seen) (l k : ℕ) → k < length rules → is_forced seen l (rule rules k) ≡ true → can_explain rules seen l ≡ true
unfolding can_explain
explain_from [] seen l k lt h = absurd (omega arith)
explain_from (r ∷ rs) seen l zero lt h = or_left (is_forced seen l r) (can_explain rs seen l) h
explain_from (r ∷ rs) seen l (suc k) lt h = or_right (is_forced seen l r) (can_explain rs seen l) (explain_from rs seen l k (omega arith) h)

pub explain_find : (rules : List Constraint) (seen : List Seen) (l : ℕ) → can_explain rules seen l ≡ true → (k : ℕ) × (k < length rules) × (is_forced seen l (rule rules k) ≡ true)
unfolding can_explain
explain_find [] seen l h = cc
explain_find (r ∷ rs) seen l h = elim (or_cases (is_forced seen l r) (can_explain rs seen l) h) [
  | inl y ↦ (0, omega arith, y)
  | inr more ↦ let f = explain_find rs seen l more in (suc f.0, omega (arith, f.1), f.2)
]

pub explain_more : (rules : List Constraint) (r : Constraint) (seen : List Seen) (l : ℕ) → can_explain rules seen l ≡ true → can_explain (rules ++ r ∷ []) seen l ≡ true
unfolding can_explain
explain_more [] r seen l h = cc
explain_more (x ∷ rs) r seen l h = elim (or_cases (is_forced seen l x) (can_explain rs seen l) h) [
  | inl y ↦ or_left (is_forced seen l x) (can_explain (rs ++ r ∷ []) seen l) y
  | inr more ↦ or_right (is_forced seen l x) (can_explain (rs ++ r ∷ []) seen l) (explain_more rs r seen l more)
]

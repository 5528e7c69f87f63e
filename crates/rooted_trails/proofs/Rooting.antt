-- What the tests of a rooted trail say, in relations that proofs take apart.
use Rattle.std.proofs.Common.{◌≡◌, ℕ, zero, suc, ◌<◌, Bool, true, ◌||◌, ◌&&◌, eqb, List, [], ◌∷◌, length, take, ◌⊎◌, inl, inr, refl, sym, ap, subst, Option, Some, None}
use Rattle.std.specs.List.{list_all}
use Rattle.std.specs.Prelude.{IsSome}
use Rattle.std.proofs.lemmas.Bool.{false≢true, or_cases, or_left, or_right, and_parts, and_from, eqb-true, eq-eqb, cases_eq}
use Rattle.sat_terms.specs.Literal.{has, neg}
use Rattle.clause_store.specs.Stored.{Stored, slot, slot_lits}
use Rattle.trail_state.specs.declared.trail.Step.{Step}
use Rattle.trail_state.specs.declared.reason.Reason.{Reason}
use Rattle.trail_state.specs.declared.reason.Reason.TheVariants.{Decision, Clause, Theory}
use Rattle.trail_state.specs.Trail.{step, true_on}
use Rattle.trail_state.specs.Clauses.{IsReason}
use Rattle.rooted_trails.specs.Rooted.{is_reason, has_reason, is_one, is_unit, has_unit, rooted_at, Rooted, is_theory}

-- A decision needs no reason. A clause is one if it is live, holds the literal, and its other literals are false at earlier
-- places. What a theory implied has none among the clauses.
abbrev pub RootedBy : List (Option Stored) → List Step → ℕ → Reason → Type 0
RootedBy s t i Decision = Unit {0}
RootedBy s t i (Clause id) = IsSome (slot s id) × IsReason (slot_lits (slot s id)) t i
RootedBy s t i Theory = ⊥

-- a live clause of this one literal is in the store
abbrev pub HasUnit : List (Option Stored) → ℕ → Type 0
HasUnit s l = (id : ℕ) × IsSome (slot s id) × (slot_lits (slot s id) ≡ l ∷ [])

-- the step at a place has its reason, or it stands at the root and a live clause of that one literal is in the store
abbrev pub RootedAt : List (Option Stored) → List Step → ℕ → Type 0
RootedAt s t i = RootedBy s t i (step t i).reason ⊎ (((step t i).level ≡ 0) × HasUnit s (step t i).lit)

-- a test that every member passes
all_has : (p : ℕ → Bool) (c : List ℕ) (l : ℕ) → list_all p c ≡ true → has c l ≡ true → p l ≡ true
all_has p [] l h m = absurd (false≢true m)
all_has p (x ∷ c) l h m =
    let q = and_parts (p x) (list_all p c) h in
    elim (or_cases (eqb x l) (has c l) m) [
      | inl e ↦ subst (λ y. p y ≡ true) (eqb-true x l e) q.0
      | inr m' ↦ all_has p c l q.1 m'
    ]

has_all : (p : ℕ → Bool) (c : List ℕ) → ((l : ℕ) → has c l ≡ true → p l ≡ true) → list_all p c ≡ true
has_all p [] h = refl
has_all p (x ∷ c) h = and_from (p x) (list_all p c) (h x (or_left (eqb x x) (has c x) (eq-eqb x x refl))) (has_all p c (λ l m. h l (or_right (eqb x l) (has c l) m)))

-- the test of a reason
reason_is : (c : List ℕ) (t : List Step) (i : ℕ) → is_reason c t i ≡ true → IsReason c t i
reason_is c t i h =
    let q = and_parts (has c (step t i).lit) (list_all (λ l. eqb l (step t i).lit || true_on (take i t) (neg l)) c) h in
    record {
      holds = q.0;
      others = λ l m n.
          elim (or_cases (eqb l (step t i).lit) (true_on (take i t) (neg l)) (all_has (λ l. eqb l (step t i).lit || true_on (take i t) (neg l)) c l q.1 m)) [
            | inl e ↦ absurd (n (eqb-true l (step t i).lit e))
            | inr off ↦ off
          ];
    }

reason_passes : (c : List ℕ) (t : List Step) (i : ℕ) → IsReason c t i → is_reason c t i ≡ true
reason_passes c t i r = and_from (has c (step t i).lit) (list_all (λ l. eqb l (step t i).lit || true_on (take i t) (neg l)) c) r.holds
    (has_all (λ l. eqb l (step t i).lit || true_on (take i t) (neg l)) c (λ l m.
    elim (cases_eq l (step t i).lit) [
      | inl e ↦ or_left (eqb l (step t i).lit) (true_on (take i t) (neg l)) (eq-eqb l (step t i).lit e)
      | inr n ↦ or_right (eqb l (step t i).lit) (true_on (take i t) (neg l)) (r.others l m n)
    ]))

-- a step that has a reason
pub reason_says : (s : List (Option Stored)) (t : List Step) (i : ℕ) (r : Reason) → has_reason s t i r ≡ true → RootedBy s t i r
reason_says s t i Decision h = tt
reason_says s t i (Clause id) h =
    let q = and_parts _ _ h in
    (q.0, reason_is (slot_lits (slot s id)) t i q.1)
reason_says s t i Theory h = absurd (false≢true h)

pub reason_stands : (s : List (Option Stored)) (t : List Step) (i : ℕ) (r : Reason) → RootedBy s t i r → has_reason s t i r ≡ true
reason_stands s t i Decision h = refl
reason_stands s t i (Clause id) h = and_from _ _ h.0 (reason_passes (slot_lits (slot s id)) t i h.1)
reason_stands s t i Theory h = absurd h

-- a clause of one literal
one_is : (c : List ℕ) (l : ℕ) → is_one c l ≡ true → c ≡ l ∷ []
one_is [] l h = absurd (false≢true h)
one_is (x ∷ []) l h = ap (λ y. y ∷ []) (eqb-true x l h)
one_is (x ∷ y ∷ c) l h = absurd (false≢true h)

unit_is : (x : Option Stored) (l : ℕ) → is_unit l x ≡ true → IsSome x × (slot_lits x ≡ l ∷ [])
unit_is None l h = absurd (false≢true h)
unit_is (Some c) l h = (refl, one_is c.lits l h)

unit_found : (s : List (Option Stored)) (l : ℕ) → has_unit s l ≡ true → HasUnit s l
unit_found [] l h = absurd (false≢true h)
unit_found (x ∷ s) l h =
    elim (or_cases (is_unit l x) (has_unit s l) h) [
      | inl e ↦ let q = unit_is x l e in (0, q.0, q.1)
      | inr h' ↦ let r = unit_found s l h' in (suc r.0, r.1, r.2)
    ]

unit_passes : (x : Option Stored) (l : ℕ) → IsSome x → slot_lits x ≡ l ∷ [] → is_unit l x ≡ true
unit_passes None l h e = absurd (false≢true h)
unit_passes (Some c) l h e = subst (λ d. is_one d l ≡ true) (sym e) (eq-eqb l l refl)

unit_here : (s : List (Option Stored)) (l id : ℕ) → IsSome (slot s id) → slot_lits (slot s id) ≡ l ∷ [] → has_unit s l ≡ true
unit_here [] l id live e = absurd (false≢true live)
unit_here (x ∷ s) l zero live e = or_left (is_unit l x) (has_unit s l) (unit_passes x l live e)
unit_here (x ∷ s) l (suc id) live e = or_right (is_unit l x) (has_unit s l) (unit_here s l id live e)

-- the test of what a theory implied
pub theory_is : (r : Reason) → is_theory r ≡ true → r ≡ Theory
theory_is Decision h = absurd (false≢true h)
theory_is (Clause id) h = absurd (false≢true h)
theory_is Theory h = refl

-- a place that is rooted
pub at_says : (s : List (Option Stored)) (t : List Step) (i : ℕ) → rooted_at s t i ≡ true → RootedAt s t i
at_says s t i h =
    elim (or_cases (has_reason s t i (step t i).reason) (eqb (step t i).level 0 && has_unit s (step t i).lit) h) [
      | inl r ↦ inl (reason_says s t i (step t i).reason r)
      | inr u ↦
          let q = and_parts (eqb (step t i).level 0) (has_unit s (step t i).lit) u in
          inr (eqb-true (step t i).level 0 q.0, unit_found s (step t i).lit q.1)
    ]

at_passes : (s : List (Option Stored)) (t : List Step) (i : ℕ) → RootedAt s t i → rooted_at s t i ≡ true
at_passes s t i (inl r) = or_left (has_reason s t i (step t i).reason) (eqb (step t i).level 0 && has_unit s (step t i).lit) (reason_stands s t i (step t i).reason r)
at_passes s t i (inr u) =
    let unit = u.1 in
    or_right (has_reason s t i (step t i).reason) (eqb (step t i).level 0 && has_unit s (step t i).lit)
    (and_from (eqb (step t i).level 0) (has_unit s (step t i).lit) (eq-eqb (step t i).level 0 u.0) (unit_here s (step t i).lit unit.0 unit.1 unit.2))

-- every place of a rooted trail is, and where every place is the trail is rooted
pub rooted_each : (s : List (Option Stored)) (t : List Step) → Rooted s t → (i : ℕ) → i < length t → RootedAt s t i
rooted_each s t rooted i in' = at_says s t i (rooted i in')

pub rooted_from : (s : List (Option Stored)) (t : List Step) → ((i : ℕ) → i < length t → RootedAt s t i) → Rooted s t
rooted_from s t each i in' = at_passes s t i (each i in')

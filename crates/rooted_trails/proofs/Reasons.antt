-- Laws of rooted trails.
use Rattle.std.proofs.Common.{◌≡◌, ◌≢◌, ℕ, ◌<◌, ◌≤◌, Bool, true, ◌||◌, List, [], ◌∷◌, ◌++◌, length, take, ◌⊎◌, inl, inr, refl, sym, ap, ◌∙◌, subst, arith, Option}
use Rattle.std.specs.Prelude.{IsSome, nat_lt}
use Rattle.std.proofs.lemmas.Bool.{false≢true, eqb-true, or_cases, or_left, and_parts, cases_Bool, ltb-true}
use Rattle.std.proofs.lemmas.List.{take-append-le, take_at, take-take, length-take-le}
use Rattle.std.proofs.Math.Bool.{or-false}
use Rattle.sat_terms.specs.Literal.{has, neg}
use Rattle.sat_terms.specs.Truth.{Assignment, lit_true, Implies}
use Rattle.clause_store.specs.Stored.{Stored, Fills, slot, slot_lits}
use Rattle.trail_state.specs.declared.trail.Step.{Step}
use Rattle.trail_state.specs.declared.reason.Reason.{Reason}
use Rattle.trail_state.specs.declared.reason.Reason.TheVariants.{Decision, Clause, Theory}
use Rattle.trail_state.specs.Trail.{Trace, step, IsTrail, IsBack}
use Rattle.trail_state.specs.Clauses.{IsReason, IsUnit}
use Rattle.trail_state.proofs.Changes.{step_old, step_new, old_or_new}
use Rattle.trail_state.proofs.Backing.{step_take}
use Rattle.trail_state.proofs.Levels.{decided}
use Rattle.rooted_trails.specs.Known.{Known}
use Rattle.rooted_trails.specs.Rooted.{by_clause, rooted_at, Rooted, HasReasons, is_theory, is_given, FollowsAt, RootedUnder}
use Rattle.rooted_trails.specs.Marks.{RootFollows}
use Rattle.rooted_trails.proofs.Knowing.{from_known}
use Rattle.rooted_trails.proofs.Rooting.{RootedBy, RootedAt, reason_stands, at_says, theory_is, rooted_each, rooted_from}
use Rattle.rooted_trails.proofs.Falses.{place_in_front, false_by_neg, resolved}

-- a live clause is implied
pub live_implied : {admits : Assignment → Bool} (s : List (Option Stored)) (id : ℕ) → IsSome (slot s id) → Implies (Known s admits) (slot_lits (slot s id))
live_implied s id live f h = from_known s f h id live

-- above the root a step has its reason
pub rooted_above : (s : List (Option Stored)) (t : List Step) (i : ℕ) → Rooted s t → i < length t → 0 < (step t i).level → RootedBy s t i (step t i).reason
rooted_above s t i rooted in' pos = elim (rooted_each s t rooted i in') [ inl r ↦ r | inr u ↦ absurd (let z = u.0 in omega arith) ]

-- a literal follows from its reason and the literals before it
pub follows_by_reason : (F : Assignment → Type 0) (t : List Step) (j : ℕ) (c : List ℕ) → Implies F c → IsReason c t j → (f : Assignment) → F f
    → ((i : ℕ) → i < j → lit_true f (step t i).lit ≡ true) → lit_true f (step t j).lit ≡ true
follows_by_reason F t j c imp r f h before =
    resolved f c (step t j).lit (imp f h) (λ l m n. let p = place_in_front j t (neg l) (r.others l m n) in false_by_neg f l (rw (← p.3) (before p.0 p.1)))

root_by : (s : List (Option Stored)) (admits : Assignment → Bool) (t : List Step) (j : ℕ) (r : Reason) → r ≢ Decision → RootedBy s t j r → (f : Assignment) → Known s admits f
    → ((i : ℕ) → i < j → lit_true f (step t i).lit ≡ true) → lit_true f (step t j).lit ≡ true
root_by s admits t j Decision n h f sat before = absurd (n refl)
root_by s admits t j (Clause id) n h f sat before = follows_by_reason (Known s admits) t j (slot_lits (slot s id)) (live_implied s id h.0) h.1 f sat before
root_by s admits t j Theory n h f sat before = absurd h

-- what a place of a trail is rooted by, under what is admitted
pub cases_under : (s : List (Option Stored)) (admits : Assignment → Bool) (t : List Step) (i : ℕ) → RootedUnder s admits t → i < length t → RootedAt s t i ⊎ (((step t i).reason ≡ Theory) × (0 < (step t i).level)) ⊎ FollowsAt admits t i
cases_under s admits t i rooted in' =
    elim (cases_Bool (rooted_at s t i || is_given t i)) [
      | inl yes' ↦
          elim (or_cases (rooted_at s t i) (is_given t i) yes') [
            | inl r ↦ inl (at_says s t i r)
            | inr g ↦
                let q = and_parts (is_theory (step t i).reason) (nat_lt 0 (step t i).level) g in
                inr (inl (theory_is (step t i).reason q.0, ltb-true 0 (step t i).level q.1))
          ]
      | inr no' ↦ inr (inr (rooted i in' no'))
    ]

-- above the root a step has its reason, or the theory implied it
pub under_above : (s : List (Option Stored)) (admits : Assignment → Bool) (t : List Step) (i : ℕ) → RootedUnder s admits t → i < length t → 0 < (step t i).level → (step t i).reason ≢ Theory → RootedBy s t i (step t i).reason
under_above s admits t i rooted in' pos not' =
    elim (cases_under s admits t i rooted in') [
      | inl (inl r) ↦ r
      | inl (inr u) ↦ absurd (let z = u.0 in omega arith)
      | inr (inl g) ↦ absurd (not' g.0)
      | inr (inr r) ↦ absurd (let z = r.root in omega arith)
    ]

-- what a clause implied above the root has that clause for its reason
pub under_reasons : (s : List (Option Stored)) (admits : Assignment → Bool) (t : List Step) → RootedUnder s admits t → HasReasons s t
under_reasons s admits t rooted i in' pos by =
    reason_stands s t i (step t i).reason (under_above s admits t i rooted in' pos (λ e. false≢true (ap by_clause (sym e) ∙ by)))

-- a trail that is rooted in the clauses is so whatever is admitted
pub rooted_under : (s : List (Option Stored)) (admits : Assignment → Bool) (t : List Step) → Rooted s t → RootedUnder s admits t
rooted_under s admits t rooted i in' out = absurd (false≢true (sym out ∙ or_left (rooted_at s t i) (is_given t i) (rooted i in')))

-- where fewer assignments are admitted the trail is rooted still
pub under_fewer : (s : List (Option Stored)) (old new : Assignment → Bool) (t : List Step) → ((f : Assignment) → new f ≡ true → old f ≡ true) → RootedUnder s old t → RootedUnder s new t
under_fewer s old new t fewer rooted i in' out =
    let r = rooted i in' out in
    record { root = r.root; follows = λ f a before. r.follows f (fewer f a) before }

-- the literals of the root of a rooted trail follow from what is known
pub root_follows : (s : List (Option Stored)) (admits : Assignment → Bool) (t : List Step) (top : ℕ) → RootedUnder s admits t → IsTrail t top → RootFollows (Known s admits) t
root_follows s admits t top rooted shape j in' z f sat before =
    elim (cases_under s admits t j rooted in') [
      | inl (inl r) ↦ root_by s admits t j (step t j).reason (λ e. let d = decided 0 t top shape.levels j in' e in absurd (omega arith)) r f sat before
      | inl (inr u) ↦ resolved f (slot_lits (slot s u.1.0)) (step t j).lit (live_implied s u.1.0 u.1.1 f sat) (λ l m n.
          absurd (n (sym (only (step t j).lit l (rw u.1.2 at m)))))
      | inr (inl g) ↦ absurd (let above = g.1 in omega arith)
      | inr (inr r) ↦ r.follows f sat.admitted before
    ] where
      only : (p l : ℕ) → has (p ∷ []) l ≡ true → p ≡ l
      only p l h = eqb-true p l (rw or-false at h)

-- a reason stays one on a longer trail
reason_kept : (s : List (Option Stored)) (t : List Step) (x : Step) (i : ℕ) (r : Reason) → i < length t → RootedBy s t i r → RootedBy s (t ++ x ∷ []) i r
reason_kept s t x i Decision in' h = tt
reason_kept s t x i (Clause id) in' h = (
  h.0,
  record {
    holds = rw (step_old t x i in') h.1.holds;
    others = λ l m n. rw (take-append-le i t (x ∷ []) (omega arith)) (h.1.others l m (rw (step_old t x i in') at n));
  },
)
reason_kept s t x i Theory in' h = absurd h

-- one step more
pub rooted_push : (s : List (Option Stored)) (t : List Step) (x : Step) → Rooted s t → RootedBy s (t ++ x ∷ []) (length t) x.reason → Rooted s (t ++ x ∷ [])
rooted_push s t x rooted here =
    rooted_from s (t ++ x ∷ []) (λ i in'.
    elim (old_or_new t x i in') [
      | inl old ↦
          elim (rooted_each s t rooted i old) [
            | inl r ↦ inl (rw (step_old t x i old) (reason_kept s t x i (step t i).reason old r))
            | inr u ↦ inr (rw (step_old t x i old) u)
          ]
      | inr e ↦ inl (rw (e, step_new t x) here)
    ])

-- a decision needs no reason
pub rooted_decided : (s : List (Option Stored)) (t : List Step) (l level : ℕ) → Rooted s t → Rooted s (t ++ record { lit = l; level = level; reason = Decision } ∷ [])
rooted_decided s t l level rooted = rooted_push s t (record { lit = l; level = level; reason = Decision }) rooted tt

-- a unit clause is a reason for its literal
pub unit_reason : (s : List (Option Stored)) (t : List Step) (x : Step) (id : ℕ) → IsSome (slot s id) → IsUnit t (slot_lits (slot s id)) x.lit → RootedBy s (t ++ x ∷ []) (length t) (Clause id)
unit_reason s t x id live u = (
  live,
  record {
    holds = rw (step_new t x) u.holds;
    others = λ l m n. rw (take_at t (x ∷ []) (length t) refl) (u.others l m (rw (step_new t x) at n));
  },
)

-- the empty trail is rooted
pub rooted_empty : (s : List (Option Stored)) → Rooted s []
rooted_empty s i in' = absurd (omega arith)

-- a clause more in the store
pub live_filled : (old new : List (Option Stored)) (id : ℕ) (c : Stored) → Fills old new id c → (k : ℕ) → IsSome (slot old k) → slot new k ≡ slot old k
live_filled old new id c fills k live =
    fills.others k (λ e. false≢true (subst (λ x. IsSome x) (ap (slot old) e ∙ fills.free) live))

reason_filled : (old new : List (Option Stored)) (id : ℕ) (c : Stored) → Fills old new id c → (t : List Step) (i : ℕ) (r : Reason) → RootedBy old t i r → RootedBy new t i r
reason_filled old new id c fills t i Decision h = tt
reason_filled old new id c fills t i (Clause k) h = rw (live_filled old new id c fills k h.0) h
reason_filled old new id c fills t i Theory h = absurd h

pub rooted_filled : (old new : List (Option Stored)) (id : ℕ) (c : Stored) → Fills old new id c → (t : List Step) → Rooted old t → Rooted new t
rooted_filled old new id c fills t rooted =
    rooted_from new t (λ i in'.
    elim (rooted_each old t rooted i in') [
      | inl r ↦ inl (reason_filled old new id c fills t i (step t i).reason r)
      | inr u ↦ inr (u.0, (u.1.0, rw (live_filled old new id c fills u.1.0 u.1.1) u.1.1, rw (live_filled old new id c fills u.1.0 u.1.1) u.1.2))
    ])

-- reasons on a front of the trail
reason_front : (s : List (Option Stored)) (t : List Step) (k i : ℕ) (r : Reason) → i < k → RootedBy s t i r → RootedBy s (take k t) i r
reason_front s t k i Decision lt h = tt
reason_front s t k i (Clause id) lt h = (
  h.0,
  record {
    holds = rw (step_take t k i lt) h.1.holds;
    others = λ l m n. rw (take-take i k t (omega arith)) (h.1.others l m (rw (step_take t k i lt) at n));
  },
)
reason_front s t k i Theory lt h = absurd h

pub rooted_front : (s : List (Option Stored)) (t : List Step) (k : ℕ) → k ≤ length t → Rooted s t → Rooted s (take k t)
rooted_front s t k le rooted =
    rooted_from s (take k t) (λ i in'.
    let size = length-take-le k t le in
    let lt : i < k = omega arith in
    elim (rooted_each s t rooted i (omega arith)) [
      | inl r ↦ inl (rw (step_take t k i lt) (reason_front s t k i (step t i).reason lt r))
      | inr u ↦ inr (rw (step_take t k i lt) u)
    ])

-- a trail that went back is rooted as before
pub rooted_back : (s : List (Option Stored)) (old new : Trace) (level : ℕ) → IsBack old new level → Rooted s old.steps → Rooted s new.steps
rooted_back s old new level back rooted = subst (λ t. Rooted s t) (sym back.steps) (rooted_front s old.steps back.kept back.within rooted)

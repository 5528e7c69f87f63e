-- A trail that grows by implied literals.
use Rattle.std.proofs.Common.{◌≡◌, ℕ, ◌<◌, ◌≤◌, true, false, List, [], ◌∷◌, ◌++◌, length, length-append, append_assoc, inl, inr, refl, sym, ◌∙◌, arith, Option, Some, None}
use Rattle.std.specs.Prelude.{IfNone, is_some}
use Rattle.std.proofs.lemmas.Bool.{cases_lt, false≢true, false_from_ne_true}
use Rattle.std.proofs.lemmas.List.{take-append-le, take_at, append-nil, get_or_append_left}
use Rattle.sat_terms.specs.Literal.{has, var_of}
use Rattle.clause_store.specs.Stored.{Stored, slot, slot_lits, Fills}
use Rattle.trail_state.specs.declared.trail.Step.{Step}
use Rattle.trail_state.specs.declared.reason.Reason.TheVariants.{Clause}
use Rattle.trail_state.specs.Trail.{Trace, step, no_step}
use Rattle.trail_state.specs.Clauses.{IsUnit, IsReason}
use Rattle.trail_state.proofs.Changes.{step_new, old_or_new}
use Rattle.trail_state.proofs.Longer.{step_longer, reason_longer}
use Rattle.watch_lists.specs.Propagation.{IsReadyAt, AllReady, IsImplied, Grown}
use Rattle.sat_terms.proofs.Members.{All-has}

step_left : (t more : List Step) (i : ℕ) → i < length t → step (t ++ more) i ≡ step t i
step_left t more i in' = step_longer t more i in'

implied_kept : (ids : List ℕ) (s : List (Option Stored)) (t more : List Step) (level i : ℕ) → i < length t → IsImplied ids s t level i → IsImplied ids s (t ++ more) level i
implied_kept ids s t more level i in' h = record {
  stands = rw (step_left t more i in') h.stands;
  by = h.by;
  attached = h.attached;
  reason = rw (step_left t more i in') h.reason;
  implied = reason_longer (slot_lits (slot s h.by)) t more i in' h.implied;
}

-- a unit clause is a reason for its literal
pub unit_reason : (c : List ℕ) (t : List Step) (x : Step) → IsUnit t c x.lit → IsReason c (t ++ x ∷ []) (length t)
unit_reason c t x u = record {
  holds = rw (step_new t x) u.holds;
  others = λ l m n. rw (take_at t (x ∷ []) (length t) refl) (u.others l m (rw (step_new t x) at n));
}

pub grown_none : (ids : List ℕ) (s : List (Option Stored)) (old : Trace) → Grown ids s old old
grown_none ids s old = record {
  level = refl;
  declared = refl;
  tail = [];
  steps = sym (append-nil old.steps);
  implied = λ i a b. absurd (omega arith);
}

-- one implied literal more
pub grown_push : (ids : List ℕ) (s : List (Option Stored)) (old now new : Trace) (id l : ℕ) → Grown ids s old now → has ids id ≡ true → IsUnit now.steps (slot_lits (slot s id)) l
    → new.steps ≡ now.steps ++ record { lit = l; level = now.level; reason = Clause id } ∷ [] → new.level ≡ now.level → new.declared ≡ now.declared → Grown ids s old new
grown_push ids s old now new id l g at u steps level declared =
    let x : Step = record { lit = l; level = now.level; reason = Clause id } in
    record {
      level = level ∙ g.level;
      declared = declared ∙ g.declared;
      tail = g.tail ++ x ∷ [];
      steps = steps ∙ rw (g.steps, append_assoc) refl;
      implied = λ i a b.
          rw steps
          (elim (old_or_new now.steps x i (rw steps at b)) [
            | inl lt ↦ implied_kept ids s now.steps (x ∷ []) old.level i lt (g.implied i a lt)
            | inr e ↦
                rw e
                (record {
                  stands = rw (step_new now.steps x) g.level;
                  by = id;
                  attached = at;
                  reason = rw (step_new now.steps x) refl;
                  implied = unit_reason (slot_lits (slot s id)) now.steps x u;
                })
          ]);
    }

-- the growth of a growth
pub grown_more : (ids : List ℕ) (s : List (Option Stored)) (a b c : Trace) → Grown ids s a b → Grown ids s b c → Grown ids s a c
grown_more ids s a b c g h = record {
  level = h.level ∙ g.level;
  declared = h.declared ∙ g.declared;
  tail = g.tail ++ h.tail;
  steps = h.steps ∙ rw (g.steps, append_assoc) refl;
  implied = λ i from within.
      elim (cases_lt i (length b.steps)) [
        | inl lt ↦ rw h.steps (implied_kept ids s b.steps h.tail a.level i lt (g.implied i from lt))
        | inr ge ↦ rw g.level at (h.implied i ge within)
      ];
}

pub grown_longer : (ids : List ℕ) (s : List (Option Stored)) (a b : Trace) → Grown ids s a b → length a.steps ≤ length b.steps
grown_longer ids s a b g = rw (g.steps, length-append) (omega arith)

-- what the code needs to assign a literal of a unit clause
pub unit_declared : (s : List (Option Stored)) (n id l : ℕ) (t : List Step) → IsReadyAt id s n → IsUnit t (slot_lits (slot s id)) l → var_of l ≤ n
unit_declared s n id l t ready u = (All-has (λ k. (1 ≤ var_of k) × (var_of k ≤ n)) (slot_lits (slot s id)) l ready.1 u.holds).1

-- a clause that is added is not attached, and the attached ones stay
pub ready_fresh : (ids : List ℕ) (s : List (Option Stored)) (n id : ℕ) → AllReady ids s n → slot s id ≡ None → has ids id ≡ false
ready_fresh ids s n id ready free = false_from_ne_true (has ids id) (λ h. absurd (false≢true (rw free at (ready id h).0)))

pub slots_kept : (ids : List ℕ) (s s' : List (Option Stored)) (n id : ℕ) (c : Stored) → AllReady ids s n → Fills s s' id c → (k : ℕ) → has ids k ≡ true → slot s' k ≡ slot s k
slots_kept ids s s' n id c ready fills k h = fills.others k (λ e. absurd (false≢true (sym (ready_fresh ids s n id ready fills.free) ∙ rw e at h)))

-- what follows where nothing was found
pub if_none_more : {A : Type 0} (r : Option A) (P Q : Type 0) → (P → Q) → IfNone r P → IfNone r Q
if_none_more None P Q more h = more h
if_none_more (Some x) P Q more h = h

pub from_none : {A : Type 0} (r : Option A) (P : Type 0) → is_some r ≡ false → IfNone r P → P
from_none None P e h = h
from_none (Some x) P e h = absurd (false≢true (sym e))

pub none_found : {A : Type 0} (r : Option A) (P : Type 0) → is_some r ≡ true → IfNone r P
none_found None P e = absurd (false≢true e)
none_found (Some x) P e = tt

-- a clause of which one literal alone is not false implies that
pub grown_assigned : (ids : List ℕ) (s : List (Option Stored)) (old new : Trace) (id l : ℕ) → has ids id ≡ true → IsUnit old.steps (slot_lits (slot s id)) l
    → new.steps ≡ old.steps ++ record { lit = l; level = old.level; reason = Clause id } ∷ [] → new.level ≡ old.level → new.declared ≡ old.declared → Grown ids s old new
grown_assigned ids s old new id l at u steps level declared = grown_push ids s old old new id l (grown_none ids s old) at u steps level declared

-- the clauses stay ready on a trail that grew
pub ready_grown : (ids : List ℕ) (s : List (Option Stored)) (a b : Trace) → Grown ids s a b → AllReady ids s a.declared → AllReady ids s b.declared
ready_grown ids s a b g h = rw g.declared h

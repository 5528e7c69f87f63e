-- Laws of a walk over the marked literals.
use Rattle.std.proofs.Common.{◌≡◌, ℕ, ◌+◌, ◌-◌, ◌<◌, ◌≤◌, Bool, true, false, not, eqb, List, length, get_or, set, Option, inl, inr, refl, sym, ap, ◌∙◌, subst, arith}
use Rattle.std.specs.List.{swap_remove}
use Rattle.std.proofs.lemmas.Bool.{cases_eq, false≢true, and_parts, and_right, eq-eqb}
use Rattle.std.proofs.lemmas.List.{get_or-take, get_or-set_other, length-take-le, length-set, get_or_default}
use Rattle.sat_terms.specs.Literal.{has, neg, var_of}
use Rattle.sat_terms.proofs.Members.{has_at}
use Rattle.clause_store.specs.Stored.{Stored}
use Rattle.firm_terms.specs.Firm.{firm, lits_sum}
use Rattle.rule_kernel.specs.State.{State}
use Rattle.pass_terms.specs.Ruled.{Ruled}
use Rattle.pass_terms.specs.Ruled.Uses.{parked, unmarked}
use Rattle.pass_terms.specs.Ruled.Ruled.{none, more}
use Rattle.blocked_clauses.specs.Seeking.{occurrences}
use Rattle.blocked_clauses.specs.Passing.{passing_sum, marked_sum, AllFrozen}
use Rattle.blocked_clauses.specs.Walking.{IsSettled, IsParked, IsFull, FrozenBetween, Unmarks, GoesThrough, ParksOne, RunsOut}
use Rattle.blocked_clauses.proofs.Weighing.{sum_less, occurs_le_sum, occurs_le_firm, firm_freed, lits_freed}
use Rattle.blocked_clauses.proofs.Counting.{spent_settled, spent_parked, spent_full}

-- a list whose member at a place went, and whose last member came to that place
pub swap_before : (xs : List ℕ) (i k d e : ℕ) → k < i → i < length xs → get_or (swap_remove xs i d) k e ≡ get_or xs k e
swap_before xs i k d e lt in' =
    let y : List ℕ = set xs i (get_or xs (length xs - 1) d) in
    get_or-take (length xs - 1) y k e (omega arith) ∙ get_or-set_other xs i k (get_or xs (length xs - 1) d) e (λ q. absurd (omega arith))

pub swap_length : (xs : List ℕ) (i d : ℕ) → i < length xs → length (swap_remove xs i d) + 1 ≡ length xs
swap_length xs i d in' =
    let y : List ℕ = set xs i (get_or xs (length xs - 1) d) in
    let a = length-set xs i (get_or xs (length xs - 1) d) in
    let b = length-take-le (length xs - 1) y (omega arith) in
    omega (arith, b)

-- what holds while a walk goes on
pub record Walking (frozen : ℕ → Bool) (s t : State) (from place a b limit : ℕ) : Type 0 where
  pub ruled : Ruled frozen s t
  pub unmarks : Unmarks s t a b limit
  pub passed : FrozenBetween frozen t from place
  pub idle : AllFrozen frozen s.marked.lits → (t ≡ s) × (b ≡ a)

pub walking_start : (frozen : ℕ → Bool) (s : State) (from a limit : ℕ) → a ≤ limit → Walking frozen s s from from a a limit
walking_start frozen s from a limit le = record {
  ruled = none;
  unmarks = record { store = refl; fewer = omega arith; spent = omega arith; rest = le };
  passed = λ k ge lt. absurd (omega arith);
  idle = λ h. (refl, refl);
}

module _ (frozen : ℕ → Bool) (s t : State) (from place a b limit l : ℕ) (w : Walking frozen s t from place a b limit) (in' : place < length t.marked.lits) (read : l ≡ get_or t.marked.lits place l) where
  at : get_or t.marked.lits place 0 ≡ l
  at = get_or_default t.marked.lits place 0 l in' ∙ sym read

  marked : has t.marked.lits l ≡ true
  marked = has_at t.marked.lits place l in' read

  few_negs : occurrences t.store (neg l) ≤ length (firm s.store)
  few_negs =
      let few = occurs_le_firm t.store (neg l) in
      let same = ap (λ (z : List (Option Stored)). length (firm z)) w.unmarks.store in
      omega arith

  pub walking_passed : frozen (var_of l) ≡ true → Walking frozen s t from (place + 1) a b limit
  walking_passed f = record {
    ruled = w.ruled;
    unmarks = w.unmarks;
    passed = λ k ge lt.
        elim (cases_eq k place) [
          | inl e ↦ ap (λ (z : ℕ). frozen (var_of (get_or t.marked.lits z 0))) e ∙ ap (λ (z : ℕ). frozen (var_of z)) at ∙ f
          | inr n ↦ w.passed k ge (omega arith)
        ];
    idle = w.idle;
  }

  module _ (free : frozen (var_of l) ≡ false) where
    -- where all marked literals are frozen, none was reached
    pub walking_busy : AllFrozen frozen s.marked.lits → ⊥
    walking_busy h =
        let e : t ≡ s = (w.idle h).0 in
        false≢true (sym free ∙ h l (subst (λ (z : State). has z.marked.lits l ≡ true) e marked))

    module _ (u : State) (b' : ℕ) where
      pub walking_settled : IsSettled t u l b b' limit → Walking frozen s u from place a b' limit
      walking_settled h =
          let swap : u.marked.lits ≡ swap_remove t.marked.lits place l = h.place place in' (sym read) in
          let less : passing_sum (has u.marked.lits) t.store + occurrences t.store l ≤ marked_sum t =
          sum_less (has u.marked.lits) (has t.marked.lits) t.store l
          (λ x i. (and_parts (has t.marked.lits x) (not (eqb l x)) (sym (h.lits x) ∙ i)).0)
          (h.lits l ∙ and_right (has t.marked.lits l) (not (eqb l l)) (ap not (eq-eqb l l refl)))
          marked in
          let sum : marked_sum u ≡ passing_sum (has u.marked.lits) t.store = ap (passing_sum (has u.marked.lits)) h.rest.store in
          let spent = spent_settled (length (firm s.store)) (marked_sum t) (marked_sum u) (occurrences t.store l) (occurrences t.store (neg l)) b b' (omega arith) few_negs h.steps.few in
          let before = w.unmarks.spent in
          let fewer = w.unmarks.fewer in
          record {
            ruled = more t u w.ruled (unmarked h.rest);
            unmarks = record { store = h.rest.store ∙ w.unmarks.store; fewer = omega arith; spent = omega arith; rest = h.steps.rest };
            passed = λ k ge lt.
                ap (λ (z : List ℕ). frozen (var_of (get_or z k 0))) swap
                ∙ ap (λ (z : ℕ). frozen (var_of z)) (swap_before t.marked.lits place k l 0 lt in')
                ∙ w.passed k ge lt;
            idle = λ i. absurd (walking_busy i);
          }

      pub walking_shorter : IsSettled t u l b b' limit → length u.marked.lits + 1 ≡ length t.marked.lits
      walking_shorter h = ap (λ (z : List ℕ). length z + 1) (h.place place in' (sym read)) ∙ swap_length t.marked.lits place l in'

      pub walking_parked : IsParked t u l b b' limit → Ruled frozen s u × ParksOne s u a b' limit
      walking_parked h =
          let x = spent_parked (length (firm s.store)) (marked_sum t) (occurrences t.store l) (occurrences t.store (neg l)) b b' (occurs_le_sum (has t.marked.lits) t.store l marked) few_negs h.steps.few in
          let before = w.unmarks.spent in
          let less = firm_freed t.store u.store h.id h.parks.firm h.parks.store in
          let lits = lits_freed t.store u.store h.id h.parks.store in
          let same = ap (λ (z : List (Option Stored)). length (firm z)) w.unmarks.store in
          let sum = ap lits_sum w.unmarks.store in (
            more t u w.ruled (parked h.id l free h.parks),
            record { fewer = omega arith; shorter = omega arith; spent = omega arith; rest = h.steps.rest },
          )

      pub walking_full : IsFull t u l b b' limit → Ruled frozen s u × RunsOut s u a b' limit
      walking_full h =
          let x = spent_full (length (firm s.store)) (marked_sum t) (occurrences t.store l) (occurrences t.store (neg l)) b b' (occurs_le_sum (has t.marked.lits) t.store l marked) few_negs h.steps.before in
          let before = w.unmarks.spent in (
            rw h.same w.ruled,
            record { store = ap (λ (z : State). z.store) h.same ∙ w.unmarks.store; full = h.steps.full; spent = omega arith },
          )

-- the end of the list
pub walking_through : (frozen : ℕ → Bool) (s t : State) (from place a b limit : ℕ) → Walking frozen s t from place a b limit → length t.marked.lits ≤ place → GoesThrough frozen s t from a b limit
walking_through frozen s t from place a b limit w past = record {
  unmarks = w.unmarks;
  passed = λ k ge lt. w.passed k ge (omega arith);
}

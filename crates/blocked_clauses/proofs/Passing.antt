-- Laws of walks, one after another.
use Rattle.std.proofs.Common.{◌≡◌, ℕ, ◌+◌, ◌*◌, ◌<◌, ◌≤◌, Bool, true, false, List, length, Option, Result, Ok, Err, inl, inr, refl, sym, ap, ◌∙◌, arith}
use Rattle.std.proofs.lemmas.Bool.{cases_Bool, false≢true}
use Rattle.sat_terms.specs.Literal.{has, var_of}
use Rattle.sat_terms.proofs.Members.{has_place}
use Rattle.clause_store.specs.Stored.{Stored}
use Rattle.firm_terms.specs.Firm.{firm, lits_sum}
use Rattle.rule_kernel.specs.State.{State, IsPromised}
use Rattle.pass_terms.specs.Ruled.{Ruled}
use Rattle.pass_terms.specs.Ruled.Ruled.{none}
use Rattle.pass_terms.proofs.Ruling.{ruled_trans}
use Rattle.blocked_clauses.specs.Passing.{marked_sum, gone, NoneBlocked, ReachesLimit, AllFrozen}
use Rattle.blocked_clauses.specs.Walking.{GoesThrough, ParksOne, RunsOut}
use Rattle.sat_model.specs.declared.memory.Memory.{Memory}
use Rattle.blocked_clauses.specs.declared.walk.Walk.{Walk}
use Rattle.blocked_clauses.specs.declared.walk.Walk.TheVariants.{Through, Parked as Stopped, Full as Cut}
use Rattle.blocked_clauses.proofs.Weighing.{sum_le_lits}
use Rattle.blocked_clauses.proofs.Counting.{Within, within_start, within_walked, within_parked, within_full, full_below, quotient_below, product_below, product_positive}

-- a walk that parked a clause did not get through
gets_through : Walk → Bool
gets_through Through = true
gets_through (Stopped place) = false
gets_through Cut = false

through : Result Walk Memory → Bool
through (Ok walk) = gets_through walk
through (Err memory) = false

pub not_through : (place : ℕ) → ◌≡◌ {A = Result Walk Memory} (Ok (Stopped place)) (Ok Through) → ⊥
unfolding through gets_through
not_through place e = false≢true (ap through e)

-- what holds between two walks
pub record Passing (frozen : ℕ → Bool) (s t : State) (from b limit : ℕ) : Type 0 where
  pub ruled : Ruled frozen s t
  pub fewer : length (firm t.store) ≤ length (firm s.store)
  pub shorter : lits_sum t.store ≤ lits_sum s.store
  pub spent : Within (length (firm s.store)) (lits_sum s.store) (marked_sum s) (gone s t) (marked_sum t) b
  pub rest : b ≤ limit
  pub idle : AllFrozen frozen s.marked.lits → (t ≡ s) × (from ≡ 0)

pub passing_start : (frozen : ℕ → Bool) (s : State) (limit : ℕ) → Passing frozen s s 0 0 limit
passing_start frozen s limit = record {
  ruled = none;
  fewer = omega arith;
  shorter = omega arith;
  spent = within_start (length (firm s.store)) (lits_sum s.store) (marked_sum s);
  rest = omega arith;
  idle = λ h. (refl, refl);
}

module _ (frozen : ℕ → Bool) (s t u : State) (from a b limit : ℕ) (p : Passing frozen s t from a limit) where
  pub passing_through : (AllFrozen frozen s.marked.lits → ⊥) → Ruled frozen t u → GoesThrough frozen t u from a b limit → Passing frozen s u 0 b limit
  passing_through busy r h =
      let same = ap (λ (z : List (Option Stored)). length (firm z)) h.unmarks.store in
      let sum = ap lits_sum h.unmarks.store in
      let fewer = p.fewer in
      let shorter = p.shorter in
      record {
        ruled = ruled_trans frozen s t u p.ruled r;
        fewer = omega arith;
        shorter = omega arith;
        spent = rw same (within_walked (length (firm s.store)) (lits_sum s.store) (marked_sum s) (gone s t) (length (firm t.store)) (marked_sum t) (marked_sum u) a b p.spent p.fewer h.unmarks.fewer h.unmarks.spent);
        rest = h.unmarks.rest;
        idle = λ i. absurd (busy i);
      }

  pub passing_parked : (place : ℕ) → (AllFrozen frozen s.marked.lits → ⊥) → Ruled frozen t u → ParksOne t u a b limit → Passing frozen s u place b limit
  passing_parked place busy r h =
      let less = h.fewer in
      let lits = h.shorter in
      let fewer = p.fewer in
      let shorter = p.shorter in
      let weight = sum_le_lits (has u.marked.lits) u.store in
      let one : gone s u ≡ gone s t + 1 = omega arith in
      record {
        ruled = ruled_trans frozen s t u p.ruled r;
        fewer = omega arith;
        shorter = omega arith;
        spent = rw one (within_parked (length (firm s.store)) (lits_sum s.store) (marked_sum s) (gone s t) (length (firm t.store)) (marked_sum t) (marked_sum u) a b p.spent p.fewer (omega arith) h.spent);
        rest = h.rest;
        idle = λ i. absurd (busy i);
      }

  pub passing_full : RunsOut t u a b limit → ReachesLimit s u limit b
  passing_full h =
      let same = ap (λ (z : List (Option Stored)). length (firm z)) h.store in
      let m : ℕ = length (firm s.store) in
      let n : ℕ = lits_sum s.store in
      let g : ℕ = gone s t in
      let is : gone s u ≡ g = omega arith in
      let w : b < (marked_sum s + n * g) * (m + 1) = within_full m n (marked_sum s) g (length (firm t.store)) (marked_sum t) a b p.spent p.fewer h.spent in
      let x : b < (n + 1) * (m + 1) * (g + 1) = full_below m n (marked_sum s) g b (sum_le_lits (has s.marked.lits) s.store) w in
      let y : b < (n + 1) * (m + 1) * (m + 1) = product_below b ((n + 1) * (m + 1)) g m x (omega arith) in
      record {
        full = h.full;
        spent = rw is w;
        parked = rw is (quotient_below b ((n + 1) * (m + 1)) g (product_positive n m) x);
        below = let e = h.full in rw (← e) y;
      }

-- nothing but literals of frozen variables is marked
pub passing_end : (frozen : ℕ → Bool) (s t : State) (a b limit : ℕ) → IsPromised t → GoesThrough frozen s t 0 a b limit → NoneBlocked frozen t.store
passing_end frozen s t a b limit promised h l free =
    elim (cases_Bool (has t.marked.lits l)) [
      | inl y ↦
          (let p = has_place t.marked.lits l 0 y in
          absurd (false≢true (sym free ∙ ap (λ (z : ℕ). frozen (var_of z)) (sym p.2) ∙ h.passed p.0 (omega arith) p.1)))
      | inr n ↦ promised.lits l n
    ]

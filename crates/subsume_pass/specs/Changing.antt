-- What a firm clause does to another one.
use Rattle.std.specs.Prelude.{◌≡◌, ◌≢◌, ℕ, ◌+◌, ◌<◌, ◌≤◌, ◌==◌, ◌&&◌, ◌||◌, true, not, List, length, Option, None}
use Rattle.sat_terms.specs.Literal.{has}
use Rattle.clause_store.specs.Stored.{Stored, slot, slot_lits, is_firm}
use Rattle.firm_terms.specs.Firm.{firm, lits_sum}
use Rattle.firm_terms.specs.Subsuming.{IsWithin, IsFree}
use Rattle.rule_kernel.specs.Waiting.{Waiting, Leaves}
use Rattle.rule_kernel.specs.State.{State}
use Rattle.subsume_pass.specs.declared.change.Change.{Change}
use Rattle.subsume_pass.specs.declared.change.Change.TheVariants.{Kept, Gone, Came}

-- the number of the firm clauses and the sum of their lengths together
abbrev pub size : List (Option Stored) → ℕ
size s = length (firm s) + lits_sum s

-- The clauses fell. Where anything did, there were two of them.
pub record Falls (s t : List (Option Stored)) : Type 0 where
  pub small : size t ≤ size s
  pub few : length (firm t) ≤ length (firm s)
  pub two : size t < size s → 2 ≤ length (firm s)

-- The clause of an id went, and another one came to wait in its place.
pub record Replaces (old new : Waiting) (id next : ℕ) : Type 0 where
  pub due : (k : ℕ) → has new.due k ≡ ((has old.due k || next == k) && not (id == k))
  pub fresh : (k : ℕ) → has new.fresh k ≡ ((has old.fresh k || next == k) && not (id == k))

-- A shorter clause, of which the one of another id is free, came in the place of the clause of an id, and waits in both ways.
pub record Cut (s t : State) (by id next : ℕ) : Type 0 where
  pub came : is_firm (slot t.store next) ≡ true
  pub unused : slot s.store next ≡ None
  pub went : slot t.store id ≡ None
  pub others : (k : ℕ) → k ≢ id → k ≢ next → slot t.store k ≡ slot s.store k
  pub shorter : IsWithin (slot_lits (slot t.store next)) (slot_lits (slot s.store id))
  pub free : IsFree (slot_lits (slot s.store by)) (slot_lits (slot t.store next))
  pub falls : Falls s.store t.store
  pub less : size t.store < size s.store
  pub count : length (firm t.store) ≡ length (firm s.store)
  pub waits : Replaces s.waiting t.waiting id next

-- the clause of an id went
pub record Drops (s t : State) (id : ℕ) : Type 0 where
  pub went : slot t.store id ≡ None
  pub others : (k : ℕ) → k ≢ id → slot t.store k ≡ slot s.store k
  pub falls : Falls s.store t.store
  pub less : size t.store < size s.store
  pub count : length (firm t.store) + 1 ≡ length (firm s.store)
  pub leaves : Leaves s.waiting t.waiting id

-- what became of the clause of an id when another one met it
abbrev pub Changes : State → State → ℕ → ℕ → Change → Type 0
Changes s t by id Kept = (t ≡ s) × IsFree (slot_lits (slot s.store by)) (slot_lits (slot s.store id))
Changes s t by id Gone = Drops s t id
Changes s t by id (Came next) = Cut s t by id next

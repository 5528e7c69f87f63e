-- What restorations do to a kernel.
use Rattle.std.specs.Prelude.{◌≡◌, ℕ, ◌+◌, Bool, ◌&&◌, not, List, [], ◌∷◌, ◌++◌, count_by}
use Rattle.std.specs.Prelude.{Option, IsSome, is_some}
use Rattle.redundancy.specs.Redundancy.{Entry}
use Rattle.clause_store.specs.Stored.{Stored, slot}
use Rattle.clause_store.specs.Listing.{firm_at}
use Rattle.clause_store.specs.FirmCount.{firm_count}
use Rattle.rule_kernel.specs.State.{State}
use Rattle.rule_kernel.specs.Rules.{Restores}

-- Uses of the rule that restores, one after another, lead from one kernel to another, and the
-- list has the ids that came out, in order.
pub data Restored (old : State) : List ℕ → State → Type 0 where
  none : Restored old [] old
  one_more : {ids : List ℕ} {mid new : State} (k id : ℕ) → Restored old ids mid
      → Restores mid new k id → Restored old (ids ++ id ∷ []) new

-- some uses of the rule that restores lead from one kernel to another
abbrev pub IsRestored : State → State → Type 0
IsRestored old new = (ids : List ℕ) × Restored old ids new

-- how many clauses of a stack pass a test, and how many of the firm and the stacked clauses
-- together
abbrev pub stack_count : (List ℕ → Bool) → List Entry → ℕ
stack_count test s = count_by (λ e. test e.clause) s

abbrev pub clause_count : (List ℕ → Bool) → State → ℕ
clause_count test k = firm_count test k.store + stack_count test k.stack

-- The firm and the stacked clauses together are the same list, up to order: as many pass each
-- test.
abbrev pub SameClauses : State → State → Type 0
SameClauses old new = (test : List ℕ → Bool) → clause_count test new ≡ clause_count test old

-- whether an id names a firm clause that came: before, the id named nothing
abbrev pub came_at : List (Option Stored) → List (Option Stored) → ℕ → Bool
came_at old new id = firm_at new id && not (is_some (slot old id))

-- every id that named a clause names it still
abbrev pub KeepsLive : List (Option Stored) → List (Option Stored) → Type 0
KeepsLive old new = (id : ℕ) → IsSome (slot old id) → slot new id ≡ slot old id

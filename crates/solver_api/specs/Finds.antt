-- What a query finds.
use Rattle.std.specs.Prelude.{◌≡◌, ◌<◌, ℕ, List, Option}
use Rattle.sat_terms.specs.Limits.{max_number}
use Rattle.sat_terms.specs.Answer.{IsModel, IsCore}
use Rattle.clause_store.specs.Stored.{Stored, FirmTrue, StoreTrue}
use Rattle.conflict_analysis.specs.Counting.{Counted}
use Rattle.search_engine.specs.declared.state.Spent.TheVariants.{Conflicts}
use Rattle.search_engine.specs.Searching.{IsSpent}
use Rattle.solver_api.specs.declared.engine.Answer.{Answer}
use Rattle.solver_api.specs.declared.engine.Answer.TheVariants.{Model, Core, Spent}

-- a model of the firm clauses and the assumptions, or a core of the assumptions, or a budget that was used up
abbrev pub Finds : List (Option Stored) → List ℕ → ℕ → ℕ → Answer → Type 0
Finds s assumed n budget (Model m) = IsModel (FirmTrue s) assumed n m
Finds s assumed n budget (Core core) = IsCore (StoreTrue s) assumed core
Finds s assumed n budget (Spent (Conflicts count)) = (count ≡ budget) × (count < max_number)

-- Where a budget was used up, the tally has counted as many conflicts as that says, and is spent.
abbrev pub IsCaused : Answer → Counted → Type 0
IsCaused (Model m) tally = Unit {0}
IsCaused (Core core) tally = Unit {0}
IsCaused (Spent (Conflicts count)) tally = IsSpent count tally

-- What a solver shows, and what its calls do to that (IPASIR's calls, with a refusal beside each answer).
use Rattle.std.specs.Prelude.{◌≡◌, ℕ, ◌+◌, ◌<◌, ◌≤◌, ◌||◌, ◌==◌, max, min, Bool, true, false, List, [], ◌∷◌, ◌++◌, length, Option, Some, None, Result, Ok, Err}
use Rattle.sat_terms.specs.Limits.{max_number, max_literals}
use Rattle.sat_terms.specs.Literal.{var_of, has}
use Rattle.sat_terms.specs.Truth.{values, lit_true}
use Rattle.sat_terms.specs.Answer.{greatest_var, IsModel, IsCore}
use Rattle.solver_api.specs.declared.givens.GivenPart.{GivenPart}
use Rattle.solver_api.specs.declared.givens.GivenPart.TheVariants.{Clause}
use Rattle.solver_api.specs.declared.mode.Mode.{Mode}
use Rattle.solver_api.specs.declared.mode.Mode.TheVariants as modes
use Rattle.solver_api.specs.declared.calls.Call.{Call}
use Rattle.solver_api.specs.declared.calls.Call.TheVariants.{Add, Assume, Solve}
use Rattle.solver_api.specs.declared.calls.Reply.{Reply}
use Rattle.solver_api.specs.declared.calls.Reply.TheVariants.{Done, Solved}
use Rattle.solver_api.specs.declared.calls.Outcome.{Outcome}
use Rattle.solver_api.specs.declared.calls.Outcome.TheVariants.{Sat, Unsat, Unknown}
use Rattle.solver_api.specs.declared.calls.Refusal.{Refusal}
use Rattle.solver_api.specs.declared.calls.Refusal.TheVariants as refusals
use Rattle.solver_api.specs.declared.calls.Stats.{Stats}
use Rattle.solver_api.specs.declared.solver.Solver.{Solver}
use Rattle.search_engine.specs.declared.state.Spent.TheVariants.{Conflicts}
use Rattle.search_engine.specs.Searching.{IsSpent}
use Rattle.solver_api.specs.Given.{GivenTrue}

-- what a solver shows
pub record State : Type 0 where
  -- the parts that it was given, in order
  pub given : List GivenPart
  -- the assumptions for the next solve, in order
  pub pending : List ℕ
  -- the assumptions of the last solve that was not refused
  pub queried : List ℕ
  -- how many literals accepted calls have handed over
  pub taken : ℕ
  -- the empty clause was given, or a core was empty
  pub settled : Bool
  -- the greatest variable that an accepted call has named, 0 if none
  pub greatest : ℕ
  -- no answer is shown, or a model, or a core
  pub mode : Mode

abbrev pub state : Solver → State
state s = record { given = s.given; pending = s.pending; queried = s.queried; taken = s.taken; settled = s.settled; greatest = s.greatest; mode = s.mode }

-- a solver that was given nothing
abbrev pub unused : State
unused = record { given = []; pending = []; queried = []; taken = 0; settled = false; greatest = 0; mode = modes.Input }

-- the numbers of a call are in range
abbrev pub InRange : Call → Type 0
InRange (Add lits) = Unit {0}
InRange (Assume lit) = Unit {0}
InRange (Solve budget limit) = (budget.conflicts ≤ max_number) × (budget.callbacks ≤ max_number) × (limit ≤ max_number)

-- what an accepted call does and answers
abbrev pub Accepted : State → Call → Reply → State → Type 0
Accepted old (Add lits) Done new = (old.taken + length lits ≤ max_literals) × (new ≡ record old {
  given = old.given ++ Clause lits ∷ [];
  taken = old.taken + length lits;
  settled = old.settled || (length lits == 0);
  greatest = max old.greatest (greatest_var lits);
  mode = modes.Input;
})
Accepted old (Assume lit) Done new = (old.taken + 1 ≤ max_literals) × (new ≡ record old {
  pending = old.pending ++ lit ∷ [];
  taken = old.taken + 1;
  greatest = max old.greatest (var_of lit);
  mode = modes.Input;
})
Accepted old (Solve budget limit) (Solved Sat) new = (m : List Bool) × IsModel (GivenTrue old.given) old.pending old.greatest m × (old.settled ≡ false)
    × (new ≡ record old { pending = []; queried = old.pending; mode = modes.Sat m })
Accepted old (Solve budget limit) (Solved Unsat) new = (core : List ℕ) × IsCore (GivenTrue old.given) old.pending core × (old.settled ≡ true → core ≡ [])
    × (new ≡ record old { pending = []; queried = old.pending; settled = old.settled || (length core == 0); mode = modes.Unsat core })
Accepted old (Solve budget limit) (Solved (Unknown (Conflicts n))) new = (n ≡ budget.conflicts) × (n < max_number) × (old.settled ≡ false)
    × (new ≡ record old { pending = []; queried = old.pending; mode = modes.Input })
Accepted old call reply new = ⊥

-- what a refused call leaves, and when a refusal comes
abbrev pub Refused : State → Call → Refusal → State → Type 0
Refused old (Add lits) (refusals.TooManyLiterals count) new = (count ≡ old.taken + length lits) × (max_literals < count) × (new ≡ old)
Refused old (Assume lit) (refusals.TooManyLiterals count) new = (count ≡ old.taken + 1) × (max_literals < count) × (new ≡ old)
Refused old (Add lits) refusals.Memory new = (old.taken + length lits ≤ max_literals) × (new ≡ record old { mode = modes.Input })
Refused old (Assume lit) refusals.Memory new = (old.taken + 1 ≤ max_literals) × (new ≡ record old { mode = modes.Input })
Refused old (Solve budget limit) refusals.Memory new = new ≡ record old { pending = []; mode = modes.Input }
Refused old call why new = ⊥

-- One call of a solver: the state before it, the call, its answer, and the state after it.
abbrev pub Step : State → Call → Result Reply Refusal → State → Type 0
Step old call (Ok reply) new = Accepted old call reply new
Step old call (Err why) new = Refused old call why new

-- where the answer is Unknown, as many conflicts were counted in this solve as it says, and the tally is spent
abbrev pub IsCounted : Outcome → Solver → Type 0
IsCounted Sat s = Unit {0}
IsCounted Unsat s = Unit {0}
IsCounted (Unknown (Conflicts n)) s = (n ≡ s.stats.conflicts) × IsSpent n s.engine.tally

-- nothing was counted
abbrev pub no_stats : Stats
no_stats = record { conflicts = 0; callbacks = 0; removed = 0; restored = 0 }

-- What a solve counted, refused or not: its conflicts are the rise of the total of all conflicts ever counted, which stops at
-- 2^62. A settled solver counts nothing.
pub record CountsSolve (old new : Solver) : Type 0 where
  pub total : new.engine.tally.total ≡ min (old.engine.tally.total + new.stats.conflicts) max_number
  pub others : new.stats ≡ record no_stats { conflicts = new.stats.conflicts }
  pub settled : old.settled ≡ true → new.stats ≡ no_stats

-- what a call leaves of the counts: those of the last solve stay until the next one
abbrev pub Counts : Call → Solver → Solver → Type 0
Counts (Add lits) old new = new.stats ≡ old.stats
Counts (Assume lit) old new = new.stats ≡ old.stats
Counts (Solve budget limit) old new = CountsSolve old new

-- the answer of a call that answers nothing but its refusals
abbrev pub done : Result (Unit {0}) Refusal → Result Reply Refusal
done (Ok u) = Ok Done
done (Err why) = Err why

-- the answer of a solve
abbrev pub solved : Result Outcome Refusal → Result Reply Refusal
solved (Ok outcome) = Ok (Solved outcome)
solved (Err why) = Err why

-- the model that a mode shows
abbrev pub model_of : Mode → Option (List Bool)
model_of modes.Input = None
model_of (modes.Sat m) = Some m
model_of (modes.Unsat core) = None

-- the core that a mode shows
abbrev pub core_of : Mode → Option (List ℕ)
core_of modes.Input = None
core_of (modes.Sat m) = None
core_of (modes.Unsat core) = Some core

-- the truth of a literal in the model, where there is one
abbrev pub val_of : Option (List Bool) → ℕ → Result Bool Refusal
val_of None lit = Err refusals.NotSat
val_of (Some m) lit = Ok (lit_true (values m) lit)

-- whether a literal stands in the core, where there is one
abbrev pub failed_of : Option (List ℕ) → ℕ → Result Bool Refusal
failed_of None lit = Err refusals.NotUnsat
failed_of (Some core) lit = Ok (has core lit)

-- What the calls of a session do to a solver.
use Rattle.std.specs.Prelude.{◌≡◌, ◌||◌, ◌==◌, ℕ, ◌+◌, ◌<◌, max, Bool, true, false, List, [], ◌∷◌, ◌++◌, length, Some, Result, Ok, Err}
use Rattle.std.specs.declared.option.Option.{Option}
use Rattle.std.specs.Io.KnownBytes.{Appends}
use Rattle.sat_terms.specs.Limits.{max_number}
use Rattle.sat_terms.specs.Literal.{var_of}
use Rattle.sat_terms.specs.Answer.{IsModel, IsCore}
use Rattle.io_edge.specs.Told.{AppendsFront}
use Rattle.solver_api.specs.Given.{GivenTrue}
use Rattle.solver_api.specs.Steps.{State, Step, model_of, core_of as core_shown}
use Rattle.solver_api.specs.declared.calls.Call.TheVariants as calls
use Rattle.solver_api.specs.declared.calls.Reply.TheVariants as answers
use Rattle.solver_api.specs.declared.mode.Mode.TheVariants as modes
use Rattle.solver_api.specs.declared.calls.Outcome.{Outcome}
use Rattle.io_edge.specs.declared.outside.Failed.{Failed}
use Rattle.icnf_runner.specs.declared.options.Options.{Options}
use Rattle.icnf_runner.specs.declared.status.Status.{Status}
use Rattle.icnf_runner.specs.declared.session.Break.{Break}
use Rattle.icnf_runner.specs.declared.session.Break.TheVariants as breaks
use Rattle.reply_text.specs.Reply.{Reply, Sat, Unsat, Unknown, code_of}
use Rattle.reply_text.specs.Text.{padded, reply_text}
use Rattle.icnf_runner.specs.Output.{printed_reply}

-- the solver after these literals were assumed one after another
abbrev pub assumed : State → List ℕ → State
assumed s [] = s
assumed s (l ∷ ls) = assumed (record s { pending = s.pending ++ l ∷ []; taken = s.taken + 1; greatest = max s.greatest (var_of l); mode = modes.Input }) ls

-- what a solve with this budget of conflicts does that gives a reply
abbrev pub Gives : ℕ → State → Reply → State → Type 0
Gives budget old (Sat m) new = IsModel (GivenTrue old.given) old.pending old.greatest m × (old.settled ≡ false) × (new ≡ record old { pending = []; queried = old.pending; mode = modes.Sat m })
Gives budget old (Unsat core) new = IsCore (GivenTrue old.given) old.pending core × (old.settled ≡ true → core ≡ [])
    × (new ≡ record old { pending = []; queried = old.pending; settled = old.settled || (length core == 0); mode = modes.Unsat core })
Gives budget old (Unknown conflicts) new = (conflicts ≡ budget) × (conflicts < max_number) × (old.settled ≡ false) × (new ≡ record old { pending = []; queried = old.pending; mode = modes.Input })

-- the reply as it is printed, where so many variables are declared
abbrev pub shown : ℕ → Reply → Reply
shown vars (Sat m) = Sat (padded vars m)
shown vars (Unsat core) = Unsat core
shown vars (Unknown conflicts) = Unknown conflicts

-- how many clauses and assumptions the last query stands below
abbrev pub checks : State → ℕ
checks s = length s.given + length s.queried

-- what a solve within the budgets of these options does
abbrev pub Solves : Options → State → Outcome → State → Type 0
Solves o old outcome new = Step old (calls.Solve (record { conflicts = o.conflicts; callbacks = o.callbacks }) o.steps) (Ok (answers.Solved outcome)) new

-- a solver shows a model, or a core
abbrev pub IsModelShown : State → Type 0
IsModelShown s = (m : List Bool) × (model_of s.mode ≡ Some m)

abbrev pub IsCoreShown : State → Type 0
IsCoreShown s = (core : List ℕ) × (core_shown s.mode ≡ Some core)

-- P holds of the text of the model, or of the core, that a solver shows
abbrev pub ShowsModel : Bool → ℕ → State → (List ℕ → Type 0) → Type 0
ShowsModel check vars s P = (m : List Bool) × (model_of s.mode ≡ Some m) × P (printed_reply check (checks s) (Sat (padded vars m)))

abbrev pub ShowsCore : State → (List ℕ → Type 0) → Type 0
ShowsCore s P = (core : List ℕ) × (core_shown s.mode ≡ Some core) × P (reply_text (Unsat core))

-- the status, where all was written
abbrev pub status_if : Result (Unit {0}) Failed → Status → Result Status Break
status_if (Ok u) status = Ok status
status_if (Err e) status = Err breaks.Write

abbrev pub is_write_break : Result Status Break → Bool
is_write_break (Ok status) = false
is_write_break (Err breaks.Write) = true
is_write_break (Err breaks.Memory) = false

-- a query was replied to, and P holds of the text of the reply
pub record IsReplied (o : Options) (vars : ℕ) (old : State) (lits : List ℕ) (new : State) (P : List ℕ → Type 0) : Type 0 where
  pub reply : Reply
  pub gives : Gives o.conflicts (assumed old lits) reply new
  pub printed : P (printed_reply o.check (checks new) (shown vars reply))

-- all of it was written, and it names this status
pub record IsAnswered (o : Options) (vars : ℕ) (old : State) (lits : List ℕ) (new : State) (written written' : Option (List ℕ)) (code : ℕ) : Type 0 where
  pub replied : IsReplied o vars old lits new (Appends written written')
  pub code_is : code ≡ code_of replied.reply

-- a front of it was written
pub record IsHalfReplied (o : Options) (vars : ℕ) (old : State) (lits : List ℕ) (written written' : Option (List ℕ)) : Type 0 where
  pub new : State
  pub replied : IsReplied o vars old lits new (AppendsFront written written')

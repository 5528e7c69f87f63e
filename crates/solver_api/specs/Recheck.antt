-- What a shown model is found to make true.
use Rattle.std.specs.Prelude.{ℕ, ◌+◌, Bool, List, Option, Some, None, Result, Ok, Err, count_by}
use Rattle.sat_terms.specs.Truth.{values, lit_true}
use Rattle.solver_api.specs.Given.{part_true}
use Rattle.solver_api.specs.Steps.{State, model_of}
use Rattle.solver_api.specs.declared.calls.Refusal.{Refusal}
use Rattle.solver_api.specs.declared.calls.Refusal.TheVariants as refusals

-- how many parts of what was given and how many assumptions of the last solve a model makes true
abbrev pub counts_true : State → List Bool → ℕ
counts_true s m = count_by (part_true (values m)) s.given + count_by (lit_true (values m)) s.queried

abbrev pub recheck_by : State → Option (List Bool) → Result ℕ Refusal
recheck_by s None = Err refusals.NotSat
recheck_by s (Some m) = Ok (counts_true s m)

-- the count, where a model is shown
abbrev pub recheck_of : State → Result ℕ Refusal
recheck_of s = recheck_by s (model_of s.mode)

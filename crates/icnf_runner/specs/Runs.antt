-- How a run ends.
use Rattle.std.specs.Prelude.{◌≡◌, ◌⊎◌, ℕ, Bool, true, false, List, []}
use Rattle.std.specs.declared.option.Option.{Option}
use Rattle.solver_api.specs.Steps.{State}
use Rattle.icnf_reader.specs.declared.item.HeadKind.{HeadKind}
use Rattle.icnf_reader.specs.declared.item.HeadKind.TheVariants.{Cnf, Knf, Inc}
use Rattle.icnf_reader.specs.declared.item.Why.{Why}
use Rattle.icnf_reader.specs.declared.item.Stop.{Stop}
use Rattle.icnf_reader.specs.declared.item.Stop.TheVariants as stop
use Rattle.icnf_runner.specs.declared.options.Options.{Options}
use Rattle.icnf_runner.specs.Options.{Accepts}
use Rattle.icnf_runner.specs.Session.{IsAnswered, IsHalfReplied}

-- the input goes wrong at a line for a reason of which P holds
abbrev pub IsBadStop : Stop → (ℕ → Why → Type 0) → Type 0
IsBadStop (stop.Bad line why) P = P line why
IsBadStop stop.ReadFault P = ⊥
IsBadStop stop.Memory P = ⊥

-- the source failed
abbrev pub is_read_stop : Stop → Bool
is_read_stop (stop.Bad line why) = false
is_read_stop stop.ReadFault = true
is_read_stop stop.Memory = false

-- whether the end of a whole input is one more query
abbrev pub asks_at_end : HeadKind → Bool
asks_at_end Cnf = true
asks_at_end Knf = true
asks_at_end Inc = false

-- the words are accepted
abbrev pub AreAccepted : List (List ℕ) → Type 0
AreAccepted words = (o : Options) × Accepts words o

-- the words are accepted, and P holds of the options that they state
abbrev pub States : List (List ℕ) → (Options → Type 0) → Type 0
States words P = (o : Options) × Accepts words o × P o

-- the query at the end was replied to, with this status; or the sink failed; or there was no memory, and nothing was written
abbrev pub EndsReply : Options → ℕ → State → Option (List ℕ) → Option (List ℕ) → ℕ → Type 0
EndsReply o vars old written written' code = ((new : State) × IsAnswered o vars old [] new written written' code)
    ⊎ (((code ≡ 4) × IsHalfReplied o vars old [] written written') ⊎ ((code ≡ 5) × (written' ≡ written)))

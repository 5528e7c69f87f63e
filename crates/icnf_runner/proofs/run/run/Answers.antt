use Rattle.std.proofs.Common.{subst, Option}
use Rattle.std.specs.Prelude.{map, string_bytes, IfSome}
use Rattle.icnf_runner.specs.declared.options.Options.{Options}
use Rattle.icnf_runner.specs.Options.{Accepts, IsInRange}
use Rattle.icnf_runner.specs.Runs.{AreAccepted}
use Rattle.icnf_runner.proofs.Runs.{exactly_bad, nothing_yet}
use Rattle.icnf_runner.proofs.run.run.Goals as goal

pub returns-in-Ok-Some-clause-exactly : goal.returns-in-Ok-Some-clause-exactly
returns-in-Ok-Some-clause-exactly g c =
    let ws = map string_bytes c.args.words.now in
    let P : Option Options → Type 0 = λ found. IfSome found (λ o. Accepts ws o × IsInRange o) in
    let some = subst P c.in-Ok-Some.field-0-is c.in-Ok-Some.ensures.some in
    exactly_bad (AreAccepted (map string_bytes c.args.words.now)) c.in-Ok-Some.options _ _ _ _ (c.in-Ok-Some.options, some.0) c.run_input.ensures.codes c.run_input.ensures.answers c.run_input.ensures.refuses

pub returns-in-Err-clause-begins : goal.returns-in-Err-clause-begins
returns-in-Err-clause-begins g c = λ _ a. (a.0, a.1, nothing_yet a.0 _ _)

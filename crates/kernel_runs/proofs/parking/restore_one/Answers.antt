use Rattle.std.proofs.Common.{◌+◌, ap, ◌∙◌}
use Rattle.redundancy.specs.Redundancy.{entry}
use Rattle.rule_kernel.proofs.Examples.{clean_from}
use Rattle.kernel_runs.proofs.parking.restore_one.Goals as goal

pub restore-requires-clause-clean : goal.restore-requires-clause-clean
restore-requires-clause-clean c =
    let is = c.clause.ensures ∙ ap (λ s. (entry s c.args.k).clause) c.stack-else-k-len.ensures in
    clean_from _ _ (c.args.k + 1) (rw is at (c.is_clean.ensures.0 c.if-not-is_clean.false))

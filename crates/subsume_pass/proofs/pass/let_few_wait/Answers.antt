use Rattle.subsume_pass.proofs.Passing.{few_all_due}
use Rattle.subsume_pass.proofs.pass.let_few_wait.Goals as goal

pub returns-clause-few : goal.returns-clause-few
returns-clause-few c = few_all_due c.args.kernel.now c.make_all_due.new.self c.make_all_due.ensures.rest.store c.make_all_due.ensures.due c.make_all_due.ensures.fresh

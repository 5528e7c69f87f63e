use Rattle.std.proofs.Common.{◌∙◌, sym, arith}
use Rattle.icnf_runner.proofs.Words.{rest_short}
use Rattle.icnf_runner.proofs.options.behind.Goals as goal

pub returns-then-at-word : goal.returns-then-at-word
returns-then-at-word c = sym (rest_short c.args.name.now c.args.word.now c.loop-at.at c.loop-at-test.true (omega (arith, c.if-at-word.true))) ∙ c.loop-at.invariant.same

use Rattle.card_propagator.proofs.Lawful.{counts_exact}
use Rattle.card_propagator.proofs.card.CardTheory.counts.Goals as goal

pub returns : goal.returns
returns c = λ b step. counts_exact c.args.self.now.counter c.args.self.now.asked c.args.self.now.accepted c.args.k _ _ b c.law_proper.ensures step c.true_count.ensures c.false_count.ensures

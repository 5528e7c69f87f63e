use Rattle.pass_terms.proofs.Ruling.{ruled_all}
use Rattle.pass_terms.proofs.laws.law_passes_simplify.Goals as goal

pub returns : goal.returns
returns c = ruled_all

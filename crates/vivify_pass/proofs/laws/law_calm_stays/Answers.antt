use Rattle.firm_terms.proofs.Staying.{calm_stays}
use Rattle.vivify_pass.proofs.laws.law_calm_stays.Goals as goal

pub returns : goal.returns
returns c = calm_stays

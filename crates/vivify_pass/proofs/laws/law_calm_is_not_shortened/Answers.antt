use Rattle.vivify_pass.proofs.Forcing.{calm_whole}
use Rattle.vivify_pass.proofs.laws.law_calm_is_not_shortened.Goals as goal

pub returns : goal.returns
returns c = calm_whole

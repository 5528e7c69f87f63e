use Rattle.vivify_pass.proofs.Forcing.{result_implied}
use Rattle.vivify_pass.proofs.laws.law_result_is_implied.Goals as goal

pub returns : goal.returns
returns c = result_implied

use Rattle.pass_terms.specs.Ruled.Ruled.{none}
use Rattle.vivify_pass.proofs.turn.try_one.Goals as goal

pub returns-in_err-lits-clause-ruled : goal.returns-in_err-lits-clause-ruled
returns-in_err-lits-clause-ruled c = none

pub returns-in_err-settle-clause-ruled : goal.returns-in_err-settle-clause-ruled
returns-in_err-settle-clause-ruled c = none

pub returns-in_err-found-clause-ruled : goal.returns-in_err-found-clause-ruled
returns-in_err-found-clause-ruled c = none

pub returns-in-None-clause-ruled : goal.returns-in-None-clause-ruled
returns-in-None-clause-ruled c = none

pub returns-clause-ruled : goal.returns-clause-ruled
returns-clause-ruled c = none

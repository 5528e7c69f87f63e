use Rattle.sat_terms.specs.Truth.{values}
use Rattle.group_propagator.proofs.Admitting.{none_two, one_two}
use Rattle.group_propagator.proofs.pairs.two_true.Goals as goal

pub returns-in_default-clause-none : goal.returns-in_default-clause-none
returns-in_default-clause-none c = none_two (values c.args.model.now) c.args.members.now c.in_default.ensures.none

pub returns-in_default-other_true_member-clause-none : goal.returns-in_default-other_true_member-clause-none
returns-in_default-other_true_member-clause-none c = one_two (values c.args.model.now) c.args.members.now c.in-Some.one c.in_default-other_true_member.ensures.none

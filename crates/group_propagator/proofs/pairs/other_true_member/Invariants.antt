use Rattle.std.proofs.Common.{◌≡◌, true, take}
use Rattle.std.specs.List.{list_all}
use Rattle.sat_terms.specs.Truth.{values}
use Rattle.group_propagator.specs.Group.{is_false_or}
use Rattle.group_propagator.proofs.pairs.other_true_member.Given as goal

abbrev pub invariant-loop-member : goal.invariant-loop-member
invariant-loop-member l = list_all (is_false_or (values l.model) l.one) (take l.member-index l.members) ≡ true

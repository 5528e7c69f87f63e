use Rattle.std.proofs.Common.{◌≡◌, true, not, take}
use Rattle.std.specs.List.{list_all}
use Rattle.sat_terms.specs.Truth.{values}
use Rattle.group_propagator.proofs.pairs.true_member.Given as goal

abbrev pub invariant-loop-member : goal.invariant-loop-member
invariant-loop-member l = list_all (λ v. not (values l.model v)) (take l.member-index l.members) ≡ true

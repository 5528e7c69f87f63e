use Rattle.std.proofs.Common.{◌≡◌, ◌-◌, true, length, take}
use Rattle.std.specs.List.{list_all}
use Rattle.group_propagator.specs.Group.{is_settled}
use Rattle.group_propagator.proofs.walk.first_open.Given as goal

abbrev pub invariant-loop-at : goal.invariant-loop-at
invariant-loop-at l =
    list_all (is_settled l.desk.seen l.chosen) (take l.from l.members) ≡ true → list_all (is_settled l.desk.seen l.chosen) (take l.at l.members) ≡ true

abbrev pub decreases-loop-at : goal.decreases-loop-at
decreases-loop-at l = length l.members - l.at

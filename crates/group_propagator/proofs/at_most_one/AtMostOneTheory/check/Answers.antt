use Rattle.std.proofs.Common.{refl}
use Rattle.sat_terms.specs.Truth.{values}
use Rattle.group_propagator.specs.Group.{HandsTwo}
use Rattle.group_propagator.proofs.Admitting.{no_two_says}
use Rattle.group_propagator.proofs.Saying.{handed, hands_two, refuted}
use Rattle.group_propagator.proofs.at_most_one.AtMostOneTheory.check.Goals as goal

pub returns-in_default-clause-exact : goal.returns-in_default-clause-exact
returns-in_default-clause-exact c =
    rw (← c.as_slice.ensures) ((λ _. no_two_says (values c.args.model.now) c.as_slice.result.now c.in_default.ensures.none), λ _. refl)

-- the two members that were found
pair : (c : goal.In_ok-hand) → HandsTwo c.args.self.now.group.members c.args.desk.now c.hand.new.self c.in-Some.two.0 c.in-Some.two.1
pair c =
    hands_two c.args.self.now.group.members (values c.args.model.now) c.args.desk.now c.hand.new.self _ _ (rw c.as_slice.ensures at c.in-Some.ensures.some)
    (c.is_told.ensures c.if-not-is_told.false) (c.is_told-else-not-is_told.ensures c.if-not-is_told-2.false) (rw (← c.negative.ensures, ← c.negative-2.ensures) c.in_ok-hand.ensures.ok)

pub returns-clause-called : goal.returns-clause-called
returns-clause-called c =
    let self = c.args.self.now in
    handed self.group.members self.chosen self.passed self.passed self.level self.asked c.next-self.result c.args.desk.now c.hand.new.self _ _ c.next-self.ensures c.requires.step c.law_shape.ensures (pair c)

pub returns-clause-no : goal.returns-clause-no
returns-clause-no c _ =
    refuted c.args.model.now c.args.self.now.group.members c.args.desk.now c.hand.new.self _ _ c.in-Some.ensures.some.holds c.in-Some.ensures.some.holds_too (pair c)

pub returns-clause-said : goal.returns-clause-said
returns-clause-said c = (_, _, pair c)

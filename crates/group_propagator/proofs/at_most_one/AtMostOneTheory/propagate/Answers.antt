use Rattle.std.proofs.Common.{◌≡◌, false, inr, refl, sym, subst}
use Rattle.std.proofs.lemmas.List.{get_or_read}
use Rattle.sat_terms.proofs.Members.{has_at}
use Rattle.group_propagator.specs.Group.{is_settled, HandsTwo}
use Rattle.group_propagator.proofs.Saying.{walked, settled_free, settled_led, other_true, handed, implied, neg_member}
use Rattle.group_propagator.proofs.Following.{led_follows}
use Rattle.user_propagator.specs.Board.{trail_of}
use Rattle.sat_terms.specs.Literal.{var_of}
use Rattle.group_propagator.proofs.at_most_one.AtMostOneTheory.propagate.Goals as goal

pub returns-in_default-clause-settled : goal.returns-in_default-clause-settled
returns-in_default-clause-settled c _ _ =
    let self = c.args.self.now in
    settled_free self.group.members self.chosen self.passed self.level c.args.desk.now c.in_default.is c.requires.step

pub returns-then-self-members-clause-settled : goal.returns-then-self-members-clause-settled
returns-then-self-members-clause-settled c _ _ =
    let self = c.args.self.now in
    let led = walked self.group.members self.chosen c.in-Some.chosen self.passed c.first_open-self.result self.level c.args.desk.now c.in-Some.is c.requires.step (rw c.as_slice-members.ensures at c.first_open-self.ensures.settled) in
    settled_led self.group.members c.in-Some.chosen c.first_open-self.result self.level c.args.desk.now led (rw c.as_slice-members.ensures at c.if-self-members.true)

-- the member where the walk ended, and the chosen one
pair : (c : goal.In_ok-hand) → HandsTwo c.args.self.now.group.members c.args.desk.now c.hand.new.self c.index-members-self.result (var_of c.in-Some.chosen.lit)
pair c =
    let self = c.args.self.now in
    let members = c.as_slice-members.result.now in
    let place = c.first_open-self.result in
    let led = walked self.group.members self.chosen c.in-Some.chosen self.passed place self.level c.args.desk.now c.in-Some.is c.requires.step (rw c.as_slice-members.ensures at c.first_open-self.ensures.settled) in
    other_true self.group.members c.in-Some.chosen place self.level c.args.desk.now c.hand.new.self c.index-members-self.result led
    (rw (← c.as_slice-members.ensures) (has_at members place c.index-members-self.result c.if-self-members.false c.index-members-self.is))
    (subst (λ v. is_settled c.args.desk.now.seen c.in-Some.chosen.lit v ≡ false) (sym (get_or_read members place c.index-members-self.result c.if-self-members.false c.index-members-self.is 0)) (c.first_open-self.ensures.ends c.if-self-members.false))
    (rw (← c.negative-lit.ensures, ← c.value.ensures) (sym c.if-is_some.ensures))
    (rw (← c.negative-lit.ensures, ← c.neg.ensures) c.in_ok-hand.ensures.ok)

pub returns-then-is_some-clause-called : goal.returns-then-is_some-clause-called
returns-then-is_some-clause-called c =
    let self = c.args.self.now in
    let led = walked self.group.members self.chosen c.in-Some.chosen self.passed c.first_open-self.result self.level c.args.desk.now c.in-Some.is c.requires.step (rw c.as_slice-members.ensures at c.first_open-self.ensures.settled) in
    let step = led_follows self.group.members self.chosen c.in-Some.chosen c.first_open-self.result self.level (trail_of c.args.desk.now) c.in-Some.is led in
    handed self.group.members self.chosen self.passed c.first_open-self.result self.level self.asked c.next-self.result c.args.desk.now c.hand.new.self c.index-members-self.result (var_of c.in-Some.chosen.lit) c.next-self.ensures step c.law_shape.ensures (pair c)

pub returns-then-is_some-clause-said : goal.returns-then-is_some-clause-said
returns-then-is_some-clause-said c = inr (c.index-members-self.result, var_of c.in-Some.chosen.lit, pair c)

pub returns-clause-said : goal.returns-clause-said
returns-clause-said c =
    rw c.negative-lit.ensures (
      refl,
      neg_member c.args.self.now.group.members c.index-members-self.result
          (rw (← c.as_slice-members.ensures) (has_at c.as_slice-members.result.now c.first_open-self.result c.index-members-self.result c.if-self-members.false c.index-members-self.is)),
    )

pub returns-clause-propagated : goal.returns-clause-propagated
returns-clause-propagated c =
    let self = c.args.self.now in
    let members = c.as_slice-members.result.now in
    let place = c.first_open-self.result in
    let led = walked self.group.members self.chosen c.in-Some.chosen self.passed place self.level c.args.desk.now c.in-Some.is c.requires.step (rw c.as_slice-members.ensures at c.first_open-self.ensures.settled) in
    rw c.negative-lit.ensures
    (implied self.group.members c.in-Some.chosen place self.level c.args.desk.now led self.chosen c.index-members-self.result c.next-self.result
    (rw (← c.as_slice-members.ensures) (has_at members place c.index-members-self.result c.if-self-members.false c.index-members-self.is))
    (sym c.if-not-is_observed.ensures)
    (rw (← c.negative-lit.ensures, ← c.value.ensures) (sym c.if-is_some.ensures)))

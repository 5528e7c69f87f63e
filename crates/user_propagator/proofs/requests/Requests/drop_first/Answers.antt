use Rattle.std.proofs.Common.{◌∙◌, refl, ap}
use Rattle.user_propagator.specs.Waiting.{vars_in, clauses_in}
use Rattle.user_propagator.proofs.Queues.{first_var, first_clause}
use Rattle.user_propagator.proofs.requests.Requests.drop_first.Goals as goal

pub invariant_of-self : goal.invariant_of-self
invariant_of-self c =
    let taken = c.drop_front.ensures.some c.if-drop_front.true in
    ((first_var taken.0 c.drop_front.new.queue.items (rw taken.1 at c.self.invariant.0)).rest, c.self.invariant.1, c.self.invariant.2)

pub returns-then-drop_front-clause-first : goal.returns-then-drop_front-clause-first
returns-then-drop_front-clause-first c =
    let taken = c.drop_front.ensures.some c.if-drop_front.true in
    let shown = (first_var taken.0 c.drop_front.new.queue.items (rw taken.1 at c.self.invariant.0)).shown in
    rw (← c.self.view_is, ap vars_in taken.1 ∙ shown) refl

pub invariant_of-self-then-drop_front-2 : goal.invariant_of-self-then-drop_front-2
invariant_of-self-then-drop_front-2 c =
    let none = c.drop_front.ensures.none c.if-drop_front.false in
    let taken = c.drop_front-2.ensures.some c.if-drop_front-2.true in
    (rw none.1 (record { same = refl }), (first_clause taken.0 c.drop_front-2.new.queue.items (rw taken.1 at c.self.invariant.1)).rest, c.self.invariant.2)

pub returns-then-drop_front-2-clause-first : goal.returns-then-drop_front-2-clause-first
returns-then-drop_front-2-clause-first c =
    let none = c.drop_front.ensures.none c.if-drop_front.false in
    let taken = c.drop_front-2.ensures.some c.if-drop_front-2.true in
    let shown = (first_clause taken.0 c.drop_front-2.new.queue.items (rw taken.1 at c.self.invariant.1)).shown in
    rw (← c.self.view_is, none.0, none.1, ap clauses_in taken.1 ∙ shown) refl

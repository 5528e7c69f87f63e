use Rattle.search_engine.proofs.Keeping.{keeps_none}
use Rattle.search_engine.proofs.Conflicts.{ready_back, keeps_back, first_back}
use Rattle.search_engine.proofs.Orders.{orderly_back}
use Rattle.search_engine.proofs.conflict.restart.Goals as goal

pub returns-then-wanted-clause-stands : goal.returns-then-wanted-clause-stands
returns-then-wanted-clause-stands c =
    let stands = c.requires in
    let ready = stands.ready in
    let back = c.back_to.ensures.back in
    record {
      ready = ready_back _ _ _ _ _ _ _ _ _ ready back c.cut.ensures.attached c.cut.ensures.declared (c.cut.ensures.follows _ _ _ ready.following back)
          (orderly_back _ _ _ _ _ back c.back_to.ensures.same c.back_to.ensures.follows ready.orderly) c.back_to.ensures.same.declared;
      first = first_back _ _ _ _ back stands.first;
      unspent = stands.unspent;
      settled = stands.settled;
    }

pub returns-then-wanted-clause-keeps : goal.returns-then-wanted-clause-keeps
returns-then-wanted-clause-keeps c =
    let ready = c.requires.ready in
    let back = c.back_to.ensures.back in
    keeps_back _ _ _ _ _ _ _ _ _ ready back c.cut.ensures.attached c.cut.ensures.declared (c.cut.ensures.follows _ _ _ ready.following back)
    (orderly_back _ _ _ _ _ back c.back_to.ensures.same c.back_to.ensures.follows ready.orderly) c.back_to.ensures.same.declared

pub returns-else-wanted-clause-keeps : goal.returns-else-wanted-clause-keeps
returns-else-wanted-clause-keeps c = keeps_none c.args.assumptions.now c.args.state.now c.requires.ready

use Rattle.std.proofs.Common.{◌∙◌, refl}
use Rattle.search_engine.proofs.Conflicts.{taught_by, owed_is, false_watched, taught_learns, taught_declared, taught_free, last_first, last_jumped, last_ready}
use Rattle.search_engine.proofs.Freeing.{stored_keeps}
use Rattle.search_engine.proofs.Keeping.{keeps_ready}
use Rattle.search_engine.proofs.Orders.{orderly_back, orderly_longer}
use Rattle.search_engine.proofs.conflict.assert_learned.Goals as goal

pub store_attached-requires-clause-within : goal.store_attached-requires-clause-within
store_attached-requires-clause-within c = rw c.learned.ensures (false_watched _ _ _ c.law_room.ensures c.requires.is_false c.requires.ready.watched)

pub returns-in_err-id-clause-keeps : goal.returns-in_err-id-clause-keeps
returns-in_err-id-clause-keeps c =
    let e = c.in_err-id.ensures in
    stored_keeps e.same e.kept e.declared (e.following _ c.requires.ready.following) c.requires.ready

pub cut-requires : goal.cut-requires
cut-requires c = record {
  store = c.store_attached.new.store;
  before = c.args.state.now.trail;
  level = c.args.learned.back_level;
  followed = c.in_ok-id.ensures.following _ c.requires.ready.following;
  back = c.back_to.ensures.back;
}

pub assign-requires-clause-declared : goal.assign-requires-clause-declared
assign-requires-clause-declared c =
    let r = c.requires in
    let is = owed_is r.owes c.owes.ensures c.in-Some.is in
    taught_declared (taught_by r.ready r.first c.law_shape.ensures c.law_room.ensures c.in_ok-id.ensures.fills refl c.learned.ensures r.implied r.is_false r.owes is) c.back_to.ensures.back

pub assign-requires-clause-unassigned : goal.assign-requires-clause-unassigned
assign-requires-clause-unassigned c =
    let r = c.requires in
    let is = owed_is r.owes c.owes.ensures c.in-Some.is in
    taught_free (taught_by r.ready r.first c.law_shape.ensures c.law_room.ensures c.in_ok-id.ensures.fills refl c.learned.ensures r.implied r.is_false r.owes is) c.back_to.ensures.back

pub returns-clause-stands : goal.returns-clause-stands
returns-clause-stands c =
    let r = c.requires in
    let is = owed_is r.owes c.owes.ensures c.in-Some.is in
    let taught = taught_by r.ready r.first c.law_shape.ensures c.law_room.ensures c.in_ok-id.ensures.fills refl c.learned.ensures r.implied r.is_false r.owes is in
    let back = c.back_to.ensures.back in
    let last = c.assign.new.self in
    let steps = c.assign.ensures.steps in
    let e = c.in_ok-id.ensures in
    let following = c.law_following-2.ensures.appended _ _ _ _ steps (c.cut.ensures.follows _ _ _ (e.following _ r.ready.following) back) in
    record {
      ready = last_ready taught back last steps c.back_to.new.self c.cut.new.self c.settle.new.self (c.assign.ensures.declared ∙ back.declared) c.back_to.ensures.same.declared (λ k. rw c.cut.ensures.attached (e.attached k)) (c.cut.ensures.declared ∙ e.declared) following
          (orderly_longer _ _ _ _ steps c.assign.ensures.declared (orderly_back _ _ _ _ _ back c.back_to.ensures.same c.back_to.ensures.follows r.ready.orderly));
      first = last_first taught back last steps;
      unspent = rw c.settle.ensures r.unspent;
      settled = rw c.settle.ensures refl;
    }

pub returns-clause-jumped : goal.returns-clause-jumped
returns-clause-jumped c =
    let r = c.requires in
    let is = owed_is r.owes c.owes.ensures c.in-Some.is in
    last_jumped (taught_by r.ready r.first c.law_shape.ensures c.law_room.ensures c.in_ok-id.ensures.fills refl c.learned.ensures r.implied r.is_false r.owes is) c.back_to.ensures.back c.assign.new.self c.assign.ensures.steps

pub returns-clause-keeps : goal.returns-clause-keeps
returns-clause-keeps c =
    let r = c.requires in
    let is = owed_is r.owes c.owes.ensures c.in-Some.is in
    let taught = taught_by r.ready r.first c.law_shape.ensures c.law_room.ensures c.in_ok-id.ensures.fills refl c.learned.ensures r.implied r.is_false r.owes is in
    let back = c.back_to.ensures.back in
    let last = c.assign.new.self in
    let steps = c.assign.ensures.steps in
    let e = c.in_ok-id.ensures in
    let following = c.law_following-2.ensures.appended _ _ _ _ steps (c.cut.ensures.follows _ _ _ (e.following _ r.ready.following) back) in
    let same = c.assign.ensures.declared ∙ back.declared in
    keeps_ready c.args.assumptions.now _ _ r.ready
    (last_ready taught back last steps c.back_to.new.self c.cut.new.self c.settle.new.self same c.back_to.ensures.same.declared (λ k. rw c.cut.ensures.attached (e.attached k)) (c.cut.ensures.declared ∙ e.declared) following
    (orderly_longer _ _ _ _ steps c.assign.ensures.declared (orderly_back _ _ _ _ _ back c.back_to.ensures.same c.back_to.ensures.follows r.ready.orderly)))
    (taught_learns taught) same refl

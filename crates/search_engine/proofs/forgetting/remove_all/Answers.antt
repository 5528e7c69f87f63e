use Rattle.std.proofs.Common.{◌≡◌, ◌<◌, length, get_or, arith, sym}
use Rattle.std.proofs.lemmas.List.{take_all}
use Rattle.std.proofs.lemmas.Option.{get_or_from_slice_get}
use Rattle.sat_terms.proofs.Members.{has_at}
use Rattle.search_engine.proofs.Freeing.{frees_none, frees_next, still_live}
use Rattle.search_engine.proofs.forgetting.remove_all.Goals as goal

pub loop-i-init : goal.loop-i-init
loop-i-init c = frees_none c.args.store.now

pub remove-requires : goal.remove-requires
remove-requires c =
    let ids = c.args.ids.now in
    let in' : c.loop-i.i < length ids = omega (arith, c.loop-i-test.true, c.len-i-end.ensures) in
    let is : c.id.result ≡ get_or ids c.loop-i.i c.id.result = sym (get_or_from_slice_get ids c.loop-i.i c.id.result c.id.result c.id.ensures) in
    still_live c.args.store.now c.loop-i.store ids c.loop-i.i c.id.result (c.requires.once c.id.result) in' is c.loop-i.invariant (c.requires.live c.id.result (has_at ids c.loop-i.i c.id.result in' is))

pub loop-i-preserved : goal.loop-i-preserved
loop-i-preserved c =
    let ids = c.args.ids.now in
    let in' : c.loop-i.i < length ids = omega (arith, c.loop-i-test.true, c.len-i-end.ensures) in
    let is : c.id.result ≡ get_or ids c.loop-i.i c.id.result = sym (get_or_from_slice_get ids c.loop-i.i c.id.result c.id.result c.id.ensures) in
    frees_next c.args.store.now c.loop-i.store c.remove.new.self ids c.loop-i.i c.id.result in' is c.loop-i.invariant c.remove.ensures

pub returns : goal.returns
returns c =
    let ids = c.args.ids.now in
    rw (take_all c.loop-i.i ids (let end = c.len-i-end.ensures in let past = c.loop-i-test.false in omega arith)) at c.loop-i.invariant

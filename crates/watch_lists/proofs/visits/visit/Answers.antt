use Rattle.std.proofs.Common.{◌≢◌, ◌<◌, length, length-set, refl, sym, ap, ◌∙◌, subst, arith}
use Rattle.watch_lists.specs.Watching.{Pair, pairs, WatchesIt}
use Rattle.watch_lists.specs.Visiting.{OtherOf}
use Rattle.watch_lists.proofs.Growing.{grown_none, grown_more}
use Rattle.watch_lists.proofs.Watched.{true_in_from}
use Rattle.watch_lists.proofs.Tallies.{watched_known}
use Rattle.watch_lists.proofs.Looks.{pair_front, pairs_long, pairs_set, copied_moves, keeps_then, keeps_moved}
use Rattle.watch_lists.proofs.Turns.{reads_watched, reads_held, reads_blocks, reads_declared, visit_stays, visit_moves, fallen_grown, covers_more}
use Rattle.watch_lists.proofs.visits.visit.Goals as goal

pub settle-requires-clause-known : goal.settle-requires-clause-known
settle-requires-clause-known c =
    let in' : c.each.i < length c.each.ws.items = omega arith in
    let k : c.index.result.now.id < length (pairs c.each.copies) = watched_known _ _ _ (reads_watched _ _ _ _ _ _ _ _ _ _ _ _ c.index.result.now c.each.invariant.visiting in' c.index.ensures) in
    let l = pairs_long c.each.copies in
    omega arith

pub settle-requires-clause-watched : goal.settle-requires-clause-watched
settle-requires-clause-watched c =
    let in' : c.each.i < length c.each.ws.items = omega arith in
    subst (λ p. WatchesIt p c.args.f) (pair_front c.each.copies c.index.result.now.id) (reads_watched _ _ _ _ _ _ _ _ _ _ _ _ c.index.result.now c.each.invariant.visiting in' c.index.ensures)

pub settle-requires-clause-held : goal.settle-requires-clause-held
settle-requires-clause-held c =
    let in' : c.each.i < length c.each.ws.items = omega arith in
    rw (← pair_front c.each.copies c.index.result.now.id) (reads_held _ _ _ _ _ _ _ _ _ _ _ _ c.index.result.now c.each.invariant.visiting in' c.index.ensures)

pub settle-requires-clause-copied : goal.settle-requires-clause-copied
settle-requires-clause-copied c =
    let in' : c.each.i < length c.each.ws.items = omega arith in
    let w = subst (λ p. WatchesIt p c.args.f) (pair_front c.each.copies c.index.result.now.id) (reads_watched _ _ _ _ _ _ _ _ _ _ _ _ c.index.result.now c.each.invariant.visiting in' c.index.ensures) in
    c.each.invariant.copied c.index.result.now.id w.differ

pub settle-requires-clause-blocks : goal.settle-requires-clause-blocks
settle-requires-clause-blocks c =
    let in' : c.each.i < length c.each.ws.items = omega arith in
    reads_blocks _ _ _ _ _ _ _ _ _ _ _ _ c.index.result.now c.each.invariant.visiting in' c.index.ensures

pub is_true-requires : goal.is_true-requires
is_true-requires c =
    let in' : c.each.i < length c.each.ws.items = omega arith in
    reads_declared _ _ _ _ _ _ _ _ _ _ _ _ c.index.result.now c.each.invariant.visiting in' c.index.ensures c.requires.ready

pub each-preserved-then-is_true : goal.each-preserved-then-is_true
each-preserved-then-is_true c =
    let in' : c.each.i < length c.each.ws.items = omega arith in
    let w = c.index.result.now in
    let v = c.each.invariant.visiting in
    let blocks = reads_blocks _ _ _ _ _ _ _ _ _ _ _ _ w v in' c.index.ensures in
    rw (c.copy_down.ensures w c.index.ensures)
    (record {
      visiting =
          visit_stays _ _ _ _ _ _ _ _ _ _ _ _ w w _ v in' c.index.ensures refl blocks (true_in_from _ _ _ blocks.holds (sym c.is_true.ensures ∙ c.if-is_true.true)) (grown_none _ _ _) v.fallen;
      copied = c.each.invariant.copied;
      keeps = c.each.invariant.keeps;
    })

pub returns-in-Err-clause-grown : goal.returns-in-Err-clause-grown
returns-in-Err-clause-grown c = grown_more _ _ _ _ _ c.each.invariant.visiting.grown c.in-Err.ensures.grown

pub returns-in-Err-clause-covers : goal.returns-in-Err-clause-covers
returns-in-Err-clause-covers c = rw c.in-Err.ensures.err_copies (covers_more _ _ _ _ _ _ _ _ _ _ _ _ _ c.each.invariant.visiting c.in-Err.ensures.grown)

pub each-preserved-in-Stays : goal.each-preserved-in-Stays
each-preserved-in-Stays c =
    let in' : c.each.i < length c.each.ws.items = omega arith in
    let st = rw c.in-Stays.is at c.in-Ok.ensures.settled in
    let w = c.index.result.now in
    rw (st.lists, st.copies, c.put.ensures)
    (record {
      visiting =
          visit_stays _ _ _ _ _ _ _ _ _ _ _ _ w (record { id = w.id; blocker = c.in-Stays.blocker; binary = w.binary }) _ c.each.invariant.visiting in' c.index.ensures refl st.blocks st.true_in
          c.in-Ok.ensures.grown (fallen_grown _ _ _ _ _ c.in-Ok.ensures.grown c.each.invariant.visiting.fallen);
      copied = c.each.invariant.copied;
      keeps = c.each.invariant.keeps;
    })

pub each-preserved : goal.each-preserved
each-preserved c =
    let in' : c.each.i < length c.each.ws.items = omega arith in
    let v = c.each.invariant.visiting in
    let mv = rw c.in-Moves.is at c.in-Ok.ensures.settled in
    let m = mv.1 in
    let id = c.index.result.now.id in
    let cs = c.each.copies in
    let w = reads_watched _ _ _ _ _ _ _ _ _ _ _ _ c.index.result.now v in' c.index.ensures in
    let k : id < length (pairs cs) = watched_known _ _ _ w in
    let l = pairs_long cs in
    let pairs-is = ap pairs m.copies ∙ pairs_set cs id m.now _ m.fronted in
    rw mv.0
    (record {
      visiting = visit_moves _ _ _ _ _ _ _ _ _ _ _ _ c.index.result.now _ _ m.other m.next v in' c.index.ensures (subst (λ p. OtherOf p c.args.f m.other) (sym (pair_front cs id)) m.one) m.holds m.apart m.open_yet m.lists pairs-is
          (ap length m.lists ∙ length-set c.each.lists m.next _ ∙ v.sized);
      copied = copied_moves c.args.store.now cs _ id m.now (omega arith) c.each.invariant.copied (subst (λ (p : Pair). p.first ≢ p.second) (pair_front cs id) w.differ) m.copies m.same m.once;
      keeps = keeps_then _ _ _ c.each.invariant.keeps (keeps_moved cs _ id m.other m.next m.now (omega arith) (subst (λ (p : Pair). p.first ≢ p.second) (pair_front cs id) w.differ) m.copies m.fronted m.apart);
    })

pub returns-in-False-clause-grown : goal.returns-in-False-clause-grown
returns-in-False-clause-grown c = grown_more _ _ _ _ _ c.each.invariant.visiting.grown c.in-Ok.ensures.grown

pub returns-in-False-clause-covers : goal.returns-in-False-clause-covers
returns-in-False-clause-covers c =
    let st = rw c.in-False.is at c.in-Ok.ensures.settled in
    rw st.copies (covers_more _ _ _ _ _ _ _ _ _ _ _ _ _ c.each.invariant.visiting c.in-Ok.ensures.grown)

pub returns-in-False-clause-answer : goal.returns-in-False-clause-answer
returns-in-False-clause-answer c =
    let in' : c.each.i < length c.each.ws.items = omega arith in
    let st = rw c.in-False.is at c.in-Ok.ensures.settled in
    record { attached = (reads_held _ _ _ _ _ _ _ _ _ _ _ _ c.index.result.now c.each.invariant.visiting in' c.index.ensures).attached; all_false = st.all_false }

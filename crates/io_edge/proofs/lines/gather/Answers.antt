use Rattle.std.proofs.Common.{◌∙◌, arith, refl}
use Rattle.io_edge.proofs.Taking.{takes_more, takes_rest, takes_end, not_needed}
use Rattle.io_edge.proofs.lines.gather.Goals as goal

pub returns-in-Some-clause-much : goal.returns-in-Some-clause-much
returns-in-Some-clause-much g c =
    let t = takes_end c.in-Ok.found _ _ _ _ _ _ _ c.loop-found.invariant.so_far c.in-Ok.ensures.found c.in-Ok.ensures.none in
    λ is. let much = c.in-Some.ensures.much (cc) in (c.in-Ok.found, t, omega (arith, much.0), λ h. much.1 (omega arith))

pub returns-in-Err-fill-clause-fault : goal.returns-in-Err-fill-clause-fault
returns-in-Err-fill-clause-fault g c =
    let moved = c.in-Ok.ensures.none c.if-found.false in
    λ _. rw (moved.2, c.in-Err-fill.ensures.empty) (takes_rest _ _ _ _ _ _ c.loop-found.invariant.so_far moved.0 c.in-Err-fill.ensures.err)

pub returns-then-is_empty-clause-unread : goal.returns-then-is_empty-clause-unread
returns-then-is_empty-clause-unread g c =
    let moved = c.in-Ok.ensures.none c.if-found.false in
    not_needed _ _ _ _ _ c.loop-found.invariant.so_far moved.0

pub returns-then-is_empty-clause-end : goal.returns-then-is_empty-clause-end
returns-then-is_empty-clause-end g c =
    let moved = c.in-Ok.ensures.none c.if-found.false in
    let empty = c.if-is_empty.ensures.0 refl in
    λ _. (rw moved.2 (takes_more _ _ _ _ _ _ _ c.loop-found.invariant.so_far moved.0 c.in-Ok-fill.ensures.ok), empty, c.in-Ok-fill.ensures.end empty)

pub loop-found-preserved : goal.loop-found-preserved
loop-found-preserved g c =
    let moved = c.in-Ok.ensures.none c.if-found.false in
    record {
      so_far = rw moved.2 (takes_more _ _ _ _ _ _ _ c.loop-found.invariant.so_far moved.0 c.in-Ok-fill.ensures.ok);
      short = omega (arith, c.in-None.ensures.none);
      kept = c.in-Ok-fill.ensures.cause.kept ∙ c.loop-found.invariant.kept;
      unread = not_needed _ _ _ _ _ c.loop-found.invariant.so_far moved.0;
    }

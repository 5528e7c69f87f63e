use Rattle.std.proofs.Common.{sym, ◌∙◌}
use Rattle.search_engine.proofs.Conflicts.{slots_filled}
use Rattle.search_engine.proofs.Freeing.{fills_frees}
use Rattle.search_engine.proofs.conflict.store_attached.Goals as goal

pub returns-in-Ok-clause-following : goal.returns-in-Ok-clause-following
returns-in-Ok-clause-following c =
    λ t follows. c.attach.ensures.follows t (c.law_following.ensures.stored _ _ t (slots_filled _ _ _ _ c.in_ok-id.ensures.ok _ c.requires.attached) follows)

pub returns-in-Err-clause-same : goal.returns-in-Err-clause-same
returns-in-Err-clause-same c = fills_frees _ _ _ _ _ c.in_ok-id.ensures.ok c.remove.ensures

pub returns-in-Err-clause-following : goal.returns-in-Err-clause-following
returns-in-Err-clause-following c =
    let fills = c.in_ok-id.ensures.ok in
    let same = fills_frees _ _ _ _ _ fills c.remove.ensures in
    λ t follows.
    c.law_following-in-Err.ensures.stored _ _ t (λ k h. let was = slots_filled _ _ _ _ fills _ c.requires.attached k (rw c.in-Err.ensures.err at h) in same k ∙ sym was)
    (c.attach.ensures.follows t (c.law_following.ensures.stored _ _ t (slots_filled _ _ _ _ fills _ c.requires.attached) follows))

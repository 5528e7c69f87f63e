use Rattle.std.proofs.Common.{refl}
use Rattle.search_engine.proofs.Freeing.{stored_stands, stored_keeps}
use Rattle.search_engine.proofs.forgetting.compact.Goals as goal

pub returns-in_err-compact-clause-stands : goal.returns-in_err-compact-clause-stands
returns-in_err-compact-clause-stands c =
    stored_stands c.compact.ensures refl refl (c.law_following.ensures.stored _ _ _ (λ k h. c.compact.ensures k) c.requires.ready.following) c.requires

pub returns-in_err-compact-clause-keeps : goal.returns-in_err-compact-clause-keeps
returns-in_err-compact-clause-keeps c =
    stored_keeps c.compact.ensures refl refl (c.law_following.ensures.stored _ _ _ (λ k h. c.compact.ensures k) c.requires.ready.following) c.requires.ready

pub returns-clause-stands : goal.returns-clause-stands
returns-clause-stands c =
    rw c.compact-2.ensures
    (stored_stands c.compact.ensures refl refl (c.law_following.ensures.stored _ _ _ (λ k h. c.compact.ensures k) c.requires.ready.following) c.requires)

pub returns-clause-keeps : goal.returns-clause-keeps
returns-clause-keeps c =
    rw c.compact-2.ensures
    (stored_keeps c.compact.ensures refl refl (c.law_following.ensures.stored _ _ _ (λ k h. c.compact.ensures k) c.requires.ready.following) c.requires.ready)

use Rattle.std.proofs.Common.{refl}
use Rattle.watch_lists.specs.Propagation.{ids_of}
use Rattle.watch_lists.proofs.Following.{follows_none}
use Rattle.watch_lists.proofs.watches.Watches.new.Goals as goal

pub returns-clause-attached : goal.returns-clause-attached
unfolding ids_of
returns-clause-attached c = rw c.new.ensures refl

pub returns-clause-follows : goal.returns-clause-follows
unfolding ids_of
returns-clause-follows c = rw (c.new.ensures, c.new-2.ensures.items, c.new-3.ensures.items, c.new-4.ensures.items, c.new-5.ensures) (λ s t. follows_none s t)

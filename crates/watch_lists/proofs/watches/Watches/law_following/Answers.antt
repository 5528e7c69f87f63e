use Rattle.watch_lists.proofs.Following.{follows_stored, follows_longer}
use Rattle.watch_lists.proofs.watches.Watches.law_following.Goals as goal

pub returns-clause-appended : goal.returns-clause-appended
returns-clause-appended c = λ s t t' more e h. follows_longer c.args.self.now s t t' more e h

pub returns-clause-stored : goal.returns-clause-stored
returns-clause-stored c = λ s s' t same h. follows_stored c.args.self.now s s' t same h

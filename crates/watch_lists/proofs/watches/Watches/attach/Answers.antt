use Rattle.std.proofs.Common.{◌≡◌, ◌||◌, ◌∙◌, eqb, sym, ap, refl}
use Rattle.sat_terms.specs.Literal.{has}
use Rattle.watch_lists.specs.Propagation.{ids_of}
use Rattle.watch_lists.proofs.Marking.{has-ids_of}
use Rattle.watch_lists.proofs.Following.{follows_waiting}
use Rattle.watch_lists.proofs.watches.Watches.attach.Goals as goal
use Rattle.watch_lists.proofs.watches.Watches.attach.Goals.{In_ok-let_wait}

more : (c : In_ok-let_wait) → (k : _) → has (ids_of c.let_wait.new.attached) k ≡ (has (ids_of c.self.inside.attached) k || eqb c.args.id k)
more c k = has-ids_of c.let_wait.new.attached k ∙ c.in_ok-let_wait.ensures.marked k ∙ ap (λ b. b || eqb c.args.id k) (sym (has-ids_of c.self.inside.attached k))

pub returns-clause-ok : goal.returns-clause-ok
returns-clause-ok c = rw (← c.self.view_is) (more c)

pub returns-clause-follows : goal.returns-clause-follows
returns-clause-follows c = rw (← c.self.view_is) (λ t h. follows_waiting _ _ _ t c.args.id (more c) c.in_ok-let_wait.ensures.waits refl refl refl refl refl h)

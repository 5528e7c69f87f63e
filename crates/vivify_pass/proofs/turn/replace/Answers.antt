use Rattle.std.proofs.Common.{◌∙◌, arith}
use Rattle.watch_lists.specs.Propagation.{Follows}
use Rattle.pass_terms.proofs.Shortening.{drops_longer, known_new, ruled_next, ruled_same, firm_still}
use Rattle.vivify_pass.proofs.Turning.{within_next, ready_next, attached_came, attached_went, shortens_next, came_new}
use Rattle.vivify_pass.proofs.turn.replace.Goals as goal

pub returns-in_err-next-clause-ruled : goal.returns-in_err-next-clause-ruled
returns-in_err-next-clause-ruled c = ruled_same c.args.kernel.now c.add_implied.new.self c.in_err-next.ensures.err

pub drop_implied-requires-clause-firm : goal.drop_implied-requires-clause-firm
drop_implied-requires-clause-firm c = firm_still c.args.kernel.now.store c.add_implied.new.self.store c.args.id c.in_ok-next.next c.args.new.now c.requires.firm c.in_ok-next.ensures.ok.store

pub drop_implied-requires-clause-implied : goal.drop_implied-requires-clause-implied
drop_implied-requires-clause-implied c = drops_longer c.args.kernel.now.store c.add_implied.new.self.store c.args.id c.in_ok-next.next c.args.new.now c.requires.firm c.requires.found.within c.in_ok-next.ensures.ok.store

pub attach-requires-clause-fresh : goal.attach-requires-clause-fresh
attach-requires-clause-fresh c =
    came_new c.args.kernel.now.store c.add_implied.new.self.store c.args.watches.now c.detach.new.self c.args.trail.now c.args.id c.in_ok-next.next c.args.new.now c.requires.ready c.detach.ensures.attached c.in_ok-next.ensures.ok.store

pub attach-requires-clause-declared : goal.attach-requires-clause-declared
attach-requires-clause-declared c =
    let lists = c.requires.ready.lists in
    let same = c.detach.ensures.declared in
    rw c.store-2.ensures
    (within_next c.args.kernel.now.store c.add_implied.new.self.store c.drop_implied.new.self.store c.detach.new.self.declared c.args.watches.now c.args.trail.now c.args.id c.in_ok-next.next c.args.new.now
    c.requires.ready c.requires.firm c.requires.found.within c.in_ok-next.ensures.ok.store c.drop_implied.ensures.store (omega arith))

pub returns-in_err-attach-clause-ruled : goal.returns-in_err-attach-clause-ruled
returns-in_err-attach-clause-ruled c =
    ruled_next c.args.kernel.now c.add_implied.new.self c.drop_implied.new.self c.args.id c.in_ok-next.next c.args.new.now (known_new c.args.kernel.now c.args.id c.args.new.now c.requires.firm c.requires.found.within)
    c.in_ok-next.ensures.ok c.drop_implied.ensures

pub returns-clause-ruled : goal.returns-clause-ruled
returns-clause-ruled c =
    ruled_next c.args.kernel.now c.add_implied.new.self c.drop_implied.new.self c.args.id c.in_ok-next.next c.args.new.now (known_new c.args.kernel.now c.args.id c.args.new.now c.requires.firm c.requires.found.within)
    c.in_ok-next.ensures.ok c.drop_implied.ensures

pub returns-clause-shorter : goal.returns-clause-shorter
returns-clause-shorter c =
    shortens_next c.args.kernel.now.store c.add_implied.new.self.store c.drop_implied.new.self.store c.args.id c.in_ok-next.next c.args.new.now c.requires.firm c.in_ok-next.ensures.ok.store c.drop_implied.ensures.store c.requires.less

pub returns-clause-ready : goal.returns-clause-ready
returns-clause-ready c =
    let fills = c.in_ok-next.ensures.ok.store in
    let frees = c.drop_implied.ensures.store in
    let came : Follows c.args.watches.now c.add_implied.new.self.store c.args.trail.now =
    c.law_following.ensures.stored c.args.kernel.now.store c.add_implied.new.self.store c.args.trail.now
    (attached_came c.args.kernel.now.store c.add_implied.new.self.store c.args.watches.now c.args.trail.now c.in_ok-next.next c.args.new.now c.requires.ready fills) c.requires.ready.follows in
    let off : Follows c.detach.new.self c.add_implied.new.self.store c.args.trail.now = (rw c.store.ensures at c.detach.ensures.follows) c.args.trail.now came in
    let went : Follows c.detach.new.self c.drop_implied.new.self.store c.args.trail.now =
    c.law_following-2.ensures.stored c.add_implied.new.self.store c.drop_implied.new.self.store c.args.trail.now
    (attached_went c.add_implied.new.self.store c.drop_implied.new.self.store c.args.watches.now c.detach.new.self c.args.id c.detach.ensures.attached frees) off in
    ready_next c.args.kernel.now.store c.add_implied.new.self.store c.drop_implied.new.self.store c.args.watches.now c.detach.new.self c.attach.new.self c.args.trail.now c.args.id c.in_ok-next.next c.args.new.now
    c.requires.ready c.requires.firm c.requires.found.within fills frees c.detach.ensures.attached c.in_ok-attach.ensures.ok (c.attach.ensures.declared ∙ c.detach.ensures.declared) c.requires.keeps
    ((rw c.store-2.ensures at c.attach.ensures.follows) c.args.trail.now went)

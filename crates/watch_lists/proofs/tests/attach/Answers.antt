use Rattle.std.proofs.Common.{rules}
use Rattle.watch_lists.proofs.Testing.{follows_filled, sound_attached}
use Rattle.watch_lists.proofs.tests.attach.Goals as goal

pub returns : goal.returns
returns c =
    let fills = c.in_ok-id.ensures.ok in
    let f = c.law_following.ensures.stored c.args.world.now.store c.add.new.self c.args.world.now.trail (follows_filled _ _ _ _ _ _ c.requires fills) c.requires.following in
    sound_attached c.args.world.now.watches c.attach.new.self c.args.world.now.store c.add.new.self c.args.world.now.trail _ _ c.requires fills (c.are_rising.ensures.within (search rules)) c.in_ok-attach.ensures.ok c.attach.ensures.declared (c.attach.ensures.follows _ f)

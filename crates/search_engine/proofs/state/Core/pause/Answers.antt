use Rattle.rooted_trails.proofs.Reasons.{rooted_back}
use Rattle.search_engine.proofs.Orders.{orderly_back}
use Rattle.search_engine.proofs.state.Core.pause.Goals as goal

pub returns-clause-rest : goal.returns-clause-rest
returns-clause-rest c =
    let core = c.args.self.now in
    let back = c.back_to.ensures.back in
    record {
      root = back.at;
      standing = record {
        rooted = rooted_back core.store core.trail c.back_to.new.trail 0 back c.requires.rooted;
        listing = rw c.cut.ensures.attached c.requires.listing;
        following = c.cut.ensures.follows _ _ _ c.requires.following back;
        orderly = orderly_back _ _ _ _ _ back c.back_to.ensures.same c.back_to.ensures.follows c.requires.orderly;
      };
    }

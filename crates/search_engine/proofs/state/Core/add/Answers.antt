use Rattle.rooted_trails.proofs.Reasons.{rooted_filled, live_filled}
use Rattle.search_engine.proofs.Readying.{listing_filled, listing_live}
use Rattle.search_engine.proofs.state.Core.add.Goals as goal

pub returns-clause-rest : goal.returns-clause-rest
returns-clause-rest c =
    let core = c.args.self.now in
    let s = c.requires.rest.standing in
    let fills = c.in_ok-id.ensures.ok in
    let listed = c.push.ensures.items in
    let before = c.reserve.ensures.items in
    record {
      root = c.requires.rest.root;
      standing = record {
        rooted = rooted_filled core.store c.add.new.self c.in_ok-id.id _ fills core.trail.steps s.rooted;
        listing = rw (c.in-Ok.ensures.items, before) (listing_filled core.watches.attached core.listed.items core.store c.add.new.self c.in_ok-id.id _ fills s.listing);
        following = c.law_following.ensures.stored _ _ _ (λ k h. live_filled core.store c.add.new.self c.in_ok-id.id _ fills k (listing_live _ _ _ s.listing k h)) s.following;
        orderly = s.orderly;
      };
    }

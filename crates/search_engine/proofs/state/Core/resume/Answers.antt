use Rattle.std.proofs.Common.{arith, ◌∙◌, sym}
use Rattle.search_engine.proofs.Readying.{listing_none}
use Rattle.search_engine.proofs.Looping.{on_ok_more}
use Rattle.search_engine.proofs.state.Core.resume.Goals as goal

pub returns-clause-ready : goal.returns-clause-ready
returns-clause-ready c =
    let e = c.in_ok-widen.ensures in
    let s = e.rest.standing in
    let a = c.attach_listed.ensures in
    on_ok_more c.attach_listed.result _ _ (λ none assumptions within. record {
      rooted = s.rooted;
      attached = listing_none _ _ _ none a.listing;
      none_listed = none;
      following = a.following _ s.following;
      within = rw (e.store, e.trail) c.requires.within;
      assumed = rw e.trail within;
      watched = (let w = e.watches in let d = a.declared in let t = e.trail in omega arith);
      room = (let m = e.model in let t = e.trail in omega arith);
      orderly = s.orderly;
      decided = e.order ∙ sym e.trail;
    }) a.none

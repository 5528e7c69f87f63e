use Rattle.std.proofs.Common.{[], ◌∙◌, sym, arith}
use Rattle.std.proofs.lemmas.List.{append-nil}
use Rattle.search_engine.proofs.Orders.{orderly_declared, orderly_widened}
use Rattle.search_engine.proofs.state.Core.widen.Goals as goal

pub returns-in_err-declare-2-clause-rest : goal.returns-in_err-declare-2-clause-rest
returns-in_err-declare-2-clause-rest c =
    let s = c.requires.rest.standing in
    record {
      root = c.requires.rest.root;
      standing = record {
        rooted = s.rooted;
        listing = rw c.declare-in-Some.ensures.attached s.listing;
        following = c.declare-in-Some.ensures.follows _ _ s.following;
        orderly = orderly_declared _ _ _ _ c.in_ok-declare.ensures.ok c.declare.ensures.follows s.orderly;
      };
    }

pub returns-in_err-declare-3-clause-rest : goal.returns-in_err-declare-3-clause-rest
returns-in_err-declare-3-clause-rest c =
    let s = c.requires.rest.standing in
    let steps = c.declare-in-Some-2.ensures.steps in
    let orderly = orderly_declared _ _ _ _ c.in_ok-declare.ensures.ok c.declare.ensures.follows s.orderly in
    record {
      root = c.declare-in-Some-2.ensures.level ∙ c.requires.rest.root;
      standing = record {
        rooted = rw steps s.rooted;
        listing = rw c.declare-in-Some.ensures.attached s.listing;
        following = c.law_following-in-Some.ensures.appended _ _ _ [] (steps ∙ sym (append-nil _)) (c.declare-in-Some.ensures.follows _ _ s.following);
        orderly = orderly_widened _ _ _ steps (rw c.in_err-declare-3.ensures.err orderly.declared) orderly;
      };
    }

pub returns-in_ok-declare-3-clause-rest : goal.returns-in_ok-declare-3-clause-rest
returns-in_ok-declare-3-clause-rest c =
    let s = c.requires.rest.standing in
    let steps = c.declare-in-Some-2.ensures.steps in
    let more = c.in_ok-declare.ensures.ok in
    let orderly = orderly_declared _ _ _ _ more c.declare.ensures.follows s.orderly in
    record {
      root = c.declare-in-Some-2.ensures.level ∙ c.requires.rest.root;
      standing = record {
        rooted = rw steps s.rooted;
        listing = rw c.declare-in-Some.ensures.attached s.listing;
        following = c.law_following-in-Some.ensures.appended _ _ _ [] (steps ∙ sym (append-nil _)) (c.declare-in-Some.ensures.follows _ _ s.following);
        orderly = orderly_widened _ _ _ steps (let d = c.in_ok-declare-3.ensures.ok in let k = more.declared in let low = s.orderly.declared in omega arith) orderly;
      };
    }

-- What a search keeps.
use Rattle.std.proofs.Common.{◌≡◌, ℕ, List, length, refl, sym, ap, ◌∙◌, Option}
use Rattle.clause_store.specs.Stored.{Stored}
use Rattle.search_engine.specs.declared.state.Core.{Core}
use Rattle.search_engine.specs.Searching.{clauses, IsReady, IsOrderly, IsStanding, Learns, Keeps}
use Rattle.search_engine.proofs.Readying.{listing_all}

-- a store that stays has learned nothing
pub learns_same : (s : List (Option Stored)) → Learns s s
learns_same s = record { firm = λ id h. refl; no_more = λ id h. refl; implied = λ f h. h }

-- what is kept twice is kept
pub learns_more : (a b c : List (Option Stored)) → Learns a b → Learns b c → Learns a c
learns_more a b c l m = record {
  firm = λ id h. let e = l.firm id h in m.firm id (rw e h) ∙ e;
  no_more = λ id h. let e = m.no_more id h in e ∙ l.no_more id (rw e at h);
  implied = λ f h. m.implied f (l.implied f h);
}

pub keeps_more : (a b c : Core) → Keeps a b → Keeps b c → Keeps a c
keeps_more a b c k l = record {
  learns = learns_more (clauses a) (clauses b) (clauses c) k.learns l.learns;
  standing = l.standing;
  within = l.within;
  declared = l.declared ∙ k.declared;
  decided = l.decided ∙ k.decided;
  size = l.size ∙ k.size;
}

-- a core that is ready stands
pub ready_standing : (assumptions : List ℕ) (c : Core) → IsReady assumptions c → IsStanding c
ready_standing assumptions c ready = record {
  rooted = ready.rooted;
  listing = listing_all c.watches.attached c.listed.items (clauses c) ready.none_listed ready.attached;
  following = ready.following;
  orderly = ready.orderly;
}

-- a core that stays ready is kept
pub keeps_ready : (assumptions : List ℕ) (old new : Core) → IsReady assumptions old → IsReady assumptions new → Learns (clauses old) (clauses new) → new.trail.declared ≡ old.trail.declared → length new.model.items ≡ length old.model.items → Keeps old new
keeps_ready assumptions old new was ready learns same size = record {
  learns = learns;
  standing = ready_standing assumptions new ready;
  within = ready.within;
  declared = same;
  decided = ready.decided ∙ same ∙ sym was.decided;
  size = size;
}

-- what a search needs does not rest on policy and tally, nor on what the model says
pub ready_same : (assumptions : List ℕ) (old new : Core) → IsReady assumptions old → new.store ≡ old.store → new.trail ≡ old.trail → new.watches ≡ old.watches → length new.model.items ≡ length old.model.items → new.listed.items ≡ old.listed.items → new.order.declared ≡ old.order.declared
    → IsOrderly new.order new.trail → IsReady assumptions new
ready_same assumptions old new ready store trail watches size listed dec orderly = record {
  rooted = rw (store, trail) ready.rooted;
  attached = rw (watches, store) ready.attached;
  none_listed = rw listed ready.none_listed;
  following = rw (watches, store, trail) ready.following;
  within = rw (store, trail) ready.within;
  assumed = rw trail ready.assumed;
  watched = rw (trail, watches) ready.watched;
  room = rw (trail, size) ready.room;
  orderly = orderly;
  decided = rw (dec, trail) ready.decided;
}

pub keeps_same : (assumptions : List ℕ) (old new : Core) → IsReady assumptions old → new.store ≡ old.store → new.trail ≡ old.trail → new.watches ≡ old.watches → length new.model.items ≡ length old.model.items → new.listed.items ≡ old.listed.items → new.order.declared ≡ old.order.declared
    → IsOrderly new.order new.trail → Keeps old new
keeps_same assumptions old new ready store trail watches size listed dec orderly =
    keeps_ready assumptions old new ready (ready_same assumptions old new ready store trail watches size listed dec orderly) (rw store (learns_same old.store)) (ap (λ t. t.declared) trail) size

pub keeps_none : (assumptions : List ℕ) (core : Core) → IsReady assumptions core → Keeps core core
keeps_none assumptions core ready = keeps_ready assumptions core core ready ready (learns_same core.store) refl refl

-- What a search needs, keeps and finds.
use Rattle.std.specs.Prelude.{◌≡◌, ◌+◌, ◌<◌, ◌≤◌, min, ℕ, Bool, true, if◌then◌else◌, List, [], length, Option, IsSome, is_some}
use Rattle.sat_terms.specs.Limits.{max_number}
use Rattle.sat_terms.specs.Literal.{has, pos_lit}
use Rattle.sat_terms.specs.Truth.{Assignment, values}
use Rattle.sat_terms.specs.Answer.{Within, IsModel, IsCore}
use Rattle.clause_store.specs.Stored.{Stored, slot, slot_lits, is_firm, FirmTrue}
use Rattle.clause_store.specs.Listing.{times}
use Rattle.trail_state.specs.declared.trail.Step.{Step}
use Rattle.trail_state.specs.Trail.{Trace, true_on, value_on}
use Rattle.decide_order.specs.Ordering.{Ordered, is_active, Follows as FindsFree}
use Rattle.rooted_trails.specs.Known.{everything, Known}
use Rattle.rooted_trails.specs.Rooted.{Rooted}
use Rattle.watch_lists.specs.Propagation.{Follows}
use Rattle.conflict_analysis.specs.Counting.{Counted, IsDue}
use Rattle.search_engine.specs.declared.state.Core.{Core}
use Rattle.search_engine.specs.declared.state.Found.{Found}
use Rattle.search_engine.specs.declared.state.Found.TheVariants as found
use Rattle.search_engine.specs.declared.state.Spent.TheVariants.{Conflicts}

-- every variable of a live clause is among the first n
abbrev pub StoreWithin : ℕ → List (Option Stored) → Type 0
StoreWithin n s = (id : ℕ) → IsSome (slot s id) → Within n (slot_lits (slot s id))

-- the attached clauses are exactly the live ones
abbrev pub AttachesLive : List ℕ → List (Option Stored) → Type 0
AttachesLive ids s = (id : ℕ) → has ids id ≡ is_some (slot s id)

-- Each live clause is attached or listed, once, and nothing else is.
pub record IsListing (attached listed : List ℕ) (s : List (Option Stored)) : Type 0 where
  pub once : (id : ℕ) → (if has attached id then 1 else 0) + times listed id ≡ (if is_some (slot s id) then 1 else 0)

-- The order of decisions knows the variables of the trail. Each variable that it knows is active, and it comes to each that has
-- no value.
pub record IsOrderly (o : Ordered) (t : Trace) : Type 0 where
  pub declared : t.declared ≤ o.declared
  pub active : (v : ℕ) → 0 < v → v ≤ o.declared → is_active o v ≡ true
  pub finds : FindsFree o t

-- the clauses that a core stores
abbrev pub clauses : Core → List (Option Stored)
clauses c = c.store

-- What a search needs under these assumptions, and what holds at each of its turns.
pub record IsReady (assumptions : List ℕ) (c : Core) : Type 0 where
  -- each literal that was not decided has a reason among the clauses
  pub rooted : Rooted (clauses c) c.trail.steps
  pub attached : AttachesLive c.watches.attached (clauses c)
  pub none_listed : c.listed.items ≡ []
  pub following : Follows c.watches (clauses c) c.trail
  -- the variables of clauses and assumptions are declared, and have their places in the model
  pub within : StoreWithin c.trail.declared (clauses c)
  pub assumed : Within c.trail.declared assumptions
  pub watched : c.trail.declared ≤ c.watches.declared
  pub room : c.trail.declared ≤ length c.model.items
  pub orderly : IsOrderly c.order c.trail
  pub decided : c.order.declared ≡ c.trail.declared

-- What stands whatever a search answers: literals have their reasons, each live clause is attached or listed, and the lists of
-- watches and the order of decisions follow the trail.
pub record IsStanding (c : Core) : Type 0 where
  pub rooted : Rooted (clauses c) c.trail.steps
  pub listing : IsListing c.watches.attached c.listed.items (clauses c)
  pub following : Follows c.watches (clauses c) c.trail
  pub orderly : IsOrderly c.order c.trail

-- A core is at rest between two searches: it stands, and its trail is at the root.
pub record IsAtRest (c : Core) : Type 0 where
  pub root : c.trail.level ≡ 0
  pub standing : IsStanding c

-- A store has learned: its firm clauses are the same, and what is known of an assignment by the clauses of before is known by
-- those of now.
pub record Learns (old new : List (Option Stored)) : Type 0 where
  pub firm : (id : ℕ) → is_firm (slot old id) ≡ true → slot new id ≡ slot old id
  pub no_more : (id : ℕ) → is_firm (slot new id) ≡ true → slot new id ≡ slot old id
  pub implied : (f : Assignment) → Known old everything f → Known new everything f

-- What a search keeps, whatever it answers.
pub record Keeps (old new : Core) : Type 0 where
  pub learns : Learns (clauses old) (clauses new)
  pub standing : IsStanding new
  pub within : StoreWithin new.trail.declared (clauses new)
  pub declared : new.trail.declared ≡ old.trail.declared
  pub decided : new.order.declared ≡ old.order.declared
  pub size : length new.model.items ≡ length old.model.items

-- each of the first n variables has a value
abbrev pub AllValued : ℕ → List Step → Type 0
AllValued n t = (v : ℕ) → 0 < v → v ≤ n → IsSome (value_on t (pos_lit v))

-- the model gives the variables the values that they have on the trail, and is false elsewhere
abbrev pub Shows : List Bool → List Step → Type 0
Shows m t = (v : ℕ) → values m v ≡ true_on t (pos_lit v)

-- The core has a model of the firm clauses and the assumptions: the values of the trail.
pub record HasModel (assumptions : List ℕ) (old new : Core) : Type 0 where
  pub model : IsModel (FirmTrue (clauses old)) assumptions (length old.model.items) new.model.items
  pub valued : AllValued new.trail.declared new.trail.steps
  pub shown : Shows new.model.items new.trail.steps

-- the tally counts from a total of before, which has risen by the count; totals stop at 2^62
abbrev pub CountsFrom : ℕ → Counted → Type 0
CountsFrom before t = t.total ≡ min (before + t.count) max_number

-- so many conflicts were counted, and the budget is used up by them
pub record IsSpent (n : ℕ) (t : Counted) : Type 0 where
  pub counted : n ≡ t.count
  pub due : IsDue n t.budget
  pub spent : t.is_spent ≡ true

-- what is found
abbrev pub FoundIs : List ℕ → Core → Core → Found → Type 0
FoundIs assumptions old new found.Sat = HasModel assumptions old new
FoundIs assumptions old new (found.Unsat core) = IsCore (Known (clauses old) everything) assumptions core
FoundIs assumptions old new (found.Spent (Conflicts n)) = IsSpent n new.tally

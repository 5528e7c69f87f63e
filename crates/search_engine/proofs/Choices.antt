-- Laws of turns that decide.
use Rattle.std.proofs.Common.{◌≡◌, ℕ, ◌+◌, ◌<◌, true, false, List, [], ◌∷◌, ◌++◌, ◌≤◌, length, get_or, take, ◌⊎◌, inl, inr, refl, sym, ◌∙◌, subst, arith, Option}
use Rattle.std.proofs.lemmas.Bool.{false≢true}
use Rattle.std.proofs.lemmas.List.{take-append-le, take_at, length_push}
use Rattle.sat_terms.specs.Literal.{has}
use Rattle.sat_terms.proofs.Members.{has_more}
use Rattle.clause_store.specs.Stored.{Stored}
use Rattle.trail_state.specs.declared.trail.Step.{Step}
use Rattle.trail_state.specs.declared.reason.Reason.TheVariants.{Decision}
use Rattle.trail_state.specs.Trail.{Trace, true_on}
use Rattle.trail_state.proofs.Changes.{step_old, step_new, old_or_new}
use Rattle.trail_state.proofs.Ranks.{rank-push}
use Rattle.rooted_trails.specs.Rooted.{Rooted}
use Rattle.rooted_trails.proofs.Reasons.{rooted_decided}
use Rattle.watch_lists.specs.Propagation.{Watching, Follows}
use Rattle.assumption_core.specs.Core.{DecidesAssumed}
use Rattle.search_engine.specs.declared.state.Core.{Core}
use Rattle.search_engine.specs.declared.cursor.Cursor.{Cursor}
use Rattle.decide_order.specs.Ordering.{Ordered}
use Rattle.search_policy.specs.Plan.{restarts_left}
use Rattle.search_engine.specs.Searching.{IsReady, IsOrderly, Keeps}
use Rattle.search_engine.proofs.Orders.{orderly_longer}
use Rattle.search_engine.specs.Turns.{AllOn, KeepsTrue, AssumesFirst, IsBetweenTurns, RankRises, Next, Passed}
use Rattle.search_engine.proofs.Keeping.{learns_same, keeps_ready}
use Rattle.search_engine.proofs.Measures.{left_falls}
use Rattle.trail_state.proofs.Longer.{true_longer}
use Rattle.search_engine.proofs.Values.{true_in_front}

-- what holds of the front of a list and of the next member
pub each_more : (P : ℕ → Type 0) (xs : List ℕ) (i x : ℕ) → ((k : ℕ) → has (take i xs) k ≡ true → P k) → i < length xs → x ≡ get_or xs i x → P x → (k : ℕ) → has (take (i + 1) xs) k ≡ true → P k
each_more P xs i x before in' is here k h =
    elim (has_more xs i x k in' is h) [ inl a ↦ before k a | inr e ↦ subst P e here ]

-- what was passed stays so where the trail keeps what is true
pub passed_kept : (assumptions : List ℕ) (old new : Core) (cursor : Cursor) → KeepsTrue old.trail.steps new.trail.steps → Passed assumptions old cursor → Passed assumptions new cursor
passed_kept assumptions old new cursor kept passed = record { assumed = λ l h. kept l (passed.assumed l h) }

-- the rank rises by a literal more
pub rises_push : (t : List Step) (x : Step) → RankRises t (t ++ x ∷ [])
rises_push t x = record { rises = λ n le. let l = length_push t x in rank-push n t x (omega arith) }

-- one step more, which is no decision, an assumption, or stands behind all assumptions
pub first_push : (assumptions : List ℕ) (t : List Step) (x : Step) → AssumesFirst assumptions t → (x.reason ≡ Decision → (has assumptions x.lit ≡ true) ⊎ AllOn t assumptions) → AssumesFirst assumptions (t ++ x ∷ [])
first_push assumptions t x first here i in' dec =
    elim (old_or_new t x i in') [
      | inl old ↦
          rw (step_old t x i old, take-append-le i t (x ∷ []) (omega arith)) (first i old (rw (step_old t x i old) at dec))
      | inr e ↦
          let e' : length t ≡ i = sym e in
          rw (take_at t (x ∷ []) i e', e, step_new t x) (here (rw (e, step_new t x) at dec))
    ]

-- where an assumption is not true, every decision is one
pub decides_assumed : (assumptions : List ℕ) (t : List Step) (l : ℕ) → AssumesFirst assumptions t → has assumptions l ≡ true → true_on t l ≡ false → DecidesAssumed t assumptions
decides_assumed assumptions t l first assumed off i in' dec =
    elim (first i in' dec) [
      | inl h ↦ h
      | inr all ↦ absurd (false≢true (sym off ∙ true_in_front t i l (all l assumed)))
    ]

-- lists that go on following a trail as it grows
abbrev pub GoesOn : Watching → Type 0
GoesOn w = (s : List (Option Stored)) (t t' : Trace) (more : List Step) → t'.steps ≡ t.steps ++ more → Follows w s t → Follows w s t'

-- the step of a decision at a level
abbrev pub decision : ℕ → ℕ → Step
decision l level = record { lit = l; level = level + 1; reason = Decision }

-- A core but for its trail and its order is as before, and a decision was appended to the trail.
pub record Decides (old new : Core) (l : ℕ) : Type 0 where
  pub store : new.store ≡ old.store
  pub watches : new.watches ≡ old.watches
  pub tally : new.tally ≡ old.tally
  pub policy : new.policy ≡ old.policy
  pub listed : new.listed.items ≡ old.listed.items
  pub size : length new.model.items ≡ length old.model.items
  pub declared : new.trail.declared ≡ old.trail.declared
  pub steps : new.trail.steps ≡ old.trail.steps ++ decision l old.trail.level ∷ []
  pub orderly : IsOrderly new.order old.trail
  pub decided : new.order.declared ≡ old.order.declared

pub decides : (old : Core) (o : Ordered) (t : Trace) (l : ℕ) → t.declared ≡ old.trail.declared → t.steps ≡ old.trail.steps ++ decision l old.trail.level ∷ [] → IsOrderly o old.trail → o.declared ≡ old.order.declared → Decides old (record old { trail = t; order = o }) l
decides old o t l declared steps orderly dec = record { store = refl; watches = refl; tally = refl; policy = refl; listed = refl; size = refl; declared = declared; steps = steps; orderly = orderly; decided = dec }

module _ (assumptions : List ℕ) (old new : Core) (l : ℕ) (d : Decides old new l) where
  pub decided_rooted : Rooted old.store old.trail.steps → Rooted new.store new.trail.steps
  decided_rooted rooted = rw (d.store, d.steps) (rooted_decided old.store old.trail.steps l (old.trail.level + 1) rooted)

  pub decided_ready : GoesOn old.watches → IsReady assumptions old → IsReady assumptions new
  decided_ready goes ready = record {
    rooted = decided_rooted ready.rooted;
    attached = rw (d.watches, d.store) ready.attached;
    none_listed = rw d.listed ready.none_listed;
    following = rw (d.watches, d.store) (goes old.store old.trail new.trail (decision l old.trail.level ∷ []) d.steps ready.following);
    within = rw (d.declared, d.store) ready.within;
    assumed = rw d.declared ready.assumed;
    watched = rw (d.declared, d.watches) ready.watched;
    room = rw (d.declared, d.size) ready.room;
    orderly = orderly_longer new.order old.trail new.trail (decision l old.trail.level ∷ []) d.steps d.declared d.orderly;
    decided = rw (d.decided, d.declared) ready.decided;
  }

  pub decided_keeps : GoesOn old.watches → IsReady assumptions old → Keeps old new
  decided_keeps goes ready = keeps_ready assumptions old new ready (decided_ready goes ready) (rw d.store (learns_same old.store)) d.declared d.size

  -- a decision is a turn that goes on
  pub decided_next : GoesOn old.watches → IsBetweenTurns assumptions old → length new.trail.steps ≤ new.trail.declared → (has assumptions l ≡ true) ⊎ AllOn old.trail.steps assumptions → Next assumptions old new
  decided_next goes stands room chosen = record {
    stands = record {
      ready = decided_ready goes stands.ready;
      first = rw d.steps (first_push assumptions old.trail.steps (decision l old.trail.level) stands.first (λ e. chosen));
      unspent = rw d.tally stands.unspent;
      settled = rw d.tally stands.settled;
    };
    falls = rw d.policy (left_falls old.trail.declared new.trail.declared (restarts_left old.policy) (restarts_left old.policy) old.trail.steps new.trail.steps d.declared room (omega arith) (rw d.steps (rises_push old.trail.steps (decision l old.trail.level))));
  }

  pub decided_passed : (cursor : Cursor) → Passed assumptions old cursor → Passed assumptions new cursor
  decided_passed cursor passed = passed_kept assumptions old new cursor (λ k h. rw d.steps (true_longer old.trail.steps (decision l old.trail.level ∷ []) k h)) passed

-- Laws of turns that propagate, and of what a search keeps from turn to turn.
use Rattle.std.proofs.Common.{◌≡◌, ℕ, ◌<◌, ◌≤◌, List, ◌++◌, length, inl, inr, refl, sym, ◌∙◌, arith, Option, Result, Ok, Err, IfOk, OnOk}
use Rattle.std.specs.Prelude.{IsSome}
use Rattle.std.proofs.lemmas.Bool.{cases_lt}
use Rattle.std.proofs.lemmas.List.{take-append-le, get_or_append_left}
use Rattle.sat_terms.specs.Truth.{Assignment, values}
use Rattle.clause_store.specs.Stored.{Stored, slot, slot_lits, FirmTrue}
use Rattle.trail_state.specs.declared.trail.Step.{Step}
use Rattle.trail_state.specs.declared.reason.Reason.{Reason}
use Rattle.trail_state.specs.declared.reason.Reason.TheVariants.{Decision, Clause, Theory}
use Rattle.trail_state.specs.Trail.{Trace, step, no_step, IsTrail}
use Rattle.trail_state.proofs.Levels.{decided, below_top}
use Rattle.rooted_trails.specs.Rooted.{Rooted}
use Rattle.rooted_trails.proofs.Rooting.{RootedBy, RootedAt, rooted_each, rooted_from}
use Rattle.watch_lists.specs.Propagation.{Watching, Follows, Grown}
use Rattle.trail_state.proofs.Longer.{reason_longer}
use Rattle.search_engine.proofs.Orders.{orderly_longer}
use Rattle.search_policy.specs.Plan.{restarts_left}
use Rattle.search_engine.specs.declared.state.Core.{Core}
use Rattle.search_engine.specs.declared.state.Found.{Found}
use Rattle.search_engine.specs.declared.state.Found.TheVariants as found
use Rattle.search_engine.specs.declared.state.Spent.TheVariants.{Conflicts}
use Rattle.search_engine.specs.declared.conflict.Turn.{Turn}
use Rattle.search_engine.specs.declared.conflict.Turn.TheVariants.{Goes, Ends}
use Rattle.search_engine.specs.declared.cursor.Cursor.{Cursor}
use Rattle.search_engine.specs.Searching.{AttachesLive, IsReady, Learns, Keeps, FoundIs}
use Rattle.search_engine.specs.Turns.{AssumesFirst, IsBetweenTurns, Passed, measure, TurnIs}
use Rattle.search_engine.proofs.Choices.{passed_kept}
use Rattle.search_engine.proofs.Keeping.{learns_same, keeps_ready}
use Rattle.search_engine.proofs.Measures.{left_grown}
use Rattle.trail_state.proofs.Longer.{true_longer}

-- what holds of the value of an `Ok`
pub ok_more : {A E : Type 0} (r : Result A E) (P Q : A → Type 0) → ((x : A) → P x → Q x) → IfOk r P → IfOk r Q
ok_more (Ok x) P Q more h = more x h
ok_more (Err e) P Q more h = h

pub ok_always : {A E : Type 0} (r : Result A E) (P : A → Type 0) → ((x : A) → P x) → IfOk r P
ok_always (Ok x) P all = all x
ok_always (Err e) P all = tt

-- what holds where a result is an `Ok`
pub on_ok_more : {A E : Type 0} (r : Result A E) (P Q : Type 0) → (P → Q) → OnOk r P → OnOk r Q
on_ok_more (Ok x) P Q more h = more h
on_ok_more (Err e) P Q more h = h

-- a step keeps its reason on a longer trail
rooted_by_longer : (s : List (Option Stored)) (t more : List Step) (i : ℕ) (r : Reason) → i < length t → RootedBy s t i r → RootedBy s (t ++ more) i r
rooted_by_longer s t more i Decision in' h = tt
rooted_by_longer s t more i (Clause id) in' h = (h.0, reason_longer (slot_lits (slot s id)) t more i in' h.1)
rooted_by_longer s t more i Theory in' h = absurd h

rooted_at_longer : (s : List (Option Stored)) (t more : List Step) (i : ℕ) → i < length t → RootedAt s t i → RootedAt s (t ++ more) i
rooted_at_longer s t more i in' (inl r) = inl (rw (get_or_append_left t more no_step i in') (rooted_by_longer s t more i (step t i).reason in' r))
rooted_at_longer s t more i in' (inr u) = inr (rw (get_or_append_left t more no_step i in') u)

-- a trail that propagation let grow is rooted
pub rooted_grown : (ids : List ℕ) (s : List (Option Stored)) (old new : Trace) → AttachesLive ids s → Grown ids s old new → Rooted s old.steps → Rooted s new.steps
rooted_grown ids s old new attached g rooted =
    rooted_from s new.steps (λ i in'.
    elim (cases_lt i (length old.steps)) [
      | inl lt ↦ rw g.steps (rooted_at_longer s old.steps g.tail i lt (rooted_each s old.steps rooted i lt))
      | inr ge ↦
          let h = g.implied i ge in' in
          let live : IsSome (slot s h.by) = sym (attached h.by) ∙ h.attached in
          inl (rw h.reason (live, h.implied))
    ])

-- propagation decides nothing
pub first_grown : (assumptions ids : List ℕ) (s : List (Option Stored)) (old new : Trace) → Grown ids s old new → AssumesFirst assumptions old.steps → AssumesFirst assumptions new.steps
first_grown assumptions ids s old new g first i in' dec =
    elim (cases_lt i (length old.steps)) [
      | inl lt ↦
          let same : step new.steps i ≡ step old.steps i = rw g.steps (get_or_append_left old.steps g.tail no_step i lt) in
          rw (same, g.steps, take-append-le i old.steps g.tail (omega arith)) (first i lt (rw same at dec))
      | inr ge ↦
          let h = g.implied i ge in' in
          let e : Decision ≡ Clause h.by = sym dec ∙ h.reason in
          absurd (cc)
    ]

-- A core but for its trail and its lists is as before; the trail has grown by propagation, and the lists follow it.
pub record Propagates (old new : Core) : Type 0 where
  pub store : new.store ≡ old.store
  pub tally : new.tally ≡ old.tally
  pub size : length new.model.items ≡ length old.model.items
  pub attached : new.watches.attached ≡ old.watches.attached
  pub declared : new.watches.declared ≡ old.watches.declared
  pub following : Follows new.watches old.store new.trail
  pub grown : Grown old.watches.attached old.store old.trail new.trail
  pub order : new.order ≡ old.order
  pub policy : new.policy ≡ old.policy
  pub listed : new.listed.items ≡ old.listed.items

pub propagates : (old : Core) (w : Watching) (t : Trace) → w.attached ≡ old.watches.attached → w.declared ≡ old.watches.declared → Follows w old.store t → Grown old.watches.attached old.store old.trail t → Propagates old (record old { trail = t; watches = w })
propagates old w t attached declared following grown = record {
  store = refl;
  tally = refl;
  size = refl;
  attached = attached;
  declared = declared;
  following = following;
  grown = grown;
  order = refl;
  policy = refl;
  listed = refl;
}

module _ (assumptions : List ℕ) (old new : Core) (p : Propagates old new) where
  pub propagated_rooted : IsReady assumptions old → Rooted new.store new.trail.steps
  propagated_rooted ready = rw p.store (rooted_grown old.watches.attached old.store old.trail new.trail ready.attached p.grown ready.rooted)

  pub propagated_ready : IsReady assumptions old → IsReady assumptions new
  propagated_ready ready =
      let same = p.grown.declared in
      record {
        rooted = propagated_rooted ready;
        attached = rw (p.attached, p.store) ready.attached;
        none_listed = rw p.listed ready.none_listed;
        following = rw p.store p.following;
        within = rw (same, p.store) ready.within;
        assumed = rw same ready.assumed;
        watched = rw (same, p.declared) ready.watched;
        room = rw (same, p.size) ready.room;
        orderly = rw p.order (orderly_longer old.order old.trail new.trail p.grown.tail p.grown.steps same ready.orderly);
        decided = rw (same, p.order) ready.decided;
      }

  pub propagated_keeps : IsReady assumptions old → Keeps old new
  propagated_keeps ready = keeps_ready assumptions old new ready (propagated_ready ready) (rw p.store (learns_same old.store)) p.grown.declared p.size

  pub propagated_stands : IsBetweenTurns assumptions old → IsBetweenTurns assumptions new
  propagated_stands stands = record {
    ready = propagated_ready stands.ready;
    first = first_grown assumptions old.watches.attached old.store old.trail new.trail p.grown stands.first;
    unspent = rw p.tally stands.unspent;
    settled = rw p.tally stands.settled;
  }

  pub propagated_passed : (cursor : Cursor) → Passed assumptions old cursor → Passed assumptions new cursor
  propagated_passed cursor passed = passed_kept assumptions old new cursor (λ l h. rw p.grown.steps (true_longer old.trail.steps p.grown.tail l h)) passed

-- the firm clauses of before are those of now
pub firm_before : (a b : List (Option Stored)) → Learns a b → (f : Assignment) → FirmTrue b f → FirmTrue a f
firm_before a b l f sat id h = let e = l.firm id h in rw (← e) (sat id (rw e h))

-- what is found later was found before
pub found_before : (assumptions : List ℕ) (a b c : Core) → Keeps a b → (f : Found) → FoundIs assumptions b c f → FoundIs assumptions a c f
found_before assumptions a b c k found.Sat h = record {
  model = record {
    size = h.model.size ∙ k.size;
    holds = firm_before a.store b.store k.learns (values c.model.items) h.model.holds;
    assumed = h.model.assumed;
  };
  valued = h.valued;
  shown = h.shown;
}
found_before assumptions a b c k (found.Unsat core) h = record {
  some = h.some;
  once = h.once;
  none = λ f known. h.none f (k.learns.implied f known);
}
found_before assumptions a b c k (found.Spent (Conflicts n)) h = h

-- a turn behind propagation
pub propagated_turn : (assumptions : List ℕ) (a b c : Core) → Propagates a b → IsReady assumptions a → (turn : Turn) → TurnIs assumptions b c turn → TurnIs assumptions a c turn
propagated_turn assumptions a b c p ready Goes h = record {
  stands = h.stands;
  falls =
      let low : measure b ≤ measure a = rw p.policy (left_grown a.trail.declared b.trail.declared (restarts_left a.policy) a.trail.steps b.trail.steps p.grown.tail p.grown.declared p.grown.steps) in
      let less = h.falls in
      omega arith;
}
propagated_turn assumptions a b c p ready (Ends f) h = found_before assumptions a b c (propagated_keeps assumptions a b p ready) f h

-- at the root nothing was decided
pub first_at_root : (assumptions : List ℕ) (t : List Step) (top : ℕ) → IsTrail t top → top ≡ 0 → AssumesFirst assumptions t
first_at_root assumptions t top shape root i in' dec =
    let up = decided 0 t top shape.levels i in' dec in
    let low = below_top 0 t top shape.levels i in' in
    absurd (omega arith)

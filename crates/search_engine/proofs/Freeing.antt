-- What a redundant clause less changes.
use Rattle.std.proofs.Common.{◌≡◌, ◌≢◌, ℕ, ◌+◌, ◌<◌, ◌≤◌, Bool, true, false, not, ◌&&◌, List, [], length, get_or, take, inl, inr, refl, sym, ap, ◌∙◌, arith, Option}
use Rattle.std.specs.Prelude.{IsSome, is_some}
use Rattle.std.proofs.lemmas.Bool.{false≢true, cases_eq, eq-eqb, false_from_ne_true}
use Rattle.sat_terms.specs.Literal.{has}
use Rattle.sat_terms.proofs.Members.{has_more}
use Rattle.clause_store.specs.Stored.{Stored, slot, slot_lits, is_firm, Fills, Frees, SameSlots}
use Rattle.trail_state.specs.declared.trail.Step.{Step}
use Rattle.trail_state.specs.declared.reason.Reason.{Reason}
use Rattle.trail_state.specs.declared.reason.Reason.TheVariants.{Decision, Clause, Theory}
use Rattle.trail_state.specs.Trail.{step}
use Rattle.rooted_trails.proofs.Knowing.{known_more}
use Rattle.rooted_trails.specs.Rooted.{Rooted}
use Rattle.rooted_trails.proofs.Rooting.{RootedBy, RootedAt, HasUnit, rooted_each, rooted_from}
use Rattle.watch_lists.specs.Propagation.{Watching, Follows}
use Rattle.search_policy.specs.Reduction.{names, IsForgettable}
use Rattle.search_engine.specs.declared.state.Core.{Core}
use Rattle.search_engine.specs.Searching.{StoreWithin, AttachesLive, IsReady, Learns, Keeps}
use Rattle.search_engine.proofs.Keeping.{keeps_ready}
use Rattle.search_engine.specs.Turns.{IsBetweenTurns}
use Rattle.search_engine.specs.Turns.{FreesAll}
use Rattle.search_engine.proofs.Readying.{redundant_no_firm, once_fresh}
use Rattle.clause_store.specs.Listing.{times}
use Rattle.conflict_analysis.proofs.Highests.{has_here, has_before}

-- a store without some clauses, each of which might be forgotten
module _ (s s' : List (Option Stored)) (t : List Step) (gone : List ℕ) (frees : FreesAll s s' gone) (spare : (id : ℕ) → has gone id ≡ true → IsForgettable s t id) where
  -- what is not forgotten stays
  kept : (k : ℕ) → (has gone k ≡ true → ⊥) → slot s' k ≡ slot s k
  kept k n = frees.others k (false_from_ne_true (has gone k) n)

  rooted_by_freed : (i : ℕ) (r : Reason) → i < length t → (step t i).reason ≡ r → RootedBy s t i r → RootedBy s' t i r
  rooted_by_freed i Decision in' is h = tt
  rooted_by_freed i (Clause k) in' is h =
      let same = kept k (λ there. false≢true (sym ((spare k there).unused i in') ∙ ap (λ r. names r k) is ∙ eq-eqb k k refl)) in
      rw same h
  rooted_by_freed i Theory in' is h = h

  unit_freed : (l : ℕ) → HasUnit s l → HasUnit s' l
  unit_freed l h =
      let one : length (slot_lits (slot s h.0)) ≡ 1 = ap length h.2 in
      let same = kept h.0 (λ there. let long = (spare h.0 there).long in omega arith) in
      (h.0, rw same h.1, rw same h.2)

  rooted_at_freed : (i : ℕ) → i < length t → RootedAt s t i → RootedAt s' t i
  rooted_at_freed i in' (inl r) = inl (rooted_by_freed i (step t i).reason in' refl r)
  rooted_at_freed i in' (inr u) = inr (u.0, unit_freed (step t i).lit u.1)

  pub rooted_freed : Rooted s t → Rooted s' t
  rooted_freed rooted = rooted_from s' t (λ i in'. rooted_at_freed i in' (rooted_each s t rooted i in'))

  pub learns_freed : Learns s s'
  learns_freed = record {
    firm = λ k h. kept k (λ there. false≢true (sym (redundant_no_firm (slot s k) (spare k there).redundant) ∙ h));
    no_more = λ k h. kept k (λ there. false≢true (sym (ap is_firm (frees.freed k there)) ∙ h));
    implied = λ f. known_more s s' f (λ sat k live.
        let same = kept k (λ there. false≢true (sym (ap is_some (frees.freed k there)) ∙ live)) in
        rw same (sat k (rw same at live)));
  }

  pub within_freed : (n : ℕ) → StoreWithin n s → StoreWithin n s'
  within_freed n within k live =
      let same = kept k (λ there. false≢true (sym (ap is_some (frees.freed k there)) ∙ live)) in
      rw same (within k (rw same at live))

  pub attached_freed : (ids ids' : List ℕ) → ((k : ℕ) → has ids' k ≡ (has ids k && not (has gone k))) → AttachesLive ids s → AttachesLive ids' s'
  attached_freed ids ids' less live k = less k ∙ go (has gone k) refl where
    none : (b : Bool) → (b && not true) ≡ false
    none true = refl
    none false = refl

    all : (b : Bool) → (b && not false) ≡ b
    all true = refl
    all false = refl

    go : (g : Bool) → has gone k ≡ g → (has ids k && not g) ≡ is_some (slot s' k)
    go true there = none (has ids k) ∙ sym (ap is_some (frees.freed k there))
    go false other = all (has ids k) ∙ live k ∙ sym (ap is_some (frees.others k other))

  pub slots_freed : (ids ids' : List ℕ) → ((k : ℕ) → has ids' k ≡ (has ids k && not (has gone k))) → (k : ℕ) → has ids' k ≡ true → slot s' k ≡ slot s k
  slots_freed ids ids' less k h = kept k (λ there. false≢true (sym (less k ∙ rw there (none (has ids k))) ∙ h)) where
    none : (b : Bool) → (b && not true) ≡ false
    none true = refl
    none false = refl

-- a core without such clauses
module _ {assumptions : List ℕ} {core : Core} {s' : List (Option Stored)} {w : Watching} {gone : List ℕ} (stands : IsBetweenTurns assumptions core) (frees : FreesAll core.store s' gone)
    (spare : (id : ℕ) → has gone id ≡ true → IsForgettable core.store core.trail.steps id) (less : (k : ℕ) → has w.attached k ≡ (has core.watches.attached k && not (has gone k))) (size : w.declared ≡ core.watches.declared)
    (following : Follows w s' core.trail) where
  freed_ready : IsReady assumptions (record core { store = s'; watches = w })
  freed_ready = let ready = stands.ready in record {
    rooted = rooted_freed core.store s' core.trail.steps gone frees spare ready.rooted;
    attached = attached_freed core.store s' core.trail.steps gone frees spare core.watches.attached w.attached less ready.attached;
    none_listed = ready.none_listed;
    following = following;
    within = within_freed core.store s' core.trail.steps gone frees spare core.trail.declared ready.within;
    assumed = ready.assumed;
    watched = rw size ready.watched;
    room = ready.room;
    orderly = ready.orderly;
    decided = ready.decided;
  }

  pub freed_stands : IsBetweenTurns assumptions (record core { store = s'; watches = w })
  freed_stands = record { ready = freed_ready; first = stands.first; unspent = stands.unspent; settled = stands.settled }

  pub freed_keeps : Keeps core (record core { store = s'; watches = w })
  freed_keeps = keeps_ready assumptions core (record core { store = s'; watches = w }) stands.ready freed_ready (learns_freed core.store s' core.trail.steps gone frees spare) refl refl

-- a store in which every id names what it did
module _ (s s' : List (Option Stored)) (same : SameSlots s s') where
  rooted_by_same : (t : List Step) (i : ℕ) (r : Reason) → RootedBy s t i r → RootedBy s' t i r
  rooted_by_same t i Decision h = tt
  rooted_by_same t i (Clause k) h = rw (same k) h
  rooted_by_same t i Theory h = h

  rooted_at_same : (t : List Step) (i : ℕ) → RootedAt s t i → RootedAt s' t i
  rooted_at_same t i (inl r) = inl (rooted_by_same t i (step t i).reason r)
  rooted_at_same t i (inr u) = let unit = u.1 in inr (u.0, (unit.0, rw (same unit.0) unit.1, rw (same unit.0) unit.2))

  pub rooted_same : (t : List Step) → Rooted s t → Rooted s' t
  rooted_same t rooted = rooted_from s' t (λ i in'. rooted_at_same t i (rooted_each s t rooted i in'))

  pub learns_slots : Learns s s'
  learns_slots = record {
    firm = λ k h. same k;
    no_more = λ k h. same k;
    implied = λ f. known_more s s' f (λ sat k live. let e = same k in rw e (sat k (rw e at live)));
  }

-- a core with such a store
module _ {assumptions : List ℕ} {core : Core} {s' : List (Option Stored)} {w : Watching} (same : SameSlots core.store s') (kept : w.attached ≡ core.watches.attached) (size : w.declared ≡ core.watches.declared) (following : Follows w s' core.trail) where
  pub stored_ready : IsReady assumptions core → IsReady assumptions (record core { store = s'; watches = w })
  stored_ready ready = record {
    rooted = rooted_same core.store s' same core.trail.steps ready.rooted;
    attached = λ id. rw (kept, same id) (ready.attached id);
    none_listed = ready.none_listed;
    following = following;
    within = λ id live. let e = same id in rw e (ready.within id (rw e at live));
    assumed = ready.assumed;
    watched = rw size ready.watched;
    room = ready.room;
    orderly = ready.orderly;
    decided = ready.decided;
  }

  pub stored_stands : IsBetweenTurns assumptions core → IsBetweenTurns assumptions (record core { store = s'; watches = w })
  stored_stands stands = record { ready = stored_ready stands.ready; first = stands.first; unspent = stands.unspent; settled = stands.settled }

  pub stored_keeps : IsReady assumptions core → Keeps core (record core { store = s'; watches = w })
  stored_keeps ready = keeps_ready assumptions core (record core { store = s'; watches = w }) ready (stored_ready ready) (learns_slots core.store s' same) refl refl

-- a clause that came and went
pub fills_frees : (s s' s'' : List (Option Stored)) (id : ℕ) (c : Stored) → Fills s s' id c → Frees s' s'' id → SameSlots s s''
fills_frees s s' s'' id c fills frees k =
    elim (cases_eq k id) [
      | inl e ↦ rw (e, frees.freed, fills.free) refl
      | inr n ↦ frees.others k n ∙ fills.others k n
    ]

-- nothing is forgotten yet
pub frees_none : (s : List (Option Stored)) → FreesAll s s []
frees_none s = record { freed = λ id h. absurd (false≢true h); others = λ id h. refl }

-- one id of the list more
pub frees_next : (s a b : List (Option Stored)) (ids : List ℕ) (i id : ℕ) → i < length ids → id ≡ get_or ids i id → FreesAll s a (take i ids) → Frees a b id → FreesAll s b (take (i + 1) ids)
frees_next s a b ids i id in' is all frees = record {
  freed = λ k there.
      elim (cases_eq k id) [
        | inl e ↦ ap (slot b) e ∙ frees.freed
        | inr n ↦
            frees.others k n ∙
            elim (has_more ids i id k in' is there) [
              | inl before ↦ all.freed k before
              | inr e ↦ absurd (n (sym e))
            ]
      ];
  others = λ k out.
      let n : k ≢ id = λ e. false≢true (sym out ∙ rw e (has_here ids i id in' is)) in
      frees.others k n ∙ all.others k (false_from_ne_true (has (take i ids) k) (λ before. false≢true (sym out ∙ has_before ids i id k in' before)));
}

-- an id that is not removed yet is live
pub still_live : (s a : List (Option Stored)) (ids : List ℕ) (i id : ℕ) → times ids id ≤ 1 → i < length ids → id ≡ get_or ids i id → FreesAll s a (take i ids) → IsSome (slot s id) → IsSome (slot a id)
still_live s a ids i id once in' is all live = rw (all.others id (once_fresh ids i id once in' is)) live

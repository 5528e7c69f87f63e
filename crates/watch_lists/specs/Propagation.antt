-- Propagation: attached clauses, and what they imply on a trail.
use Rattle.std.specs.Prelude.{◌≡◌, ◌≢◌, ◌⊎◌, ◌<◌, ◌≤◌, ◌++◌, ◌==◌, ℕ, suc, Bool, true, false, if◌then◌else◌, List, [], ◌∷◌, length, slice_index_or, Option, IsSome}
use Rattle.sat_terms.specs.Literal.{has}
use Rattle.sat_terms.specs.Answer.{Within}
use Rattle.clause_store.specs.Stored.{Stored, slot, slot_lits}
use Rattle.trail_state.specs.declared.trail.Step.{Step}
use Rattle.trail_state.specs.declared.reason.Reason.TheVariants.{Clause}
use Rattle.trail_state.specs.Trail.{Trace, step, IsBack}
use Rattle.trail_state.specs.Clauses.{IsQuiet, IsReason}
use Rattle.watch_lists.specs.declared.lists.Watch.{Watch}
use Rattle.watch_lists.specs.Watching.{copy, front, pairs, at, tally, Kept, AllCopied, TrueIn, FollowsOn}

-- whether an id is marked
abbrev pub marked : List Bool → ℕ → Bool
marked marks id = slice_index_or marks id false

-- the marked ids from a number on
abbrev pub ids_from : ℕ → List Bool → List ℕ
ids_from n [] = []
ids_from n (b ∷ marks) = if b then n ∷ ids_from (suc n) marks else ids_from (suc n) marks

-- the marked ids
unfoldable pub ids_of : List Bool → List ℕ
ids_of marks = ids_from 0 marks

-- What contracts see of the lists: the ids of the attached clauses, how many variables are declared, and the attached clauses that
-- no list has yet. The other fields are for `Follows`: the lists of watches by literal, the copies of the clauses that are watched,
-- the clauses of fewer than two literals, of which so many in front are true at the root, and the head: the first place of the
-- trail whose literal has not been looked at.
pub record Watching : Type 0 where
  pub attached : List ℕ
  pub declared : ℕ
  pub waiting : List ℕ
  pub lists : List (List Watch)
  pub copies : List (List ℕ)
  pub short : List ℕ
  pub fixed : ℕ
  pub head : ℕ

-- the clause watches two literals, or it waits, or it has no two literals
abbrev pub Stands : List (List ℕ) → List ℕ → List ℕ → ℕ → Type 0
Stands cs waiting short id = ((front (copy cs id)).first ≢ (front (copy cs id)).second) ⊎ ((has waiting id ≡ true) ⊎ (has short id ≡ true))

-- The lists have the attached clauses of the store, and no other.
pub record Fits (ids waiting short : List ℕ) (lists : List (List Watch)) (cs : List (List ℕ)) (s : List (Option Stored)) : Type 0 where
  pub kept : Kept ids s (length lists) (at lists) (pairs cs)
  pub copied : AllCopied s cs
  pub bare : (id : ℕ) → (copy cs id ≡ []) ⊎ ((front (copy cs id)).first ≢ (front (copy cs id)).second)
  pub waits : (id : ℕ) → has waiting id ≡ true → has ids id ≡ true
  pub shorts : (id : ℕ) → has short id ≡ true → (has ids id ≡ true) × (length (slot_lits (slot s id)) < 2)
  pub stands : (id : ℕ) → has ids id ≡ true → Stands cs waiting short id

-- a literal of the clause is true at the root
pub record TrueAtRoot (c : List ℕ) (t : List Step) : Type 0 where
  pub true_in : TrueIn c t
  pub root : (step t true_in.place).level ≡ 0

-- the first of the listed clauses are true at the root
pub record AllFixed (s : List (Option Stored)) (short : List ℕ) (fixed : ℕ) (t : List Step) : Type 0 where
  pub few : fixed ≤ length short
  pub at_root : (k : ℕ) → k < fixed → TrueAtRoot (slot_lits (slot s (slice_index_or short k 0))) t

-- The lists follow a trail over a store, as `propagate` asks. Callers use the laws of `Watches` alone.
pub record Follows (w : Watching) (s : List (Option Stored)) (t : Trace) : Type 0 where
  pub fits : Fits w.attached w.waiting w.short w.lists w.copies s
  pub fixed : AllFixed s w.short w.fixed t.steps
  pub on : FollowsOn s (pairs w.copies) t.steps w.head

abbrev pub no_watch : Watch
no_watch = record { id = 0; blocker = 0; binary = false }

-- A clause stands once in each of exactly two lists, those of two of its literals, and is blocked there by a literal of it.
pub record IsWatched (lists : List (List Watch)) (c : List ℕ) (id : ℕ) : Type 0 where
  pub first : ℕ
  pub second : ℕ
  pub apart : first ≢ second
  pub holds_first : has c first ≡ true
  pub holds_second : has c second ≡ true
  pub once : (l : ℕ) → tally id (at lists l) ≡ (if first == l then 1 else if second == l then 1 else 0)
  pub blocked : (l k : ℕ) → k < length (at lists l) → (slice_index_or (at lists l) k no_watch).id ≡ id → has c (slice_index_or (at lists l) k no_watch).blocker ≡ true

-- No clause waits. Each attached clause of two or more literals is watched, and the others stand in no list.
pub record IsListed (w : Watching) (s : List (Option Stored)) : Type 0 where
  pub none_waits : w.waiting ≡ []
  pub watched : (id : ℕ) → has w.attached id ≡ true → 2 ≤ length (slot_lits (slot s id)) → IsWatched w.lists (slot_lits (slot s id)) id
  pub unlisted : (id : ℕ) → has w.attached id ≡ true → length (slot_lits (slot s id)) < 2 → (l : ℕ) → tally id (at w.lists l) ≡ 0

-- the trail is one that the lists followed, cut back to a level
pub record CanFollow (w : Watching) (now : Trace) : Type 0 where
  pub store : List (Option Stored)
  pub before : Trace
  pub level : ℕ
  pub followed : Follows w store before
  pub back : IsBack before now level

-- the id names a live clause whose variables are among the first n
abbrev pub IsReadyAt : ℕ → List (Option Stored) → ℕ → Type 0
IsReadyAt id s n = IsSome (slot s id) × Within n (slot_lits (slot s id))

-- each of the ids names one
abbrev pub AllReady : List ℕ → List (Option Stored) → ℕ → Type 0
AllReady ids s n = (id : ℕ) → has ids id ≡ true → IsReadyAt id s n

-- The step at place i stands at this level, and one of the clauses of these ids is its reason.
pub record IsImplied (ids : List ℕ) (s : List (Option Stored)) (t : List Step) (level i : ℕ) : Type 0 where
  pub stands : (step t i).level ≡ level
  pub by : ℕ
  pub attached : has ids by ≡ true
  pub reason : (step t i).reason ≡ Clause by
  pub implied : IsReason (slot_lits (slot s by)) t i

-- The trail has grown at its level by literals that clauses of these ids imply.
pub record Grown (ids : List ℕ) (s : List (Option Stored)) (old new : Trace) : Type 0 where
  pub level : new.level ≡ old.level
  pub declared : new.declared ≡ old.declared
  pub tail : List Step
  pub steps : new.steps ≡ old.steps ++ tail
  pub implied : (i : ℕ) → length old.steps ≤ i → i < length new.steps → IsImplied ids s new.steps old.level i

-- none of the clauses of these ids is false or unit
abbrev pub AllQuiet : List ℕ → List (Option Stored) → List Step → Type 0
AllQuiet ids s t = (id : ℕ) → has ids id ≡ true → IsQuiet t (slot_lits (slot s id))

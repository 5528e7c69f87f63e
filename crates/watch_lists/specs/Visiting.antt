-- What visits to the watches of a literal do.
use Rattle.std.specs.Prelude.{◌≡◌, ◌≢◌, ◌⊎◌, ◌<◌, ◌≤◌, ◌++◌, ℕ, Bool, true, false, List, [], ◌∷◌, length, slice_index_or, slice_set, Option}
use Rattle.sat_terms.specs.Literal.{has, neg, var_of}
use Rattle.clause_store.specs.Stored.{Stored, slot, slot_lits}
use Rattle.trail_state.specs.declared.trail.Step.{Step}
use Rattle.trail_state.specs.Trail.{Trace, step, true_on}
use Rattle.trail_state.specs.Clauses.{FalseOn, IsQuiet}
use Rattle.watch_lists.specs.declared.lists.Watch.{Watch}
use Rattle.watch_lists.specs.declared.visits.Settled.{Settled}
use Rattle.watch_lists.specs.declared.visits.Settled.TheVariants.{Stays, Moves as Moved, False}
use Rattle.watch_lists.specs.Watching.{Pair, copy, front, pair, at, WatchesIt, Blocks, IsOnce, TrueIn}

-- the variables of the literals are among the first n
abbrev pub AllDeclared : ℕ → List ℕ → Type 0
AllDeclared n c = (l : ℕ) → has c l ≡ true → var_of l ≤ n

-- the literal of the pair that is not f
abbrev pub OtherOf : Pair → ℕ → ℕ → Type 0
OtherOf p f o = ((p.first ≡ f) × (p.second ≡ o)) ⊎ ((p.second ≡ f) × (p.first ≡ o))

-- the literal at place k, behind the two in front, is not false
pub record IsNextAt (t : List Step) (c : List ℕ) (k : ℕ) : Type 0 where
  pub late : 2 ≤ k
  pub within : k < length c
  pub open_yet : true_on t (neg (slice_index_or c k 0)) ≡ false

-- all literals of the clause from the third on, and before place m, are false
abbrev pub NoneFrom : List Step → List ℕ → ℕ → Type 0
NoneFrom t c m = (k : ℕ) → 2 ≤ k → k < m → k < length c → true_on t (neg (slice_index_or c k 0)) ≡ true

-- all literals of the clause but that one are false
abbrev pub NoNext : List Step → List ℕ → ℕ → Type 0
NoNext t c other = (l : ℕ) → has c l ≡ true → l ≢ other → true_on t (neg l) ≡ true

-- a place behind the two in front, whose literal has a list
pub record InReach (c : List ℕ) (k n : ℕ) : Type 0 where
  pub late : 2 ≤ k
  pub within : k < length c
  pub listed : slice_index_or c k 0 < n

-- A watch moved to the list of the literal at place k.
pub record MovesTo (id f other k : ℕ) (ls ls' : List (List Watch)) (cs cs' : List (List ℕ)) : Type 0 where
  pub lists : ls' ≡ slice_set ls (slice_index_or (copy cs id) k 0) (at ls (slice_index_or (copy cs id) k 0) ++ record { id = id; blocker = other; binary = false } ∷ [])
  pub now : List ℕ
  pub copies : cs' ≡ slice_set cs id now
  pub fronted : front now ≡ record { first = other; second = slice_index_or (copy cs id) k 0 }
  pub same : (l : ℕ) → has now l ≡ has (copy cs id) l
  pub once : IsOnce (copy cs id) → IsOnce now

-- how the look at a clause ends whose literals but one are false
abbrev pub ConcludedIs : Settled → ℕ → List ℕ → List Step → Type 0
ConcludedIs (Stays b) other c t = (b ≡ other) × (true_on t other ≡ true)
ConcludedIs Moved other c t = ⊥
ConcludedIs False other c t = FalseOn t c

-- the watch stays, and its clause has a true literal
pub record Stayed (c : List ℕ) (f : ℕ) (w : Watch) (ls ls' : List (List Watch)) (cs cs' : List (List ℕ)) (t : List Step) : Type 0 where
  pub lists : ls' ≡ ls
  pub copies : cs' ≡ cs
  pub blocks : Blocks c f w
  pub true_in : TrueIn c t

-- the watch moved to a literal that is not false
pub record MovedOn (id f : ℕ) (c : List ℕ) (ls ls' : List (List Watch)) (cs cs' : List (List ℕ)) (t : List Step) : Type 0 where
  pub other : ℕ
  pub next : ℕ
  pub one : OtherOf (front (copy cs id)) f other
  pub holds : has c next ≡ true
  pub apart : next ≢ other
  pub open_yet : true_on t (neg next) ≡ false
  pub lists : ls' ≡ slice_set ls next (at ls next ++ record { id = id; blocker = other; binary = false } ∷ [])
  pub now : List ℕ
  pub copies : cs' ≡ slice_set cs id now
  pub fronted : front now ≡ record { first = other; second = next }
  pub same : (l : ℕ) → has now l ≡ has (copy cs id) l
  pub once : IsOnce (copy cs id) → IsOnce now

-- the look found every literal false
pub record FoundFalse (c : List ℕ) (ls ls' : List (List Watch)) (cs cs' : List (List ℕ)) (t : List Step) : Type 0 where
  pub lists : ls' ≡ ls
  pub copies : cs' ≡ cs
  pub all_false : FalseOn t c

-- what became of a watch
abbrev pub SettledIs : Settled → ℕ → Bool → ℕ → List (Option Stored) → List (List Watch) → List (List Watch) → List (List ℕ) → List (List ℕ) → Trace → Trace → Type 0
SettledIs (Stays b) id binary f s ls ls' cs cs' t t' = Stayed (slot_lits (slot s id)) f (record { id = id; blocker = b; binary = binary }) ls ls' cs cs' t'.steps
SettledIs Moved id binary f s ls ls' cs cs' t t' = (t' ≡ t) × MovedOn id f (slot_lits (slot s id)) ls ls' cs cs' t.steps
SettledIs False id binary f s ls ls' cs cs' t t' = FoundFalse (slot_lits (slot s id)) ls ls' cs cs' t'.steps

-- each watch's clause has a true literal
abbrev pub AllTrueIn : List (Option Stored) → List Watch → List Step → Type 0
AllTrueIn s [] t = Unit {0}
AllTrueIn s (w ∷ ws) t = TrueIn (slot_lits (slot s w.id)) t × AllTrueIn s ws t

-- the clause is attached, and false
pub record IsConflict (ids : List ℕ) (s : List (Option Stored)) (t : List Step) (id : ℕ) : Type 0 where
  pub attached : has ids id ≡ true
  pub all_false : FalseOn t (slot_lits (slot s id))

-- From the place `start` on, and before `sure`, all literals stand at the current level.
pub record IsLeveled (t : Trace) (start sure : ℕ) : Type 0 where
  pub same : (i : ℕ) → start ≤ i → i < length t.steps → i < sure → (step t.steps i).level ≡ t.level

-- each clause that watches the literal which is false at a place has a true literal
pub record IsPassed (s : List (Option Stored)) (ps : List Pair) (t : List Step) (place : ℕ) : Type 0 where
  pub true_in : (id : ℕ) → WatchesIt (pair ps id) (neg (step t place).lit) → TrueIn (slot_lits (slot s id)) t

-- no clause that watches two literals is false or unit
pub record WatchedQuiet (s : List (Option Stored)) (ps : List Pair) (t : List Step) : Type 0 where
  pub quiet : (id : ℕ) → (pair ps id).first ≢ (pair ps id).second → IsQuiet t (slot_lits (slot s id))

-- Lists of watches: which clauses watch which literals, and how the lists follow a trail.
use Rattle.std.specs.Prelude.{◌≡◌, ◌≢◌, ◌⊎◌, ◌<◌, ◌≤◌, ◌+◌, ◌==◌, ◌&&◌, ℕ, true, false, not, if◌then◌else◌, List, [], ◌∷◌, length, map, filter, slice_index_or, slice_set, Option}
use Rattle.sat_terms.specs.Literal.{has, neg}
use Rattle.clause_store.specs.Stored.{Stored, slot, slot_lits}
use Rattle.trail_state.specs.declared.trail.Step.{Step}
use Rattle.trail_state.specs.Trail.{step}
use Rattle.watch_lists.specs.declared.lists.Watch.{Watch}

-- the two literals that a clause watches; the same literal twice for none
pub record Pair : Type 0 where
  pub first : ℕ
  pub second : ℕ

-- the copy of a clause, empty if there is none
abbrev pub copy : List (List ℕ) → ℕ → List ℕ
copy cs id = slice_index_or cs id []

-- the two literals in front of a copy
abbrev pub front : List ℕ → Pair
front [] = record { first = 0; second = 0 }
front (a ∷ []) = record { first = 0; second = 0 }
front (a ∷ b ∷ c) = record { first = a; second = b }

abbrev pub pairs : List (List ℕ) → List Pair
pairs cs = map front cs

abbrev pub pair : List Pair → ℕ → Pair
pair ps id = slice_index_or ps id (record { first = 0; second = 0 })

-- a list with these two in front, and another one at place k
abbrev pub turned : List ℕ → ℕ → ℕ → ℕ → ℕ → List ℕ
turned c a b k x = slice_set (slice_set (slice_set c 0 a) 1 b) k x

-- the literals of a clause, with two of them in front
abbrev pub copied : ℕ → ℕ → List ℕ → List ℕ
copied a b c = a ∷ b ∷ filter (λ l. not (l == a) && not (l == b)) c

-- the list of a literal
abbrev pub at : List (List Watch) → ℕ → List Watch
at ls l = slice_index_or ls l []

-- how often a clause stands in a list
abbrev pub tally : ℕ → List Watch → ℕ
tally id [] = 0
tally id (w ∷ ws) = (if w.id == id then 1 else 0) + tally id ws

-- how often a clause of this pair is to stand in the list of a literal
abbrev pub expects : Pair → ℕ → ℕ
expects p l = if p.first == p.second then 0 else if p.first == l then 1 else if p.second == l then 1 else 0

-- a clause of this pair watches the literal
pub record WatchesIt (p : Pair) (l : ℕ) : Type 0 where
  pub differ : p.first ≢ p.second
  pub one : (p.first ≡ l) ⊎ (p.second ≡ l)

-- what is known of a clause that watches the pair: it is attached, and has these literals and none from n on
pub record HoldsPair (ids : List ℕ) (id : ℕ) (x : Option Stored) (n : ℕ) (p : Pair) : Type 0 where
  pub attached : has ids id ≡ true
  pub first : has (slot_lits x) p.first ≡ true
  pub second : has (slot_lits x) p.second ≡ true
  pub within : (l : ℕ) → has (slot_lits x) l ≡ true → l < n

-- The blocker of a watch in the list of l is a literal of the clause, and of a binary watch there are no other literals.
pub record Blocks (c : List ℕ) (l : ℕ) (w : Watch) : Type 0 where
  pub holds : has c w.blocker ≡ true
  pub both : w.binary ≡ true → (k : ℕ) → has c k ≡ true → (k ≡ l) ⊎ (k ≡ w.blocker)

abbrev pub AllBlock : List (Option Stored) → ℕ → List Watch → Type 0
AllBlock s l [] = Unit {0}
AllBlock s l (w ∷ ws) = Blocks (slot_lits (slot s w.id)) l w × AllBlock s l ws

-- The lists, seen as a function of the literals below n, and the pairs that the clauses watch say the same.
pub record Kept (ids : List ℕ) (s : List (Option Stored)) (n : ℕ) (lists : ℕ → List Watch) (ps : List Pair) : Type 0 where
  pub tallied : (l id : ℕ) → l < n → tally id (lists l) ≡ expects (pair ps id) l
  pub held : (id : ℕ) → (pair ps id).first ≢ (pair ps id).second → HoldsPair ids id (slot s id) n (pair ps id)
  pub blocking : (l : ℕ) → l < n → AllBlock s l (lists l)

-- two clauses hold the same literals
abbrev pub SameLits : List ℕ → List ℕ → Type 0
SameLits c d = (l : ℕ) → has c l ≡ has d l

-- no literal stands twice
abbrev pub IsOnce : List ℕ → Type 0
IsOnce [] = Unit {0}
IsOnce (l ∷ c) = (has c l ≡ false) × IsOnce c

-- the literals of a clause, each once, in any order
pub record IsCopy (c d : List ℕ) : Type 0 where
  pub same : SameLits c d
  pub once : IsOnce c

-- the copy of each clause that watches has the clause's literals
abbrev pub AllCopied : List (Option Stored) → List (List ℕ) → Type 0
AllCopied s cs = (id : ℕ) → (front (copy cs id)).first ≢ (front (copy cs id)).second → IsCopy (copy cs id) (slot_lits (slot s id))

-- Where there was no copy there is none, and a clause that watched two literals does so.
pub record CopiesKeep (cs cs' : List (List ℕ)) : Type 0 where
  pub none : (id : ℕ) → copy cs id ≡ [] → copy cs' id ≡ []
  pub differ : (id : ℕ) → (front (copy cs id)).first ≢ (front (copy cs id)).second → (front (copy cs' id)).first ≢ (front (copy cs' id)).second

-- the lists with another one at a literal
abbrev pub put_at : (ℕ → List Watch) → ℕ → List Watch → ℕ → List Watch
put_at ls f ws l = if f == l then ws else ls l

-- a literal of the clause is true, at a place of the trail
pub record TrueIn (c : List ℕ) (t : List Step) : Type 0 where
  pub place : ℕ
  pub within : place < length t
  pub holds : has c (step t place).lit ≡ true

-- A literal of the clause is true, and at a level not above that of place i, if i is before `sure`.
pub record Covered (c : List ℕ) (t : List Step) (i sure : ℕ) : Type 0 where
  pub true_in : TrueIn c t
  pub low : i < sure → (step t true_in.place).level ≤ (step t i).level

-- Each clause that watches a literal which is false at a place before m has a true literal.
abbrev pub Covers : List (Option Stored) → List Pair → List Step → ℕ → ℕ → Type 0
Covers s ps t m sure = (i id : ℕ) → i < m → WatchesIt (pair ps id) (neg (step t i).lit) → Covered (slot_lits (slot s id)) t i sure

-- What was covered on the old trail by the old pairs is covered on the new ones.
pub record CoverStays (s : List (Option Stored)) (ps ps' : List Pair) (t t' : List Step) : Type 0 where
  pub covers : (m sure : ℕ) → m ≤ length t → Covers s ps t m sure → Covers s ps' t' m sure

-- The watches follow the trail: each clause that watches a literal which is false at a place before the head has a true
-- literal, at a level not above that place's.
pub record FollowsOn (s : List (Option Stored)) (ps : List Pair) (t : List Step) (head : ℕ) : Type 0 where
  pub within : head ≤ length t
  pub covers : Covers s ps t head head

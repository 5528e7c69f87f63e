-- Which entries of a reconstruction stack some literals need, and stacks from which they have
-- left (Fazekas, Biere, Scholl, SAT 2019).
use Rattle.std.specs.Prelude.{◌≡◌, ℕ, suc, ◌<◌, ◌↔◌, Bool, true, false, List, [], ◌∷◌, length}
use Rattle.std.specs.Prelude.{slice_index_or, IsTrue}
use Rattle.redundancy.specs.Redundancy.{Entry, entry, touches}

-- An entry is needed for some literals if its witness holds the negation of one of them, or the
-- negation of a literal in the clause of an older needed entry.
pub data Needed (lits : List ℕ) (s : List Entry) : ℕ → Type 0 where
  by_literal : {k : ℕ} → k < length s → touches (entry s k).witness lits ≡ true → Needed lits s k
  by_entry : {j k : ℕ} → j < k → k < length s → Needed lits s j
      → touches (entry s k).witness (entry s j).clause ≡ true → Needed lits s k

-- A list of entries, which are numbered from a number on, and the same without exactly those
-- whose number has P: the others keep their order.
pub data Without (P : ℕ → Type 0) : ℕ → List Entry → List Entry → Type 0 where
  ended : (k : ℕ) → Without P k [] []
  gone : (k : ℕ) (e : Entry) (s t : List Entry) → P k → Without P (suc k) s t
      → Without P k (e ∷ s) t
  kept : (k : ℕ) (e : Entry) (s t : List Entry) → (P k → ⊥) → Without P (suc k) s t
      → Without P k (e ∷ s) (e ∷ t)

-- The same without some of those whose number has P.
pub data WithoutSome (P : ℕ → Type 0) : ℕ → List Entry → List Entry → Type 0 where
  at_end : (k : ℕ) → WithoutSome P k [] []
  left : (k : ℕ) (e : Entry) (s t : List Entry) → P k → WithoutSome P (suc k) s t
      → WithoutSome P k (e ∷ s) t
  stayed : (k : ℕ) (e : Entry) (s t : List Entry) → WithoutSome P (suc k) s t
      → WithoutSome P k (e ∷ s) (e ∷ t)

-- truth values, one for each entry, say which are needed
abbrev pub SayNeeded : List Bool → List ℕ → List Entry → Type 0
SayNeeded flags lits s =
    (k : ℕ) → k < length s → IsTrue (slice_index_or flags k false) ↔ Needed lits s k

-- exactly the needed entries have left, and the others keep their order
abbrev pub NeededLeft : List ℕ → List Entry → List Entry → Type 0
NeededLeft lits old new = Without (Needed lits old) 0 old new

-- none but needed entries have left, and the others keep their order
abbrev pub OnlyNeededLeft : List ℕ → List Entry → List Entry → Type 0
OnlyNeededLeft lits old new = WithoutSome (Needed lits old) 0 old new

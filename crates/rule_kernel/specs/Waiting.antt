-- The clauses that wait to be compared, for subsumption.
use Rattle.std.specs.Prelude.{◌≡◌, ◌≢◌, ◌==◌, ◌||◌, ◌&&◌, ℕ, not, List, slice_index_or}
use Rattle.sat_terms.specs.Literal.{has}
use Rattle.firm_terms.specs.Signing.{IsSignature}

-- the ids of the clauses that wait to be tried on all others, and of those on which all others wait to be tried, each once
pub record Waiting : Type 0 where
  pub due : List ℕ
  pub fresh : List ℕ

-- the same, the signatures of clauses by their ids, and the number below which the ids lie that there is room for
pub record Waitable : Type 0 where
  pub due : List ℕ
  pub fresh : List ℕ
  pub signatures : List ℕ
  pub room : ℕ

-- the signature that is kept for an id
abbrev pub signature : List ℕ → ℕ → ℕ
signature signatures id = slice_index_or signatures id 0

-- the signature of a clause is kept for an id, and every other id has the one that it had
pub record Signs (old new : List ℕ) (id : ℕ) (c : List ℕ) : Type 0 where
  pub here : IsSignature c (signature new id)
  pub others : (other : ℕ) → other ≢ id → signature new other ≡ signature old other

abbrev pub waiting : Waitable → Waiting
waiting w = record { due = w.due; fresh = w.fresh }

-- the clause of an id comes: it waits in both ways
pub record Waits (old new : Waiting) (id : ℕ) : Type 0 where
  pub due : (k : ℕ) → has new.due k ≡ (has old.due k || id == k)
  pub fresh : (k : ℕ) → has new.fresh k ≡ (has old.fresh k || id == k)

-- it goes, and waits no longer
pub record Leaves (old new : Waiting) (id : ℕ) : Type 0 where
  pub due : (k : ℕ) → has new.due k ≡ (has old.due k && not (id == k))
  pub fresh : (k : ℕ) → has new.fresh k ≡ (has old.fresh k && not (id == k))

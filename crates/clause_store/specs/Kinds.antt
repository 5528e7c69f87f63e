-- The lists of the firm ids and of the redundant ids.
use Rattle.std.specs.Prelude.{◌≡◌, ◌<◌, ℕ, List, length, slice_index_or}
use Rattle.clause_store.specs.declared.stored.Keep.{Keep}
use Rattle.clause_store.specs.Listing.{times}
use Rattle.clause_store.specs.Lists.{Gains, firm_share, redundant_share}

-- the ids of either kind
pub record KindLists : Type 0 where
  pub firm : List ℕ
  pub redundant : List ℕ

-- the new lists name one id more, that of a clause of this kind
pub record ListsMore (old new : KindLists) (id : ℕ) (keep : Keep) : Type 0 where
  pub firm : Gains old.firm new.firm id (firm_share keep)
  pub redundant : Gains old.redundant new.redundant id (redundant_share keep)

-- each member's place is the one where it stands
abbrev pub IsPlaced : List ℕ → List ℕ → Type 0
IsPlaced members places =
    (k : ℕ) → k < length members → (slice_index_or members k 0 < length places)
    × (slice_index_or places (slice_index_or members k 0) 0 ≡ k)

-- no id is in both lists
pub record AreApart (a b : List ℕ) : Type 0 where
  pub none : (id : ℕ) → 0 < times a id → times b id ≡ 0

-- The members of both lists have their places in one table, and no id is in both.
pub record ArePlaced (firm redundant places : List ℕ) : Type 0 where
  pub firm_placed : IsPlaced firm places
  pub redundant_placed : IsPlaced redundant places
  pub apart : AreApart firm redundant

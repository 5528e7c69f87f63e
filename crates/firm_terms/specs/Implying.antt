-- Implications between literals, and the literals that lead to one another (Aspvall, Plass, Tarjan, 1979).
use Rattle.std.specs.Prelude.{◌≡◌, ◌≢◌, ℕ, Bool, true, false, List, length, Option}
use Rattle.sat_terms.specs.Literal.{has, neg, var_of, pos_lit}
use Rattle.clause_store.specs.Stored.{Stored, slot, slot_lits, is_firm}

-- steps of a relation, one after another
pub data Leads (E : ℕ → ℕ → Type 0) (a : ℕ) : ℕ → Type 0 where
  here : Leads E a a
  more : (b c : ℕ) → Leads E a b → E b c → Leads E a c

-- a strong component: each leads to the other
abbrev pub Joined : (ℕ → ℕ → Type 0) → ℕ → ℕ → Type 0
Joined E a b = Leads E a b × Leads E b a

-- the clause has just the two literals -a and b
pub record IsPairOf (c : List ℕ) (a b : ℕ) : Type 0 where
  pub two : length c ≡ 2
  pub from : has c (neg a) ≡ true
  pub to : has c b ≡ true
  pub apart : b ≢ neg a

-- the clause of an id is firm and has just the two literals -a and b: it says that a implies b
pub record Says (s : List (Option Stored)) (id a b : ℕ) : Type 0 where
  pub firm : is_firm (slot s id) ≡ true
  pub by : IsPairOf (slot_lits (slot s id)) a b

-- a binary firm clause says that a implies b
abbrev pub Implication : List (Option Stored) → ℕ → ℕ → Type 0
Implication s a b = (id : ℕ) × Says s id a b

-- No variable that is not frozen is equivalent, by a strong component of the binary implications,
-- to a literal of another variable.
abbrev pub NoEquivalents : (ℕ → Bool) → List (Option Stored) → Type 0
NoEquivalents frozen s = (v l : ℕ) → frozen v ≡ false → var_of l ≢ v
    → Joined (Implication s) (pos_lit v) l → ⊥

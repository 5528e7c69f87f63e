-- Normal forms of clauses.
use Rattle.std.specs.Prelude.{◌≡◌, ℕ, true, List}
use Rattle.sat_terms.specs.Literal.{has, neg}
use Rattle.sat_terms.specs.Normal.{IsNormal}

-- a clause that holds a literal and its negation
abbrev pub IsTautology : List ℕ → Type 0
IsTautology c = (l : ℕ) × (has c l ≡ true) × (has c (neg l) ≡ true)

-- both clauses hold the same literals
abbrev pub SameLits : List ℕ → List ℕ → Type 0
SameLits c d = (l : ℕ) → has c l ≡ has d l

-- a normal clause that holds the literals of another
pub record IsFormOf (form c : List ℕ) : Type 0 where
  pub normal : IsNormal form
  pub same : SameLits form c

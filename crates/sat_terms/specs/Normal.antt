-- Normal clauses, the one form in which a clause is stored: sorted, and neither repeating a literal nor a tautology.
use Rattle.std.specs.Prelude.{◌≢◌, ℕ, ◌<◌, List, AllPairs}
use Rattle.sat_terms.specs.Literal.{var_of}

-- The literals stand in strictly rising code, and no variable stands twice.
pub record IsNormal (c : List ℕ) : Type 0 where
  pub rising : AllPairs (λ a b. a < b) c
  pub apart : AllPairs (λ a b. var_of a ≢ var_of b) c

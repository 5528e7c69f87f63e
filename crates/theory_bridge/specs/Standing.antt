-- What always holds of a bridge: the propagator is in step with the seen trail, and what lies on
-- the desk may be taken.
use Rattle.std.specs.Prelude.{ℕ, ◌≡◌, true, List, [], All}
use Rattle.sat_terms.specs.Literal.{has, var_of}
use Rattle.sat_terms.specs.Truth.{Assignment, clause_true}
use Rattle.user_propagator.specs.Board.{Board, Handed}
use Rattle.user_propagator.specs.Meaning.{Meaning, InStep}
use Rattle.theory_bridge.specs.Later.{is_known_on}

-- Each variable of a handed clause is observed or asked for, and every assignment that is admitted
-- now makes the clause true.
pub record IsFairOn (t : Meaning) (b : Board) (h : Handed) : Type 0 where
  pub reached : (l : ℕ) → has h.clause l ≡ true → is_known_on b (var_of l) ≡ true
  pub implied : (f : Assignment) → t.admits f ≡ true → clause_true f h.clause ≡ true

pub record Stands (t : Meaning) (b : Board) : Type 0 where
  pub in_step : InStep t b
  pub fair : All (IsFairOn t b) b.handed

-- a clause whose variables are observed, and that every admitted assignment makes true
pub record IsReadyClause (t : Meaning) (b : Board) (c : List ℕ) : Type 0 where
  pub observed : (l : ℕ) → has c l ≡ true → has b.observed (var_of l) ≡ true
  pub implied : (f : Assignment) → t.admits f ≡ true → clause_true f c ≡ true

-- it stands, and nothing was told yet
pub record IsFresh (t : Meaning) (b : Board) : Type 0 where
  pub stands : Stands t b
  pub seen : b.seen ≡ []
  pub level : b.level ≡ 0

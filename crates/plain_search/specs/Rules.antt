-- What has to be true: each assumption as a clause of one literal, and then the clauses.
use Rattle.std.specs.Prelude.{ℕ, List, [], ◌∷◌, ◌++◌, map}

-- the clauses of one literal each
abbrev pub units : List ℕ → List (List ℕ)
units lits = map (λ l. l ∷ []) lits

abbrev pub rules : List ℕ → List (List ℕ) → List (List ℕ)
rules assumed clauses = units assumed ++ clauses

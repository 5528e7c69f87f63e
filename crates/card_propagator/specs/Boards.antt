-- The desks of tests.
use Rattle.std.specs.Prelude.{ℕ, Bool, true, false, ◌∷◌, []}
use Rattle.user_propagator.specs.declared.seen.Seen.{Seen}
use Rattle.user_propagator.specs.Board.{Board, empty_board}

-- a literal that was told
abbrev pub told : ℕ → ℕ → Bool → Seen
told l level decision = record { lit = l; level = level; decision = decision }

-- a desk on which the variables 1, 2 and 3 are observed
abbrev pub three_known : Board
three_known = record empty_board { observed = 1 ∷ 2 ∷ 3 ∷ [] }

-- the same, where -1 was decided, and 2 and 3 are true
abbrev pub kept_by : Board
kept_by = record three_known { seen = told 3 1 true ∷ told 4 1 false ∷ told 6 1 false ∷ []; level = 1 }

-- the same, where -1 and -2 were decided, and 3 is true
abbrev pub broken_by : Board
broken_by = record three_known { seen = told 3 1 true ∷ told 5 2 true ∷ told 6 2 false ∷ []; level = 2 }

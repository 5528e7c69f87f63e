-- The desks of tests.
use Rattle.std.specs.Prelude.{ℕ, false, ◌∷◌, []}
use Rattle.user_propagator.specs.declared.seen.Seen.{Seen}
use Rattle.user_propagator.specs.Board.{Board, empty_board}

-- a literal that was told at the root, and not as a decision
abbrev pub told : ℕ → Seen
told l = record { lit = l; level = 0; decision = false }

-- a desk on which the variables 1 and 2 are observed, and one where both are true
abbrev pub both_known : Board
both_known = record empty_board { observed = 1 ∷ 2 ∷ [] }

abbrev pub both_true : Board
both_true = record both_known { seen = told 2 ∷ told 4 ∷ [] }

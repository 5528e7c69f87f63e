-- The rank of a trail, which rises with each literal that is appended and with each conflict.
use Rattle.std.specs.Prelude.{ℕ, zero, suc, ◌+◌, ◌*◌, ◌^◌, List, [], ◌∷◌}
use Rattle.trail_state.specs.declared.trail.Step.{Step}
use Rattle.trail_state.specs.declared.reason.Reason.{Reason}
use Rattle.trail_state.specs.declared.reason.Reason.TheVariants.{Decision, Clause, Theory}

-- the digit of a place: 1 for a decision, 2 for an implied literal
abbrev pub digit : Reason → ℕ
digit Decision = 1
digit (Clause id) = 2
digit Theory = 2

-- the number of n digits in base 3, the first place first, with 0 at the empty places
abbrev pub rank : ℕ → List Step → ℕ
rank zero t = 0
rank (suc n) [] = 0
rank (suc n) (x ∷ t) = digit x.reason * 3 ^ n + rank n t

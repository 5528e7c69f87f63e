-- What a tally counts.
use Rattle.std.proofs.Common.{◌≡◌, ℕ, ◌≤◌, arith}
use Rattle.sat_terms.specs.Limits.{max_number}
use Rattle.conflict_analysis.specs.Counting.{Counted}
use Rattle.conflict_analysis.specs.Learning.{Rises}
use Rattle.search_engine.specs.Searching.{CountsFrom}
use Rattle.search_engine.specs.Turns.{KeepsCount}

-- a tally that begins anew
pub counts_start : (before : ℕ) (t : Counted) → t.total ≡ before → t.count ≡ 0 → before ≤ max_number → CountsFrom before t
counts_start before t total none few = omega arith

-- a conflict is counted
pub counts_rise : (old new : Counted) → Rises old new → KeepsCount old new
counts_rise old new rises before h = let c = rises.count in let t = rises.total in omega arith

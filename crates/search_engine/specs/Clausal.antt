-- How an analysis stops.
use Rattle.std.specs.Prelude.{Bool, true, false}
use Rattle.conflict_analysis.specs.declared.analysis.AnalyzeStop.{AnalyzeStop}
use Rattle.conflict_analysis.specs.declared.analysis.AnalyzeStop.TheVariants.{Conflicts, Callbacks, Memory}

-- whether it stopped at a callback that could not be made
abbrev pub is_at_callback : AnalyzeStop → Bool
is_at_callback (Conflicts n) = false
is_at_callback (Callbacks n) = true
is_at_callback Memory = false

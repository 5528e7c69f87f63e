-- What the comparison of two clauses says.
use Rattle.std.specs.Prelude.{◌≡◌, ◌≢◌, ℕ, ◌<◌, List, length, slice_index_or}
use Rattle.sat_terms.specs.Literal.{neg}
use Rattle.firm_terms.specs.Subsuming.{IsWithin, Resolves, IsFree}
use Rattle.subsume_pass.specs.declared.compare.Fit.{Fit}
use Rattle.subsume_pass.specs.declared.compare.Fit.TheVariants.{Apart, Subsumes, Shortens}
use Rattle.subsume_pass.specs.declared.compare.Look.{Look}
use Rattle.subsume_pass.specs.declared.compare.Look.TheVariants.{Same, Opposite, Neither}

-- what a comparison says of two clauses
abbrev pub Fits : List ℕ → List ℕ → Fit → Type 0
Fits c d Apart = IsFree c d
Fits c d Subsumes = IsWithin c d
Fits c d (Shortens at) = (at < length d) × Resolves c d (slice_index_or d at 0)

-- what a look at a place says
abbrev pub Looks : List ℕ → ℕ → ℕ → Look → Type 0
Looks d at l Same = (at < length d) × (slice_index_or d at 0 ≡ l)
Looks d at l Opposite = (at < length d) × (slice_index_or d at 0 ≡ neg l)
Looks d at l Neither = at < length d → (slice_index_or d at 0 ≢ l) × (slice_index_or d at 0 ≢ neg l)

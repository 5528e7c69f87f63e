-- The values by variable.
use Rattle.std.specs.Prelude.{◌≡◌, ◌≢◌, ℕ, ◌%◌, ◌==◌, ◌<◌, ◌≤◌, Bool, List, [], ◌∷◌, Some, None, replicate, slice_set, slice_index_or}
use Rattle.std.specs.declared.option.Option.{Option}
use Rattle.sat_terms.specs.Literal.{var_of}
use Rattle.plain_search.specs.declared.assignment.Step.{Step}

-- the value that a literal gives its variable
abbrev pub positive : ℕ → Bool
positive l = l % 2 == 0

-- the values of n variables
abbrev pub marks : ℕ → List Step → List (Option Bool)
marks n [] = replicate n None
marks n (s ∷ older) = slice_set (marks n older) (var_of s.lit) (Some (positive s.lit))

-- each literal had no value when it was assigned
abbrev pub Fresh : ℕ → List Step → Type 0
Fresh n [] = Unit {0}
Fresh n (s ∷ older) = (var_of s.lit < n) × (slice_index_or (marks n older) (var_of s.lit) None ≡ None) × Fresh n older

-- an assignment of the variables 1 to vars
pub record Assigned : Type 0 where
  pub vars : ℕ
  pub steps : List Step

-- the values by variable are those of the trail; no variable is numbered 0
pub record Mirrors (n : ℕ) (values : List (Option Bool)) (steps : List Step) : Type 0 where
  pub same : values ≡ marks n steps
  pub fresh : Fresh n steps
  pub some : 1 ≤ n
  pub few : n ≤ 4194304
  pub zero_free : slice_index_or values 0 None ≡ None

-- all variables below `low` have values
abbrev pub Full : List (Option Bool) → ℕ → Type 0
Full values low = (k : ℕ) → 1 ≤ k → k < low → slice_index_or values k None ≢ None

-- the same, with a place below which no variable is free
pub record Holds (n : ℕ) (values : List (Option Bool)) (steps : List Step) (low : ℕ) : Type 0 where
  pub mirrors : Mirrors n values steps
  pub full : Full values low
  pub from_one : 1 ≤ low

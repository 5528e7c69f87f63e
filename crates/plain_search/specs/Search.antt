-- What the search looks for, and what its turns lead to.
use Rattle.std.specs.Prelude.{◌≡◌, ◌⊎◌, ℕ, ◌+◌, ◌<◌, ◌≤◌, [], length, Bool, true, false, List, All, Any, Contains, Some, None}
use Rattle.sat_terms.specs.Literal.{var_of}
use Rattle.sat_terms.specs.Truth.{Assignment, lit_true}
use Rattle.plain_search.specs.declared.assignment.Step.{Step}
use Rattle.plain_search.specs.declared.scan.Finding.{Finding}
use Rattle.plain_search.specs.declared.scan.Finding.TheVariants.{Conflict, Forced, Undecided, Met}
use Rattle.plain_search.specs.declared.search.Turn.{Turn}
use Rattle.plain_search.specs.declared.search.Turn.TheVariants.{On, Model, NoModel}
use Rattle.plain_search.specs.Steps.{value_in, flip, rank, Justified}

-- each literal is false but this one
abbrev pub OnlyOpen : List Step → ℕ → List ℕ → Type 0
OnlyOpen steps l lits = All (λ k. (k ≡ l) ⊎ (value_in steps k ≡ Some false)) lits

-- what a look at one clause finds
abbrev pub FindsIn : List Step → List ℕ → Finding → Type 0
FindsIn steps lits Conflict = All (λ k. value_in steps k ≡ Some false) lits
FindsIn steps lits (Forced l) = (value_in steps l ≡ None) × Contains lits l × OnlyOpen steps l lits
FindsIn steps lits Undecided = Any (λ k. value_in steps k ≡ None) lits
FindsIn steps lits Met = Any (λ k. value_in steps k ≡ Some true) lits

-- what a look at all clauses finds
abbrev pub FindsAmong : List Step → List (List ℕ) → Finding → Type 0
FindsAmong steps clauses Conflict = (c : List ℕ) × Contains clauses c × FindsIn steps c Conflict
FindsAmong steps clauses (Forced l) = (c : List ℕ) × Contains clauses c × FindsIn steps c (Forced l)
FindsAmong steps clauses Undecided = (c : List ℕ) × Contains clauses c × FindsIn steps c Undecided
FindsAmong steps clauses Met = All (λ c. FindsIn steps c Met) clauses

-- an assignment gives the variables up to this one the values that they have on the trail
abbrev pub Agrees : Assignment → ℕ → List Step → Type 0
Agrees f vars steps = (l : ℕ) → var_of l ≤ vars → value_in steps l ≡ Some true → lit_true f l ≡ true

-- whether a decision was found and turned round
abbrev pub Flips : Bool → List Step → List Step → Type 0
Flips true old new = flip old ≡ Some new
Flips false old new = (flip old ≡ None) × (new ≡ [])

-- what a turn leads to
abbrev pub Turns : (Assignment → Type 0) → ℕ → List Step → List Step → Turn → Type 0
Turns P vars old new On = Justified P new × (length new ≤ vars + 1) × (rank (vars + 1) old < rank (vars + 1) new)
Turns P vars old new Model = (f : Assignment) → Agrees f vars new → P f
Turns P vars old new NoModel = (f : Assignment) → P f → ⊥

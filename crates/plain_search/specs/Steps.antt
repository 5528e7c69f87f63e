-- The trail of a backtracking search (Davis, Logemann, Loveland 1962): the literals that were assigned, the newest first.
use Rattle.std.specs.Prelude.{◌≡◌, ℕ, ◌+◌, ◌-◌, ◌*◌, ◌^◌, ◌==◌, Bool, true, false, if◌then◌else◌, List, [], ◌∷◌, length, Some, None}
use Rattle.std.specs.declared.option.Option.{Option}
use Rattle.sat_terms.specs.Literal.{neg}
use Rattle.sat_terms.specs.Truth.{Assignment, lit_true}
use Rattle.plain_search.specs.declared.assignment.Step.{Step}

-- the value that the trail gives a literal
abbrev pub value_in : List Step → ℕ → Option Bool
value_in [] l = None
value_in (s ∷ older) l = if s.lit == l then Some true else if s.lit == neg l then Some false else value_in older l

-- an assignment makes all literals of the trail true
abbrev pub AllTrue : Assignment → List Step → Type 0
AllTrue f [] = Unit {0}
AllTrue f (s ∷ older) = (lit_true f s.lit ≡ true) × AllTrue f older

-- an assignment makes the decisions true
abbrev pub DecisionsTrue : Assignment → List Step → Type 0
DecisionsTrue f [] = Unit {0}
DecisionsTrue f (s ∷ older) = (s.decision ≡ true → lit_true f s.lit ≡ true) × DecisionsTrue f older

-- each literal that is no decision is true wherever P holds and the decisions before it are true
abbrev pub Justified : (Assignment → Type 0) → List Step → Type 0
Justified P [] = Unit {0}
Justified P (s ∷ older) = (s.decision ≡ false → (f : Assignment) → P f → DecisionsTrue f older → lit_true f s.lit ≡ true) × Justified P older

-- P holds nowhere where the decisions are true
abbrev pub Blocked : (Assignment → Type 0) → List Step → Type 0
Blocked P steps = (f : Assignment) → P f → DecisionsTrue f steps → ⊥

-- the steps up to the newest decision are undone, and that decision is turned round
abbrev pub flip : List Step → Option (List Step)
flip [] = None
flip (s ∷ older) = if s.decision then Some (record { lit = neg s.lit; decision = false } ∷ older) else flip older

-- a digit for each of the n places, the oldest first: 1 for a decision, 2 for another literal, 0 for an empty place
abbrev pub digit : Bool → ℕ
digit decision = if decision then 1 else 2

-- the number in base 3 that these digits write
abbrev pub rank : ℕ → List Step → ℕ
rank n [] = 0
rank n (s ∷ older) = digit s.decision * 3 ^ (n - length older - 1) + rank n older

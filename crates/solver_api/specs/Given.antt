-- What a solver has been given.
use Rattle.std.specs.List.{list_all}
use Rattle.std.specs.Prelude.{◌≡◌, Bool, true, List}
use Rattle.sat_terms.specs.Truth.{Assignment, clause_true}
use Rattle.sat_model.specs.Constraint.{constraint_true}
use Rattle.solver_api.specs.declared.givens.GivenPart.{GivenPart}
use Rattle.solver_api.specs.declared.givens.GivenPart.TheVariants.{Clause, Rule}

-- the truth of a part under an assignment
abbrev pub part_true : Assignment → GivenPart → Bool
part_true f (Clause c) = clause_true f c
part_true f (Rule r) = constraint_true f r

-- the assignments that make all that was given true
abbrev pub GivenTrue : List GivenPart → Assignment → Type 0
GivenTrue parts f = list_all (part_true f) parts ≡ true

-- the part is a clause
abbrev pub IsClause : GivenPart → Type 0
IsClause (Clause c) = Unit {0}
IsClause (Rule r) = ⊥

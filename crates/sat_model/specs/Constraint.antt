-- Constraints and their truth.
use Rattle.std.specs.Prelude.{Bool}
use Rattle.sat_terms.specs.Truth.{Assignment}
use Rattle.sat_terms.specs.Cardinality.{at_least_true, parity_true}
use Rattle.sat_model.specs.declared.constraint.Constraint.{Constraint}
use Rattle.sat_model.specs.declared.constraint.Constraint.TheVariants.{AtLeast, Parity}
use Rattle.sat_model.specs.declared.constraint.Kind.{Kind}
use Rattle.sat_model.specs.declared.constraint.Kind.TheVariants as kinds

-- the truth of a constraint under an assignment
abbrev pub constraint_true : Assignment → Constraint → Bool
constraint_true f (AtLeast bound ls) = at_least_true f bound ls
constraint_true f (Parity odd ls) = parity_true f odd ls

-- the kind of a constraint
abbrev pub kind_of : Constraint → Kind
kind_of (AtLeast bound ls) = kinds.Card
kind_of (Parity odd ls) = kinds.Parity

-- Sets of marked literals that grow.
use Rattle.std.specs.Prelude.{◌≡◌, ℕ, Bool, ◌||◌, List}
use Rattle.sat_terms.specs.Literal.{has, neg}
use Rattle.witness_stack.specs.MarkSet.{marked}

-- the negations of the literals are marked now, beside what was marked before
abbrev pub MarksMore : List ℕ → List Bool → List Bool → Type 0
MarksMore lits old new = (l : ℕ) → marked new (neg l) ≡ (has lits l || marked old (neg l))

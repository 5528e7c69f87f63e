-- What boxes mean that have no clause: those that admit everything, and the one that admits
-- nothing.
use Rattle.std.specs.Prelude.{ℕ, ◌≡◌, ◌++◌, Bool, true, false, List, [], ◌∷◌, Option, Some, None}
use Rattle.user_propagator.specs.Board.{Board}
use Rattle.user_propagator.specs.Meaning.{Meaning}
use Rattle.user_propagator.specs.Nothing.{no_meaning}
use Rattle.test_boxes.specs.declared.asking.Moment.{Moment}
use Rattle.test_boxes.specs.declared.asking.Moment.TheVariants.{Propagate, Check}

-- It means what a propagator without constraints does, but need not be steady.
abbrev pub open_meaning : ℕ → Meaning
open_meaning asked = record (no_meaning asked) { steady = false }

-- It admits nothing, so that every clause follows from it, also the empty one.
abbrev pub closed_meaning : ℕ → Meaning
closed_meaning asked = record (no_meaning asked) { admits = λ _. false }

abbrev pub is_same : Moment → Moment → Bool
is_same Propagate Propagate = true
is_same Propagate Check = false
is_same Check Propagate = false
is_same Check Check = true

-- what is asked for: the variable, if it is time and it is wanted still
abbrev pub wishes : Bool → Option ℕ → List ℕ
wishes true (Some v) = v ∷ []
wishes true None = []
wishes false wanted = []

-- these variables were asked for, and nothing else changed
abbrev pub HasAsked : List ℕ → Board → Board → Type 0
HasAsked vs was now = now ≡ record was { wanted = was.wanted ++ vs }

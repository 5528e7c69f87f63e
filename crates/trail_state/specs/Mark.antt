-- The value of a literal in one byte.
use Rattle.std.specs.Prelude.{◌≡◌, Bool, true, false, not, Option, Some, None, refl}
use Rattle.trail_state.specs.declared.mark.Truth.{Truth}
use Rattle.trail_state.specs.declared.mark.Truth.TheVariants.{Open, True, False}

-- what a value says
abbrev pub meaning : Truth → Option Bool
meaning Open = None
meaning True = Some true
meaning False = Some false

abbrev pub mark_of : Option Bool → Truth
mark_of None = Open
mark_of (Some true) = True
mark_of (Some false) = False

-- whether a value is true, and whether it is false
abbrev pub says_true : Option Bool → Bool
says_true None = false
says_true (Some b) = b

abbrev pub says_false : Option Bool → Bool
says_false None = false
says_false (Some b) = not b

pub mark_of-meaning : (v : Truth) → mark_of (meaning v) ≡ v
mark_of-meaning Open = refl
mark_of-meaning True = refl
mark_of-meaning False = refl

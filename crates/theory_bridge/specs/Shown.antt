-- What contracts see of a bridge.
use Rattle.std.specs.Prelude.{ℕ, ◌==◌, ◌&&◌, Bool, nat_lt}
use Rattle.sat_terms.specs.Limits.{max_number}
use Rattle.user_propagator.specs.Board.{Board}
use Rattle.user_propagator.specs.Meaning.{Meaning}
use Rattle.theory_bridge.specs.declared.bridge.Bridge.{Bridge}

-- what the propagator means, the desk, and the count of the callbacks with its budget
pub record Shown : Type 0 where
  pub means : Meaning
  pub board : Board
  pub budget : ℕ
  pub count : ℕ
  pub spent : Bool

abbrev pub shown : {X : Type 0} {F : X → Type 0} → Bridge X F → Meaning → Shown
shown b t =
    record { means = t; board = b.desk; budget = b.budget; count = b.count; spent = b.is_spent }

-- the same in a crate above, where a value behind the box means what the first argument says
abbrev pub facing : {X : Type 0} {F : X → Type 0} → ((x : X) × F x → Meaning) → Bridge X F → Shown
facing mean b = shown b (mean (b.theory.vtable, b.theory.value))

-- no callback is left: a budget of 2^62 is none
abbrev pub is_out : Shown → Bool
is_out s = (s.count == s.budget) && nat_lt s.budget max_number

-- What holds between two moments, whatever the calls in between answered.
use Rattle.std.specs.Prelude.{ℕ, ◌≡◌, ◌||◌, Bool, true}
use Rattle.sat_terms.specs.Literal.{has}
use Rattle.user_propagator.specs.Board.{Board}
use Rattle.user_propagator.specs.Meaning.{Meaning, AdmitsNoMore, KeepsExplained}

-- whether the variable is observed, or its request lies on the desk
abbrev pub is_known_on : Board → ℕ → Bool
is_known_on b v = has b.observed v || has b.wanted v

-- Nothing more is admitted, what was explained is so still, the seen trail and the observed
-- variables are as they were, requests for variables stay, and what entered the scope is observed
-- or asked for. What a steady propagator admits stays, and its scope.
pub record Later (old new : Meaning) (was now : Board) : Type 0 where
  pub fewer : AdmitsNoMore old new
  pub explained : KeepsExplained old new was.seen
  pub seen : now.seen ≡ was.seen
  pub level : now.level ≡ was.level
  pub observed : now.observed ≡ was.observed
  pub waits : (v : ℕ) → has was.wanted v ≡ true → has now.wanted v ≡ true
  pub scope : (v : ℕ) → has new.scope v ≡ true → (has old.scope v || is_known_on now v) ≡ true
  pub accepted : new.accepted ≡ old.accepted
  pub steady : new.steady ≡ old.steady
  pub admits_steady : old.steady ≡ true → new.admits ≡ old.admits
  pub scope_steady : old.steady ≡ true → new.scope ≡ old.scope

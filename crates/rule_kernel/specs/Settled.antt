-- What passes have found to be at rest.
use Rattle.std.specs.Prelude.{◌≡◌, ℕ, Bool, true, false, List}
use Rattle.rule_kernel.specs.Frozen.{is_frozen}

-- whether there are no equivalences beside some frozen variables, these variables, and whether vivification shortens no clause
pub record Settled : Type 0 where
  pub untied : Bool
  pub frozen : List Bool
  pub calm : Bool

-- there are no equivalences, which was found beside just some frozen variables
pub record IsUntied (x : Settled) (left : List Bool) : Type 0 where
  pub untied : x.untied ≡ true
  pub frozen : (v : ℕ) → is_frozen x.frozen v ≡ is_frozen left v

-- where a clause comes, neither is known
abbrev pub unsettled : Settled → Settled
unsettled s = record { untied = false; frozen = s.frozen; calm = false }

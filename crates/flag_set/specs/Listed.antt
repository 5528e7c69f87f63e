-- Flags beside a list of what they were set for.
use Rattle.std.specs.List.{list_any}
use Rattle.std.specs.Prelude.{◌≡◌, ◌<◌, ◌==◌, ℕ, Bool, true, false, List, length, slice_index_or, All}
use Rattle.flag_set.specs.declared.set.Flag.{Flag}
use Rattle.flag_set.specs.declared.set.Flag.TheVariants.{Out, In, Left}

-- whether a flag says that its number is in the set, and that it is listed
abbrev pub is_in : Flag → Bool
is_in Out = false
is_in In = true
is_in Left = false

abbrev pub is_listed : Flag → Bool
is_listed Out = false
is_listed In = true
is_listed Left = true

-- the flag of a number
abbrev pub flag : List Flag → ℕ → Flag
flag flags n = slice_index_or flags n Out

-- whether a list has a member of a number
abbrev pub lists : {T : Type 0} → (T → ℕ) → List T → ℕ → Bool
lists number listed n = list_any (λ m. number m == n) listed

-- The list has each number whose flag says so, and there is a flag for each member of it.
pub record IsListed {T : Type 0} (number : T → ℕ) (flags : List Flag) (listed : List T) : Type 0 where
  pub within : All (λ m. number m < length flags) listed
  pub every : (n : ℕ) → is_listed (flag flags n) ≡ true → lists number listed n ≡ true

-- When a table follows a seen trail.
use Rattle.std.specs.Prelude.{ℕ, ◌≡◌, ◌+◌, ◌<◌, ◌≤◌, Bool, true, false, ◌&&◌, List, [], ◌∷◌, ◌++◌, length, Option, Some, None, if◌then◌else◌, nat_eq, nat_le}
use Rattle.std.specs.List.{list_all}
use Rattle.sat_terms.specs.Literal.{var_of}
use Rattle.user_propagator.specs.Board.{SeenTrail}
use Rattle.user_propagator.specs.declared.seen.Seen.{Seen}
use Rattle.card_propagator.specs.declared.told.Told.{Told}
use Rattle.card_propagator.specs.Values.{told}

-- what was told of a variable on a seen trail
abbrev pub first_told : List Seen → ℕ → Option Told
first_told [] v = None
first_told (e ∷ es) v = if nat_eq (var_of e.lit) v then Some (record { lit = e.lit; level = e.level }) else first_told es v

abbrev pub same_told : Option Told → Option Told → Bool
same_told None None = true
same_told None (Some b) = false
same_told (Some a) None = false
same_told (Some a) (Some b) = nat_eq a.lit b.lit && nat_eq a.level b.level

abbrev pub is_untold : Option Told → Bool
is_untold None = true
is_untold (Some e) = false

-- the table says of its variables, from v on, what the trail says
abbrev pub agrees : List (Option Told) → ℕ → List Seen → Bool
agrees [] v seen = true
agrees (t ∷ ts) v seen = same_told t (first_told seen v) && agrees ts (v + 1) seen

-- the same of the whole table, which has nothing at 0
abbrev pub all_agree : List (Option Told) → List Seen → Bool
all_agree [] seen = true
all_agree (t ∷ ts) seen = agrees ts 1 seen

-- each variable stands once on the trail
abbrev pub are_apart : List Seen → Bool
are_apart [] = true
are_apart (e ∷ es) = is_untold (first_told es (var_of e.lit)) && are_apart es

abbrev pub are_within : ℕ → List Seen → Bool
are_within level seen = list_all (λ e. nat_le e.level level) seen

-- the test: the levels are the same, and the table has what the trail says, which names each variable once and no level above its own
unfoldable pub is_followed : List (Option Told) → ℕ → SeenTrail → Bool
is_followed table level trail = nat_eq level trail.level && (all_agree table trail.seen && (are_apart trail.seen && are_within trail.level trail.seen))

-- the same as facts
pub record Follows (t : List (Option Told)) (at : ℕ) (trail : SeenTrail) : Type 0 where
  pub level : at ≡ trail.level
  pub table : (v : ℕ) → 0 < v → v < length t → told t v ≡ first_told trail.seen v
  pub apart : are_apart trail.seen ≡ true
  pub within : are_within trail.level trail.seen ≡ true

-- what is to stand in the table at a variable
abbrev pub told_at_root : List Seen → ℕ → Option Told
told_at_root seen v = if nat_eq v 0 then None else first_told seen v

-- the table has more variables, with what the trail says of them
pub record IsWider (old new : List (Option Told)) (seen : List Seen) : Type 0 where
  pub more : List (Option Told)
  pub is : new ≡ old ++ more
  pub each : (v : ℕ) → length old ≤ v → v < length new → told new v ≡ told_at_root seen v

-- What contracts see of a desk: the observed variables, the seen trail, and what was left there.
use Rattle.std.specs.Prelude.{ℕ, suc, ◌≡◌, ◌≤◌, ◌<◌, ◌==◌, ◌++◌, Bool, true, false, nat_le, min}
use Rattle.std.specs.Prelude.{List, [], ◌∷◌, length, find, filter, slice_index_or}
use Rattle.std.specs.Prelude.{Option, Some, None, option_map, if◌then◌else◌}
use Rattle.sat_terms.specs.Limits.{max_var}
use Rattle.sat_terms.specs.Literal.{has, neg, var_of, pos_lit, neg_lit}
use Rattle.user_propagator.specs.declared.seen.Seen.{Seen}

-- a clause that was handed, and whether it may be forgotten
pub record Handed : Type 0 where
  pub clause : List ℕ
  pub forgettable : Bool

pub record Board : Type 0 where
  -- the observed variables, in the order in which they came
  pub observed : List ℕ
  -- the seen trail, oldest first, and the current level
  pub seen : List Seen
  pub level : ℕ
  -- the variables that were asked for, the clauses that were handed, the level to go back to
  pub wanted : List ℕ
  pub handed : List Handed
  pub back : Option ℕ
  -- at a variable's number the phase that was set last
  pub phases : List (Option Bool)

-- what a propagator is in step with: the seen trail and the current level
pub record SeenTrail : Type 0 where
  pub seen : List Seen
  pub level : ℕ

abbrev pub trail_of : Board → SeenTrail
trail_of b = record { seen = b.seen; level = b.level }

abbrev pub empty_trail : SeenTrail
empty_trail = record { seen = []; level = 0 }

abbrev pub empty_board : Board
empty_board = record {
  observed = [];
  seen = [];
  level = 0;
  wanted = [];
  handed = [];
  back = None;
  phases = [];
}

-- what is kept of the notices: the observed variables, and the seen trail with its level
pub record Noticed : Type 0 where
  pub observed : List ℕ
  pub seen : List Seen
  pub level : ℕ

abbrev pub nothing_noticed : Noticed
nothing_noticed = record { observed = []; seen = []; level = 0 }

-- the entry at a place of the seen trail, the oldest at 0
abbrev pub no_entry : Seen
no_entry = record { lit = 0; level = 0; decision = false }

abbrev pub entry : List Seen → ℕ → Seen
entry seen k = slice_index_or seen k no_entry

abbrev pub seen_var : Seen → ℕ
seen_var e = var_of e.lit

-- truth of a literal on the seen trail, if its variable is there
abbrev pub trail_value : List Seen → ℕ → Option Bool
trail_value [] l = None
trail_value (e ∷ es) l =
    if e.lit == l then Some true else (if e.lit == neg l then Some false else trail_value es l)

-- the entry of a variable, its place, its level, and whether it was decided
abbrev pub trail_entry : List Seen → ℕ → Option Seen
trail_entry seen v = find (λ e. seen_var e == v) seen

abbrev pub trail_place : List Seen → ℕ → Option ℕ
trail_place [] v = None
trail_place (e ∷ es) v = if seen_var e == v then Some 0 else option_map suc (trail_place es v)

abbrev pub trail_level : List Seen → ℕ → Option ℕ
trail_level seen v = option_map (λ e. e.level) (trail_entry seen v)

abbrev pub is_decided : Option Seen → Bool
is_decided None = false
is_decided (Some e) = e.decision

abbrev pub trail_decision : List Seen → ℕ → Bool
trail_decision seen v = is_decided (trail_entry seen v)

-- a desk where one clause more was handed, and where one variable more was asked for
abbrev pub with_handed : Board → List ℕ → Bool → Board
with_handed b c forgettable =
    record b { handed = b.handed ++ record { clause = c; forgettable = forgettable } ∷ [] }

abbrev pub with_wanted : Board → ℕ → Board
with_wanted b v = record b { wanted = b.wanted ++ v ∷ [] }

-- the entries up to a level
abbrev pub within : ℕ → List Seen → List Seen
within level seen = filter (λ e. nat_le e.level level) seen

-- the observed variables with one more, if it is not among them
abbrev pub with_var : List ℕ → ℕ → List ℕ
with_var observed v = if has observed v then observed else observed ++ v ∷ []

-- the least level asked for
abbrev pub lower : Option ℕ → ℕ → Option ℕ
lower None level = Some level
lower (Some other) level = Some (min other level)

-- the literal of a variable in the phase that was set for it, if one was
abbrev pub in_phase : ℕ → Option Bool → Option ℕ
in_phase v None = None
in_phase v (Some true) = Some (pos_lit v)
in_phase v (Some false) = Some (neg_lit v)

abbrev pub phase_on : List (Option Bool) → ℕ → Option ℕ
phase_on phases v = in_phase v (slice_index_or phases v None)

-- The shape of every seen trail: its variables are observed, none stands twice, the levels rise
-- along it, and none is above the current one.
pub record IsSeenTrail (observed : List ℕ) (seen : List Seen) (level : ℕ) : Type 0 where
  pub known : (k : ℕ) → k < length seen → has observed (seen_var (entry seen k)) ≡ true
  pub apart : (i j : ℕ) → i < length seen → j < length seen
      → seen_var (entry seen i) ≡ seen_var (entry seen j) → i ≡ j
  pub rising : (i j : ℕ) → i ≤ j → j < length seen → (entry seen i).level ≤ (entry seen j).level
  pub below : (k : ℕ) → k < length seen → (entry seen k).level ≤ level
  pub room : level ≤ max_var

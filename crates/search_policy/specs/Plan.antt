-- The policy of a search, conflict by conflict.
use Rattle.std.specs.Prelude.{◌≡◌, ◌<◌, ◌≤◌, ◌+◌, ◌-◌, ◌*◌, ◌/◌, ◌^◌, ◌==◌, ◌&&◌, nat_lt, nat_le, not, min, ℕ, Bool, true, false, if◌then◌else◌}
use Rattle.sat_terms.specs.Limits.{max_number}

-- all counters stop here
abbrev pub up : ℕ → ℕ
up n = min (n + 1) max_number

-- A half of a phase: the number of the phase, from 0, which of its halves it is, and how many
-- conflicts it has had.
pub record Half : Type 0 where
  pub phase : ℕ
  pub stable : Bool
  pub gone : ℕ

-- how many conflicts each half of a phase has
abbrev pub half_length : ℕ → ℕ
half_length phase = 1000 * 2 ^ phase

-- the stable half of phase 50 has no end
abbrev pub is_endless : Half → Bool
is_endless h = h.stable && nat_le 50 h.phase

-- the half behind one that is over
abbrev pub next_half : Half → Half
next_half h = if h.stable then record { phase = h.phase + 1; stable = false; gone = 0 } else record { phase = h.phase; stable = true; gone = 0 }

-- a half after one conflict more
abbrev pub half_on : Half → Half
half_on h = if not (is_endless h) && (h.gone + 1 == half_length h.phase) then next_half h else record { phase = h.phase; stable = h.stable; gone = up h.gone }

-- an average moves by one nth of the difference
abbrev pub moved : ℕ → ℕ → ℕ → ℕ
moved average value n = if nat_le average value then average + (value - average) / n else average - (average - value) / n

-- The state of the policy: the half, how many conflicts there ever were, two averages of the glue
-- with 16 binary places, how many conflicts came since the last restart, how many reductions the
-- solve has had, and how many conflicts came since the last reduction.
pub record Plan : Type 0 where
  pub half : Half
  pub conflicts : ℕ
  pub fast : ℕ
  pub slow : ℕ
  pub unrestarted : ℕ
  pub reductions : ℕ
  pub unreduced : ℕ

-- the half at the start of a solve
abbrev pub first_half : Half
first_half = record { phase = 0; stable = false; gone = 0 }

-- at the start of the first solve
abbrev pub plan_start : Plan
plan_start = record {
  half = first_half;
  conflicts = 0;
  fast = 0;
  slow = 0;
  unrestarted = 0;
  reductions = 0;
  unreduced = 0;
}

-- at the start of another solve: halves, restarts and reductions begin anew, and the averages and
-- the conflicts since the last reduction go on
abbrev pub plan_again : Plan → Plan
plan_again p = record p { half = first_half; unrestarted = 0; reductions = 0 }

-- an average after a conflict of this glue: the mean of all of them up to the n-th, and then it
-- moves by one of n parts of the difference
abbrev pub average_on : Plan → ℕ → ℕ → ℕ → ℕ
average_on p average glue n = moved average (glue * 2 ^ 16) (min (p.conflicts + 1) n)

-- after one conflict more
abbrev pub plan_on : Plan → ℕ → Plan
plan_on p glue = record {
  half = half_on p.half;
  conflicts = up p.conflicts;
  fast = average_on p p.fast glue 32;
  slow = average_on p p.slow glue 4096;
  unrestarted = up p.unrestarted;
  reductions = p.reductions;
  unreduced = up p.unreduced;
}

-- whether a restart is wanted
abbrev pub restarts : Plan → Bool
restarts p = not p.half.stable && nat_le 2 p.unrestarted && nat_lt (110 * p.slow) (100 * p.fast)

-- after a restart
abbrev pub restarted : Plan → Plan
restarted p = record p { unrestarted = 0 }

-- whether a reduction is wanted
abbrev pub reduces : Plan → Bool
reduces p = nat_le (2000 + 300 * p.reductions) p.unreduced

-- after a reduction
abbrev pub reduced : Plan → Plan
reduced p = record p { reductions = up p.reductions; unreduced = 0 }

-- how many conflicts are left before the half that has no end
abbrev pub conflicts_left : Half → ℕ
conflicts_left h = 3000 * 2 ^ 50 - ((if h.stable then 3000 else 2000) * 2 ^ h.phase + h.gone)

-- a bound on the restarts that may still come, which no call raises
abbrev pub restarts_left : Plan → ℕ
restarts_left p = 2 * conflicts_left p.half + (if not p.half.stable && nat_le 2 p.unrestarted then 1 else 0)

-- the bounds of the numbers
pub record IsPlan (stable : Bool) (phase gone length_ conflicts fast slow unrestarted reductions unreduced : ℕ) : Type 0 where
  pub long : length_ ≡ half_length phase
  pub phases : phase ≤ 50
  pub short : (stable && nat_le 50 phase) ≡ false → gone < length_
  pub gone_in : gone ≤ max_number
  pub conflicts_in : conflicts ≤ max_number
  pub fast_in : fast < 2 ^ 48
  pub slow_in : slow < 2 ^ 48
  pub unrestarted_in : unrestarted ≤ max_number
  pub reductions_in : reductions ≤ max_number
  pub unreduced_in : unreduced ≤ max_number

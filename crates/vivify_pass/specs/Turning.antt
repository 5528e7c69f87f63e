-- What the rule does to a kernel: on one clause, on some in turn, and on all.
use Rattle.std.specs.Prelude.{◌≡◌, ◌≢◌, ℕ, ◌+◌, ◌-◌, ◌*◌, ◌/◌, ◌<◌, ◌≤◌, true, List, length, slice_index_or, Option, None}
use Rattle.std.specs.List.{sum_by}
use Rattle.clause_store.specs.Stored.{Stored, slot, slot_lits, is_firm}
use Rattle.rule_kernel.specs.State.{State}
use Rattle.rule_kernel.specs.declared.report.Ended.{Ended}
use Rattle.rule_kernel.specs.declared.report.Ended.TheVariants.{Fixpoint, Limit}
use Rattle.trail_state.specs.Trail.{Trace}
use Rattle.watch_lists.specs.Propagation.{Watching}
use Rattle.vivify_pass.specs.declared.turn.Turn.{Turn}
use Rattle.vivify_pass.specs.declared.turn.Turn.TheVariants.{Same, Shorter, Full}
use Rattle.vivify_pass.specs.declared.turn.Round.{Round}
use Rattle.vivify_pass.specs.declared.turn.Round.TheVariants.{Unchanged, Changed, Stopped}
use Rattle.firm_terms.specs.Firm.{firm_size, lits_sum}
use Rattle.firm_terms.specs.Vivifying.{Calm, AllCalm, NoneShortens}
use Rattle.vivify_pass.specs.Trailing.{Ready}

-- the rule does not shorten the clause of an id
pub record StaysSame (s t : State) (w : Watching) (trail : Trace) (id a b limit : ℕ)
    : Type 0 where
  pub same : t ≡ s
  pub calm : Calm s.store id (slot_lits (slot s.store id))
  pub ready : Ready t.store w trail
  pub spent : b ≤ a + length (slot_lits (slot s.store id))
  pub rest : b ≤ limit

-- a shorter clause came under a new id, the one of another id went, and all else stays
pub record Shortens (s t : List (Option Stored)) (id next : ℕ) : Type 0 where
  pub fresh : slot s next ≡ None
  pub here : is_firm (slot t next) ≡ true
  pub gone : slot t id ≡ None
  pub others : (k : ℕ) → k ≢ id → k ≢ next → slot t k ≡ slot s k
  pub fallen : lits_sum t < lits_sum s

pub record GetsShorter (s t : State) (w : Watching) (trail : Trace) (id next a b limit : ℕ)
    : Type 0 where
  pub shorter : Shortens s.store t.store id next
  pub ready : Ready t.store w trail
  pub spent : b ≤ a + length (slot_lits (slot s.store id))
  pub rest : b ≤ limit

-- the limit left no step
pub record ComesFull (s t : State) (id a b limit : ℕ) : Type 0 where
  pub same : t ≡ s
  pub full : b ≡ limit
  pub some : b < a + length (slot_lits (slot s.store id))

abbrev pub Turned : State → State → Watching → Trace → ℕ → ℕ → ℕ → ℕ → Turn → Type 0
Turned s t w trail id a b limit Same = StaysSame s t w trail id a b limit
Turned s t w trail id a b limit (Shorter next) = GetsShorter s t w trail id next a b limit
Turned s t w trail id a b limit Full = ComesFull s t id a b limit

-- some ids name firm clauses, and how many literals these have together
abbrev pub AreFirm : List (Option Stored) → List ℕ → Type 0
AreFirm s ids = (k : ℕ) → k < length ids → is_firm (slot s (slice_index_or ids k 0)) ≡ true

abbrev pub literals : List (Option Stored) → List ℕ → ℕ
literals s ids = sum_by (λ id. firm_size (slot s id)) ids

-- None of some clauses gets shorter; or the one at a place does, and nothing changed before; or
-- the limit left no step. There is at most a step for each of their literals.
abbrev pub CalmAt : List (Option Stored) → List ℕ → ℕ → Type 0
CalmAt s ids k = Calm s (slice_index_or ids k 0) (slot_lits (slot s (slice_index_or ids k 0)))

pub record AllStay (s t : State) (w : Watching) (trail : Trace) (ids : List ℕ) (a b limit : ℕ)
    : Type 0 where
  pub same : t ≡ s
  pub calm : (k : ℕ) → k < length ids → CalmAt s.store ids k
  pub ready : Ready t.store w trail
  pub spent : b ≤ a + literals s.store ids
  pub rest : b ≤ limit

pub record OneShortens (s t : State) (w : Watching) (trail : Trace) (ids : List ℕ)
    (place next a b limit : ℕ) : Type 0 where
  pub within : place < length ids
  pub shorter : Shortens s.store t.store (slice_index_or ids place 0) next
  pub ready : Ready t.store w trail
  pub spent : b ≤ a + literals s.store ids
  pub rest : b ≤ limit

pub record RunsOut (s t : State) (ids : List ℕ) (a b limit : ℕ) : Type 0 where
  pub same : t ≡ s
  pub full : b ≡ limit
  pub some : b < a + literals s.store ids

abbrev pub Tried : State → State → Watching → Trace → List ℕ → ℕ → ℕ → ℕ → Round → Type 0
Tried s t w trail ids a b limit Unchanged = AllStay s t w trail ids a b limit
Tried s t w trail ids a b limit (Changed place next) =
    OneShortens s t w trail ids place next a b limit
Tried s t w trail ids a b limit Stopped = RunsOut s t ids a b limit

-- The pass stopped at its limit, after b steps. With L the sum of the lengths of the firm clauses
-- at its start, this sum has fallen by at least b divided by L, and the limit is below L (L + 1).
pub record ReachesLimit (s t : List (Option Stored)) (limit b : ℕ) : Type 0 where
  pub full : b ≡ limit
  pub some : 0 < lits_sum s
  pub fell : b / lits_sum s ≤ lits_sum s - lits_sum t
  pub below : limit < lits_sum s * (lits_sum s + 1)

-- how the rounds ended
abbrev pub Rests : List (Option Stored) → List (Option Stored) → ℕ → Ended → Type 0
Rests s t limit Fixpoint = AllCalm t
Rests s t limit (Limit b) = ReachesLimit s t limit b

-- how the pass ended
abbrev pub Ends : List (Option Stored) → List (Option Stored) → ℕ → Ended → Type 0
Ends s t limit Fixpoint = NoneShortens t
Ends s t limit (Limit b) = ReachesLimit s t limit b

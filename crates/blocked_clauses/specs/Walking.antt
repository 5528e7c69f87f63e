-- One walk over the marked literals.
use Rattle.std.specs.Prelude.{◌≡◌, ℕ, ◌+◌, ◌*◌, ◌<◌, ◌≤◌, ◌==◌, ◌&&◌, Bool, true, not, [], ◌∷◌, length, slice_index_or}
use Rattle.std.specs.List.{swap_remove}
use Rattle.sat_terms.specs.Literal.{has, var_of}
use Rattle.firm_terms.specs.Firm.{firm, lits_sum}
use Rattle.rule_kernel.specs.State.{State}
use Rattle.rule_kernel.specs.Rules.{SameButMarks, Parks}
use Rattle.blocked_clauses.specs.Seeking.{Counts, ComesFull, occurrences, most_steps}
use Rattle.blocked_clauses.specs.Passing.{marked_sum}
use Rattle.blocked_clauses.specs.declared.walk.Turn.{Turn}
use Rattle.blocked_clauses.specs.declared.walk.Turn.TheVariants.{Settled, Parked, Full}
use Rattle.blocked_clauses.specs.declared.walk.Walk.{Walk}
use Rattle.blocked_clauses.specs.declared.walk.Walk.TheVariants.{Through, Parked as Stopped, Full as Cut}

-- No clause is blocked on a literal, and its mark went: the last marked literal came to its place.
pub record IsSettled (s t : State) (l a b limit : ℕ) : Type 0 where
  pub rest : SameButMarks s t
  pub place : (k : ℕ) → k < length s.marked.lits → slice_index_or s.marked.lits k l ≡ l → t.marked.lits ≡ swap_remove s.marked.lits k l
  pub lits : (m : ℕ) → has t.marked.lits m ≡ (has s.marked.lits m && not (l == m))
  pub steps : Counts a b (occurrences s.store l) (most_steps s.store l) limit

-- a clause was parked, with the literal as witness
pub record IsParked (s t : State) (l a b limit : ℕ) : Type 0 where
  pub id : ℕ
  pub parks : Parks s t id (l ∷ [])
  pub steps : Counts a b 1 (most_steps s.store l) limit

pub record IsFull (s t : State) (l a b limit : ℕ) : Type 0 where
  pub same : t ≡ s
  pub steps : ComesFull a b (most_steps s.store l) limit

abbrev pub Turned : State → State → ℕ → ℕ → ℕ → ℕ → Turn → Type 0
Turned s t l a b limit Settled = IsSettled s t l a b limit
Turned s t l a b limit Parked = IsParked s t l a b limit
Turned s t l a b limit Full = IsFull s t l a b limit

-- the marked literals from one place on up to another are those of frozen variables
abbrev pub FrozenBetween : (ℕ → Bool) → State → ℕ → ℕ → Type 0
FrozenBetween frozen s i j = (k : ℕ) → i ≤ k → k < j → frozen (var_of (slice_index_or s.marked.lits k 0)) ≡ true

-- Marks went, and no clause did: each mark took at most as many steps with it as its literal stands in firm clauses, times one more than
-- there are firm clauses.
pub record Unmarks (s t : State) (a b limit : ℕ) : Type 0 where
  pub store : t.store ≡ s.store
  pub fewer : marked_sum t ≤ marked_sum s
  pub spent : b + marked_sum t * (length (firm s.store) + 1) ≤ a + marked_sum s * (length (firm s.store) + 1)
  pub rest : b ≤ limit

-- all from a place on were passed or settled
pub record GoesThrough (frozen : ℕ → Bool) (s t : State) (from a b limit : ℕ) : Type 0 where
  pub unmarks : Unmarks s t a b limit
  pub passed : FrozenBetween frozen t from (length t.marked.lits)

-- one clause was parked
pub record ParksOne (s t : State) (a b limit : ℕ) : Type 0 where
  pub fewer : length (firm s.store) ≡ length (firm t.store) + 1
  pub shorter : lits_sum t.store ≤ lits_sum s.store
  pub spent : b ≤ a + marked_sum s * (length (firm s.store) + 1)
  pub rest : b ≤ limit

-- the limit left no step
pub record RunsOut (s t : State) (a b limit : ℕ) : Type 0 where
  pub store : t.store ≡ s.store
  pub full : b ≡ limit
  pub spent : b < a + marked_sum s * (length (firm s.store) + 1)

abbrev pub Walked : (ℕ → Bool) → State → State → ℕ → ℕ → ℕ → ℕ → Walk → Type 0
Walked frozen s t from a b limit Through = GoesThrough frozen s t from a b limit
Walked frozen s t from a b limit (Stopped place) = ParksOne s t a b limit
Walked frozen s t from a b limit Cut = RunsOut s t a b limit

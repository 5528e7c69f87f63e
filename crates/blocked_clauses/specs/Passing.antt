-- The pass over the marked literals, and how it ends.
use Rattle.std.specs.Prelude.{◌≡◌, ℕ, ◌+◌, ◌-◌, ◌*◌, ◌/◌, ◌<◌, ◌≤◌, Bool, true, false, List, [], ◌∷◌, Option, Some, None, length, count_by, if◌then◌else◌}
use Rattle.sat_terms.specs.Literal.{has, var_of}
use Rattle.clause_store.specs.Stored.{Stored, keeps_firm}
use Rattle.firm_terms.specs.Firm.{firm, lits_sum}
use Rattle.firm_terms.specs.Resolving.{BlocksNone}
use Rattle.rule_kernel.specs.State.{State}
use Rattle.rule_kernel.specs.declared.report.Ended.{Ended}
use Rattle.rule_kernel.specs.declared.report.Ended.TheVariants.{Fixpoint, Limit}
use Rattle.rule_kernel.specs.declared.report.PassReport.{PassReport}

-- how many literals of a slot's clause pass a test, if it is firm, and the sum over a store
abbrev pub passing_size : (ℕ → Bool) → Option Stored → ℕ
passing_size test None = 0
passing_size test (Some c) = if keeps_firm c.keep then count_by test c.lits else 0

abbrev pub passing_sum : (ℕ → Bool) → List (Option Stored) → ℕ
passing_sum test [] = 0
passing_sum test (x ∷ s) = passing_size test x + passing_sum test s

-- how many literals of firm clauses are marked, each as often as it stands
abbrev pub marked_sum : State → ℕ
marked_sum s = passing_sum (has s.marked.lits) s.store

-- no firm clause is blocked on a literal whose variable is not frozen
abbrev pub NoneBlocked : (ℕ → Bool) → List (Option Stored) → Type 0
NoneBlocked frozen s = (l : ℕ) → frozen (var_of l) ≡ false → BlocksNone s l

-- how many firm clauses fewer there are
abbrev pub gone : State → State → ℕ
gone s t = length (firm s.store) - length (firm t.store)

-- With L the sum of the lengths of the firm clauses and M their number, this is (L + 1) (M + 1).
abbrev pub most_between : State → ℕ
most_between s = (lits_sum s.store + 1) * (length (firm s.store) + 1)

-- The pass stopped at its limit, after b steps: these were for the literals that were marked, and for those that the clauses marked that
-- were parked. At least b divided by (L + 1) (M + 1) were parked, and the limit is below (L + 1) (M + 1) (M + 1).
pub record ReachesLimit (s t : State) (limit b : ℕ) : Type 0 where
  pub full : b ≡ limit
  pub spent : b < (marked_sum s + lits_sum s.store * gone s t) * (length (firm s.store) + 1)
  pub parked : b / most_between s ≤ gone s t
  pub below : limit < most_between s * (length (firm s.store) + 1)

-- how the pass ended
abbrev pub Ends : (ℕ → Bool) → State → State → ℕ → Ended → Type 0
Ends frozen s t limit Fixpoint = NoneBlocked frozen t.store
Ends frozen s t limit (Limit b) = ReachesLimit s t limit b

-- all of some literals are those of frozen variables
abbrev pub AllFrozen : (ℕ → Bool) → List ℕ → Type 0
AllFrozen frozen lits = (l : ℕ) → has lits l ≡ true → frozen (var_of l) ≡ true

-- what is reported where there is nothing to do
abbrev pub nothing_done : PassReport
nothing_done = record { removed = 0; ended = Fixpoint }

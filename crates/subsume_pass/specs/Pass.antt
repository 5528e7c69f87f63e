-- What the pass owes at its end.
use Rattle.std.specs.Prelude.{◌≡◌, ℕ, ◌+◌, ◌-◌, ◌*◌, ◌/◌, ◌<◌, ◌≤◌, false, List, [], length, Option}
use Rattle.clause_store.specs.Stored.{Stored}
use Rattle.firm_terms.specs.Firm.{firm, lits_sum, has_empty}
use Rattle.firm_terms.specs.Subsuming.{IsReduced}
use Rattle.rule_kernel.specs.declared.report.Ended.{Ended}
use Rattle.rule_kernel.specs.declared.report.Ended.TheVariants.{Fixpoint, Limit}
use Rattle.rule_kernel.specs.Waiting.{Waiting}
use Rattle.rule_kernel.specs.State.{State}
use Rattle.subsume_pass.specs.declared.pass.Round.{Round}
use Rattle.subsume_pass.specs.declared.pass.Round.TheVariants.{Changed, Quiet, Full}
use Rattle.subsume_pass.specs.Changing.{size, Falls}
use Rattle.subsume_pass.specs.Trying.{waits}

-- nothing waits to be compared
pub record IsIdle (w : Waiting) : Type 0 where
  pub due : w.due ≡ []
  pub fresh : w.fresh ≡ []

-- No firm clause lies within another, no self-subsuming resolution shortens one, and nothing waits, unless there is an empty clause.
pub record IsFixpoint (t : State) : Type 0 where
  pub reduced : has_empty (firm t.store) ≡ false → IsReduced t.store
  pub idle : has_empty (firm t.store) ≡ false → IsIdle t.waiting

-- A round: turns up to the first that changed a clause. With M firm clauses at its start it has at most M M steps.
pub record GoesOn (s t : State) (a b limit : ℕ) : Type 0 where
  pub falls : Falls s.store t.store
  pub less : size t.store < size s.store
  pub few : waits t.waiting ≤ length (firm t.store)
  pub spent : b ≤ a + length (firm s.store) * length (firm s.store)
  pub rest : b ≤ limit

-- nothing is left to do
pub record EndsWell (s t : State) (a b : ℕ) : Type 0 where
  pub fixpoint : IsFixpoint t
  pub spent : b ≤ a + length (firm s.store) * length (firm s.store)

-- the limit ended it, where one step more was needed
pub record RunsOut (s t : State) (a b limit : ℕ) : Type 0 where
  pub falls : Falls s.store t.store
  pub full : b ≡ limit
  pub some : b < a + length (firm s.store) * length (firm s.store)

abbrev pub Rounded : State → State → ℕ → ℕ → ℕ → Round → Type 0
Rounded s t a b limit Changed = GoesOn s t a b limit
Rounded s t a b limit Quiet = EndsWell s t a b
Rounded s t a b limit Full = RunsOut s t a b limit

-- The pass stopped at its limit, after b steps. With M firm clauses at its start, their number and the sum of their lengths together have
-- fallen by at least b divided by M M; and with L the sum of their lengths then, the limit is below M M (L + M + 1).
pub record ReachesLimit (s t : List (Option Stored)) (limit b : ℕ) : Type 0 where
  pub full : b ≡ limit
  pub some : 0 < length (firm s)
  pub fell : b / (length (firm s) * length (firm s)) ≤ size s - size t
  pub below : limit < length (firm s) * length (firm s) * (lits_sum s + length (firm s) + 1)

-- how the pass ended
abbrev pub Ends : State → State → ℕ → Ended → Type 0
Ends s t limit Fixpoint = IsFixpoint t
Ends s t limit (Limit b) = ReachesLimit s.store t.store limit b

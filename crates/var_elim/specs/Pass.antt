-- The pass: which variable comes next, what a turn does, and how the pass ends.
use Rattle.std.specs.List.{count_by, list_any}
use Rattle.std.specs.Prelude.{◌≡◌, ◌≢◌, ◌<◌, ◌≤◌, ◌+◌, ◌*◌, ◌/◌, ◌==◌, ◌&&◌, ◌⊎◌, ℕ, Bool, true, false, not, List, Option, length}
use Rattle.sat_terms.specs.Literal.{has}
use Rattle.clause_store.specs.Stored.{Stored}
use Rattle.firm_terms.specs.Firm.{firm, stands, vars}
use Rattle.firm_terms.specs.Resolving.{candidate}
use Rattle.rule_kernel.specs.declared.report.Ended.{Ended}
use Rattle.rule_kernel.specs.declared.report.Ended.TheVariants.{Fixpoint, Limit}
use Rattle.rule_kernel.specs.State.{State}
use Rattle.rule_kernel.specs.Rules.{SameButMarks}
use Rattle.var_elim.specs.declared.order.Ranked.{Ranked}

-- no variable that is not frozen is a candidate
abbrev pub NoCandidates : (ℕ → Bool) → List (Option Stored) → Type 0
NoCandidates frozen s = (v : ℕ) → frozen v ≡ false → candidate (firm s) v ≡ false

-- how many of some variables are not frozen and stand in no clause
abbrev pub freed : (ℕ → Bool) → List ℕ → List (List ℕ) → ℕ
freed frozen vs cs = count_by (λ v. not (frozen v) && not (stands cs v)) vs

-- The pass stopped at its limit, after b steps. Of the n variables of the firm clauses at its start at least b divided by 400 n are not
-- frozen and stand in no firm clause now, and the limit is below 400 n (n + 1).
pub record ReachesLimit (frozen : ℕ → Bool) (s t : List (Option Stored)) (limit b : ℕ) : Type 0 where
  pub full : b ≡ limit
  pub some : 0 < length (vars (firm s))
  pub fell : b / (400 * length (vars (firm s))) ≤ freed frozen (vars (firm s)) (firm t)
  pub below : limit < 400 * length (vars (firm s)) * (length (vars (firm s)) + 1)

-- how the pass ended
abbrev pub Ends : (ℕ → Bool) → List (Option Stored) → List (Option Stored) → ℕ → Ended → Type 0
Ends frozen s t limit Fixpoint = NoCandidates frozen t
Ends frozen s t limit (Limit b) = ReachesLimit frozen s t limit b

-- the variables of a queue are marked, and not frozen
abbrev pub Queued : (ℕ → Bool) → State → List ℕ → Type 0
Queued frozen s queue = (v : ℕ) → has queue v ≡ true → (has s.marked.vars v ≡ true) × (frozen v ≡ false)

-- every marked variable is frozen or stands in a queue
abbrev pub AllQueued : (ℕ → Bool) → State → List ℕ → Type 0
AllQueued frozen s queue = (v : ℕ) → has s.marked.vars v ≡ true → frozen v ≡ false → has queue v ≡ true

-- The ranked variables are those of a list that are not frozen.
abbrev pub ranks : List Ranked → ℕ → Bool
ranks all v = list_any (λ r. r.var == v) all

pub record Ranks (frozen : ℕ → Bool) (marked : List ℕ) (all : List Ranked) : Type 0 where
  pub queued : (v : ℕ) → ranks all v ≡ true → (has marked v ≡ true) × (frozen v ≡ false)
  pub every : (v : ℕ) → has marked v ≡ true → frozen v ≡ false → ranks all v ≡ true

-- a variable was taken out of a queue
pub record TakenOut (queue queue' : List ℕ) (v : ℕ) : Type 0 where
  pub from : has queue v ≡ true
  pub others : (u : ℕ) → has queue' u ≡ (has queue u && not (v == u))
  pub fewer : length queue' < length queue

-- marks were taken off, of variables that stand in no firm clause
pub record Unmarks (s t : State) : Type 0 where
  pub same : SameButMarks s t
  pub fewer : (v : ℕ) → has t.marked.vars v ≡ true → has s.marked.vars v ≡ true
  pub kept : (v : ℕ) → has s.marked.vars v ≡ true → stands (firm s.store) v ≡ true → has t.marked.vars v ≡ true

-- A variable of a queue stands in a firm clause. What is left in the queue is marked as it was.
pub record Picked (s t : State) (queue queue' : List ℕ) (v : ℕ) : Type 0 where
  pub from : has queue v ≡ true
  pub out : has queue' v ≡ false
  pub stands : stands (firm s.store) v ≡ true
  pub within : (u : ℕ) → has queue' u ≡ true → has queue u ≡ true
  pub marked : (u : ℕ) → has queue' u ≡ true → has s.marked.vars u ≡ true → has t.marked.vars u ≡ true

-- none of them stands in a firm clause
abbrev pub NoneStands : State → List ℕ → Type 0
NoneStands s queue = (v : ℕ) → has queue v ≡ true → stands (firm s.store) v ≡ false

-- the variable that is tested next, and the queue behind it
pub record Chosen (frozen : ℕ → Bool) (s : State) (queue : List ℕ) (v : ℕ) : Type 0 where
  pub marked : has s.marked.vars v ≡ true
  pub free : frozen v ≡ false
  pub stands : stands (firm s.store) v ≡ true
  pub out : has queue v ≡ false
  pub queued : Queued frozen s queue

-- every marked variable is frozen
abbrev pub AllFrozen : (ℕ → Bool) → State → Type 0
AllFrozen frozen s = (v : ℕ) → has s.marked.vars v ≡ true → frozen v ≡ true

-- a marked variable that is not frozen stands in no firm clause
abbrev pub NoneLeft : (ℕ → Bool) → State → Type 0
NoneLeft frozen s = (v : ℕ) → has s.marked.vars v ≡ true → frozen v ≡ false → stands (firm s.store) v ≡ false

-- A turn tested a variable, between so many steps: it was no candidate, or it is eliminated. Its mark is gone.
pub record WentOn (s t : State) (v a b limit : ℕ) : Type 0 where
  pub more : a < b
  pub few : b ≤ a + 400
  pub within : b ≤ limit
  pub cleared : has t.marked.vars v ≡ false
  pub kept : (u : ℕ) → u ≢ v → has s.marked.vars u ≡ true → has t.marked.vars u ≡ true
  pub which : ((t.store ≡ s.store) × ((u : ℕ) → has t.marked.vars u ≡ true → has s.marked.vars u ≡ true)) ⊎ (stands (firm t.store) v ≡ false)

-- a turn came to the limit
pub record Stopped (s t : State) (a b limit : ℕ) : Type 0 where
  pub same : t ≡ s
  pub spent : b ≡ limit
  pub few : b < a + 400

-- What a turn does to a kernel: a clause that waits is tried on others, or others on it.
use Rattle.std.specs.Prelude.{◌≡◌, ◌≢◌, ◌⊎◌, ℕ, ◌+◌, ◌<◌, ◌≤◌, true, List, [], ◌∷◌, length, Option, if◌then◌else◌}
use Rattle.sat_terms.specs.Literal.{has}
use Rattle.clause_store.specs.Stored.{Stored, slot, slot_lits, is_firm}
use Rattle.firm_terms.specs.Firm.{firm, has_empty}
use Rattle.firm_terms.specs.Subsuming.{IsFree, IsDone}
use Rattle.rule_kernel.specs.Waiting.{Waiting}
use Rattle.rule_kernel.specs.State.{State}
use Rattle.subsume_pass.specs.declared.turn.Turn.{Turn}
use Rattle.subsume_pass.specs.declared.turn.Turn.TheVariants.{Done, Changed, Refuted, Full}
use Rattle.subsume_pass.specs.declared.turn.Effect.{Effect}
use Rattle.subsume_pass.specs.declared.turn.Effect.TheVariants.{Nothing, Something, Empty}
use Rattle.subsume_pass.specs.declared.fresh.Fate.{Fate}
use Rattle.subsume_pass.specs.declared.fresh.Fate.TheVariants.{Free, Went, Shrank, Halted}
use Rattle.subsume_pass.specs.Changing.{size, Falls, Drops, Cut}

-- how many different ids stand in a list
abbrev pub different : List ℕ → ℕ
different [] = 0
different (x ∷ ids) = if has ids x then different ids else different ids + 1

-- how many clauses wait to be tried on others, and how many for others, together
abbrev pub waits : Waiting → ℕ
waits w = different w.due + different w.fresh

-- What trying a clause on others keeps, wherever it stops: the clause is as it was and is due if it was, and none is fresh.
pub record Keeps (s t : State) (by : ℕ) : Type 0 where
  pub kept : slot t.store by ≡ slot s.store by
  pub due : has s.waiting.due by ≡ true → has t.waiting.due by ≡ true
  pub fresh : t.waiting.fresh ≡ []
  pub falls : Falls s.store t.store

-- A firm clause has met another one: that one is as it was and the two are free, or something else came in its place that is free.
pub record Met (s t : State) (by id : ℕ) : Type 0 where
  pub keeps : Keeps s t by
  pub free : (other : ℕ) → other ≢ by → is_firm (slot t.store other) ≡ true → ((slot t.store other ≡ slot s.store other) × (other ≢ id)) ⊎ IsFree (slot_lits (slot t.store by)) (slot_lits (slot t.store other))

-- it met it, and all is as it was; or something changed
pub record Leaves (s t : State) (by id : ℕ) : Type 0 where
  pub same : t ≡ s
  pub met : Met s t by id

pub record Alters (s t : State) (by id : ℕ) : Type 0 where
  pub less : size t.store < size s.store
  pub met : Met s t by id

abbrev pub Effects : State → State → ℕ → ℕ → Effect → Type 0
Effects s t by id Nothing = Leaves s t by id
Effects s t by id Something = Alters s t by id
Effects s t by id Empty = has_empty (firm t.store) ≡ true

-- a clause was tried on all others, with n steps at most
pub record Tested (t : List (Option Stored)) (by n a b limit : ℕ) : Type 0 where
  pub done : is_firm (slot t by) ≡ true → IsDone t by
  pub spent : b ≤ a + n
  pub rest : b ≤ limit

-- the limit left no step, and fewer than n were taken
pub record CameFull (n a b limit : ℕ) : Type 0 where
  pub full : b ≡ limit
  pub some : b < a + n

-- an empty clause is firm, after n steps at most
pub record Refutes (t : List (Option Stored)) (n a b : ℕ) : Type 0 where
  pub empty : has_empty (firm t) ≡ true
  pub spent : b ≤ a + n

-- nothing changed meanwhile, or something did
pub record TestedIdly (s t : State) (by n a b limit : ℕ) : Type 0 where
  pub same : t ≡ s
  pub tested : Tested t.store by n a b limit

pub record TestedWell (s t : State) (by n a b limit : ℕ) : Type 0 where
  pub less : size t.store < size s.store
  pub tested : Tested t.store by n a b limit

-- how it ended
abbrev pub Turned : State → State → ℕ → ℕ → ℕ → ℕ → ℕ → Turn → Type 0
Turned s t by n a b limit Done = TestedIdly s t by n a b limit
Turned s t by n a b limit Changed = TestedWell s t by n a b limit
Turned s t by n a b limit Refuted = Refutes t.store n a b
Turned s t by n a b limit Full = CameFull n a b limit

-- the clauses of some ids were tried on a clause, and are free of it
pub record StaysFree (s t : State) (id : ℕ) (ids : List ℕ) (a b limit : ℕ) : Type 0 where
  pub same : t ≡ s
  pub free : (i : ℕ) → is_firm (slot s.store i) ≡ true → id ≢ i → has ids i ≡ true → IsFree (slot_lits (slot s.store i)) (slot_lits (slot s.store id))
  pub spent : b ≤ a + length ids
  pub rest : b ≤ limit

-- it went, or a shorter one came in its place, after n steps at most
pub record GoesOut (s t : State) (id n a b limit : ℕ) : Type 0 where
  pub drops : Drops s t id
  pub spent : b ≤ a + n
  pub rest : b ≤ limit

pub record GetsCut (s t : State) (id next n a b limit : ℕ) : Type 0 where
  pub by : ℕ
  pub cut : Cut s t by id next
  pub spent : b ≤ a + n
  pub rest : b ≤ limit

-- the limit left no step
pub record Halts (s t : State) (n a b limit : ℕ) : Type 0 where
  pub same : t ≡ s
  pub full : b ≡ limit
  pub some : b < a + n

-- what became of a clause when others were tried on it
abbrev pub Fated : State → State → ℕ → List ℕ → ℕ → ℕ → ℕ → Fate → Type 0
Fated s t id ids a b limit Free = StaysFree s t id ids a b limit
Fated s t id ids a b limit Went = GoesOut s t id (length ids) a b limit
Fated s t id ids a b limit (Shrank next) = GetsCut s t id next (length ids) a b limit
Fated s t id ids a b limit Halted = Halts s t (length ids) a b limit

-- What a turn did that changed no clause: one that waited waits no longer, and there was no more than a step for each firm clause.
pub record Settles (s t : State) (a b limit : ℕ) : Type 0 where
  pub same : t.store ≡ s.store
  pub fell : waits t.waiting + 1 ≤ waits s.waiting
  pub spent : b ≤ a + length (firm s.store)
  pub rest : b ≤ limit

-- What one did that changed some: no more waits then than there are firm clauses.
pub record Advances (s t : State) (a b limit : ℕ) : Type 0 where
  pub falls : Falls s.store t.store
  pub less : size t.store < size s.store
  pub few : waits t.waiting ≤ length (firm t.store)
  pub spent : b ≤ a + length (firm s.store)
  pub rest : b ≤ limit

-- the limit ended a turn
pub record Stops (s t : State) (a b limit : ℕ) : Type 0 where
  pub falls : Falls s.store t.store
  pub some_waits : 0 < waits s.waiting
  pub full : b ≡ limit
  pub some : b < a + length (firm s.store)

-- how a turn ended
abbrev pub Passed : State → State → ℕ → ℕ → ℕ → Turn → Type 0
Passed s t a b limit Done = Settles s t a b limit
Passed s t a b limit Changed = Advances s t a b limit
Passed s t a b limit Refuted = Refutes t.store (length (firm s.store)) a b
Passed s t a b limit Full = Stops s t a b limit

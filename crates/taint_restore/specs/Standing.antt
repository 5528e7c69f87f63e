-- What a solver stands on between two of its steps: how a kernel stands for what was given.
use Rattle.std.specs.Prelude.{◌≡◌, ℕ, Bool, true, ◌||◌}
use Rattle.sat_terms.specs.Truth.{Assignment}
use Rattle.redundancy.specs.Redundancy.{StackTrue}
use Rattle.clause_store.specs.Stored.{FirmTrue, StoreTrue}
use Rattle.rule_kernel.specs.State.{State, IsChained}
use Rattle.taint_restore.specs.Known.{is_known, KnowsStore, KnowsStack, NoneMentioned}

-- What was given, and what a theory from outside says, as far as a kernel has to stand for it.
-- `clauses` and `rules` are the assignments that make the given clauses, and the other given
-- constraints, true; `admits` are those that the theory admits. `named` are the variables of
-- given clauses, `observed` the observed ones, `scope` those that the theory looks at, and
-- `asked` those for which a request still waits.
--
-- The parts, in order:
-- 1. Each entry's witness witnesses its clause for the firm clauses together with the clauses of
--    all later entries.
-- 2. Each admitted assignment that makes the given clauses true makes every stored clause true,
--    firm or redundant, and every stacked one.
-- 3. Each assignment that makes the firm and the stacked clauses true makes the given ones true.
-- 4. Each admitted assignment makes the other given constraints true.
-- 5. No witness mentions an observed variable, and the theory looks only at variables that are
--    observed or asked for.
-- 6. Each variable of a stored clause, of a stacked one and of a witness is observed or stands in
--    a given clause.
pub record Standing (admits clauses rules : Assignment → Type 0)
    (named observed scope asked : ℕ → Bool) (k : State) : Type 0 where
  pub chain : IsChained k
  pub follows : (f : Assignment) → admits f → clauses f
      → StoreTrue k.store f × StackTrue f k.stack
  pub suffices : (f : Assignment) → FirmTrue k.store f → StackTrue f k.stack → clauses f
  pub rules_kept : (f : Assignment) → admits f → rules f
  pub unmentioned : NoneMentioned observed k.stack
  pub seen : (v : ℕ) → scope v ≡ true → (observed v || asked v) ≡ true
  pub stored_known : KnowsStore (is_known observed named) k.store
  pub stacked_known : KnowsStack (is_known observed named) k.stack

-- the assignments that pass a test
abbrev pub Passes : (Assignment → Bool) → Assignment → Type 0
Passes test f = test f ≡ true

-- Whatever was given, and whatever a theory admits: a kernel that stood for it still does.
abbrev pub KeepsStanding : State → State → Type 0
KeepsStanding old new =
    (admits clauses rules : Assignment → Bool) (named observed scope asked : ℕ → Bool)
    → Standing (Passes admits) (Passes clauses) (Passes rules) named observed scope asked old
    → Standing (Passes admits) (Passes clauses) (Passes rules) named observed scope asked new

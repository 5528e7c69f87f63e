-- The rules of incremental inprocessing (after Järvisalo, Heule, Biere, IJCAR 2012, and Fazekas, Biere, Scholl, SAT 2019): when each may
-- be used, and all that it changes.
use Rattle.std.specs.Prelude.{◌≡◌, ℕ, ◌+◌, ◌<◌, min, true, List, [], ◌∷◌, ◌++◌, length, drop, remove, if◌then◌else◌}
use Rattle.sat_terms.specs.Limits.{max_number}
use Rattle.sat_terms.specs.Normal.{IsNormal}
use Rattle.sat_terms.specs.Truth.{Assignment, clause_true, Implies}
use Rattle.redundancy.specs.Setting.{set_true}
use Rattle.redundancy.specs.Redundancy.{Entry, Witnesses, Clean, StackTrue, entry, extend}
use Rattle.clause_store.specs.declared.stored.Keep.TheVariants.{Firm, Redundant}
use Rattle.clause_store.specs.Stored.{Stored, slot, slot_lits, is_firm, is_redundant, FirmTrue, OthersTrue, Fills, Frees}
use Rattle.rule_kernel.specs.Changes.{MarksCame, MarksWent}
use Rattle.rule_kernel.specs.Waiting.{Waits, Leaves}
use Rattle.rule_kernel.specs.Settled.{unsettled}
use Rattle.rule_kernel.specs.State.{State, IsChained}

-- one more, up to a bound
abbrev pub counted : ℕ → ℕ
counted n = min (n + 1) max_number

-- a firm clause, and a redundant one of a glue
abbrev pub firm_clause : List ℕ → Stored
firm_clause c = record { lits = c; keep = Firm; glue = 0 }

abbrev pub redundant_clause : List ℕ → ℕ → Stored
redundant_clause c g = record { lits = c; keep = Redundant; glue = g }

-- the stack and both counts stay
pub record SameRest (old new : State) : Type 0 where
  pub stack : new.stack ≡ old.stack
  pub removals : new.removals ≡ old.removals
  pub restores : new.restores ≡ old.restores

-- all stays but what is marked, what waits, and what is settled: the store, the stack and both counts
pub record SameButMarks (old new : State) : Type 0 where
  pub store : new.store ≡ old.store
  pub rest : SameRest old new

-- A normal clause that is clean for the stack comes to the firm clauses.
pub record Adds (old new : State) (lits : List ℕ) (id : ℕ) : Type 0 where
  pub normal : IsNormal lits
  pub clean : Clean lits old.stack
  pub store : Fills old.store new.store id (firm_clause lits)
  pub rest : SameRest old new
  pub marks : MarksCame old.marked new.marked lits
  pub waits : Waits old.waiting new.waiting id
  pub settled : new.settled ≡ unsettled old.settled

-- A normal clause that the firm clauses imply comes to them.
pub record AddsImplied (old new : State) (lits : List ℕ) (id : ℕ) : Type 0 where
  pub normal : IsNormal lits
  pub implied : Implies (FirmTrue old.store) lits
  pub store : Fills old.store new.store id (firm_clause lits)
  pub rest : SameRest old new
  pub marks : MarksCame old.marked new.marked lits
  pub waits : Waits old.waiting new.waiting id
  pub settled : new.settled ≡ unsettled old.settled

-- A firm clause that the others imply goes.
pub record DropsImplied (old new : State) (id : ℕ) : Type 0 where
  pub firm : is_firm (slot old.store id) ≡ true
  pub implied : Implies (OthersTrue old.store id) (slot_lits (slot old.store id))
  pub store : Frees old.store new.store id
  pub stack : new.stack ≡ old.stack
  pub removals : new.removals ≡ counted old.removals
  pub restores : new.restores ≡ old.restores
  pub marks : MarksWent old.marked new.marked (slot_lits (slot old.store id))
  pub leaves : Leaves old.waiting new.waiting id
  pub settled : new.settled ≡ old.settled

-- A firm clause goes to the end of the stack, with a witness that witnesses it for the other firm clauses.
pub record Parks (old new : State) (id : ℕ) (witness : List ℕ) : Type 0 where
  pub firm : is_firm (slot old.store id) ≡ true
  pub witnessed : Witnesses (OthersTrue old.store id) witness (slot_lits (slot old.store id))
  pub store : Frees old.store new.store id
  pub stack : new.stack ≡ old.stack ++ record { witness = witness; clause = slot_lits (slot old.store id) } ∷ []
  pub removals : new.removals ≡ counted old.removals
  pub restores : new.restores ≡ old.restores
  pub marks : MarksWent old.marked new.marked (slot_lits (slot old.store id))
  pub leaves : Leaves old.waiting new.waiting id
  pub settled : new.settled ≡ old.settled

-- An entry goes from the stack, and its clause, which is clean for the later entries, comes to the firm clauses.
pub record Restores (old new : State) (k id : ℕ) : Type 0 where
  pub within : k < length old.stack
  pub clean : Clean (entry old.stack k).clause (drop (k + 1) old.stack)
  pub store : Fills old.store new.store id (firm_clause (entry old.stack k).clause)
  pub stack : new.stack ≡ remove old.stack k
  pub removals : new.removals ≡ old.removals
  pub restores : new.restores ≡ counted old.restores
  pub marks : MarksCame old.marked new.marked (entry old.stack k).clause
  pub waits : Waits old.waiting new.waiting id
  pub settled : new.settled ≡ unsettled old.settled

-- A normal clause comes to the redundant ones.
pub record Learns (old new : State) (lits : List ℕ) (glue id : ℕ) : Type 0 where
  pub normal : IsNormal lits
  pub store : Fills old.store new.store id (redundant_clause lits glue)
  pub rest : SameRest old new
  pub marks : new.marked ≡ old.marked
  pub waiting : new.waiting ≡ old.waiting
  pub settled : new.settled ≡ old.settled

-- A redundant clause goes.
pub record Forgets (old new : State) (id : ℕ) : Type 0 where
  pub redundant : is_redundant (slot old.store id) ≡ true
  pub store : Frees old.store new.store id
  pub rest : SameRest old new
  pub marks : new.marked ≡ old.marked
  pub waiting : new.waiting ≡ old.waiting
  pub settled : new.settled ≡ old.settled

-- a rule with its arguments and, where a clause comes, the id that it gets
pub data Rule : Type 0 where
  Add : (lits : List ℕ) (id : ℕ) → Rule
  AddImplied : (lits : List ℕ) (id : ℕ) → Rule
  DropImplied : (id : ℕ) → Rule
  Park : (id : ℕ) (witness : List ℕ) → Rule
  Restore : (k id : ℕ) → Rule
  Learn : (lits : List ℕ) (glue id : ℕ) → Rule
  Forget : (id : ℕ) → Rule

-- a rule may be used in the old state, and leads to the new one
abbrev pub Applies : Rule → State → State → Type 0
Applies (Add lits id) old new = Adds old new lits id
Applies (AddImplied lits id) old new = AddsImplied old new lits id
Applies (DropImplied id) old new = DropsImplied old new id
Applies (Park id witness) old new = Parks old new id witness
Applies (Restore k id) old new = Restores old new k id
Applies (Learn lits glue id) old new = Learns old new lits glue id
Applies (Forget id) old new = Forgets old new id

-- Rules, one after another. Between them marks may come and go: that is no rule.
abbrev pub Run : List Rule → State → State → Type 0
Run [] old new = SameButMarks old new
Run (rule ∷ rules) old new = (before mid : State) × SameButMarks old before × Applies rule before mid × Run rules mid new

-- From the chain: an assignment that makes the firm clauses true, extended by the stack, makes the firm clauses and the clauses
-- of the stack true.
abbrev pub ChainExtends : Type 0
ChainExtends = (s : State) (f : Assignment) → IsChained s → FirmTrue s.store f → FirmTrue s.store (extend f s.stack) × StackTrue (extend f s.stack) s.stack

-- whatever rules are used, the chain is kept
abbrev pub RulesKeepChain : Type 0
RulesKeepChain = (rules : List Rule) (old new : State) → IsChained old → Run rules old new → IsChained new

-- the newest entry acts first: where its clause is false it sets its witness true, and then the others act
abbrev pub NewestActsFirst : Type 0
NewestActsFirst = (s : List Entry) (e : Entry) (f : Assignment) → extend f (s ++ e ∷ []) ≡ extend (if clause_true f e.clause then f else set_true f e.witness) s

-- What contracts see of a kernel.
use Rattle.std.specs.Prelude.{◌≡◌, ◌≢◌, ◌<◌, ℕ, true, false, List, length, Option}
use Rattle.sat_terms.specs.Literal.{has}
use Rattle.redundancy.specs.Redundancy.{Entry, Chain}
use Rattle.clause_store.specs.Stored.{Stored, FirmTrue, slot, slot_lits, is_firm}
use Rattle.firm_terms.specs.Firm.{firm}
use Rattle.firm_terms.specs.Resolving.{candidate, BlocksNone}
use Rattle.firm_terms.specs.Subsuming.{IsFree}
use Rattle.firm_terms.specs.Implying.{NoEquivalents}
use Rattle.firm_terms.specs.Signing.{IsSignature}
use Rattle.firm_terms.specs.Vivifying.{AllCalm}
use Rattle.rule_kernel.specs.Changes.{Marked, Markable, marked, HasRoom}
use Rattle.rule_kernel.specs.Frozen.{is_frozen}
use Rattle.rule_kernel.specs.Waiting.{Waiting, Waitable, waiting, signature}
use Rattle.rule_kernel.specs.Settled.{Settled}

-- the clauses by their ids, the reconstruction stack, oldest first, how often clauses were removed and restored, what is marked as
-- changed, which clauses wait to be compared, and what is settled
pub record State : Type 0 where
  pub store : List (Option Stored)
  pub stack : List Entry
  pub removals : ℕ
  pub restores : ℕ
  pub marked : Marked
  pub waiting : Waiting
  pub settled : Settled

-- each entry's witness witnesses its clause for the firm clauses together with the clauses of all later entries
abbrev pub IsChained : State → Type 0
IsChained s = Chain (FirmTrue s.store) s.stack

-- the variables of all firm clauses can be marked
abbrev pub FirmRoom : ℕ → List (Option Stored) → Type 0
FirmRoom room s = (id : ℕ) → is_firm (slot s id) ≡ true → HasRoom room (slot_lits (slot s id))

-- there is room for the ids of all firm clauses
abbrev pub FirmIds : ℕ → List (Option Stored) → Type 0
FirmIds room s = (id : ℕ) → is_firm (slot s id) ≡ true → id < room

-- for each firm clause its signature is kept
abbrev pub FirmSigned : List ℕ → List (Option Stored) → Type 0
FirmSigned signatures s = (id : ℕ) → is_firm (slot s id) ≡ true → IsSignature (slot_lits (slot s id)) (signature signatures id)

-- the ids are those of firm clauses
abbrev pub AllFirm : List (Option Stored) → List ℕ → Type 0
AllFirm s ids = (id : ℕ) → has ids id ≡ true → is_firm (slot s id) ≡ true

-- Of two firm clauses the first neither lies within the second nor shortens it, unless the first waits to be tried on all others, or
-- the second waits for all others to be tried on it. An empty clause is left aside.
abbrev pub Tried : List (Option Stored) → List ℕ → List ℕ → Type 0
Tried s due fresh =
    (i j : ℕ) → is_firm (slot s i) ≡ true → is_firm (slot s j) ≡ true → j ≢ i → 0 < length (slot_lits (slot s i))
    → has due i ≡ false → has fresh j ≡ false → IsFree (slot_lits (slot s i)) (slot_lits (slot s j))

-- What passes may rely on. A variable without a mark is no candidate for elimination. A literal without a mark has no clause that is
-- blocked on it. A clause on which all others wait to be tried is due itself. Clauses that do not wait neither lie within one another nor
-- shorten one another. Where it is settled so, there are no equivalences, and vivification shortens no clause.
pub record Promises (s : List (Option Stored)) (marked : Marked) (waiting : Waiting) (settled : Settled) : Type 0 where
  pub vars : (v : ℕ) → has marked.vars v ≡ false → candidate (firm s) v ≡ false
  pub lits : (l : ℕ) → has marked.lits l ≡ false → BlocksNone s l
  pub due : AllFirm s waiting.due
  pub fresh : AllFirm s waiting.fresh
  pub within : (id : ℕ) → has waiting.fresh id ≡ true → has waiting.due id ≡ true
  pub tried : Tried s waiting.due waiting.fresh
  pub untied : settled.untied ≡ true → NoEquivalents (is_frozen settled.frozen) s
  pub calm : settled.calm ≡ true → AllCalm s

-- What every kernel keeps: the chain, what passes may rely on, room to mark the variables of each firm clause when it goes, and to have
-- it wait, and its signature.
pub record IsKept (store : List (Option Stored)) (stack : List Entry) (m : Markable) (w : Waitable) (settled : Settled) : Type 0 where
  pub chain : Chain (FirmTrue store) stack
  pub room : FirmRoom m.room store
  pub ids : FirmIds w.room store
  pub signed : FirmSigned w.signatures store
  pub promises : Promises store (marked m) (waiting w) settled

-- the same of a state, but for the room
abbrev pub IsPromised : State → Type 0
IsPromised s = Promises s.store s.marked s.waiting s.settled

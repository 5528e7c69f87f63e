-- What a pass did, as a list of rules, and what follows from it.
use Rattle.std.specs.Prelude.{◌≡◌, ℕ, ◌+◌, min, Bool, true, false, ◌||◌, List, [], ◌∷◌, ◌++◌, Option}
use Rattle.sat_terms.specs.Limits.{max_number}
use Rattle.sat_terms.specs.Literal.{has, var_of}
use Rattle.sat_terms.specs.Truth.{Assignment}
use Rattle.redundancy.specs.Redundancy.{Entry, StackTrue}
use Rattle.clause_store.specs.Stored.{Stored, slot, is_redundant, FirmTrue}
use Rattle.firm_terms.specs.Firm.{mentions, firm, stands}
use Rattle.rule_kernel.specs.State.{State}
use Rattle.rule_kernel.specs.Rules.{Applies, AddImplied, DropImplied, Park, SameButMarks}

-- no variable is free to be a witness
abbrev pub always : ℕ → Bool
always v = true

-- the variables of a clause stand in firm clauses
abbrev pub IsKnown : State → List ℕ → Type 0
IsKnown s lits = (v : ℕ) → mentions lits v ≡ true → stands (firm s.store) v ≡ true

-- One rule, as a pass uses it: a clause that is implied comes, with no new variable; one that is implied by the others goes; one goes to
-- the stack, with one literal as witness, whose variable is not frozen. Or marks come and go, which is no rule.
pub data Uses (frozen : ℕ → Bool) (s t : State) : Type 0 where
  implied : (lits : List ℕ) (id : ℕ) → IsKnown s lits → Applies (AddImplied lits id) s t → Uses frozen s t
  dropped : (id : ℕ) → Applies (DropImplied id) s t → Uses frozen s t
  parked : (id x : ℕ) → frozen (var_of x) ≡ false → Applies (Park id (x ∷ [])) s t → Uses frozen s t
  unmarked : SameButMarks s t → Uses frozen s t

-- rules, one after another
pub data Ruled (frozen : ℕ → Bool) (s : State) : State → Type 0 where
  none : Ruled frozen s s
  more : (t u : State) → Ruled frozen s t → Uses frozen t u → Ruled frozen s u

-- how many clauses went, by one rule, by all of them
abbrev pub goes : {frozen : ℕ → Bool} {s t : State} → Uses frozen s t → ℕ
goes (implied lits id known r) = 0
goes (dropped id r) = 1
goes (parked id x free r) = 1
goes (unmarked r) = 0

abbrev pub removals_of : {frozen : ℕ → Bool} {s t : State} → Ruled frozen s t → ℕ
removals_of none = 0
removals_of (more t u rules rule) = removals_of rules + goes rule

-- an assignment makes the firm and the stacked clauses true
abbrev pub Models : State → Assignment → Type 0
Models s f = FirmTrue s.store f × StackTrue f s.stack

-- the clauses of the stack, and whether a variable stands in a firm or a stacked clause
abbrev pub stacked : List Entry → List (List ℕ)
stacked [] = []
stacked (e ∷ later) = e.clause ∷ stacked later

abbrev pub stands_in : State → ℕ → Bool
stands_in s v = stands (firm s.store) v || stands (stacked s.stack) v

-- entries whose witness is one literal of the clause, and of a variable that is not frozen
pub record IsSingle (frozen : ℕ → Bool) (e : Entry) : Type 0 where
  pub lit : ℕ
  pub alone : e.witness ≡ lit ∷ []
  pub within : has e.clause lit ≡ true
  pub free : frozen (var_of lit) ≡ false

abbrev pub AreSingle : (ℕ → Bool) → List Entry → Type 0
AreSingle frozen [] = Unit {0}
AreSingle frozen (e ∷ later) = IsSingle frozen e × AreSingle frozen later

-- the redundant clauses are the same
pub record SameRedundant (s t : List (Option Stored)) : Type 0 where
  pub kept : (id : ℕ) → is_redundant (slot s id) ≡ true → slot t id ≡ slot s id
  pub no_more : (id : ℕ) → is_redundant (slot t id) ≡ true → slot t id ≡ slot s id

-- What a pass owes, whatever it does, where so many clauses went.
pub record Simplified (frozen : ℕ → Bool) (s t : State) (went : ℕ) : Type 0 where
  pub to : (f : Assignment) → Models s f → Models t f
  pub from : (f : Assignment) → Models t f → Models s f
  pub stands : (v : ℕ) → stands_in t v ≡ true → stands_in s v ≡ true
  pub redundant : SameRedundant s.store t.store
  pub stack : (later : List Entry) × (t.stack ≡ s.stack ++ later) × AreSingle frozen later
  pub removals : min t.removals max_number ≡ min (s.removals + went) max_number
  pub restores : t.restores ≡ s.restores

abbrev pub PassesSimplify : Type 0
PassesSimplify = (frozen : ℕ → Bool) (s t : State) (rules : Ruled frozen s t) → Simplified frozen s t (removals_of rules)

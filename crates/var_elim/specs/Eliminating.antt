-- A variable is eliminated: its resolvents come, and its clauses are parked.
use Rattle.std.specs.Prelude.{◌≡◌, ◌≢◌, ◌<◌, ◌⊎◌, ◌==◌, ℕ, Bool, true, false, not, List, Option, Some, length}
use Rattle.sat_terms.specs.Literal.{has, neg}
use Rattle.sat_terms.specs.Normal.{IsNormal}
use Rattle.sat_terms.specs.Truth.{Assignment, clause_true, lit_true, Implies}
use Rattle.clause_store.specs.Stored.{Stored, slot, is_firm, FirmTrue}
use Rattle.firm_terms.specs.Firm.{Holds}
use Rattle.rule_kernel.specs.State.{State}
use Rattle.rule_kernel.specs.Rules.{firm_clause}
use Rattle.pass_terms.specs.Ruled.{IsKnown}
use Rattle.var_elim.specs.Testing.{lits_at, clause_at}

-- the firm clauses that hold neither x nor its negation are true
abbrev pub RestTrue : List (Option Stored) → ℕ → Assignment → Type 0
RestTrue s x f =
    (k : ℕ) → is_firm (slot s k) ≡ true → has (lits_at s k) x ≡ false → has (lits_at s k) (neg x) ≡ false
    → clause_true f (lits_at s k) ≡ true

-- Wherever these are true and a clause with x is false, each clause with the negation is true by another literal.
abbrev pub Settled : List (Option Stored) → ℕ → Type 0
Settled s x =
    (k m : ℕ) → Holds s k x → Holds s m (neg x) → (f : Assignment) → RestTrue s x f → clause_true f (lits_at s k) ≡ false
    → (l : ℕ) × (has (lits_at s m) l ≡ true) × (l ≢ neg x) × (lit_true f l ≡ true)

-- every variable is frozen, and every one but one
abbrev pub always : ℕ → Bool
always v = true

abbrev pub all_but : ℕ → ℕ → Bool
all_but x v = not (v == x)

-- These clauses came to the firm ones, and nothing else did; the firm ones stay.
pub record Extends (s t : List (Option Stored)) (rs : List (List ℕ)) : Type 0 where
  pub kept : (k : ℕ) → is_firm (slot s k) ≡ true → slot t k ≡ slot s k
  pub came : (k : ℕ) → is_firm (slot t k) ≡ true
      → (slot t k ≡ slot s k) ⊎ ((j : ℕ) × (j < length rs) × (slot t k ≡ Some (firm_clause (clause_at rs j))))
  pub there : (j : ℕ) → j < length rs → (k : ℕ) × (slot t k ≡ Some (firm_clause (clause_at rs j)))

-- The clauses may come: they are normal, and implied, and none has a new variable.
pub record MayCome (s : State) (rs : List (List ℕ)) : Type 0 where
  pub normal : (j : ℕ) → j < length rs → IsNormal (clause_at rs j)
  pub implied : (j : ℕ) → j < length rs → Implies (FirmTrue s.store) (clause_at rs j)
  pub known : (j : ℕ) → j < length rs → IsKnown s (clause_at rs j)

-- what was marked is marked
abbrev pub MarksStay : State → State → Type 0
MarksStay s t = (v : ℕ) → has s.marked.vars v ≡ true → has t.marked.vars v ≡ true

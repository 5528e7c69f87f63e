-- What the pass owes at its end.
use Rattle.std.specs.Prelude.{◌≡◌, ◌≢◌, ℕ, ◌+◌, ◌*◌, ◌/◌, ◌<◌, ◌≤◌, Bool, true, false, List, [], ◌∷◌, length, Option}
use Rattle.sat_terms.specs.Literal.{has, neg, var_of}
use Rattle.sat_terms.specs.Truth.{Implies}
use Rattle.clause_store.specs.Stored.{Stored, FirmTrue}
use Rattle.rule_kernel.specs.declared.report.Ended.{Ended}
use Rattle.rule_kernel.specs.declared.report.Ended.TheVariants.{Fixpoint, Limit}
use Rattle.rule_kernel.specs.State.{State}
use Rattle.firm_terms.specs.Firm.{firm, stands, has_empty, vars, gone}
use Rattle.equiv_subst.specs.declared.pairs.Pair.{Pair}
use Rattle.equiv_subst.specs.declared.pass.Round.{Round}
use Rattle.equiv_subst.specs.declared.pass.Round.TheVariants.{Quiet, Full, Again}
use Rattle.firm_terms.specs.Implying.{NoEquivalents}
use Rattle.equiv_subst.specs.Walk.{pair}
use Rattle.equiv_subst.specs.Replacing.{Replaced}

-- No variable that is not frozen is equivalent to a literal of another one, unless there is an
-- empty clause.
abbrev pub IsFixpoint : (ℕ → Bool) → List (Option Stored) → Type 0
IsFixpoint frozen s = has_empty (firm s) ≡ false → NoEquivalents frozen s

-- The pass stopped at its limit, after b steps. With M firm clauses and n variables in them at
-- its start, at least b divided by 3 M of these variables stand in no firm clause now, and the
-- limit is below 3 M (n + 1).
pub record ReachesLimit (s t : List (Option Stored)) (limit b : ℕ) : Type 0 where
  pub full : b ≡ limit
  pub some : 0 < length (firm s)
  pub fell : b / (3 * length (firm s)) ≤ gone (vars (firm s)) (firm t)
  pub below : limit < 3 * length (firm s) * (length (vars (firm s)) + 1)

-- how the pass ended
abbrev pub Ends : (ℕ → Bool) → List (Option Stored) → List (Option Stored) → ℕ → Ended → Type 0
Ends frozen s t limit Fixpoint = IsFixpoint frozen t
Ends frozen s t limit (Limit b) = ReachesLimit s t limit b

-- two literals that imply one another, the first of which is to be replaced
pub record IsEquivalent (frozen : ℕ → Bool) (s : List (Option Stored)) (p : Pair) : Type 0 where
  pub forth : Implies (FirmTrue s) (neg p.lit ∷ p.to ∷ [])
  pub back : Implies (FirmTrue s) (neg p.to ∷ p.lit ∷ [])
  pub from : stands (firm s) (var_of p.lit) ≡ true
  pub to : stands (firm s) (var_of p.to) ≡ true
  pub free : var_of p.lit ≢ var_of p.to → frozen (var_of p.lit) ≡ false
  pub apart : p.lit ≢ p.to

-- where both variables stand in firm clauses, these imply that x implies y
abbrev pub ImpliedWhereBothStand : List (Option Stored) → ℕ → ℕ → Type 0
ImpliedWhereBothStand s x y = stands (firm s) (var_of x) ≡ true
    → stands (firm s) (var_of y) ≡ true
    → Implies (FirmTrue s) (neg x ∷ y ∷ [])

-- one of some pairs has a literal and its negation, and none has
abbrev pub HasClash : List Pair → Type 0
HasClash ps = (k : ℕ) × (k < length ps) × (var_of (pair ps k).lit ≡ var_of (pair ps k).to)

abbrev pub HasNoClash : List Pair → Type 0
HasNoClash ps = (k : ℕ) → k < length ps → var_of (pair ps k).lit ≢ var_of (pair ps k).to

abbrev pub AreEquivalent : (ℕ → Bool) → List (Option Stored) → List Pair → Type 0
AreEquivalent frozen s ps = (k : ℕ) → k < length ps → IsEquivalent frozen s (pair ps k)

-- what is found in a store
pub record Equivalences (frozen : ℕ → Bool) (s : List (Option Stored)) (ps : List Pair)
    (a b limit : ℕ) : Type 0 where
  pub are : AreEquivalent frozen s ps
  pub settled : length ps ≡ 0 → NoEquivalents frozen s
  pub spent : b ≤ a + 2 * length (firm s)
  pub rest : b ≤ limit

-- a pair whose variables do not both stand any more is left, and else the literal is replaced
pub data Tried (s t : State) (x y a b limit : ℕ) : Type 0 where
  left : t ≡ s → b ≡ a
      → (stands (firm s.store) (var_of x) ≡ true → stands (firm s.store) (var_of y) ≡ true → ⊥)
      → Tried s t x y a b limit
  done : stands (firm s.store) (var_of x) ≡ true
      → Replaced s.store t.store (var_of x) a b limit → Tried s t x y a b limit

-- the variables of the firm clauses are among some
abbrev pub Covers : List ℕ → List (Option Stored) → Type 0
Covers vs s = (v : ℕ) → stands (firm s) v ≡ true → has vs v ≡ true

-- the pairs were used
pub record Advanced (s t : List (Option Stored)) (a b limit : ℕ) : Type 0 where
  pub few : length (firm t) ≤ length (firm s)
  pub fell : (vs : List ℕ) → Covers vs s → gone vs (firm s) < gone vs (firm t)
  pub spent : (vs : List ℕ) (m : ℕ) → Covers vs s → length (firm s) ≤ m
      → b + m * gone vs (firm s) ≤ a + m * gone vs (firm t)
  pub rest : b ≤ limit

pub record Exhausted (s t : List (Option Stored)) (a b limit : ℕ) : Type 0 where
  pub full : b ≡ limit
  pub spent : (vs : List ℕ) (m : ℕ) → Covers vs s → length (firm s) ≤ m
      → b + m * gone vs (firm s) < a + m * (gone vs (firm t) + 1)

-- a round that went on, and one that the limit ended
pub record WentOn (s t : List (Option Stored)) (a b limit : ℕ) : Type 0 where
  pub few : length (firm t) ≤ length (firm s)
  pub fell : (vs : List ℕ) → Covers vs s → gone vs (firm s) < gone vs (firm t)
  pub spent : (vs : List ℕ) (m : ℕ) → Covers vs s → length (firm s) ≤ m
      → b + 3 * (m * gone vs (firm s)) ≤ a + 3 * (m * gone vs (firm t))
  pub rest : b ≤ limit

pub record CameFull (s t : List (Option Stored)) (a b limit : ℕ) : Type 0 where
  pub full : b ≡ limit
  pub spent : (vs : List ℕ) (m : ℕ) → Covers vs s → length (firm s) ≤ m
      → b + 3 * (m * gone vs (firm s)) < a + 3 * (m * (gone vs (firm t) + 1))

-- a round, whichever way it ended
abbrev pub Rounded : (ℕ → Bool) → List (Option Stored) → List (Option Stored) → ℕ → ℕ → ℕ
    → Round → Type 0
Rounded frozen s t a b limit Quiet = IsFixpoint frozen t
Rounded frozen s t a b limit Full = CameFull s t a b limit
Rounded frozen s t a b limit Again = WentOn s t a b limit

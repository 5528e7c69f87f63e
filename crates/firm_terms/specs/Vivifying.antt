-- Vivification: what unit propagation over the other firm clauses makes of a clause.
use Rattle.std.specs.Prelude.{◌≡◌, ◌≢◌, ◌⊎◌, ℕ, ◌<◌, ◌≤◌, true, List, [], ◌∷◌, ◌++◌, length, map, Option}
use Rattle.sat_terms.specs.Literal.{has, neg}
use Rattle.clause_store.specs.Stored.{Stored, slot, slot_lits, is_firm}

-- What unit propagation makes true from given literals, over the firm clauses but one: the given
-- literals, and each literal of such a clause whose other literals are all made false.
pub data Forced (s : List (Option Stored)) (id : ℕ) (given : List ℕ) : ℕ → Type 0 where
  start : (l : ℕ) → has given l ≡ true → Forced s id given l
  unit : (l k : ℕ) → k ≢ id → is_firm (slot s k) ≡ true → has (slot_lits (slot s k)) l ≡ true
      → ((m : ℕ) → has (slot_lits (slot s k)) m ≡ true → m ≢ l → Forced s id given (neg m))
      → Forced s id given l

-- one of these clauses is made false
abbrev pub Fails : List (Option Stored) → ℕ → List ℕ → Type 0
Fails s id given = (k : ℕ) × (k ≢ id) × (is_firm (slot s k) ≡ true)
    × ((m : ℕ) → has (slot_lits (slot s k)) m ≡ true → Forced s id given (neg m))

-- the opposite literals
abbrev pub negs : List ℕ → List ℕ
negs c = map neg c

-- Some literals of the clause c are assumed false. No clause is false then, and no literal of c
-- is true. Before the first is assumed nothing is looked at.
abbrev pub IsOpen : List (Option Stored) → ℕ → List ℕ → List ℕ → Type 0
IsOpen s id c assumed = 0 < length assumed → (Fails s id (negs assumed) → ⊥)
    × ((l : ℕ) → has c l ≡ true → Forced s id (negs assumed) l → ⊥)

-- the two ways to an early end: a clause is false; or none is, and a literal of c is true
abbrev pub Stops : List (Option Stored) → ℕ → List ℕ → List ℕ → List ℕ → Type 0
Stops s id c assumed new =
    (0 < length assumed) × ((Fails s id (negs assumed) × (new ≡ assumed))
    ⊎ ((Fails s id (negs assumed) → ⊥)
    × ((l : ℕ) × (has c l ≡ true) × Forced s id (negs assumed) l × (new ≡ assumed ++ l ∷ []))))

-- The rule: the literals of c that are left are taken in order. One that is false already is left
-- out, and any other is assumed false.
abbrev pub Vivifies : List (Option Stored) → ℕ → List ℕ → List ℕ → List ℕ → List ℕ → Type 0
Vivifies s id c assumed [] new = Stops s id c assumed new
    ⊎ (IsOpen s id c assumed × (new ≡ assumed))
Vivifies s id c assumed (l ∷ rest) new =
    Stops s id c assumed new
    ⊎ (IsOpen s id c assumed
    × (((0 < length assumed) × Forced s id (negs assumed) (neg l)
    × Vivifies s id c assumed rest new)
    ⊎ ((0 < length assumed → Forced s id (negs assumed) (neg l) → ⊥)
    × Vivifies s id c (assumed ++ l ∷ []) rest new)))

-- what the rule makes of the clause of an id
abbrev pub Makes : List (Option Stored) → ℕ → List ℕ → Type 0
Makes s id new = Vivifies s id (slot_lits (slot s id)) [] (slot_lits (slot s id)) new

-- the rule shortens no firm clause
abbrev pub NoneShortens : List (Option Stored) → Type 0
NoneShortens s = (id : ℕ) → is_firm (slot s id) ≡ true → (new : List ℕ) → Makes s id new
    → length (slot_lits (slot s id)) ≤ length new

-- Wherever the clause of an id is cut behind its first literal, and those before the cut are
-- assumed false: no clause is false, the next literal is not false, and none of the clause is
-- true, unless the next one is the last.
pub record IsCalm (s : List (Option Stored)) (id : ℕ) (c front : List ℕ) (l : ℕ) (back : List ℕ)
    : Type 0 where
  pub stands : Fails s id (negs front) → ⊥
  pub free : Forced s id (negs front) (neg l) → ⊥
  pub open_yet : 0 < length back → (m : ℕ) → has c m ≡ true → Forced s id (negs front) m → ⊥

abbrev pub Calm : List (Option Stored) → ℕ → List ℕ → Type 0
Calm s id c = (front back : List ℕ) (l : ℕ) → c ≡ front ++ l ∷ back → 0 < length front
    → IsCalm s id c front l back

-- the rule shortens no firm clause, and that wherever the clause is cut
abbrev pub AllCalm : List (Option Stored) → Type 0
AllCalm s = (id : ℕ) → is_firm (slot s id) ≡ true → Calm s id (slot_lits (slot s id))

-- Resolution on a variable: which variable may be eliminated (Eén, Biere, SAT 2005), and which clause is blocked (Järvisalo, Biere, Heule,
-- TACAS 2010).
use Rattle.std.specs.List.{filter, fold, list_any, list_all}
use Rattle.std.specs.Prelude.{◌≡◌, ℕ, ◌+◌, ◌*◌, ◌==◌, ◌&&◌, Bool, true, not, List, [], ◌∷◌, ◌++◌, Option, length, map, nat_le, nat_lt, if◌then◌else◌}
use Rattle.sat_terms.specs.Literal.{has, neg, pos_lit, neg_lit}
use Rattle.clause_store.specs.Stored.{Stored, slot, slot_lits}
use Rattle.firm_terms.specs.Firm.{Holds}

-- the clauses of a list that hold a literal
abbrev pub holding : ℕ → List (List ℕ) → List (List ℕ)
holding l cs = filter (λ c. has c l) cs

-- a clause without a literal
abbrev pub without : ℕ → List ℕ → List ℕ
without x c = filter (λ l. not (l == x)) c

-- the resolvent on x of a clause that holds x and one that holds its negation
abbrev pub resolvent : ℕ → List ℕ → List ℕ → List ℕ
resolvent x c d = without x c ++ without (neg x) d

-- whether a list of literals holds a literal and its negation
abbrev pub is_tautology : List ℕ → Bool
is_tautology c = list_any (λ l. has c (neg l)) c

-- Blocked: every resolvent on a literal of the clause with a firm clause that holds its negation is a tautology.
pub record IsBlocked (s : List (Option Stored)) (id l : ℕ) : Type 0 where
  pub holds : Holds s id l
  pub tautologies : (other : ℕ) → Holds s other (neg l) → is_tautology (resolvent l (slot_lits (slot s id)) (slot_lits (slot s other))) ≡ true

-- no firm clause is blocked on a literal
abbrev pub BlocksNone : List (Option Stored) → ℕ → Type 0
BlocksNone s l = (id : ℕ) → IsBlocked s id l → ⊥

-- the different literals of a list
abbrev pub push_new : List ℕ → ℕ → List ℕ
push_new acc l = if has acc l then acc else acc ++ l ∷ []

abbrev pub distinct : List ℕ → List ℕ
distinct c = fold push_new [] c

-- the resolvents on x that are no tautology: of a clause with each of a list, and of each of a list with each of another one
abbrev pub row : ℕ → List ℕ → List (List ℕ) → List (List ℕ)
row x c ns = map (λ d. distinct (resolvent x c d)) (filter (λ d. not (is_tautology (resolvent x c d))) ns)

abbrev pub resolvents : ℕ → List (List ℕ) → List (List ℕ) → List (List ℕ)
resolvents x [] ns = []
resolvents x (c ∷ ps) ns = row x c ns ++ resolvents x ps ns

-- a clause of one literal, and one of at most 100
abbrev pub is_unit : List ℕ → Bool
is_unit c = length c == 1

abbrev pub is_short : List ℕ → Bool
is_short r = nat_le (length r) 100

-- what clauses with a literal, and with its negation, must be before their resolvents are looked at
abbrev pub could_be : List (List ℕ) → List (List ℕ) → Bool
could_be ps ns = nat_lt 0 (length ps + length ns) && not (list_any is_unit ps) && not (list_any is_unit ns) && nat_le (length ps * length ns) 400

-- Whether elimination takes a variable, from the clauses that hold its literal x and those that hold the negation: no more
-- resolvents come than clauses go, and none is long.
unfoldable pub candidate_of : ℕ → List (List ℕ) → List (List ℕ) → Bool
candidate_of x ps ns = could_be ps ns && nat_le (length (resolvents x ps ns)) (length ps + length ns) && list_all is_short (resolvents x ps ns)

-- whether a variable is a candidate for elimination among some clauses
abbrev pub candidate : List (List ℕ) → ℕ → Bool
candidate cs v = candidate_of (pos_lit v) (holding (pos_lit v) cs) (holding (neg_lit v) cs)

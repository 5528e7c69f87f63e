-- The firm clauses of a store, and the variables that stand in them.
use Rattle.std.specs.List.{list_any}
use Rattle.std.specs.Prelude.{◌≡◌, ℕ, ◌+◌, ◌==◌, Bool, true, not, List, [], ◌∷◌, Option, Some, None, length, count_by, if◌then◌else◌}
use Rattle.sat_terms.specs.Literal.{has, var_of}
use Rattle.clause_store.specs.Stored.{Stored, keeps_firm, slot, slot_lits, is_firm}

-- whether a clause holds a literal of a variable
abbrev pub mentions : List ℕ → ℕ → Bool
mentions c v = list_any (λ l. var_of l == v) c

-- the firm clauses of a store, in the order of their ids
abbrev pub with_slot : Option Stored → List (List ℕ) → List (List ℕ)
with_slot None cs = cs
with_slot (Some c) cs = if keeps_firm c.keep then c.lits ∷ cs else cs

abbrev pub firm : List (Option Stored) → List (List ℕ)
firm [] = []
firm (x ∷ s) = with_slot x (firm s)

-- whether a variable stands in one of some clauses
abbrev pub stands : List (List ℕ) → ℕ → Bool
stands cs v = list_any (λ c. mentions c v) cs

-- whether one of some clauses is empty
abbrev pub has_empty : List (List ℕ) → Bool
has_empty cs = list_any (λ c. length c == 0) cs

-- an id names a firm clause that holds a literal
pub record Holds (s : List (Option Stored)) (id l : ℕ) : Type 0 where
  pub firm : is_firm (slot s id) ≡ true
  pub has : has (slot_lits (slot s id)) l ≡ true

-- the variables of clauses, each once
abbrev pub with_var : ℕ → List ℕ → List ℕ
with_var v vs = if has vs v then vs else v ∷ vs

abbrev pub with_vars : List ℕ → List ℕ → List ℕ
with_vars [] vs = vs
with_vars (l ∷ c) vs = with_var (var_of l) (with_vars c vs)

abbrev pub vars : List (List ℕ) → List ℕ
vars [] = []
vars (c ∷ cs) = with_vars c (vars cs)

-- how many of some variables stand in no clause
abbrev pub gone : List ℕ → List (List ℕ) → ℕ
gone vs cs = count_by (λ v. not (stands cs v)) vs

-- the number of literals of a slot's clause, if it is firm, and the sum over a store
abbrev pub firm_size : Option Stored → ℕ
firm_size None = 0
firm_size (Some c) = if keeps_firm c.keep then length c.lits else 0

abbrev pub lits_sum : List (Option Stored) → ℕ
lits_sum [] = 0
lits_sum (x ∷ s) = firm_size x + lits_sum s

-- every firm clause of the new store stood there before, under the same id
abbrev pub NoneCame : List (Option Stored) → List (Option Stored) → Type 0
NoneCame s t = (k : ℕ) → is_firm (slot t k) ≡ true → slot t k ≡ slot s k

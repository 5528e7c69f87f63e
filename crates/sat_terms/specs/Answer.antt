-- What answers a query: a model, or a core of its assumptions (IPASIR's answers 10 and 20).
use Rattle.std.specs.Prelude.{◌≡◌, ◌≢◌, ◌⊎◌, ℕ, ◌≤◌, max, Bool, true, List, [], ◌∷◌, length, All, AllPairs}
use Rattle.sat_terms.specs.Literal.{var_of}
use Rattle.sat_terms.specs.Truth.{Assignment, values, lits_true, clauses_true}

-- the assignments that make the clauses true
abbrev pub Satisfies : List (List ℕ) → Assignment → Type 0
Satisfies clauses f = clauses_true f clauses ≡ true

-- the variables of the literals are among the first n
abbrev pub Within : ℕ → List ℕ → Type 0
Within n lits = All (λ l. (1 ≤ var_of l) × (var_of l ≤ n)) lits

-- the greatest variable of some literals, 0 if there is none
abbrev pub greatest_var : List ℕ → ℕ
greatest_var [] = 0
greatest_var (l ∷ ls) = max (var_of l) (greatest_var ls)

-- a list without some of its members
abbrev pub IsSubsequence : List ℕ → List ℕ → Type 0
IsSubsequence xs [] = xs ≡ []
IsSubsequence xs (y ∷ ys) = IsSubsequence xs ys ⊎ ((rest : List ℕ) × (xs ≡ y ∷ rest) × IsSubsequence rest ys)

-- no member stands twice
abbrev pub NoRepeats : List ℕ → Type 0
NoRepeats xs = AllPairs (λ a b. a ≢ b) xs

-- no assignment of F makes all of the literals true
abbrev pub NoModel : (Assignment → Type 0) → List ℕ → Type 0
NoModel F lits = (f : Assignment) → F f → lits_true f lits ≡ true → ⊥

-- n truth values that F holds of and that make all of the literals true
pub record IsModel (F : Assignment → Type 0) (lits : List ℕ) (n : ℕ) (m : List Bool) : Type 0 where
  pub size : length m ≡ n
  pub holds : F (values m)
  pub assumed : lits_true (values m) lits ≡ true

-- some of the literals, none twice, that no assignment of F makes true
pub record IsCore (F : Assignment → Type 0) (lits core : List ℕ) : Type 0 where
  pub some : IsSubsequence core lits
  pub once : NoRepeats core
  pub none : NoModel F core

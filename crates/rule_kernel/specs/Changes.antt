-- What is marked as changed: variables and literals.
use Rattle.std.specs.List.{list_any}
use Rattle.std.specs.Prelude.{◌≡◌, ◌<◌, ◌==◌, ◌||◌, ℕ, Bool, true, List}
use Rattle.sat_terms.specs.Literal.{has, neg, var_of}
use Rattle.firm_terms.specs.Firm.{mentions}

-- the marked variables and the marked literals, each once
pub record Marked : Type 0 where
  pub vars : List ℕ
  pub lits : List ℕ

-- the same, and the number below which the variables lie that can be marked
pub record Markable : Type 0 where
  pub vars : List ℕ
  pub lits : List ℕ
  pub room : ℕ

abbrev pub marked : Markable → Marked
marked m = record { vars = m.vars; lits = m.lits }

-- whether a clause holds the negation of a literal
abbrev pub denies : List ℕ → ℕ → Bool
denies c l = list_any (λ x. neg x == l) c

-- A clause came: its variables and its literals are marked.
pub record MarksCame (old new : Marked) (c : List ℕ) : Type 0 where
  pub vars : (v : ℕ) → has new.vars v ≡ (has old.vars v || mentions c v)
  pub lits : (l : ℕ) → has new.lits l ≡ (has old.lits l || has c l)

-- A clause went: its variables and the negations of its literals are marked.
pub record MarksWent (old new : Marked) (c : List ℕ) : Type 0 where
  pub vars : (v : ℕ) → has new.vars v ≡ (has old.vars v || mentions c v)
  pub lits : (l : ℕ) → has new.lits l ≡ (has old.lits l || denies c l)

-- the variables of a clause can be marked
abbrev pub HasRoom : ℕ → List ℕ → Type 0
HasRoom room c = (l : ℕ) → has c l ≡ true → var_of l < room

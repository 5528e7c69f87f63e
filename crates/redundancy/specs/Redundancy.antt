-- Redundancy by a witness (Heule, Kiesl, Biere), and the reconstruction stack of incremental inprocessing (Fazekas, Biere,
-- Scholl, SAT 2019). A set of clauses stands for the assignments F that make it true, so neither order nor repetition counts.
use Rattle.std.specs.List.{list_any, list_all}
use Rattle.std.specs.Prelude.{◌≡◌, ℕ, Bool, true, false, List, [], ◌∷◌, All, slice_index_or, if◌then◌else◌, not}
use Rattle.sat_terms.specs.Literal.{has, neg, pos_lit, neg_lit}
use Rattle.sat_terms.specs.Truth.{Assignment, clause_true}
use Rattle.sat_terms.specs.Normal.{IsNormal}
use Rattle.sat_terms.specs.Answer.{Within}
use Rattle.redundancy.specs.Setting.{IsApart, set_true}

-- an entry of a reconstruction stack: a clause that was taken out, and its witness
pub record Entry : Type 0 where
  pub witness : List ℕ
  pub clause : List ℕ

-- the assignments of F that make a clause true
abbrev pub And : (Assignment → Type 0) → List ℕ → Assignment → Type 0
And F c f = F f × (clause_true f c ≡ true)

-- every clause of the stack is true
abbrev pub StackTrue : Assignment → List Entry → Type 0
StackTrue f [] = Unit {0}
StackTrue f (e ∷ later) = (clause_true f e.clause ≡ true) × StackTrue f later

-- the assignments of F that make every clause of the stack true
abbrev pub With : (Assignment → Type 0) → List Entry → Assignment → Type 0
With F s f = F f × StackTrue f s

-- The list w witnesses the clause d for F: it holds no opposite literals, shares a literal with d, and moves each assignment
-- of F that makes d false to one of F again.
pub record Witnesses (F : Assignment → Type 0) (w d : List ℕ) : Type 0 where
  pub apart : IsApart w
  pub shared : (l : ℕ) × (has w l ≡ true) × (has d l ≡ true)
  pub moves : (f : Assignment) → F f → clause_true f d ≡ false → F (set_true f w)

-- A stack stands oldest first. Each entry's witness witnesses its clause for F and the clauses of all later entries.
abbrev pub Chain : (Assignment → Type 0) → List Entry → Type 0
Chain F [] = Unit {0}
Chain F (e ∷ later) = Witnesses (With F later) e.witness e.clause × Chain F later

-- the extension of an assignment by a stack: the newest entry acts first, and sets its witness true where its clause is false
abbrev pub extend : Assignment → List Entry → Assignment
extend f [] = f
extend f (e ∷ later) =
    if clause_true (extend f later) e.clause then extend f later else set_true (extend f later) e.witness

-- whether a witness holds the negation of one of the literals
abbrev pub touches : List ℕ → List ℕ → Bool
touches w c = list_any (λ l. has w (neg l)) c

-- The literals are clean for the stack: no witness holds the negation of one of them.
abbrev pub Clean : List ℕ → List Entry → Type 0
Clean c [] = Unit {0}
Clean c (e ∷ later) = ((l : ℕ) → has c l ≡ true → has e.witness (neg l) ≡ false) × Clean c later

-- whether the literals are clean for the stack
abbrev pub is_clean : List ℕ → List Entry → Bool
is_clean c s = list_all (λ e. not (touches e.witness c)) s

-- the entry at a place, and what stands past the end
abbrev pub no_entry : Entry
no_entry = record { witness = []; clause = [] }

abbrev pub entry : List Entry → ℕ → Entry
entry s k = slice_index_or s k no_entry

-- The witness of an entry holds no opposite literals, its clause is normal, and the two share a literal.
pub record IsEntry (e : Entry) : Type 0 where
  pub apart : IsApart e.witness
  pub normal : IsNormal e.clause
  pub shared : (l : ℕ) × (has e.witness l ≡ true) × (has e.clause l ≡ true)

-- a reconstruction stack
abbrev pub IsStack : List Entry → Type 0
IsStack s = All IsEntry s

-- the variables of the witnesses are among the first n
abbrev pub StackWithin : ℕ → List Entry → Type 0
StackWithin n s = All (λ e. Within n e.witness) s

-- no witness of the stack names a variable
abbrev pub Unmentioned : ℕ → List Entry → Type 0
Unmentioned v [] = Unit {0}
Unmentioned v (e ∷ later) = ((has e.witness (pos_lit v) ≡ false) × (has e.witness (neg_lit v) ≡ false)) × Unmentioned v later

-- A variable is tested: its clauses are resolved pair by pair, up to the first resolvent that is too many or too long.
use Rattle.std.specs.List.{list_all}
use Rattle.std.specs.Prelude.{◌≡◌, ◌<◌, ◌≤◌, ◌+◌, ◌⊎◌, ℕ, Bool, true, false, List, [], ◌∷◌, ◌++◌, Option, length, slice_index_or}
use Rattle.sat_terms.specs.Literal.{has, neg}
use Rattle.normal_form.specs.Forms.{IsFormOf}
use Rattle.clause_store.specs.Stored.{Stored, slot, slot_lits, is_firm}
use Rattle.firm_terms.specs.Firm.{firm, Holds}
use Rattle.firm_terms.specs.Resolving.{holding, resolvent, is_tautology, is_short, candidate_of}
use Rattle.var_elim.specs.declared.test.Work.{Work}
use Rattle.var_elim.specs.declared.test.Outcome.{Outcome}
use Rattle.var_elim.specs.declared.test.Outcome.TheVariants.{Fits, Fails, Spent}
use Rattle.var_elim.specs.declared.test.Trial.{Trial}

-- the literals of a clause, by its id
abbrev pub lits_at : List (Option Stored) → ℕ → List ℕ
lits_at s id = slot_lits (slot s id)

-- the clauses of ids are firm, and they are firm and hold a literal
abbrev pub AllFirm : List (Option Stored) → List ℕ → Type 0
AllFirm s ids = (id : ℕ) → has ids id ≡ true → is_firm (slot s id) ≡ true

abbrev pub AllHold : List (Option Stored) → ℕ → List ℕ → Type 0
AllHold s l ids = (id : ℕ) → has ids id ≡ true → Holds s id l

-- the first lists are the normal forms of the second, one by one
abbrev pub AreForms : List (List ℕ) → List (List ℕ) → Type 0
AreForms [] [] = Unit {0}
AreForms [] (r ∷ rs) = ⊥
AreForms (c ∷ cs) [] = ⊥
AreForms (c ∷ cs) (r ∷ rs) = IsFormOf c r × AreForms cs rs

-- the normal forms of some lists came to the end
pub record Grows (old new rs : List (List ℕ)) : Type 0 where
  pub forms : (before : List (List ℕ)) → AreForms old before → AreForms new (before ++ rs)

-- with so many resolvents before, these are too many or too long
abbrev pub TooMuch : ℕ → ℕ → List (List ℕ) → Type 0
TooMuch most before rs = (most < before + length rs) ⊎ (list_all is_short rs ≡ false)

-- Some pairs were all resolved; their resolvents that are no tautology are these, and neither too many nor too long.
pub record Passed (old new : Work) (rs : List (List ℕ)) (count most rest : ℕ) : Type 0 where
  pub pairs : new.pairs ≡ old.pairs + count
  pub within : new.pairs ≤ rest
  pub grows : Grows old.resolvents.items new.resolvents.items rs
  pub longer : length new.resolvents.items ≡ length old.resolvents.items + length rs
  pub few : length new.resolvents.items ≤ most
  pub short : list_all is_short rs ≡ true

-- They are too many or too long.
pub record Failed (old new : Work) (rs : List (List ℕ)) (count most rest : ℕ) : Type 0 where
  pub pairs : new.pairs ≤ old.pairs + count
  pub within : new.pairs ≤ rest
  pub much : TooMuch most (length old.resolvents.items) rs

-- No further pair may be resolved, and one is left.
pub record RanOut (old new : Work) (count rest : ℕ) : Type 0 where
  pub full : new.pairs ≡ rest
  pub left : rest < old.pairs + count

-- what became of some pairs
abbrev pub Looked : Work → Work → List (List ℕ) → ℕ → ℕ → ℕ → Outcome → Type 0
Looked old new rs count most rest Fits = Passed old new rs count most rest
Looked old new rs count most rest Fails = Failed old new rs count most rest
Looked old new rs count most rest Spent = RanOut old new count rest

-- whether the variable of a literal is a candidate
abbrev pub candidate_at : List (List ℕ) → ℕ → Bool
candidate_at cs x = candidate_of x (holding x cs) (holding (neg x) cs)

-- the clause at a place
abbrev pub clause_at : List (List ℕ) → ℕ → List ℕ
clause_at rs j = slice_index_or rs j []

-- The normal forms of the resolvents on x that are no tautology: all of them, and nothing else. None holds x or its negation.
pub record Resolvents (s : List (Option Stored)) (x : ℕ) (rs : List (List ℕ)) : Type 0 where
  pub covered : (k m : ℕ) → Holds s k x → Holds s m (neg x)
      → (is_tautology (resolvent x (lits_at s k) (lits_at s m)) ≡ true)
      ⊎ ((j : ℕ) × (j < length rs) × IsFormOf (clause_at rs j) (resolvent x (lits_at s k) (lits_at s m)))
  pub sound : (j : ℕ) → j < length rs → (k : ℕ) × (m : ℕ) × Holds s k x × Holds s m (neg x)
      × IsFormOf (clause_at rs j) (resolvent x (lits_at s k) (lits_at s m))
  pub free : (j : ℕ) → j < length rs → (has (clause_at rs j) x ≡ false) × (has (clause_at rs j) (neg x) ≡ false)

-- what the outcome of a trial says, where so many of at most `rest` pairs were resolved
abbrev pub Judged : List (Option Stored) → ℕ → ℕ → ℕ → List (List ℕ) → Outcome → Type 0
Judged s x rest pairs rs Fits = (candidate_at (firm s) x ≡ true) × Resolvents s x rs × (pairs ≤ 400) × (pairs ≤ rest)
Judged s x rest pairs rs Fails = (candidate_at (firm s) x ≡ false) × (pairs ≤ 400) × (pairs ≤ rest)
Judged s x rest pairs rs Spent = (pairs ≡ rest) × (rest < 400)

abbrev pub Tried : List (Option Stored) → ℕ → ℕ → Trial → Type 0
Tried s x rest t = Judged s x rest t.pairs t.resolvents.items t.outcome

-- The search for a clause that is blocked on a literal, and its steps.
use Rattle.std.specs.Prelude.{◌≡◌, ℕ, ◌+◌, ◌*◌, ◌<◌, ◌≤◌, max, List, Option}
use Rattle.sat_terms.specs.Literal.{has, neg}
use Rattle.clause_store.specs.Stored.{Stored}
use Rattle.clause_store.specs.FirmCount.{firm_count}
use Rattle.firm_terms.specs.Resolving.{IsBlocked, BlocksNone}
use Rattle.blocked_clauses.specs.declared.seek.Answer.{Answer}
use Rattle.blocked_clauses.specs.declared.seek.Answer.TheVariants.{Blocked, Open, Full}
use Rattle.blocked_clauses.specs.declared.seek.Found.{Found}
use Rattle.blocked_clauses.specs.declared.seek.Found.TheVariants.{At, Nowhere, Full as Cut}

-- Steps were counted, from a on to b: at least so many, at most so many, and no more than the limit.
pub record Counts (a b least most limit : ℕ) : Type 0 where
  pub some : a + least ≤ b
  pub few : b ≤ a + most
  pub rest : b ≤ limit

-- the limit left no step, before so many were counted
pub record ComesFull (a b most limit : ℕ) : Type 0 where
  pub full : b ≡ limit
  pub before : b < a + most

-- The clause of an id was tested on a literal, against n clauses with its negation: each test of two is a step, and there is at least one.
pub record IsAll (s : List (Option Stored)) (id l n a b limit : ℕ) : Type 0 where
  pub blocked : IsBlocked s id l
  pub steps : Counts a b (max 1 n) (max 1 n) limit

pub record IsOpen (s : List (Option Stored)) (id l n a b limit : ℕ) : Type 0 where
  pub free : IsBlocked s id l → ⊥
  pub steps : Counts a b 1 n limit

abbrev pub Asked : List (Option Stored) → ℕ → ℕ → ℕ → ℕ → ℕ → ℕ → Answer → Type 0
Asked s id l n a b limit Blocked = IsAll s id l n a b limit
Asked s id l n a b limit Open = IsOpen s id l n a b limit
Asked s id l n a b limit Full = ComesFull a b (max 1 n) limit

-- how many firm clauses hold a literal, and the most steps that a search on it takes
abbrev pub occurrences : List (Option Stored) → ℕ → ℕ
occurrences s l = firm_count (λ c. has c l) s

abbrev pub most_steps : List (Option Stored) → ℕ → ℕ
most_steps s l = occurrences s l * max 1 (occurrences s (neg l))

-- A blocked clause was found, or there is none and each was tested, or the limit left no step.
pub record IsFound (s : List (Option Stored)) (id l a b limit : ℕ) : Type 0 where
  pub blocked : IsBlocked s id l
  pub steps : Counts a b 1 (most_steps s l) limit

pub record IsNone (s : List (Option Stored)) (l a b limit : ℕ) : Type 0 where
  pub none : BlocksNone s l
  pub steps : Counts a b (occurrences s l) (most_steps s l) limit

abbrev pub Sought : List (Option Stored) → ℕ → ℕ → ℕ → ℕ → Found → Type 0
Sought s l a b limit (At id) = IsFound s id l a b limit
Sought s l a b limit Nowhere = IsNone s l a b limit
Sought s l a b limit Cut = ComesFull a b (most_steps s l) limit

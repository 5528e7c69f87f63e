-- What is known, and the clauses of a store: where everything is admitted, each says what the other does.
use Rattle.std.proofs.Common.{◌≡◌, ℕ, zero, suc, Bool, true, List, [], ◌∷◌, refl, Option}
use Rattle.std.specs.Prelude.{IsSome}
use Rattle.std.proofs.lemmas.Bool.{false≢true, or_left, or_right}
use Rattle.sat_terms.specs.Literal.{has}
use Rattle.sat_terms.specs.Truth.{Assignment, Implies}
use Rattle.sat_terms.specs.Answer.{IsCore}
use Rattle.clause_store.specs.Stored.{Stored, StoreTrue, slot, slot_lits}
use Rattle.rooted_trails.specs.Known.{everything, Known, stands_in}

pub known : (s : List (Option Stored)) (f : Assignment) → StoreTrue s f → Known s everything f
known s f sat = record { clauses = sat; admitted = refl }

pub from_known : {admits : Assignment → Bool} (s : List (Option Stored)) (f : Assignment) → Known s admits f → StoreTrue s f
from_known s f k = k.clauses

-- what is known where fewer assignments are admitted, and where all are
pub known_fewer : {s : List (Option Stored)} (old new : Assignment → Bool) → ((f : Assignment) → new f ≡ true → old f ≡ true) → (f : Assignment) → Known s new f → Known s old f
known_fewer old new fewer f k = record { clauses = k.clauses; admitted = fewer f k.admitted }

pub known_all : {s : List (Option Stored)} {admits : Assignment → Bool} (f : Assignment) → Known s admits f → Known s everything f
known_all f k = record { clauses = k.clauses; admitted = refl }

-- where one store's clauses make another's true, what is known of the one is known of the other
pub known_more : {admits : Assignment → Bool} (s s' : List (Option Stored)) (f : Assignment) → (StoreTrue s f → StoreTrue s' f) → Known s admits f → Known s' admits f
known_more s s' f more k = record { clauses = more k.clauses; admitted = k.admitted }

-- what follows from all that is known follows from the clauses
pub implied_known : (s : List (Option Stored)) (c : List ℕ) → Implies (Known s everything) c → Implies (StoreTrue s) c
implied_known s c implied f sat = implied f (known s f sat)

-- and so do cores
pub core_known : (s : List (Option Stored)) (assumptions core : List ℕ) → IsCore (Known s everything) assumptions core → IsCore (StoreTrue s) assumptions core
core_known s assumptions core h = record {
  some = h.some;
  once = h.once;
  none = λ f sat. h.none f (known s f sat);
}

-- a literal of a live clause stands in one
pub stands_of : (s : List (Option Stored)) (id l : ℕ) → IsSome (slot s id) → has (slot_lits (slot s id)) l ≡ true → stands_in s l ≡ true
stands_of [] id l live h = absurd (false≢true live)
stands_of (x ∷ s) zero l live h = or_left (has (slot_lits x) l) (stands_in s l) h
stands_of (x ∷ s) (suc id) l live h = or_right (has (slot_lits x) l) (stands_in s l) (stands_of s id l live h)

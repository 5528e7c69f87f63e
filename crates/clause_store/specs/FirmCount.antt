-- How many firm clauses of a store pass a test. Two stores hold the same firm clauses up to order where these numbers are equal for
-- every test.
use Rattle.std.specs.Prelude.{◌≡◌, ℕ, ◌+◌, Bool, true, ◌&&◌, if◌then◌else◌, List, Option, Some, count_by, length}
use Rattle.sat_terms.specs.Literal.{has}
use Rattle.clause_store.specs.Stored.{Stored, slot, slot_lits, is_firm, Fills, Frees, SameSlots}
use Rattle.clause_store.specs.Listing.{HasEachOnce, firm_at, holds_at}

-- whether there is a firm clause, and it passes
abbrev pub firm_passes : (List ℕ → Bool) → Option Stored → Bool
firm_passes test x = is_firm x && test (slot_lits x)

-- how many firm clauses pass
abbrev pub firm_count : (List ℕ → Bool) → List (Option Stored) → ℕ
firm_count test s = count_by (firm_passes test) s

-- two stores hold the same firm clauses, in another order maybe
abbrev pub SameFirm : List (Option Stored) → List (Option Stored) → Type 0
SameFirm old new = (test : List ℕ → Bool) → firm_count test new ≡ firm_count test old

-- adding a clause: it counts, if it is firm and passes
abbrev pub AddingCounts : Type 0
AddingCounts =
    (test : List ℕ → Bool) (old new : List (Option Stored)) (id : ℕ) (c : Stored)
    → Fills old new id c
    → firm_count test new ≡ firm_count test old + (if firm_passes test (Some c) then 1 else 0)

-- removing one: it counts no longer
abbrev pub RemovingCounts : Type 0
RemovingCounts =
    (test : List ℕ → Bool) (old new : List (Option Stored)) (id : ℕ)
    → Frees old new id
    → firm_count test old ≡ firm_count test new + (if firm_passes test (slot old id) then 1 else 0)

-- stores whose ids name the same hold the same firm clauses
abbrev pub SameSlotsCount : Type 0
SameSlotsCount = (old new : List (Option Stored)) → SameSlots old new → SameFirm old new

-- a list of the firm ids is as long as there are firm clauses, and one of those that hold a literal is as long as there are such
abbrev pub ListsCount : Type 0
ListsCount =
    (s : List (Option Stored)) (ids : List ℕ)
    → (HasEachOnce (firm_at s) ids → length ids ≡ firm_count (λ c. true) s)
    × ((lit : ℕ) → HasEachOnce (holds_at s lit) ids → length ids ≡ firm_count (λ c. has c lit) s)

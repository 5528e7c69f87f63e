-- Laws of marks and of the room for them.
use Rattle.std.proofs.Common.{◌≡◌, ℕ, ◌*◌, ◌<◌, ◌≤◌, true, List, length, get_or, Option, Some, inl, inr, arith}
use Rattle.std.proofs.lemmas.Bool.{cases_eq, false≢true}
use Rattle.sat_terms.specs.Literal.{neg, var_of}
use Rattle.witness_stack.proofs.Counted.{has_here}
use Rattle.clause_store.specs.Stored.{Stored, slot, slot_lits, is_firm, Fills, Frees, SameSlots}
use Rattle.rule_kernel.specs.Changes.{HasRoom}
use Rattle.rule_kernel.specs.State.{FirmRoom}

-- a literal of a clause that there is room for, and its negation
module _ (c : List ℕ) (i x room : ℕ) (h : HasRoom room c) (in' : i < length c) (is : x ≡ get_or c i x) where
  pub room_lit : x < 2 * room
  unfolding var_of
  room_lit = let v = h x (has_here c i x in' is) in omega arith

  pub room_neg : neg x < 2 * room
  unfolding var_of neg
  room_neg = let v = h x (has_here c i x in' is) in omega arith

-- more room does too
pub room_more : (low high : ℕ) (c : List ℕ) → low ≤ high → HasRoom low c → HasRoom high c
room_more low high c le h l in' = let v = h l in' in omega arith

pub firm_more : (low high : ℕ) (s : List (Option Stored)) → low ≤ high → FirmRoom low s → FirmRoom high s
firm_more low high s le h id firm = room_more low high (slot_lits (slot s id)) le (h id firm)

-- a clause comes that there is room for, or that is not firm
pub firm_filled : (room : ℕ) (old new : List (Option Stored)) (id : ℕ) (c : Stored) → Fills old new id c → (is_firm (Some c) ≡ true → HasRoom room c.lits) → FirmRoom room old → FirmRoom room new
firm_filled room old new id c fills fits h k =
    elim (cases_eq k id) [
      | inl e ↦ rw (e, fills.filled) fits
      | inr n ↦ rw (fills.others k n) (h k)
    ]

-- a clause goes
pub firm_freed : (room : ℕ) (old new : List (Option Stored)) (id : ℕ) → Frees old new id → FirmRoom room old → FirmRoom room new
firm_freed room old new id frees h k =
    elim (cases_eq k id) [
      | inl e ↦ rw (e, frees.freed) (λ f. absurd (false≢true f))
      | inr n ↦ rw (frees.others k n) (h k)
    ]

-- every id names what it did
pub firm_same : (room : ℕ) (old new : List (Option Stored)) → SameSlots old new → FirmRoom room old → FirmRoom room new
firm_same room old new same h k = rw (same k) (h k)

-- Whether an empty clause is firm.
use Rattle.std.proofs.Common.{◌≡◌, ℕ, ◌<◌, ◌≤◌, true, false, eqb, List, length, get_or, Option, sym, ap, ◌∙◌, subst, arith}
use Rattle.std.proofs.lemmas.Bool.{false_from_ne_true, eqb-true, eq-eqb}
use Rattle.std.proofs.lemmas.List.{get_or_default}
use Rattle.clause_store.specs.Stored.{Stored, slot, slot_lits, is_firm}
use Rattle.clause_store.specs.Listing.{HasEachOnce, firm_at}
use Rattle.firm_terms.specs.Firm.{firm, has_empty}
use Rattle.firm_terms.proofs.Standing.{some_of, some_from}
use Rattle.firm_terms.proofs.Counting.{listed, place_of}

-- an id of the list names a firm clause
pub firm_read : (s : List (Option Stored)) (ids : List ℕ) (i id : ℕ) → HasEachOnce (firm_at s) ids → i < length ids → id ≡ get_or ids i id → is_firm (slot s id) ≡ true
firm_read s ids i id each in' read =
    subst (λ (z : ℕ). is_firm (slot s z) ≡ true) (sym (read ∙ get_or_default ids i id 0 in')) (listed (firm_at s) ids i each in')

-- a clause that is empty, and none
pub refuted_at : (s : List (Option Stored)) (id : ℕ) (lits : List ℕ) → is_firm (slot s id) ≡ true → lits ≡ slot_lits (slot s id) → length lits ≡ 0 → has_empty (firm s) ≡ true
refuted_at s id lits firm' is nil = some_from (λ c. eqb (length c) 0) s id firm' (eq-eqb (length (slot_lits (slot s id))) 0 (ap length (sym is) ∙ nil))

pub not_refuted : (s : List (Option Stored)) (ids : List ℕ) (i : ℕ) → HasEachOnce (firm_at s) ids → length ids ≤ i → ((k : ℕ) → k < i → length (slot_lits (slot s (get_or ids k 0))) ≡ 0 → ⊥) → has_empty (firm s) ≡ false
not_refuted s ids i each past h =
    false_from_ne_true (has_empty (firm s)) (λ y.
    let r = some_of (λ c. eqb (length c) 0) s y in
    let k = place_of (firm_at s) ids r.0 each r.1 in
    let lt = k.1 in
    h k.0 (omega arith) (subst (λ (z : ℕ). length (slot_lits (slot s z)) ≡ 0) (sym k.2) (eqb-true (length (slot_lits (slot s r.0))) 0 r.2)))

-- Laws of the ids of clauses that hold a literal.
use Rattle.std.proofs.Common.{◌≡◌, ◌≢◌, ℕ, ◌<◌, ◌≤◌, true, List, length, get_or, Option, sym, ap, ◌∙◌, subst, arith}
use Rattle.std.proofs.lemmas.Bool.{and_parts, and_from}
use Rattle.std.proofs.lemmas.List.{get_or_default}
use Rattle.sat_terms.specs.Literal.{has, neg, var_of}
use Rattle.sat_terms.proofs.Literals.{var_of-neg}
use Rattle.firm_terms.specs.Implying.{Says}
use Rattle.clause_store.specs.Stored.{Stored, slot, slot_lits, is_firm}
use Rattle.clause_store.specs.Listing.{HasEachOnce, holds_at}
use Rattle.firm_terms.specs.Firm.{Holds}
use Rattle.firm_terms.proofs.Counting.{listed, place_of}

pub holds_of : (s : List (Option Stored)) (l id : ℕ) → holds_at s l id ≡ true → Holds s id l
holds_of s l id h = let p = and_parts (is_firm (slot s id)) (has (slot_lits (slot s id)) l) h in record { firm = p.0; has = p.1 }

pub of_holds : (s : List (Option Stored)) (l id : ℕ) → Holds s id l → holds_at s l id ≡ true
of_holds s l id h = and_from (is_firm (slot s id)) (has (slot_lits (slot s id)) l) h.firm h.has

pub occ_read : (s : List (Option Stored)) (ids : List ℕ) (l i id : ℕ) → HasEachOnce (holds_at s l) ids → i < length ids → id ≡ get_or ids i id → Holds s id l
occ_read s ids l i id each in' read =
    let e : get_or ids i 0 ≡ id = sym (read ∙ get_or_default ids i id 0 in') in
    subst (λ (z : ℕ). Holds s z l) e (holds_of s l (get_or ids i 0) (listed (holds_at s l) ids i each in'))

pub none_other : (s : List (Option Stored)) (ids : List ℕ) (l not i : ℕ) → HasEachOnce (holds_at s l) ids → length ids ≤ i → ((k : ℕ) → k < i → get_or ids k 0 ≡ not) → (id : ℕ) → Holds s id l → id ≡ not
none_other s ids l not i each le h id x =
    let k = place_of (holds_at s l) ids id each (of_holds s l id x) in
    sym k.2 ∙ h k.0 (let lt = k.1 in omega arith)

pub says_read : (s : List (Option Stored)) (ids lits : List ℕ) (a b l i id : ℕ) → l ≡ neg a → HasEachOnce (holds_at s l) ids → i < length ids → id ≡ get_or ids i id → lits ≡ slot_lits (slot s id) → length lits ≡ 2 → has lits b ≡ true → var_of a ≢ var_of b → Says s id a b
says_read s ids lits a b l i id e each in' read is two hb ne =
    let h = occ_read s ids l i id each in' read in
    record {
      firm = h.firm;
      by = record {
        two = ap length (sym is) ∙ two;
        from = subst (λ (z : ℕ). has (slot_lits (slot s id)) z ≡ true) e h.has;
        to = subst (λ (z : List ℕ). has z b ≡ true) is hb;
        apart = λ x. ne (sym (var_of-neg a) ∙ ap var_of (sym x));
      };
    }

-- The clauses that hold a literal, as a store lists their ids.
use Rattle.std.proofs.Common.{◌≡◌, ℕ, ◌+◌, ◌*◌, Bool, true, false, cond, ◌&&◌, List, [], ◌∷◌, map, length, get_or, Option, Some, None, inl, inr, refl, sym, ◌∙◌, subst, arith}
use Rattle.std.specs.List.{sum_by}
use Rattle.std.proofs.lemmas.Bool.{cases_Bool, and_parts, and_from}
use Rattle.std.proofs.lemmas.List.Sums.{sum_by-cons}
use Rattle.sat_terms.specs.Literal.{has}
use Rattle.sat_terms.proofs.Members.{has_place}
use Rattle.clause_store.specs.Stored.{Stored, keeps_firm, slot, slot_lits, is_firm}
use Rattle.clause_store.specs.Listing.{times, HasEachOnce, holds_at}
use Rattle.firm_terms.specs.Firm.{firm, Holds}
use Rattle.firm_terms.specs.Resolving.{holding}
use Rattle.firm_terms.proofs.Counting.{tally, tally_same, listed, listed_has, slot_within}
use Rattle.firm_terms.proofs.Summing.{sum_times}
use Rattle.var_elim.specs.Testing.{lits_at, AllFirm, AllHold}
use Rattle.var_elim.proofs.Ordering.{SameSums}

-- what the ids name
pub holds_of : (s : List (Option Stored)) (l id : ℕ) → holds_at s l id ≡ true → Holds s id l
holds_of s l id h = let p = and_parts (is_firm (slot s id)) (has (slot_lits (slot s id)) l) h in record { firm = p.0; has = p.1 }

pub of_holds : (s : List (Option Stored)) (l id : ℕ) → Holds s id l → holds_at s l id ≡ true
of_holds s l id h = and_from (is_firm (slot s id)) (has (slot_lits (slot s id)) l) h.firm h.has

pub all_hold : (s : List (Option Stored)) (l : ℕ) (ids : List ℕ) → HasEachOnce (holds_at s l) ids → AllHold s l ids
all_hold s l ids each id h =
    let k = has_place ids id 0 h in
    subst (λ (z : ℕ). Holds s z l) k.2 (holds_of s l (get_or ids k.0 0) (listed (holds_at s l) ids k.0 each k.1))

pub hold_all : (s : List (Option Stored)) (l : ℕ) (ids : List ℕ) (id : ℕ) → HasEachOnce (holds_at s l) ids → Holds s id l → has ids id ≡ true
hold_all s l ids id each h = listed_has (holds_at s l) ids id each ∙ of_holds s l id h

pub all_firm : (s : List (Option Stored)) (l : ℕ) (ids : List ℕ) → HasEachOnce (holds_at s l) ids → AllFirm s ids
all_firm s l ids each id h = (all_hold s l ids each id h).firm

-- a sum over the clauses that hold a literal
abbrev share : ℕ → (List ℕ → ℕ) → Option Stored → ℕ
share l f x = cond (is_firm x && has (slot_lits x) l) (f (slot_lits x)) 0

sum_holding : (l : ℕ) (f : List ℕ → ℕ) (s : List (Option Stored)) → sum_by f (holding l (firm s)) ≡ tally (λ k. share l f (slot s k)) (length s)
sum_holding l f [] = refl
sum_holding l f (None ∷ s) = let r = sum_holding l f s in omega arith
sum_holding l f (Some c ∷ s) = go (keeps_firm c.keep) (has c.lits l) (sum_holding l f s) where
  go : (a b : Bool) → sum_by f (holding l (firm s)) ≡ tally (λ k. share l f (slot s k)) (length s)
      → sum_by f (holding l (cond a (c.lits ∷ firm s) (firm s))) ≡ cond (a && has c.lits l) (f c.lits) 0 + tally (λ k. share l f (slot s k)) (length s)
  go true b r =
      elim (cases_Bool (has c.lits l)) [
        | inl y ↦ rw y (let e = sum_by-cons f c.lits (holding l (firm s)) in omega (arith, e, r))
        | inr n ↦ rw n (omega (arith, r))
      ]
  go false b r = omega (arith, r)

sum_map : (f : List ℕ → ℕ) (g : ℕ → List ℕ) (ids : List ℕ) → sum_by f (map g ids) ≡ sum_by (λ k. f (g k)) ids
sum_map f g [] = refl
sum_map f g (k ∷ ids) = omega (arith, sum_by-cons f (g k) (map g ids), sum_by-cons (λ k. f (g k)) k ids, sum_map f g ids)

-- the ids that a store gives name the clauses that hold the literal, each once
pub occ_sums : (s : List (Option Stored)) (l : ℕ) (ids : List ℕ) → HasEachOnce (holds_at s l) ids → SameSums (map (lits_at s) ids) (holding l (firm s))
occ_sums s l ids each f =
    sum_map f (lits_at s) ids
    ∙ sum_times (λ k. f (lits_at s k)) ids (length s) (λ k lt. slot_within is_firm s (get_or ids k 0) refl (holds_of s l (get_or ids k 0) (listed (holds_at s l) ids k each lt)).firm)
    ∙ tally_same (λ k. times ids k * f (lits_at s k)) (λ k. share l f (slot s k)) (length s) (λ k lt. go k (holds_at s l k) (each.once k))
    ∙ sym (sum_holding l f s) where
      go : (k : ℕ) (b : Bool) → times ids k ≡ cond b 1 0 → times ids k * f (lits_at s k) ≡ cond b (f (lits_at s k)) 0
      go k true e = let z : times ids k ≡ 1 = e in rw z (omega arith)
      go k false e = let z : times ids k ≡ 0 = e in rw z (omega arith)

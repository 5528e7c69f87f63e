-- When a clause may be parked with a literal whose negation no firm clause holds.
use Rattle.std.proofs.Common.{◌≡◌, ℕ, true, false, eqb, List, [], ◌∷◌, length, inl, inr, refl, sym, ap, ◌∙◌, Option, arith}
use Rattle.std.proofs.lemmas.Bool.{or_left, and_from, false_from_ne_true, or_cases, false≢true, eqb-true, eq-eqb}
use Rattle.sat_terms.specs.Literal.{has, neg}
use Rattle.sat_terms.proofs.Literals.{neg-neg}
use Rattle.redundancy.specs.Redundancy.{Witnesses}
use Rattle.redundancy.proofs.Setting.{clause_true-kept}
use Rattle.witness_stack.proofs.Rows.{apart_one}
use Rattle.clause_store.specs.Stored.{Stored, slot, slot_lits, is_firm, OthersTrue}
use Rattle.clause_store.specs.Listing.{HasEachOnce, holds_at}

-- no firm clause holds a literal whose list is empty
unheld : (s : List (Option Stored)) (l id : ℕ) (ids : List ℕ) → HasEachOnce (holds_at s l) ids → length ids ≡ 0 → is_firm (slot s id) ≡ true → has (slot_lits (slot s id)) l ≡ false
unheld s l id (x ∷ ids) each none firm = absurd (omega arith)
unheld s l id [] each none firm =
    false_from_ne_true (has (slot_lits (slot s id)) l) (λ h.
    let z : ◌≡◌ {A = ℕ} 0 1 = rw (and_from (is_firm (slot s id)) (has (slot_lits (slot s id)) l) firm h) at (each.once id) in
    absurd (omega arith))

-- the one literal is no negation of a literal of a firm clause
clean_pure : (s : List (Option Stored)) (l id : ℕ) → has (slot_lits (slot s id)) (neg l) ≡ false → (m : ℕ) → has (slot_lits (slot s id)) m ≡ true → has (l ∷ []) (neg m) ≡ false
clean_pure s l id out m h =
    false_from_ne_true (has (l ∷ []) (neg m)) (λ t.
    elim (or_cases (eqb l (neg m)) false t) [
      | inl e ↦
          let is : neg l ≡ m = ap neg (eqb-true l (neg m) e) ∙ neg-neg m in
          false≢true (sym out ∙ ap (has (slot_lits (slot s id))) is ∙ h)
      | inr f ↦ false≢true f
    ])

-- so a clause that holds the literal may be parked with it
pub witnesses_pure : (s : List (Option Stored)) (id l n : ℕ) (ids : List ℕ) → n ≡ neg l → HasEachOnce (holds_at s n) ids → length ids ≡ 0 → has (slot_lits (slot s id)) l ≡ true
    → Witnesses (OthersTrue s id) (l ∷ []) (slot_lits (slot s id))
witnesses_pure s id l n ids is each none h = record {
  apart = apart_one l;
  shared = (l, or_left (eqb l l) false (eq-eqb l l refl), h);
  moves = λ f x off other ne firm.
      clause_true-kept f (l ∷ []) (slot_lits (slot s other)) (clean_pure s l other (rw is at (unheld s n other ids each none firm))) (x other ne firm);
}

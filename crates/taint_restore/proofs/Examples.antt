-- When a clause that is alone in a store may be parked.
use Rattle.std.proofs.Common.{◌≡◌, ℕ, suc, zero, eqb, ◌<◌, ◌≤◌, true, List, [], ◌∷◌, length, get_or, take, Option, None, inl, inr, refl, sym, ap, ◌∙◌, arith}
use Rattle.std.proofs.lemmas.Bool.{cases_lt, cases_eq, false_from_ne_true, or_left, eq-eqb}
use Rattle.sat_terms.specs.Literal.{has, neg, var_of}
use Rattle.sat_terms.specs.Normal.{IsNormal}
use Rattle.sat_terms.proofs.Literals.{neg-other, var_of-neg}
use Rattle.sat_terms.proofs.Members.{has_place, has_taken}
use Rattle.redundancy.specs.Setting.{IsApart, set_true}
use Rattle.redundancy.specs.Redundancy.{Witnesses}
use Rattle.clause_store.specs.Stored.{Stored, slot, slot_lits, OthersTrue, Fills}
use Rattle.clause_store.proofs.Slots.{SlotTrue-none}
use Rattle.rule_kernel.specs.Rules.{firm_clause}

-- a normal clause holds no opposite literals
apart_normal : (c : List ℕ) → IsNormal c → (l : ℕ) → has c l ≡ true → has c (neg l) ≡ true → ⊥
apart_normal c normal l here there =
    let p = has_place c l 0 here in
    let q = has_place c (neg l) 0 there in
    let same : var_of (get_or c q.0 0) ≡ var_of (get_or c p.0 0) = ap var_of q.2 ∙ var_of-neg l ∙ sym (ap var_of p.2) in
    elim (cases_eq p.0 q.0) [
      | inl e ↦ neg-other l (sym q.2 ∙ ap (λ k. get_or c k 0) (sym e) ∙ p.2)
      | inr n ↦
          elim (cases_lt p.0 q.0) [
            | inl lt ↦ normal.apart p.0 q.0 0 lt q.1 (sym same)
            | inr ge ↦ normal.apart q.0 p.0 0 (omega arith) p.1 same
          ]
    ]

-- nor do its first literals
apart_front : (c : List ℕ) (n : ℕ) → IsNormal c → IsApart (take n c)
apart_front c n normal l h =
    false_from_ne_true (has (take n c) (neg l)) (λ t. apart_normal c normal l (has_taken n c l h) (has_taken n c (neg l) t))

first_shared : (c : List ℕ) (n : ℕ) → 0 < n → n ≤ length c → (l : ℕ) × (has (take n c) l ≡ true) × (has c l ≡ true)
first_shared c zero some le = absurd (omega arith)
first_shared [] (suc n) some le = absurd (omega arith)
first_shared (x ∷ c) (suc n) some le =
    (x, or_left (eqb x x) (has (take n c) x) (eq-eqb x x refl), or_left (eqb x x) (has c x) (eq-eqb x x refl))

-- the only clause of a store may be parked with its first literals
pub witnesses_front : (s t : List (Option Stored)) (id n : ℕ) (c w : List ℕ) → ((k : ℕ) → slot s k ≡ None) → Fills s t id (firm_clause c) → IsNormal c → 0 < n → n ≤ length c → w ≡ take n c
    → Witnesses (OthersTrue t id) w (slot_lits (slot t id))
witnesses_front s t id n c w none fills normal some le is = rw (is, fills.filled) (record {
  apart = apart_front c n normal;
  shared = first_shared c n some le;
  moves = λ f x off k ne. SlotTrue-none (set_true f (take n c)) (slot t k) (fills.others k ne ∙ none k);
})

-- Laws of the pairs of a component.
use Rattle.std.proofs.Common.{◌≡◌, ◌≢◌, ℕ, ◌+◌, ◌<◌, ◌≤◌, Bool, true, List, [], ◌∷◌, ◌++◌, length, get_or, inl, inr, refl, sym, ap, ◌∙◌, subst, arith}
use Rattle.std.proofs.lemmas.Bool.{cases_eq, cases_lt}
use Rattle.std.proofs.lemmas.List.{length_push, get_or_default}
use Rattle.sat_terms.specs.Literal.{has, var_of}
use Rattle.equiv_subst.specs.declared.pairs.Pair.{Pair}
use Rattle.equiv_subst.specs.Walk.{no_pair, IsPairFor, AreFrom, FrontFrozen, AreFrozen}
use Rattle.equiv_subst.proofs.Leading.{has_place, has_at_place, push_cases}

-- what holds after the first n members
pub record Pairing (frozen : ℕ → Bool) (members : List ℕ) (to n : ℕ) (old new : List Pair) : Type 0 where
  pub from : AreFrom frozen old members new
  pub grown : length old ≤ length new
  pub front : length new ≡ 0 → FrontFrozen frozen members to n

pub has_read : (c : List ℕ) (i x : ℕ) → i < length c → x ≡ get_or c i x → has c x ≡ true
has_read c i x in' read = subst (λ (z : ℕ). has c z ≡ true) (sym (read ∙ get_or_default c i x 0 in')) (has_at_place c i in')

pub pairing_none : (frozen : ℕ → Bool) (members : List ℕ) (to : ℕ) (ps : List Pair) → Pairing frozen members to 0 ps ps
pairing_none frozen members to ps = record { from = λ k lt. inl (lt, refl); grown = omega arith; front = λ e k lt. absurd (omega arith) }

-- a member with no pair
pub pairing_same : (frozen : ℕ → Bool) (members : List ℕ) (to n l : ℕ) (old new : List Pair) → n < length members → l ≡ get_or members n l → (l ≢ to → (frozen (var_of l) ≡ true) × (frozen (var_of to) ≡ true))
    → Pairing frozen members to n old new → Pairing frozen members to (n + 1) old new
pairing_same frozen members to n l old new in' read f h =
    let at0 : l ≡ get_or members n 0 = read ∙ get_or_default members n l 0 in' in
    record {
      from = h.from;
      grown = h.grown;
      front = λ e k lt ne.
          elim (cases_lt k n) [
            | inl less ↦ h.front e k less ne
            | inr ge ↦ (let s : get_or members k 0 ≡ l = ap (λ (z : ℕ). get_or members z 0) (let u : k ≡ n = omega arith in u) ∙ sym at0 in rw s (f (λ z. ne (s ∙ z))))
          ];
    }

-- a member with a pair
pub pairing_more : (frozen : ℕ → Bool) (members : List ℕ) (to n l : ℕ) (old new : List Pair) (p : Pair) → n < length members → l ≡ get_or members n l → has members to ≡ true → IsPairFor frozen p l to
    → Pairing frozen members to n old new → Pairing frozen members to (n + 1) old (new ++ p ∷ [])
pairing_more frozen members to n l old new p in' read has_to for' h =
    let hl = has_read members n l in' read in
    record {
      from = λ k lt.
          elim (push_cases new p no_pair k lt) [
            | inl r ↦ (let s = r.1 in rw s (h.from k r.0))
            | inr r ↦ (let s = r.1 in
                rw s (elim for'.is [
                  | inl i ↦ (let a = i.0 in let b = i.1 in inr (rw a hl, rw b has_to, for'.fit))
                  | inr i ↦ (let a = i.0 in let b = i.1 in inr (rw a has_to, rw b hl, for'.fit))
                ]))
          ];
      grown = omega (arith, length_push new p, h.grown);
      front = λ e. absurd (omega (arith, length_push new p));
    }

pub pairing_all : (frozen : ℕ → Bool) (members : List ℕ) (to n : ℕ) (old new : List Pair) → length members ≤ n → Pairing frozen members to n old new → length new ≡ 0 → AreFrozen frozen members
pairing_all frozen members to n old new le h e l m hl hm ne =
    let i = has_place members l hl in
    let j = has_place members m hm in
    let fi = h.front e i.0 (let a = i.1 in omega arith) in
    let fj = h.front e j.0 (let a = j.1 in omega arith) in
    let si = i.2 in
    let sj = j.2 in
    elim (cases_eq l to) [
      | inl s ↦ rw s ((rw sj at fj) (λ z. ne (s ∙ sym z))).1
      | inr n ↦ ((rw si at fi) n).0
    ]

-- Laws of signatures.
use Rattle.std.proofs.Common.{◌≡◌, ℕ, ◌+◌, ◌%◌, ◌*◌, ◌^◌, ◌<◌, ◌≤◌, max, true, List, length, get_or, inl, inr, refl, sym, ap, ◌∙◌, subst, arith, bit_and, bit_or}
use Rattle.std.specs.Int.{bit_at}
use Rattle.std.proofs.lemmas.Nat.Bits.{bit_at-zero, bit_at_and, bit_at_or, bit_at-pow_same, bit_at-pow_other, bit_at-lt, same_from_bits}
use Rattle.std.proofs.lemmas.Nat.{one_shl}
use Rattle.std.proofs.lemmas.Bool.{false≢true, cases_eq, cases_lt, eq-eqb}
use Rattle.std.proofs.lemmas.List.{get_or_default}
use Rattle.sat_terms.specs.Literal.{has, neg, var_of}
use Rattle.sat_terms.proofs.Literals.{var_of-neg}
use Rattle.firm_terms.specs.Signing.{IsSignature, SignaturesTell}
use Rattle.sat_terms.proofs.Members.{has_item, has_place}

-- the signature of the first literals of a clause
pub record Signing (c : List ℕ) (k bits : ℕ) : Type 0 where
  pub set : (m : ℕ) → m < k → bit_at bits (var_of (get_or c m 0) % 64) ≡ 1
  pub only : (i : ℕ) → bit_at bits i ≡ 1 → (m : ℕ) × (m < k) × (var_of (get_or c m 0) % 64 ≡ i)

pub signing_none : (c : List ℕ) → Signing c 0 0
signing_none c = record { set = λ m lt. absurd (omega arith); only = λ i h. absurd (let z = bit_at-zero i in omega arith) }

pub signing_more : (c : List ℕ) (k l bits new : ℕ) → k < length c → l ≡ get_or c k l → new ≡ bit_or bits (2 ^ (var_of l % 64)) → Signing c k bits → Signing c (k + 1) new
signing_more c k l bits new in' read is h =
    let e : var_of l % 64 ≡ var_of (get_or c k 0) % 64 = ap (λ (z : ℕ). var_of z % 64) (read ∙ get_or_default c k l 0 in') in
    let at : (i : ℕ) → bit_at new i ≡ max (bit_at bits i) (bit_at (2 ^ (var_of l % 64)) i) = λ i. ap (λ (z : ℕ). bit_at z i) is ∙ bit_at_or bits (2 ^ (var_of l % 64)) i in
    record {
      set = λ m lt. elim (cases_lt m k) [
        | inl less ↦
            (let i = var_of (get_or c m 0) % 64 in
            let a = at i in
            let b = h.set m less in
            let x = bit_at-lt (2 ^ (var_of l % 64)) i in
            omega arith)
        | inr ge ↦
            (let q : var_of (get_or c m 0) % 64 ≡ var_of l % 64 = ap (λ (z : ℕ). var_of (get_or c z 0) % 64) (let r : m ≡ k = omega arith in r) ∙ sym e in
            let a = at (var_of l % 64) in
            let b = bit_at-pow_same (var_of l % 64) in
            let x = bit_at-lt bits (var_of l % 64) in
            let y : bit_at new (var_of l % 64) ≡ 1 = omega arith in
            ap (λ (z : ℕ). bit_at new z) q ∙ y)
      ];
      only = λ i y.
          elim (cases_eq i (var_of l % 64)) [
            | inl z ↦ (k, omega arith, sym e ∙ sym z)
            | inr ne ↦
                (let a = at i in
                let b = bit_at-pow_other (var_of l % 64) i ne in
                let o : bit_at bits i ≡ 1 = omega arith in
                let r = h.only i o in
                let lt = r.1 in
                (r.0, omega arith, r.2))
          ];
    }

pub signed : (c : List ℕ) (k bits : ℕ) → length c ≤ k → k ≤ length c → Signing c k bits → IsSignature c bits
signed c k bits past upto h = record {
  set = λ l y. (let p = has_place c l 0 y in let lt = p.1 in subst (λ (z : ℕ). bit_at bits (var_of z % 64) ≡ 1) p.2 (h.set p.0 (omega arith)));
  only = λ i y. (let r = h.only i y in let lt = r.1 in (get_or c r.0 0, has_item c r.0 0 (omega arith), r.2));
}

-- where each variable of c stands in d, each bit does
covers : (c d : List ℕ) (a b : ℕ) → IsSignature c a → IsSignature d b → ((l : ℕ) → has c l ≡ true → (x : ℕ) × (has d x ≡ true) × (var_of x ≡ var_of l)) → bit_and a b ≡ a
covers c d a b h g sub =
    same_from_bits (bit_and a b) a (λ i.
    let m = bit_at_and a b i in
    let la = bit_at-lt a i in
    let lb = bit_at-lt b i in
    elim (cases_eq (bit_at a i) 1) [
      | inl y ↦
          (let l = h.only i y in
          let x = sub l.0 l.1 in
          let z : bit_at b i ≡ 1 = subst (λ (w : ℕ). bit_at b w ≡ 1) (ap (λ (w : ℕ). w % 64) x.2 ∙ l.2) (g.set x.0 x.1) in
          omega arith)
      | inr n ↦ omega arith
    ])

pub tells : SignaturesTell
tells c d a b h g n = record {
  outside = λ w. false≢true (sym n ∙ eq-eqb (bit_and a b) a (covers c d a b h g (λ l i. (l, w l i, refl))));
  uncut = λ x r. false≢true (sym n ∙ eq-eqb (bit_and a b) a (covers c d a b h g (λ l i. elim (cases_eq l (neg x)) [
    | inl e ↦ (x, r.here, sym (ap var_of e ∙ var_of-neg x))
    | inr ne ↦ (l, (r.rest l i ne).0, refl)
  ])));
}

-- as the code has it
pub signing_code : (c : List ℕ) (k l v bits : ℕ) → k < length c → l ≡ get_or c k l → v ≡ var_of l → Signing c k bits → Signing c (k + 1) (bit_or bits ((1 * 2 ^ (v % 64)) % 2 ^ 64))
signing_code c k l v bits in' read is h =
    let lt : v % 64 < 64 = omega arith in
    let e : (1 * 2 ^ (v % 64)) % 2 ^ 64 ≡ 2 ^ (var_of l % 64) = one_shl (v % 64) 64 lt ∙ ap (λ (z : ℕ). 2 ^ (z % 64)) is in
    signing_more c k l bits (bit_or bits ((1 * 2 ^ (v % 64)) % 2 ^ 64)) in' read (ap (λ (z : ℕ). bit_or bits z) e) h

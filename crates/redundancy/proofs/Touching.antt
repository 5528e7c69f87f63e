-- Laws of touched literals and of clean ones.
use Rattle.std.proofs.Common.{◌≡◌, ℕ, true, false, not, eqb, List, [], ◌∷◌, ◌++◌, ◌⊎◌, inl, inr, refl, sym, ap, ◌∙◌, rules}
use Rattle.std.proofs.lemmas.Bool.{or_cases, or_left, or_right, and_parts, and_from, not-true, false≢true, false_from_ne_true, eqb-true}
use Rattle.sat_terms.specs.Literal.{neg, has}
use Rattle.redundancy.specs.Redundancy.{Entry, Clean, is_clean, touches}

-- what `touches` tests
pub touches-some : (w c : List ℕ) → touches w c ≡ true → (l : ℕ) × (has c l ≡ true) × (has w (neg l) ≡ true)
touches-some w [] h = absurd (false≢true h)
touches-some w (x ∷ c) h =
    elim (or_cases (has w (neg x)) (touches w c) h) [
      | inl t ↦ (x, or_left (eqb x x) (has c x) (search rules), t)
      | inr h' ↦
          let r = touches-some w c h' in
          (r.0, or_right (eqb x r.0) (has c r.0) r.1, r.2)
    ]

pub touches-from : (w c : List ℕ) (l : ℕ) → has c l ≡ true → has w (neg l) ≡ true → touches w c ≡ true
touches-from w [] l h t = absurd (false≢true h)
touches-from w (x ∷ c) l h t =
    elim (or_cases (eqb x l) (has c l) h) [
      | inl e ↦ or_left (has w (neg x)) (touches w c) (rw (eqb-true x l e) t)
      | inr h' ↦ or_right (has w (neg x)) (touches w c) (touches-from w c l h' t)
    ]

pub touches-more : (w c d : List ℕ) → ((l : ℕ) → has c l ≡ true → has d l ≡ true) → touches w c ≡ true → touches w d ≡ true
touches-more w c d sub h = let r = touches-some w c h in touches-from w d r.0 (sub r.0 r.1) r.2

pub touches-none : (w c : List ℕ) (l : ℕ) → touches w c ≡ false → has c l ≡ true → has w (neg l) ≡ false
touches-none w c l n h = false_from_ne_true (has w (neg l)) (λ t. false≢true (sym n ∙ touches-from w c l h t))

pub untouched : (w c : List ℕ) → ((l : ℕ) → has c l ≡ true → has w (neg l) ≡ false) → touches w c ≡ false
untouched w c out = false_from_ne_true (touches w c) (λ t. let r = touches-some w c t in false≢true (sym (out r.0 r.1) ∙ r.2))

-- a clean list stays clean for fewer literals
pub Clean-fewer : (c d : List ℕ) (s : List Entry) → ((l : ℕ) → has c l ≡ true → has d l ≡ true) → Clean d s → Clean c s
Clean-fewer c d [] sub h = tt
Clean-fewer c d (e ∷ s) sub h = ((λ l i. h.0 l (sub l i)), Clean-fewer c d s sub h.1)

-- the test is exact
pub Clean-from_test : (c : List ℕ) (s : List Entry) → is_clean c s ≡ true → Clean c s
Clean-from_test c [] h = tt
Clean-from_test c (e ∷ s) h =
    let p = and_parts (not (touches e.witness c)) (is_clean c s) h in
    ((λ l. touches-none e.witness c l (not-true (touches e.witness c) p.0)), Clean-from_test c s p.1)

pub is_clean-from : (c : List ℕ) (s : List Entry) → Clean c s → is_clean c s ≡ true
is_clean-from c [] h = refl
is_clean-from c (e ∷ s) h =
    and_from (not (touches e.witness c)) (is_clean c s) (ap not (untouched e.witness c h.0)) (is_clean-from c s h.1)

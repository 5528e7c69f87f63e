-- Copies in which no literal stands twice.
use Rattle.std.proofs.Common.{◌≡◌, ◌≢◌, ℕ, suc, zero, ◌<◌, ◌≤◌, Bool, true, false, not, ◌&&◌, ◌||◌, eqb, List, [], ◌∷◌, length, get_or, set, inl, inr, refl, sym, ap, ◌∙◌, subst, arith}
use Rattle.std.specs.Prelude.{AllPairs}
use Rattle.std.proofs.lemmas.Bool.{eq-eqb, ne_eqb, false≢true, false_from_ne_true}
use Rattle.sat_terms.specs.Literal.{has}
use Rattle.sat_terms.proofs.Members.{has_place}
use Rattle.watch_lists.specs.Watching.{front, turned, copied, IsOnce}
use Rattle.watch_lists.specs.Visiting.{OtherOf}
use Rattle.watch_lists.proofs.Fronts.{has_here, others, rest_has}

or_none : (a b : Bool) → (a || b) ≡ false → (a ≡ false) × (b ≡ false)
or_none true b e = absurd (false≢true (sym e))
or_none false b e = (refl, e)

both_none : (a b : Bool) → a ≡ false → b ≡ false → (a || b) ≡ false
both_none a b e f = rw e f

-- a literal that is written in place of another one
put_none : (c : List ℕ) (k x l : ℕ) → has c l ≡ false → x ≢ l → has (set c k x) l ≡ false
put_none [] k x l h n = refl
put_none (y ∷ c) zero x l h n = both_none (eqb x l) (has c l) (ne_eqb x l n) (or_none (eqb y l) (has c l) h).1
put_none (y ∷ c) (suc k) x l h n =
    let p = or_none (eqb y l) (has c l) h in
    both_none (eqb y l) (has (set c k x) l) p.0 (put_none c k x l p.1 n)

put_gone : (c : List ℕ) (k b x : ℕ) → IsOnce c → k < length c → get_or c k 0 ≡ b → x ≢ b → has (set c k x) b ≡ false
put_gone [] k b x o in' is n = absurd (omega arith)
put_gone (y ∷ c) zero b x o in' is n = both_none (eqb x b) (has c b) (ne_eqb x b n) (subst (λ z. has c z ≡ false) is o.0)
put_gone (y ∷ c) (suc k) b x o in' is n =
    let h = has_here c k b (omega arith) is in
    both_none (eqb y b) (has (set c k x) b) (ne_eqb y b (λ e. false≢true (sym o.0 ∙ ap (has c) e ∙ h))) (put_gone c k b x o.1 (omega arith) is n)

once_put : (c : List ℕ) (k x : ℕ) → IsOnce c → has c x ≡ false → IsOnce (set c k x)
once_put [] k x o h = tt
once_put (y ∷ c) zero x o h = ((or_none (eqb y x) (has c x) h).1, o.1)
once_put (y ∷ c) (suc k) x o h =
    let p = or_none (eqb y x) (has c x) h in
    (put_none c k x y o.0 (λ e. false≢true (sym p.0 ∙ eq-eqb y x (sym e))), once_put c k x o.1 p.1)

-- what stands behind the two in front
record Behind (c : List ℕ) (x a : ℕ) : Type 0 where
  pub one : has c x ≡ false
  pub other : has c a ≡ false
  pub differ : x ≢ a
  pub rest : IsOnce c

behind : (p q : ℕ) (c : List ℕ) (x a : ℕ) → OtherOf (record { first = p; second = q }) x a → IsOnce (p ∷ q ∷ c) → Behind c x a
behind p q c x a one o =
    let h = or_none (eqb q p) (has c p) o.0 in
    let q-off : has c q ≡ false = o.1.0 in
    let n : q ≢ p = λ e. false≢true (sym h.0 ∙ eq-eqb q p e) in
    elim one [
      | inl e ↦ record { one = subst (λ z. has c z ≡ false) e.0 h.1; other = subst (λ z. has c z ≡ false) e.1 q-off; differ = λ y. n (e.1 ∙ sym y ∙ sym e.0); rest = o.1.1 }
      | inr e ↦ record { one = subst (λ z. has c z ≡ false) e.0 q-off; other = subst (λ z. has c z ≡ false) e.1 h.1; differ = λ y. n (e.0 ∙ y ∙ sym e.1); rest = o.1.1 }
    ]

pub once_turned : (c : List ℕ) (a b k x : ℕ) → 2 ≤ k → k < length c → OtherOf (front c) x a → get_or c k 0 ≡ b → IsOnce c → IsOnce (turned c a b k x)
once_turned [] a b k x late in' one is o = absurd (omega arith)
once_turned (p ∷ []) a b k x late in' one is o = absurd (omega arith)
once_turned (p ∷ q ∷ c) a b zero x late in' one is o = absurd (omega arith)
once_turned (p ∷ q ∷ c) a b (suc zero) x late in' one is o = absurd (omega arith)
once_turned (p ∷ q ∷ c) a b (suc (suc k)) x late in' one is o =
    let h = behind p q c x a one o in
    let here = has_here c k b (omega arith) is in (
      both_none (eqb b a) (has (set c k x) a) (ne_eqb b a (λ e. false≢true (sym h.other ∙ ap (has c) (sym e) ∙ here))) (put_none c k x a h.other h.differ),
      (put_gone c k b x h.rest (omega arith) is (λ e. false≢true (sym h.one ∙ ap (has c) e ∙ here)), once_put c k x h.rest h.one),
    )

-- no literal behind the two in front is the other one
pub once_apart : (c : List ℕ) (x a k : ℕ) → 2 ≤ k → k < length c → OtherOf (front c) x a → IsOnce c → get_or c k 0 ≢ a
once_apart [] x a k late in' one o e = absurd (omega arith)
once_apart (p ∷ []) x a k late in' one o e = absurd (omega arith)
once_apart (p ∷ q ∷ c) x a zero late in' one o e = absurd (omega arith)
once_apart (p ∷ q ∷ c) x a (suc zero) late in' one o e = absurd (omega arith)
once_apart (p ∷ q ∷ c) x a (suc (suc k)) late in' one o e = false≢true (sym (behind p q c x a one o).other ∙ has_here c k a (omega arith) e)

-- a clause of the store, and its copy
pub once_rising : (c : List ℕ) → AllPairs (λ a b. a < b) c → IsOnce c
once_rising [] up = tt
once_rising (x ∷ c) up = (
  false_from_ne_true (has c x) (λ h.
      let r = has_place c x 0 h in
      let less : x < get_or c r.0 0 = up 0 (suc r.0) 0 (omega arith) (let b = r.1 in omega arith) in
      let same = r.2 in
      absurd (omega arith)),
  once_rising c (λ i j d lt in'. up (suc i) (suc j) d (omega arith) (omega arith)),
)

rest_none : (a b l : ℕ) (c : List ℕ) → (not (eqb l a) && not (eqb l b)) ≡ false → has (others a b c) l ≡ false
rest_none a b l [] off = refl
rest_none a b l (x ∷ c) off = go (not (eqb x a) && not (eqb x b)) refl (rest_none a b l c off) where
  go : (p : Bool) → (not (eqb x a) && not (eqb x b)) ≡ p → has (others a b c) l ≡ false → has (others a b (x ∷ c)) l ≡ false
  go false e later = rw e later
  go true e later = rw e (both_none (eqb x l) (has (others a b c) l) (ne_eqb x l (λ q. false≢true (sym off ∙ ap (λ z. not (eqb z a) && not (eqb z b)) (sym q) ∙ e))) later)

once_rest : (a b : ℕ) (c : List ℕ) → IsOnce c → IsOnce (others a b c)
once_rest a b [] o = tt
once_rest a b (x ∷ c) o = go (not (eqb x a) && not (eqb x b)) refl (once_rest a b c o.1) where
  go : (p : Bool) → (not (eqb x a) && not (eqb x b)) ≡ p → IsOnce (others a b c) → IsOnce (others a b (x ∷ c))
  go false e later = rw e later
  go true e later = rw e (false_from_ne_true (has (others a b c) x) (λ h. false≢true (sym o.0 ∙ rest_has a b x c h)), later)

pub once_copied : (a b : ℕ) (c : List ℕ) → a ≢ b → IsOnce c → IsOnce (copied a b c)
once_copied a b c n o = (
  both_none (eqb b a) (has (others a b c) a) (ne_eqb b a (λ e. n (sym e))) (rest_none a b a c (rw (eq-eqb a a refl) refl)),
  (rest_none a b b c (rw (ne_eqb b a (λ e. n (sym e)), eq-eqb b b refl) refl), once_rest a b c o),
)

-- Laws of the two literals in front of a copy.
use Rattle.std.proofs.Common.{◌≡◌, ◌≢◌, ℕ, suc, zero, ◌<◌, ◌≤◌, Bool, true, false, not, ◌&&◌, ◌||◌, eqb, List, [], ◌∷◌, length, get_or, set, inl, inr, refl, sym, ap, ◌∙◌, arith}
use Rattle.std.specs.Prelude.{filter}
use Rattle.std.proofs.lemmas.Bool.{cases_eq, or_cases, or_left, or_right, eq-eqb, ne_eqb, eqb-true}
use Rattle.sat_terms.specs.Literal.{has, neg}
use Rattle.sat_terms.proofs.Members.{same_tests, has_place}
use Rattle.trail_state.specs.declared.trail.Step.{Step}
use Rattle.trail_state.specs.Trail.{true_on}
use Rattle.watch_lists.specs.Watching.{front, turned, copied, SameLits}
use Rattle.watch_lists.specs.Visiting.{OtherOf, NoneFrom, NoNext}

pub has_here : (c : List ℕ) (k l : ℕ) → k < length c → get_or c k 0 ≡ l → has c l ≡ true
has_here [] k l in' is = absurd (omega arith)
has_here (x ∷ c) zero l in' is = or_left (eqb x l) (has c l) (eq-eqb x l is)
has_here (x ∷ c) (suc k) l in' is = or_right (eqb x l) (has c l) (has_here c k l (omega arith) is)

-- two different literals in front say that there are two
pub two_long : (c : List ℕ) → (front c).first ≢ (front c).second → 2 ≤ length c
two_long [] n = absurd (n refl)
two_long (a ∷ []) n = absurd (n refl)
two_long (a ∷ b ∷ c) n = omega arith

pub front_read : (c : List ℕ) (x y : ℕ) → 2 ≤ length c → x ≡ get_or c 0 x → y ≡ get_or c 1 y → front c ≡ record { first = x; second = y }
front_read [] x y two a b = absurd (omega arith)
front_read (p ∷ []) x y two a b = absurd (omega arith)
front_read (p ∷ q ∷ c) x y two a b = rw (a, b) refl

-- two literals come in front, and the one that was there goes to the place of one of them
pub front_turned : (c : List ℕ) (a b k x : ℕ) → 2 ≤ k → k < length c → front (turned c a b k x) ≡ record { first = a; second = b }
front_turned [] a b k x late in' = absurd (omega arith)
front_turned (p ∷ []) a b k x late in' = absurd (omega arith)
front_turned (p ∷ q ∷ c) a b zero x late in' = absurd (omega arith)
front_turned (p ∷ q ∷ c) a b (suc zero) x late in' = absurd (omega arith)
front_turned (p ∷ q ∷ c) a b (suc (suc k)) x late in' = refl

or_turned : (a b c : Bool) → (a || (b || c)) ≡ (b || (a || c))
or_turned true true c = refl
or_turned true false c = refl
or_turned false b c = refl

put_has : (c : List ℕ) (k b x l : ℕ) → k < length c → get_or c k 0 ≡ b → (eqb b l || has (set c k x) l) ≡ (eqb x l || has c l)
put_has [] k b x l in' is = absurd (omega arith)
put_has (y ∷ c) zero b x l in' is = rw (← is) (or_turned (eqb y l) (eqb x l) (has c l))
put_has (y ∷ c) (suc k) b x l in' is =
    or_turned (eqb b l) (eqb y l) (has (set c k x) l) ∙ ap (λ z. eqb y l || z) (put_has c k b x l (omega arith) is) ∙ or_turned (eqb y l) (eqb x l) (has c l)

pub has_turned : (c : List ℕ) (a b k x l : ℕ) → 2 ≤ k → k < length c → OtherOf (front c) x a → get_or c k 0 ≡ b → has (turned c a b k x) l ≡ has c l
has_turned [] a b k x l late in' one is = absurd (omega arith)
has_turned (p ∷ []) a b k x l late in' one is = absurd (omega arith)
has_turned (p ∷ q ∷ c) a b zero x l late in' one is = absurd (omega arith)
has_turned (p ∷ q ∷ c) a b (suc zero) x l late in' one is = absurd (omega arith)
has_turned (p ∷ q ∷ c) a b (suc (suc k)) x l late in' one is =
    ap (λ z. eqb a l || z) (put_has c k b x l (omega arith) is)
    ∙ elim one [
      | inl e ↦ or_turned (eqb a l) (eqb x l) (has c l) ∙ ap (λ z. eqb z l || (eqb a l || has c l)) (sym e.0) ∙ ap (λ z. eqb p l || (eqb z l || has c l)) (sym e.1)
      | inr e ↦ ap (λ z. eqb z l || (eqb x l || has c l)) (sym e.1) ∙ ap (λ z. eqb p l || (eqb z l || has c l)) (sym e.0)
    ]

-- where the other literals of the copy are false, so are those of the clause
pub none_next : (t : List Step) (c d : List ℕ) (f o : ℕ) → OtherOf (front c) f o → (front c).first ≢ (front c).second → true_on t (neg f) ≡ true → NoneFrom t c (length c) → SameLits c d → NoNext t d o
none_next t c d f o one differ fallen none same l h n = go c one differ none (same l ∙ h) where
  go : (c : List ℕ) → OtherOf (front c) f o → (front c).first ≢ (front c).second → NoneFrom t c (length c) → has c l ≡ true → true_on t (neg l) ≡ true
  go [] one differ none h = absurd (differ refl)
  go (a ∷ []) one differ none h = absurd (differ refl)
  go (a ∷ b ∷ c) one differ none h =
      let r = has_place (a ∷ b ∷ c) l 0 h in
      at r.0 r.1 r.2
    where
      at : (k : ℕ) → k < length (a ∷ b ∷ c) → get_or (a ∷ b ∷ c) k 0 ≡ l → true_on t (neg l) ≡ true
      at zero in' is = elim one [ inl e ↦ rw (sym is ∙ e.0) fallen | inr e ↦ absurd (n (sym is ∙ e.1)) ]
      at (suc zero) in' is = elim one [ inl e ↦ absurd (n (sym is ∙ e.1)) | inr e ↦ rw (sym is ∙ e.0) fallen ]
      at (suc (suc k)) in' is = rw is at (none (suc (suc k)) (omega arith) in' in')

-- a clause with two of its literals in front
abbrev pub others : ℕ → ℕ → List ℕ → List ℕ
others a b c = filter (λ x. not (eqb x a) && not (eqb x b)) c

pub rest_has : (a b l : ℕ) (c : List ℕ) → has (others a b c) l ≡ true → has c l ≡ true
rest_has a b l [] h = h
rest_has a b l (x ∷ c) h = go (not (eqb x a) && not (eqb x b)) refl (λ k. rest_has a b l c k) h where
  go : (p : Bool) → (not (eqb x a) && not (eqb x b)) ≡ p → (has (others a b c) l ≡ true → has c l ≡ true) → has (others a b (x ∷ c)) l ≡ true → has (x ∷ c) l ≡ true
  go false e later h = or_right (eqb x l) (has c l) (later (rw e at h))
  go true e later h =
      elim (or_cases (eqb x l) (has (others a b c) l) (rw e at h)) [
        | inl y ↦ or_left (eqb x l) (has c l) y
        | inr y ↦ or_right (eqb x l) (has c l) (later y)
      ]

has_rest : (a b l : ℕ) (c : List ℕ) → l ≢ a → l ≢ b → has c l ≡ true → has (others a b c) l ≡ true
has_rest a b l [] n m h = h
has_rest a b l (x ∷ c) n m h =
    elim (or_cases (eqb x l) (has c l) h) [
      | inl y ↦
          let e : x ≡ l = eqb-true x l y in
          rw (ne_eqb x a (λ q. n (sym e ∙ q)), ne_eqb x b (λ q. m (sym e ∙ q))) (or_left (eqb x l) (has (others a b c) l) y)
      | inr y ↦ go (not (eqb x a) && not (eqb x b)) refl (has_rest a b l c n m y)
    ] where
      go : (p : Bool) → (not (eqb x a) && not (eqb x b)) ≡ p → has (others a b c) l ≡ true → has (others a b (x ∷ c)) l ≡ true
      go true e k = rw e (or_right (eqb x l) (has (others a b c) l) k)
      go false e k = rw e k

pub has_copied : (a b : ℕ) (c : List ℕ) (l : ℕ) → has c a ≡ true → has c b ≡ true → has (copied a b c) l ≡ has c l
has_copied a b c l in-a in-b = same_tests (has (copied a b c) l) (has c l) there back where
  there : has (copied a b c) l ≡ true → has c l ≡ true
  there h =
      elim (or_cases (eqb a l) (has (b ∷ others a b c) l) h) [
        | inl e ↦ let q : a ≡ l = eqb-true a l e in rw (← q) in-a
        | inr k ↦
            elim (or_cases (eqb b l) (has (others a b c) l) k) [
              | inl e ↦ let q : b ≡ l = eqb-true b l e in rw (← q) in-b
              | inr m ↦ rest_has a b l c m
            ]
      ]

  back : has c l ≡ true → has (copied a b c) l ≡ true
  back h =
      elim (cases_eq l a) [
        | inl e ↦ or_left (eqb a l) (has (b ∷ others a b c) l) (eq-eqb a l (sym e))
        | inr n ↦
            or_right (eqb a l) (has (b ∷ others a b c) l)
            (elim (cases_eq l b) [
              | inl e ↦ or_left (eqb b l) (has (others a b c) l) (eq-eqb b l (sym e))
              | inr m ↦ or_right (eqb b l) (has (others a b c) l) (has_rest a b l c n m h)
            ])
      ]

pub first_read : (c : List ℕ) (x : ℕ) → 2 ≤ length c → x ≡ get_or c 0 x → x ≡ (front c).first
first_read [] x two a = absurd (omega arith)
first_read (p ∷ []) x two a = absurd (omega arith)
first_read (p ∷ q ∷ c) x two a = a

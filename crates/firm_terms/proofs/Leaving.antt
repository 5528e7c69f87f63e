-- Laws of variables that no longer stand in firm clauses.
use Rattle.std.proofs.Common.{◌≡◌, ℕ, ◌+◌, ◌≤◌, Bool, true, false, cond, not, eqb, List, [], ◌∷◌, length, ◌⊎◌, inl, inr, refl, ap, subst, arith}
use Rattle.std.specs.List.{count_by}
use Rattle.std.proofs.lemmas.Bool.{cases_Bool, false≢true, or_cases, or_left, or_right, eqb-true, eq-eqb}
use Rattle.std.proofs.lemmas.List.Sums.{sum_by-cons, count_by-le-length}
use Rattle.sat_terms.specs.Literal.{has, var_of}
use Rattle.firm_terms.specs.Firm.{stands, mentions, with_var, with_vars, vars, gone}
use Rattle.firm_terms.proofs.Standing.{lit_of}

-- the variables of clauses
has_with_var : (v u : ℕ) (vs : List ℕ) → (v ≡ u) ⊎ (has vs u ≡ true) → has (with_var v vs) u ≡ true
has_with_var v u vs (inl e) =
    elim (cases_Bool (has vs v)) [ inl a ↦ rw a (rw e at a) | inr a ↦ rw a (or_left (eqb v u) (has vs u) (eq-eqb v u e)) ]
has_with_var v u vs (inr h) =
    elim (cases_Bool (has vs v)) [ inl a ↦ rw a h | inr a ↦ rw a (or_right (eqb v u) (has vs u) h) ]

has_with_vars_old : (c : List ℕ) (vs : List ℕ) (u : ℕ) → has vs u ≡ true → has (with_vars c vs) u ≡ true
has_with_vars_old [] vs u h = h
has_with_vars_old (l ∷ c) vs u h = has_with_var (var_of l) u (with_vars c vs) (inr (has_with_vars_old c vs u h))

has_with_vars : (c : List ℕ) (vs : List ℕ) (l : ℕ) → has c l ≡ true → has (with_vars c vs) (var_of l) ≡ true
has_with_vars [] vs l h = absurd (false≢true h)
has_with_vars (x ∷ c) vs l h =
    has_with_var (var_of x) (var_of l) (with_vars c vs)
    (elim (or_cases (eqb x l) (has c l) h) [ inl a ↦ inl (ap var_of (eqb-true x l a)) | inr b ↦ inr (has_with_vars c vs l b) ])

pub has_vars : (cs : List (List ℕ)) (v : ℕ) → stands cs v ≡ true → has (vars cs) v ≡ true
has_vars [] v h = absurd (false≢true h)
has_vars (c ∷ cs) v h =
    elim (or_cases (mentions c v) (stands cs v) h) [
      | inl a ↦ (let l = lit_of c v a in subst (λ (z : ℕ). has (with_vars c (vars cs)) z ≡ true) l.2 (has_with_vars c (vars cs) l.0 l.1))
      | inr b ↦ has_with_vars_old c (vars cs) v (has_vars cs v b)
    ]

-- counts
abbrev one : Bool → ℕ
one b = cond b 1 0

pub count_by_le : (p q : ℕ → Bool) (xs : List ℕ) → ((x : ℕ) → p x ≡ true → q x ≡ true) → count_by p xs ≤ count_by q xs
count_by_le p q [] h = omega arith
count_by_le p q (x ∷ xs) h =
    let a = sum_by-cons (λ y. cond (p y) 1 0) x xs in
    let b = sum_by-cons (λ y. cond (q y) 1 0) x xs in
    let r = count_by_le p q xs h in
    elim (cases_Bool (p x)) [
      | inl i ↦ (let j = h x i in let c : one (p x) ≡ 1 = rw i refl in let d : one (q x) ≡ 1 = rw j refl in omega (arith, a, b, c, d, r))
      | inr i ↦ (let c : one (p x) ≡ 0 = rw i refl in omega (arith, a, b, c, r))
    ]

pub count_by_less : (p q : ℕ → Bool) (xs : List ℕ) (v : ℕ) → ((x : ℕ) → p x ≡ true → q x ≡ true) → has xs v ≡ true → p v ≡ false → q v ≡ true → count_by p xs + 1 ≤ count_by q xs
count_by_less p q [] v h in' n y = absurd (false≢true in')
count_by_less p q (x ∷ xs) v h in' n y =
    let a = sum_by-cons (λ z. cond (p z) 1 0) x xs in
    let b = sum_by-cons (λ z. cond (q z) 1 0) x xs in
    elim (or_cases (eqb x v) (has xs v) in') [
      | inl e ↦
          (let c : one (p x) ≡ 0 = rw (eqb-true x v e, n) refl in
          let d : one (q x) ≡ 1 = rw (eqb-true x v e, y) refl in
          let r = count_by_le p q xs h in
          omega (arith, a, b, c, d, r))
      | inr e ↦
          (let r = count_by_less p q xs v h e n y in
          elim (cases_Bool (p x)) [
            | inl i ↦ (let j = h x i in let c : one (p x) ≡ 1 = rw i refl in let d : one (q x) ≡ 1 = rw j refl in omega (arith, a, b, c, d, r))
            | inr i ↦ (let c : one (p x) ≡ 0 = rw i refl in omega (arith, a, b, c, r))
          ])
    ]

not_map : (a b : Bool) → (a ≡ false → b ≡ false) → not a ≡ true → not b ≡ true
not_map true b h x = absurd (false≢true x)
not_map false b h x = ap not (h refl)

-- what is gone stays gone, and one more may go
pub gone_le : (vs : List ℕ) (cs ds : List (List ℕ)) → ((v : ℕ) → stands cs v ≡ false → stands ds v ≡ false) → gone vs cs ≤ gone vs ds
gone_le vs cs ds h = count_by_le (λ v. not (stands cs v)) (λ v. not (stands ds v)) vs (λ v. not_map (stands cs v) (stands ds v) (h v))

pub gone_less : (vs : List ℕ) (cs ds : List (List ℕ)) (v : ℕ) → ((u : ℕ) → stands cs u ≡ false → stands ds u ≡ false) → has vs v ≡ true → stands cs v ≡ true → stands ds v ≡ false → gone vs cs + 1 ≤ gone vs ds
gone_less vs cs ds v h in' y n = count_by_less (λ u. not (stands cs u)) (λ u. not (stands ds u)) vs v (λ u. not_map (stands cs u) (stands ds u) (h u)) in' (ap not y) (ap not n)

pub gone_most : (vs : List ℕ) (cs : List (List ℕ)) → gone vs cs ≤ length vs
gone_most vs cs = count_by-le-length (λ v. not (stands cs v)) vs

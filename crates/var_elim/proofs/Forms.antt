-- Normal forms of lists of literals, and how long they are.
use Rattle.std.proofs.Common.{◌≡◌, ◌≢◌, ℕ, ◌+◌, ◌≤◌, Bool, true, false, cond, eqb, not, List, [], ◌∷◌, ◌++◌, length, ◌⊎◌, inl, inr, refl, sym, ap, ◌∙◌, subst, arith}
use Rattle.std.specs.List.{fold}
use Rattle.std.proofs.lemmas.Bool.{cases_Bool, cases_eq, false≢true, false_from_ne_true, or_cases, or_left, or_right, and_from, not_from_false, eq-eqb, ne_eqb, eqb-true}
use Rattle.std.proofs.lemmas.List.{append-nil, append_assoc}
use Rattle.sat_terms.specs.Literal.{has}
use Rattle.sat_terms.specs.Normal.{IsNormal}
use Rattle.sat_terms.proofs.Members.{has-append_left, has-append_right, has-append_cases, has_without, same_tests}
use Rattle.normal_form.specs.Forms.{IsFormOf, SameLits}
use Rattle.clause_store.specs.Listing.{times}
use Rattle.clause_store.proofs.Counts.{times-cons, times-rising}
use Rattle.firm_terms.specs.Resolving.{without, push_new, distinct}
use Rattle.var_elim.specs.Testing.{AreForms, Grows}

abbrev one : Bool → ℕ
one b = cond b 1 0

-- how often a member stands, and what is no member
times_has : (xs : List ℕ) (l : ℕ) → has xs l ≡ true → 1 ≤ times xs l
times_has [] l h = absurd (false≢true h)
times_has (x ∷ xs) l h =
    let e = times-cons x xs l in
    elim (or_cases (eqb x l) (has xs l) h) [
      | inl a ↦ (let z : one (eqb x l) ≡ 1 = ap one a in omega (arith, e, z))
      | inr b ↦ (let r = times_has xs l b in omega (arith, e, r))
    ]

times_not : (xs : List ℕ) (l : ℕ) → has xs l ≡ false → times xs l ≡ 0
times_not [] l h = refl
times_not (x ∷ xs) l h =
    let e = times-cons x xs l in
    let a : eqb x l ≡ false = false_from_ne_true (eqb x l) (λ t. false≢true (sym h ∙ or_left (eqb x l) (has xs l) t)) in
    let b : has xs l ≡ false = false_from_ne_true (has xs l) (λ t. false≢true (sym h ∙ or_right (eqb x l) (has xs l) t)) in
    let z : one (eqb x l) ≡ 0 = ap one a in
    let r = times_not xs l b in
    omega (arith, e, z, r)

-- no member stands twice
abbrev Once : List ℕ → Type 0
Once xs = (l : ℕ) → times xs l ≤ 1

one_most : (b : Bool) → one b ≤ 1
one_most true = omega arith
one_most false = omega arith

once_normal : (c : List ℕ) → IsNormal c → Once c
once_normal c n l = let e = times-rising c l n.rising in let m = one_most (has c l) in omega (arith, e, m)

times_end : (acc : List ℕ) (y l : ℕ) → times (acc ++ y ∷ []) l ≡ times acc l + one (eqb y l)
times_end [] y l = times-cons y [] l ∙ (let z : times [] l ≡ 0 = refl in omega (arith, z))
times_end (x ∷ acc) y l = let r = times_end acc y l in omega (arith, times-cons x (acc ++ y ∷ []) l, times-cons x acc l, r)

once_push : (acc : List ℕ) (y : ℕ) → Once acc → Once (push_new acc y)
once_push acc y h l =
    elim (cases_Bool (has acc y)) [
      | inl a ↦ rw a (h l)
      | inr n ↦
          rw n
          (let e = times_end acc y l in
          elim (cases_eq y l) [
            | inl q ↦ (let z = times_not acc l (subst (λ (u : ℕ). has acc u ≡ false) q n) in let m = one_most (eqb y l) in omega (arith, e, z, m))
            | inr q ↦ (let z : one (eqb y l) ≡ 0 = ap one (ne_eqb y l q) in let m = h l in omega (arith, e, z, m))
          ])
    ]

once_fold : (acc c : List ℕ) → Once acc → Once (fold push_new acc c)
once_fold acc [] h = h
once_fold acc (y ∷ c) h = once_fold (push_new acc y) c (once_push acc y h)

-- the different literals of a list are its literals
push_of : (acc : List ℕ) (y l : ℕ) → has (push_new acc y) l ≡ true → (has acc l ≡ true) ⊎ (y ≡ l)
push_of acc y l h =
    elim (cases_Bool (has acc y)) [
      | inl a ↦ inl (rw a at h)
      | inr a ↦
          elim (has-append_cases acc (y ∷ []) l (rw a at h)) [
            | inl b ↦ inl b
            | inr b ↦ elim (or_cases (eqb y l) false b) [ inl d ↦ inr (eqb-true y l d) | inr d ↦ absurd (false≢true d) ]
          ]
    ]

push_in : (acc : List ℕ) (y l : ℕ) → (has acc l ≡ true) ⊎ (y ≡ l) → has (push_new acc y) l ≡ true
push_in acc y l (inl h) =
    elim (cases_Bool (has acc y)) [ inl a ↦ rw a h | inr a ↦ rw a (has-append_left acc (y ∷ []) l h) ]
push_in acc y l (inr e) =
    elim (cases_Bool (has acc y)) [
      | inl a ↦ rw a (rw e at a)
      | inr a ↦ rw a (has-append_right acc (y ∷ []) l (or_left (eqb y l) false (eq-eqb y l e)))
    ]

fold_of : (acc c : List ℕ) (l : ℕ) → has (fold push_new acc c) l ≡ true → (has acc l ≡ true) ⊎ (has c l ≡ true)
fold_of acc [] l h = inl h
fold_of acc (y ∷ c) l h =
    elim (fold_of (push_new acc y) c l h) [
      | inl a ↦ elim (push_of acc y l a) [ inl b ↦ inl b | inr b ↦ inr (or_left (eqb y l) (has c l) (eq-eqb y l b)) ]
      | inr a ↦ inr (or_right (eqb y l) (has c l) a)
    ]

fold_in : (acc c : List ℕ) (l : ℕ) → (has acc l ≡ true) ⊎ (has c l ≡ true) → has (fold push_new acc c) l ≡ true
fold_in acc [] l (inl h) = h
fold_in acc [] l (inr h) = absurd (false≢true h)
fold_in acc (y ∷ c) l (inl h) = fold_in (push_new acc y) c l (inl (push_in acc y l (inl h)))
fold_in acc (y ∷ c) l (inr h) =
    elim (or_cases (eqb y l) (has c l) h) [
      | inl a ↦ fold_in (push_new acc y) c l (inl (push_in acc y l (inr (eqb-true y l a))))
      | inr b ↦ fold_in (push_new acc y) c l (inr b)
    ]

pub distinct_same : (c : List ℕ) → SameLits (distinct c) c
distinct_same c l =
    same_tests (has (distinct c) l) (has c l)
    (λ h. elim (fold_of [] c l h) [ inl a ↦ absurd (false≢true a) | inr b ↦ b ])
    (λ h. fold_in [] c l (inr h))

-- of two lists with the same members, where none stands twice, neither is longer
length_without : (x : ℕ) (ys : List ℕ) → length (without x ys) + times ys x ≡ length ys
length_without x [] = refl
length_without x (y ∷ ys) = go (eqb y x) refl (length_without x ys) where
  go : (b : Bool) → eqb y x ≡ b → length (without x ys) + times ys x ≡ length ys → length (cond (not b) (y ∷ without x ys) (without x ys)) + times (y ∷ ys) x ≡ length (y ∷ ys)
  go true e r = let t = times-cons y ys x in let z : one (eqb y x) ≡ 1 = ap one e in omega (arith, r, t, z)
  go false e r = let t = times-cons y ys x in let z : one (eqb y x) ≡ 0 = ap one e in omega (arith, r, t, z)

not_longer : (xs ys : List ℕ) → Once xs → ((l : ℕ) → has xs l ≡ true → has ys l ≡ true) → length xs ≤ length ys
not_longer [] ys o h = omega arith
not_longer (x ∷ xs) ys o h =
    let first : has (x ∷ xs) x ≡ true = or_left (eqb x x) (has xs x) (eq-eqb x x refl) in
    let there = times_has ys x (h x first) in
    let w = length_without x ys in
    let alone : has xs x ≡ false = false_from_ne_true (has xs x) (λ t.
    let a = times_has xs x t in
    let b = times-cons x xs x in
    let z : one (eqb x x) ≡ 1 = ap one (eq-eqb x x refl) in
    let m = o x in
    absurd (omega (arith, a, b, z, m))) in
    let rest : Once xs = λ l. (let b = times-cons x xs l in let m = o l in omega (arith, b, m)) in
    let r = not_longer xs (without x ys) rest (λ l i.
    let ne : l ≢ x = λ e. false≢true (sym alone ∙ subst (λ (z : ℕ). has xs z ≡ true) e i) in
    has_without ys x l ∙ and_from (has ys l) (not (eqb l x)) (h l (or_right (eqb x l) (has xs l) i)) (not_from_false (eqb l x) (ne_eqb l x ne))) in
    omega (arith, r, w, there)

pub form_length : (form c : List ℕ) → IsFormOf form c → length form ≡ length (distinct c)
form_length form c h =
    let a = not_longer form (distinct c) (once_normal form h.normal) (λ l i. distinct_same c l ∙ sym (h.same l) ∙ i) in
    let b = not_longer (distinct c) form (once_fold [] c (λ l. (let z : times [] l ≡ 0 = refl in omega (arith, z)))) (λ l i. h.same l ∙ sym (distinct_same c l) ∙ i) in
    omega (arith, a, b)

pub form_distinct : (form c : List ℕ) → IsFormOf form c → IsFormOf form (distinct c)
form_distinct form c h = record { normal = h.normal; same = λ l. h.same l ∙ sym (distinct_same c l) }

-- lists of forms
forms-append : (cs rs ds qs : List (List ℕ)) → AreForms cs rs → AreForms ds qs → AreForms (cs ++ ds) (rs ++ qs)
forms-append [] [] ds qs h k = k
forms-append [] (r ∷ rs) ds qs h k = absurd h
forms-append (c ∷ cs) [] ds qs h k = absurd h
forms-append (c ∷ cs) (r ∷ rs) ds qs h k = (h.0, forms-append cs rs ds qs h.1 k)

pub grows_none : (old : List (List ℕ)) → Grows old old []
grows_none old = record { forms = λ before h. rw (append-nil before) h }

pub grows_one : (old : List (List ℕ)) (form r : List ℕ) → IsFormOf form r → Grows old (old ++ form ∷ []) (r ∷ [])
grows_one old form r h = record { forms = λ before k. forms-append old before (form ∷ []) (r ∷ []) k (h, tt) }

pub grows_both : (a b c rs qs : List (List ℕ)) → Grows a b rs → Grows b c qs → Grows a c (rs ++ qs)
grows_both a b c rs qs h k = record { forms = λ before f. subst (λ (z : List (List ℕ)). AreForms c z) (append_assoc before rs qs) (k.forms (before ++ rs) (h.forms before f)) }

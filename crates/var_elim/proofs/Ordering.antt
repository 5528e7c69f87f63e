-- Whether a variable is a candidate does not depend on the order in which its clauses are listed.
use Rattle.std.proofs.Common.{◌≡◌, ℕ, ◌+◌, Bool, true, false, cond, not, ◌||◌, List, [], ◌∷◌, length, refl, sym, ap, ◌∙◌, arith, inl, inr, nat_lt}
use Rattle.std.specs.List.{list_any, list_all, filter, sum_by}
use Rattle.std.proofs.lemmas.Bool.{cases_Bool}
use Rattle.std.proofs.lemmas.List.{length-append, length-map}
use Rattle.std.proofs.lemmas.List.Folds.{list_all-append}
use Rattle.std.proofs.lemmas.List.Sums.{sum_by-cons, length-filter}
use Rattle.firm_terms.specs.Resolving.{resolvent, is_tautology, distinct, row, resolvents, is_unit, is_short, candidate_of}

-- two lists have the same clauses as often: every sum over them is the same
abbrev pub SameSums : List (List ℕ) → List (List ℕ) → Type 0
SameSums ps qs = (f : List ℕ → ℕ) → sum_by f ps ≡ sum_by f qs

abbrev one : Bool → ℕ
one b = cond b 1 0

-- lengths and tests, as sums
length_sum : (ps : List (List ℕ)) → length ps ≡ sum_by (λ c. 1) ps
length_sum [] = refl
length_sum (c ∷ ps) = omega (arith, length_sum ps, sum_by-cons (λ (d : List ℕ). 1) c ps)

any_sum : (p : List ℕ → Bool) (ps : List (List ℕ)) → list_any p ps ≡ nat_lt 0 (sum_by (λ c. one (p c)) ps)
any_sum p [] = refl
any_sum p (c ∷ ps) = go (p c) (any_sum p ps) ∙ ap (nat_lt 0) (sym (sum_by-cons (λ c. one (p c)) c ps)) where
  go : (b : Bool) → list_any p ps ≡ nat_lt 0 (sum_by (λ c. one (p c)) ps) → (b || list_any p ps) ≡ nat_lt 0 (one b + sum_by (λ c. one (p c)) ps)
  go true h = search arith
  go false h = h ∙ ap (nat_lt 0) (omega arith)

sum_same : (f g : List ℕ → ℕ) (ps : List (List ℕ)) → ((c : List ℕ) → f c ≡ g c) → sum_by f ps ≡ sum_by g ps
sum_same f g [] h = refl
sum_same f g (c ∷ ps) h = omega (arith, sum_by-cons f c ps, sum_by-cons g c ps, h c, sum_same f g ps h)

all_any : {A : Type 0} (p : A → Bool) (xs : List A) → list_all p xs ≡ not (list_any (λ x. not (p x)) xs)
all_any p [] = refl
all_any p (x ∷ xs) =
    elim (cases_Bool (p x)) [ inl a ↦ rw a (all_any p xs) | inr a ↦ rw a refl ]

all_same : (p q : List ℕ → Bool) (ps : List (List ℕ)) → ((c : List ℕ) → p c ≡ q c) → list_all p ps ≡ list_all q ps
all_same p q [] h = refl
all_same p q (c ∷ ps) h = rw (h c, all_same p q ps h) refl

module _ (ps qs : List (List ℕ)) (same : SameSums ps qs) where
  same_length : length ps ≡ length qs
  same_length = length_sum ps ∙ same (λ c. 1) ∙ sym (length_sum qs)

  same_any : (p : List ℕ → Bool) → list_any p ps ≡ list_any p qs
  same_any p = any_sum p ps ∙ ap (nat_lt 0) (same (λ c. one (p c))) ∙ sym (any_sum p qs)

  same_all : (p : List ℕ → Bool) → list_all p ps ≡ list_all p qs
  same_all p = all_any p ps ∙ ap not (same_any (λ c. not (p c))) ∙ sym (all_any p qs)

-- the resolvents of a clause with those of a list, counted, and whether all are short
abbrev is_clear : ℕ → List ℕ → List ℕ → Bool
is_clear x c d = not (is_tautology (resolvent x c d))

abbrev width : ℕ → List (List ℕ) → List ℕ → ℕ
width x ns c = sum_by (λ d. one (is_clear x c d)) ns

abbrev is_fine : ℕ → List ℕ → List ℕ → Bool
is_fine x c d = is_tautology (resolvent x c d) || is_short (distinct (resolvent x c d))

length_row : (x : ℕ) (c : List ℕ) (ns : List (List ℕ)) → length (row x c ns) ≡ width x ns c
length_row x c ns = length-map (filter (λ d. is_clear x c d) ns) (λ d. distinct (resolvent x c d)) ∙ length-filter (λ d. is_clear x c d) ns

length_resolvents : (x : ℕ) (ps ns : List (List ℕ)) → length (resolvents x ps ns) ≡ sum_by (width x ns) ps
length_resolvents x [] ns = refl
length_resolvents x (c ∷ ps) ns =
    omega (arith, length-append (row x c ns) (resolvents x ps ns), length_row x c ns, length_resolvents x ps ns, sum_by-cons (width x ns) c ps)

all_row : (x : ℕ) (c : List ℕ) (ns : List (List ℕ)) → list_all is_short (row x c ns) ≡ list_all (is_fine x c) ns
all_row x c [] = refl
all_row x c (d ∷ ns) =
    elim (cases_Bool (is_tautology (resolvent x c d))) [ inl a ↦ rw a (all_row x c ns) | inr a ↦ rw (a, all_row x c ns) refl ]

all_resolvents : (x : ℕ) (ps ns : List (List ℕ)) → list_all is_short (resolvents x ps ns) ≡ list_all (λ c. list_all (is_fine x c) ns) ps
all_resolvents x [] ns = refl
all_resolvents x (c ∷ ps) ns = list_all-append is_short (row x c ns) (resolvents x ps ns) ∙ rw (all_row x c ns, all_resolvents x ps ns) refl

-- the same clauses, in another order maybe
pub candidate_same : (x : ℕ) (ps qs ns ms : List (List ℕ)) → SameSums ps qs → SameSums ns ms → candidate_of x ps ns ≡ candidate_of x qs ms
unfolding candidate_of
candidate_same x ps qs ns ms p n =
    let lp : length ps ≡ length qs = same_length ps qs p in
    let ln : length ns ≡ length ms = same_length ns ms n in
    let up : list_any is_unit ps ≡ list_any is_unit qs = same_any ps qs p is_unit in
    let un : list_any is_unit ns ≡ list_any is_unit ms = same_any ns ms n is_unit in
    let a : length (resolvents x ps ns) ≡ length (resolvents x qs ms) =
    length_resolvents x ps ns ∙ sum_same (width x ns) (width x ms) ps (λ c. n (λ d. one (is_clear x c d))) ∙ p (width x ms) ∙ sym (length_resolvents x qs ms) in
    let b : list_all is_short (resolvents x ps ns) ≡ list_all is_short (resolvents x qs ms) =
    all_resolvents x ps ns ∙ all_same (λ c. list_all (is_fine x c) ns) (λ c. list_all (is_fine x c) ms) ps (λ c. same_all ns ms n (is_fine x c))
    ∙ same_all ps qs p (λ c. list_all (is_fine x c) ms) ∙ sym (all_resolvents x qs ms) in
    rw (lp, ln, up, un, a, b) refl

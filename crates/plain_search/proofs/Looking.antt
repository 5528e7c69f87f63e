-- One turn of a look at a clause, and of a look at all clauses.
use Rattle.std.proofs.Common.{◌≡◌, ◌∙◌, sym, ap, subst, arith, ℕ, ◌+◌, ◌<◌, ◌≤◌, Bool, true, false, List, length, inl, inr, ⊎_elim, Some, None, get_or, take, eqb, zero, suc}
use Rattle.std.specs.Prelude.{slice_get, not, All, Any, Contains, ◌⊎◌, ◌≢◌}
use Rattle.std.specs.declared.option.Option.{Option}
use Rattle.std.proofs.lemmas.Bool.{true≢false}
use Rattle.std.proofs.lemmas.Bool.Decides.{eqb_tells}
use Rattle.std.proofs.lemmas.Option.{get_or_from_slice_get}
use Rattle.std.proofs.lemmas.List.{get_or_read, take_all}
use Rattle.std.proofs.lemmas.List.Elements.{All-more, All-weaker}
use Rattle.plain_search.specs.declared.assignment.Step.{Step}
use Rattle.plain_search.specs.declared.scan.Finding.TheVariants.{Undecided, Met}
use Rattle.plain_search.specs.Steps.{value_in}
use Rattle.plain_search.specs.Search.{OnlyOpen, FindsIn, FindsAmong}

abbrev pub IsFalse : List Step → ℕ → Type 0
IsFalse steps k = value_in steps k ≡ Some false

abbrev pub IsShut : List Step → ℕ → ℕ → Type 0
IsShut steps l k = (k ≡ l) ⊎ (value_in steps k ≡ Some false)

-- What is known of the first i literals: all are false, or the one that was found has no value, and where no other was found
-- without one the rest are false.
abbrev pub SoFar : List Step → List ℕ → ℕ → Bool → Option ℕ → Type 0
SoFar steps lits i undecided None = All (IsFalse steps) (take i lits) × (undecided ≡ false)
SoFar steps lits i undecided (Some l) = (value_in steps l ≡ None) × Contains lits l × (undecided ≡ false → OnlyOpen steps l (take i lits))

-- the same state under other names
pub moved : (steps : List Step) (lits : List ℕ) (i : ℕ) (u u' : Bool) (o o' : Option ℕ) → u' ≡ u → o' ≡ o → SoFar steps lits i u o → SoFar steps lits i u' o'
moved steps lits i u u' o o' e f h =
    let A : Bool → Type 0 = λ v. SoFar steps lits i v o in
    let B : Option ℕ → Type 0 = λ v. SoFar steps lits i u' v in
    subst B (sym f) (subst A (sym e) h)

pub more_false : (steps : List Step) (lits : List ℕ) (i x : ℕ) (u : Bool) (found : Option ℕ) → i < length lits → x ≡ get_or lits i x → value_in steps x ≡ Some false
    → SoFar steps lits i u found → SoFar steps lits (i + 1) u found
more_false steps lits i x u None l is v h = (All-more (IsFalse steps) lits i 0 l h.0 (rw (sym (get_or_read lits i x l is 0)) v), h.1)
more_false steps lits i x u (Some k) l is v h = (h.0, h.1, λ n. All-more (IsShut steps k) lits i 0 l (h.2 n) (inr (rw (sym (get_or_read lits i x l is 0)) v)))

pub more_first : (steps : List Step) (lits : List ℕ) (i x : ℕ) (u : Bool) → i < length lits → x ≡ get_or lits i x → value_in steps x ≡ None
    → SoFar steps lits i u None → SoFar steps lits (i + 1) u (Some x)
more_first steps lits i x u l is v h = (
  v,
  (i, l, sym is),
  λ n. All-more (IsShut steps x) lits i 0 l (All-weaker (IsFalse steps) (IsShut steps x) (λ k e. inr e) (take i lits) h.0) (inl (sym (get_or_read lits i x l is 0))),
)

pub more_open : (steps : List Step) (lits : List ℕ) (i x k : ℕ) (u v : Bool) → i < length lits → x ≡ get_or lits i x → (v ≡ false → (x ≡ k) × (u ≡ false))
    → SoFar steps lits i u (Some k) → SoFar steps lits (i + 1) v (Some k)
more_open steps lits i x k u v l is e h = (h.0, h.1, λ n. All-more (IsShut steps k) lits i 0 l (h.2 (e n).1) (inl (sym (get_or_read lits i x l is 0) ∙ (e n).0)))

pub all_false : (steps : List Step) (lits : List ℕ) (i : ℕ) (u : Bool) → length lits ≤ i → SoFar steps lits i u None → All (IsFalse steps) lits
all_false steps lits i u l h = rw (sym (take_all i lits l)) h.0

pub all_shut : (steps : List Step) (lits : List ℕ) (i k : ℕ) (u : Bool) → length lits ≤ i → u ≡ false → SoFar steps lits i u (Some k)
    → (value_in steps k ≡ None) × Contains lits k × OnlyOpen steps k lits
all_shut steps lits i k u l n h = (h.0, h.1, rw (sym (take_all i lits l)) (h.2 n))

pub some_open : (steps : List Step) (lits : List ℕ) (i k : ℕ) (u : Bool) → SoFar steps lits i u (Some k) → Any (λ x. value_in steps x ≡ None) lits
some_open steps lits i k u h = (h.1.0, k, h.1.1, h.1.2, h.0)

-- two literals that a test finds equal
pub same_lit : (a b : ℕ) → not (eqb a b) ≡ false → b ≡ a
same_lit a b h = ⊎_elim (λ (t : (eqb a b ≡ true) × (a ≡ b)). sym t.1) (λ (t : (eqb a b ≡ false) × (a ≢ b)). absurd (true≢false (sym (ap not t.0) ∙ h))) (eqb_tells a b)

-- the places from `start` on, round the n places, of which k were seen
abbrev pub IsSeen : ℕ → ℕ → ℕ → ℕ → Type 0
IsSeen start n k j = ((start ≤ j) × (j < start + k)) ⊎ (j + n < start + k)

-- the place where the k-th look is
abbrev pub IsAt : ℕ → ℕ → ℕ → ℕ → Type 0
IsAt start n k at = (start + k ≡ at) ⊎ (start + k ≡ at + n)

-- what is known of the clauses that were seen
abbrev pub Round : List Step → List (List ℕ) → ℕ → ℕ → Bool → Type 0
Round steps clauses start k true = (j : ℕ) (d : List ℕ) → j < length clauses → IsSeen start (length clauses) k j → FindsIn steps (get_or clauses j d) Met
Round steps clauses start k false = FindsAmong steps clauses Undecided

-- a place that is seen after one more look is that of the look, or was seen before
seen_before : (start n k at j : ℕ) → j < n → at < n → IsAt start n k at → j ≢ at → IsSeen start n (k + 1) j → IsSeen start n k j
seen_before start n k at j jn an a other s = ⊎_elim
    (λ (p : (start ≤ j) × (j < start + (k + 1))). ⊎_elim
    (λ (q : start + k ≡ at). inl (p.0, omega (arith, p.1, q, other)))
    (λ (q : start + k ≡ at + n). inl (p.0, omega (arith, p.1, q, jn))) a)
    (λ (p : j + n < start + (k + 1)). ⊎_elim
    (λ (q : start + k ≡ at). absurd (omega (arith, p, q, an)))
    (λ (q : start + k ≡ at + n). inr (omega (arith, p, q, other))) a)
    s

-- one more clause that has a true literal
pub round_met : (steps : List Step) (clauses : List (List ℕ)) (start k at : ℕ) (c : List ℕ) → at < length clauses → IsAt start (length clauses) k at → slice_get clauses at ≡ Some c
    → FindsIn steps c Met → Round steps clauses start k true → Round steps clauses start (k + 1) true
round_met steps clauses start k at c an a is found round j d jn s = ⊎_elim
    (λ (t : (eqb j at ≡ true) × (j ≡ at)). let e : get_or clauses j d ≡ c = ap (λ i. get_or clauses i d) t.1 ∙ get_or_from_slice_get clauses at c d is in
    subst (λ (x : List ℕ). FindsIn steps x Met) (sym e) found)
    (λ (t : (eqb j at ≡ false) × (j ≢ at)). round j d jn (seen_before start (length clauses) k at j jn an a t.1 s))
    (eqb_tells j at)

pub round_open : (steps : List Step) (clauses : List (List ℕ)) (at : ℕ) (c : List ℕ) → at < length clauses → slice_get clauses at ≡ Some c
    → FindsIn steps c Undecided → FindsAmong steps clauses Undecided
round_open steps clauses at c an is found = (c, (at, an, get_or_from_slice_get clauses at c c is), found)

pub round_stays : (steps : List Step) (clauses : List (List ℕ)) (start k at : ℕ) (c : List ℕ) (met : Bool) → at < length clauses → IsAt start (length clauses) k at → slice_get clauses at ≡ Some c
    → FindsIn steps c Met → Round steps clauses start k met → Round steps clauses start (k + 1) met
round_stays steps clauses start k at c true an a is found round = round_met steps clauses start k at c an a is found round
round_stays steps clauses start k at c false an a is found round = round

pub next_at : (start n k at at' : ℕ) → start < n → k < n → at < n → IsAt start n k at → (at + 1 < n → at' ≡ at + 1) → (at + 1 ≡ n → at' ≡ 0) → IsAt start n (k + 1) at'
next_at start n k at at' sn kn an a more first = ⊎_elim
    (λ (in_row : at + 1 < n). let e = more in_row in ⊎_elim (λ (q : start + k ≡ at). inl (omega (arith, q, e))) (λ (q : start + k ≡ at + n). inr (omega (arith, q, e))) a)
    (λ (last : at + 1 ≡ n). let e = first last in ⊎_elim (λ (q : start + k ≡ at). inr (omega (arith, q, e, last))) (λ (q : start + k ≡ at + n). absurd (omega (arith, q, last, sn, kn))) a)
    (either (at + 1) n (omega arith))
  where
    either : (i m : ℕ) → i ≤ m → (i < m) ⊎ (i ≡ m)
    either i m h = ⊎_elim (λ (t : (eqb i m ≡ true) × (i ≡ m)). inr t.1) (λ (t : (eqb i m ≡ false) × (i ≢ m)). inl (omega (arith, h, t.1))) (eqb_tells i m)

-- the whole round
pub whole_round : (steps : List Step) (clauses : List (List ℕ)) (start k : ℕ) → (0 < length clauses → start < length clauses) → length clauses ≤ k → Round steps clauses start k true → FindsAmong steps clauses Met
whole_round steps clauses start k sn done round j d h = round j d h (⊎_elim
    (λ (t : start ≤ j). inl (t, omega (arith, h, done)))
    (λ (t : j < start). inr (omega (arith, t, done))) (either start j))
  where
    either : (i m : ℕ) → (i ≤ m) ⊎ (m < i)
    either zero m = inl (omega arith)
    either (suc i) zero = inr (omega arith)
    either (suc i) (suc m) = ⊎_elim (λ (t : i ≤ m). inl (omega arith)) (λ (t : m < i). inr (omega arith)) (either i m)

pub in_clauses : (clauses : List (List ℕ)) (at : ℕ) (c : List ℕ) → at < length clauses → slice_get clauses at ≡ Some c → Contains clauses c
in_clauses clauses at c an is = (at, an, get_or_from_slice_get clauses at c c is)

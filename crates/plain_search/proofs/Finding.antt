-- What the findings mean for all assignments.
use Rattle.std.proofs.Common.{◌≡◌, ◌∙◌, sym, ap, refl, subst, cond, eqb, ℕ, ◌≤◌, Bool, true, false, List, [], ◌∷◌, ⊎_elim, Some, None, get_or}
use Rattle.std.specs.Prelude.{All, Contains, ◌≢◌, not}
use Rattle.std.proofs.lemmas.Bool.{false≢true}
use Rattle.std.proofs.lemmas.Bool.Decides.{eqb_tells}
use Rattle.std.proofs.lemmas.List.Folds.{list_any_none, Any-from_list_any, list_any-from_Any}
use Rattle.std.proofs.lemmas.List.Sums.{AllPass-from_list_all, list_all-from_AllPass}
use Rattle.std.proofs.lemmas.List.Elements.{All-contains, All-weaker}
use Rattle.sat_terms.specs.Literal.{neg, var_of}
use Rattle.sat_terms.specs.Truth.{Assignment, lit_true, clause_true}
use Rattle.sat_terms.specs.Answer.{Satisfies, Within}
use Rattle.sat_terms.proofs.Literals.{neg-neg}
use Rattle.sat_terms.proofs.Truths.{lit_true-neg}
use Rattle.plain_search.specs.declared.assignment.Step.{Step}
use Rattle.plain_search.specs.declared.scan.Finding.TheVariants.{Conflict, Forced, Undecided, Met}
use Rattle.plain_search.specs.Steps.{AllTrue, value_in}
use Rattle.plain_search.specs.Search.{OnlyOpen, FindsIn, FindsAmong, Agrees}
use Rattle.plain_search.proofs.Turns.{Refuted, Implies}

-- an assignment that makes the steps true gives a literal the value that they give it
pub value_true : (f : Assignment) (steps : List Step) (l : ℕ) (b : Bool) → AllTrue f steps → value_in steps l ≡ Some b → lit_true f l ≡ b
value_true f [] l b t e = cc
value_true f (s ∷ older) l b t e = ⊎_elim
    (λ (is : (eqb s.lit l ≡ true) × (s.lit ≡ l)). let v : Some true ≡ Some b = sym (ap (λ c. cond c (Some true) (cond (eqb s.lit (neg l)) (Some false) (value_in older l))) is.0) ∙ e in
    ap (lit_true f) (sym is.1) ∙ t.0 ∙ (cc))
    (λ (isnt : (eqb s.lit l ≡ false) × (s.lit ≢ l)). ⊎_elim
    (λ (is : (eqb s.lit (neg l) ≡ true) × (s.lit ≡ neg l)).
    let v : Some false ≡ Some b = sym (rw (isnt.0, is.0) refl) ∙ e in
    let n : not (lit_true f l) ≡ true = sym (lit_true-neg f l) ∙ ap (lit_true f) (sym is.1) ∙ t.0 in
    flipped (lit_true f l) n ∙ (cc))
    (λ (no2 : (eqb s.lit (neg l) ≡ false) × (s.lit ≢ neg l)).
    value_true f older l b t.1 (sym (rw (isnt.0, no2.0) refl) ∙ e))
    (eqb_tells s.lit (neg l)))
    (eqb_tells s.lit l)
  where
    flipped : (b : Bool) → not b ≡ true → b ≡ false
    flipped true e = cc
    flipped false e = refl

-- a clause of the list is true
clause_of : (clauses : List (List ℕ)) (f : Assignment) → Satisfies clauses f → (c : List ℕ) → Contains clauses c → clause_true f c ≡ true
clause_of clauses f h c in_it = All-contains (λ x. clause_true f x ≡ true) clauses c (AllPass-from_list_all (clause_true f) clauses h) in_it

-- a clause whose literals are false
conflict_in : (f : Assignment) (steps : List Step) → AllTrue f steps → (c : List ℕ) → All (λ k. value_in steps k ≡ Some false) c → clause_true f c ≡ false
conflict_in f steps t c all =
    list_any_none (lit_true f) c (All-weaker (λ k. value_in steps k ≡ Some false) (λ k. lit_true f k ≡ false) (λ k e. value_true f steps k false t e) c all)

-- a true clause whose literals but one are false
forced_in : (f : Assignment) (steps : List Step) → AllTrue f steps → (c : List ℕ) (l : ℕ) → OnlyOpen steps l c → clause_true f c ≡ true → lit_true f l ≡ true
forced_in f steps t c l only holds =
    let some = Any-from_list_any (lit_true f) c holds in
    let at = only some.0 some.1 some.2 in
    let e : get_or c some.0 some.1 ≡ some.1 = some.3 in
    ⊎_elim (λ (is : get_or c some.0 some.1 ≡ l). ap (lit_true f) (sym is ∙ e) ∙ some.4)
    (λ (isnt : value_in steps (get_or c some.0 some.1) ≡ Some false).
    absurd (false≢true (sym (value_true f steps some.1 false t (ap (value_in steps) (sym e) ∙ isnt)) ∙ some.4)))
    at

pub refuted : (clauses : List (List ℕ)) (steps : List Step) → FindsAmong steps clauses Conflict → Refuted (Satisfies clauses) steps
refuted clauses steps found f h t = false≢true (sym (conflict_in f steps t found.0 found.2) ∙ clause_of clauses f h found.0 found.1)

pub implied : (clauses : List (List ℕ)) (steps : List Step) (l : ℕ) → FindsAmong steps clauses (Forced l) → Implies (Satisfies clauses) steps l
implied clauses steps l found f h t = forced_in f steps t found.0 l found.2.2 (clause_of clauses f h found.0 found.1)

-- the literal that is forced is one of the list, and has no value
pub forced_within : (vars : ℕ) (clauses : List (List ℕ)) (steps : List Step) (l : ℕ) → All (Within vars) clauses → FindsAmong steps clauses (Forced l) → (var_of l ≤ vars) × (value_in steps l ≡ None)
forced_within vars clauses steps l w found =
    let within = All-contains (Within vars) clauses found.0 w found.1 in
    ((All-contains (λ k. (1 ≤ var_of k) × (var_of k ≤ vars)) found.0 l within found.2.1).1, found.2.0)

-- a clause that is undecided has a variable without a value
pub undecided_free : (vars : ℕ) (clauses : List (List ℕ)) (steps : List Step) → All (Within vars) clauses → FindsAmong steps clauses Undecided
    → (l : ℕ) × (1 ≤ var_of l) × (var_of l ≤ vars) × (value_in steps l ≡ None)
undecided_free vars clauses steps w found =
    let within : Within vars found.0 = All-contains (Within vars) clauses found.0 w found.1 in
    let at = found.2 in
    let e : get_or found.0 at.0 at.1 ≡ at.1 = at.3 in
    let in_range = within at.0 at.1 at.2 in
    (at.1, subst (λ (k : ℕ). 1 ≤ var_of k) e in_range.0, subst (λ (k : ℕ). var_of k ≤ vars) e in_range.1, at.4)

met_clause : (vars : ℕ) (steps : List Step) (f : Assignment) → Agrees f vars steps → (c : List ℕ) → Within vars c → FindsIn steps c Met → clause_true f c ≡ true
met_clause vars steps f agrees c w found =
    let within = w found.0 found.1 found.2 in
    let e : get_or c found.0 found.1 ≡ found.1 = found.3 in
    let high : var_of found.1 ≤ vars = subst (λ (k : ℕ). var_of k ≤ vars) e within.1 in
    list_any-from_Any (lit_true f) c (found.0, found.1, found.2, e, agrees found.1 high found.4)

-- where each clause has a true literal, so it has under each assignment that agrees with the trail
pub met : (vars : ℕ) (clauses : List (List ℕ)) (steps : List Step) → All (Within vars) clauses → FindsAmong steps clauses Met → (f : Assignment) → Agrees f vars steps → Satisfies clauses f
met vars clauses steps w found f agrees =
    list_all-from_AllPass (clause_true f) clauses (λ k d h. met_clause vars steps f agrees (get_or clauses k d) (w k d h) (found k d h))

-- what has no value has a negation without one
pub value_in-neg_none : (steps : List Step) (l : ℕ) → value_in steps l ≡ None → value_in steps (neg l) ≡ None
value_in-neg_none [] l e = refl
value_in-neg_none (s ∷ older) l e = ⊎_elim
    (λ (is : (eqb s.lit l ≡ true) × (s.lit ≡ l)). let v : Some true ≡ None = sym (rw is.0 refl) ∙ e in (cc))
    (λ (a : (eqb s.lit l ≡ false) × (s.lit ≢ l)). ⊎_elim
    (λ (is : (eqb s.lit (neg l) ≡ true) × (s.lit ≡ neg l)). let v : Some false ≡ None = sym (rw (a.0, is.0) refl) ∙ e in (cc))
    (λ (b : (eqb s.lit (neg l) ≡ false) × (s.lit ≢ neg l)).
    let back : eqb s.lit (neg (neg l)) ≡ false = ap (eqb s.lit) (neg-neg l) ∙ a.0 in
    rw (b.0, back) (value_in-neg_none older l (sym (rw (a.0, b.0) refl) ∙ e)))
    (eqb_tells s.lit (neg l)))
    (eqb_tells s.lit l)

-- Assumptions as clauses of one literal.
use Rattle.std.proofs.Common.{◌≡◌, ◌∙◌, sym, refl, arith, ℕ, ◌+◌, ◌-◌, ◌<◌, ◌≤◌, Bool, true, false, List, [], ◌∷◌, length, Some, get_or, take, drop, zero, suc}
use Rattle.std.specs.Prelude.{All, slice_get, ◌||◌, ◌&&◌}
use Rattle.std.proofs.Math.Bool.{or-false}
use Rattle.sat_terms.specs.Literal.{var_of}
use Rattle.sat_terms.specs.Truth.{Assignment, lit_true, lits_true, clauses_true}
use Rattle.sat_terms.specs.Answer.{Satisfies, Within, NoModel}
use Rattle.plain_search.specs.Rules.{rules}

pub length-rules : (assumed : List ℕ) (clauses : List (List ℕ)) → length (rules assumed clauses) ≡ length assumed + length clauses
length-rules [] clauses = omega arith
length-rules (l ∷ assumed) clauses = omega (arith, length-rules assumed clauses)

-- an assumption as a rule
pub rule_assumed : (assumed : List ℕ) (clauses : List (List ℕ)) (k : ℕ) → k < length assumed → slice_get (rules assumed clauses) k ≡ Some (take 1 (drop k assumed))
rule_assumed [] clauses k h = absurd (omega arith)
rule_assumed (l ∷ assumed) clauses zero h = refl
rule_assumed (l ∷ assumed) clauses (suc k) h = rule_assumed assumed clauses k (omega arith)

-- a clause as a rule
pub rule_clause : (assumed : List ℕ) (clauses : List (List ℕ)) (k : ℕ) → length assumed ≤ k → slice_get (rules assumed clauses) k ≡ slice_get clauses (k - length assumed)
rule_clause [] clauses k h = let e : k - 0 ≡ k = omega arith in rw e refl
rule_clause (l ∷ assumed) clauses zero h = absurd (omega arith)
rule_clause (l ∷ assumed) clauses (suc k) h = let e : suc k - suc (length assumed) ≡ k - length assumed = omega arith in rw e (rule_clause assumed clauses k (omega arith))

-- the rules are true where the assumptions and the clauses are
pub rules_true : (f : Assignment) (assumed : List ℕ) (clauses : List (List ℕ)) → clauses_true f (rules assumed clauses) ≡ (lits_true f assumed && clauses_true f clauses)
rules_true f [] clauses = refl
rules_true f (l ∷ assumed) clauses = rw (or-false (lit_true f l), rules_true f assumed clauses) (assoc (lit_true f l) (lits_true f assumed) (clauses_true f clauses))
  where
    assoc : (a b c : Bool) → (a && (b && c)) ≡ ((a && b) && c)
    assoc true b c = refl
    assoc false b c = refl

left_true : (a b : Bool) → (a && b) ≡ true → a ≡ true
left_true true b e = refl
left_true false b e = cc

right_true : (a b : Bool) → (a && b) ≡ true → b ≡ true
right_true true b e = e
right_true false b e = cc

-- a model of the rules is one of the clauses that makes the assumptions true
pub model_of_rules : (assumed : List ℕ) (clauses : List (List ℕ)) (f : Assignment) → Satisfies (rules assumed clauses) f → Satisfies clauses f × (lits_true f assumed ≡ true)
model_of_rules assumed clauses f h =
    let both = sym (rules_true f assumed clauses) ∙ h in
    (right_true (lits_true f assumed) (clauses_true f clauses) both, left_true (lits_true f assumed) (clauses_true f clauses) both)

pub none_of_rules : (assumed : List ℕ) (clauses : List (List ℕ)) → ((f : Assignment) → Satisfies (rules assumed clauses) f → ⊥) → NoModel (Satisfies clauses) assumed
none_of_rules assumed clauses none f holds lits = none f (rules_true f assumed clauses ∙ rw (lits, holds) refl)

-- the variables of the rules
pub rules_within : (n : ℕ) (assumed : List ℕ) (clauses : List (List ℕ)) → Within n assumed → All (Within n) clauses → All (Within n) (rules assumed clauses)
rules_within n [] clauses wa wc = wc
rules_within n (l ∷ assumed) clauses wa wc = go (rules_within n assumed clauses (λ k d h. wa (suc k) d (omega arith)) wc)
  where
    go : All (Within n) (rules assumed clauses) → (k : ℕ) (d : List ℕ) → k < suc (length (rules assumed clauses)) → Within n (get_or ((l ∷ []) ∷ rules assumed clauses) k d)
    go rest zero d h = single
      where
        single : (k : ℕ) (e : ℕ) → k < suc 0 → (1 ≤ var_of (get_or (l ∷ []) k e)) × (var_of (get_or (l ∷ []) k e) ≤ n)
        single zero e h = wa zero e (omega arith)
        single (suc k) e h = absurd (omega arith)
    go rest (suc k) d h = rest k d (omega arith)

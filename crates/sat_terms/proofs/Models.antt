-- Laws of lists of truth values.
use Rattle.std.proofs.Common.{◌≡◌, ◌≢◌, ℕ, suc, zero, ◌-◌, ◌%◌, ◌<◌, ◌≤◌, Bool, true, false, cond, not, eqb, List, length, get_or, set, inl, inr, refl, sym, ◌∙◌, arith}
use Rattle.std.proofs.lemmas.Bool.{eqb-true, eqb-false, eq-eqb, ne_eqb, cases_eq}
use Rattle.std.proofs.lemmas.List.{get_or_past, get_or-set_same, get_or-set_other}
use mathlib.Core.Path.{fun_ext}
use Rattle.sat_terms.specs.Literal.{var_of}
use Rattle.sat_terms.specs.Truth.{Assignment, values, lit_true}
use Rattle.sat_terms.proofs.Truths.{lit_true-even, lit_true-odd}

pub values_zero : (m : List Bool) → values m 0 ≡ false
unfolding values
values_zero m = refl

pub values_past : (m : List Bool) (v : ℕ) → length m < v → values m v ≡ false
unfolding values
values_past m zero lt = refl
values_past m (suc v) lt = get_or_past m v false (omega arith)

pub values_at : (m : List Bool) (v : ℕ) → 0 < v → values m v ≡ get_or m (v - 1) false
unfolding values
values_at m zero lt = absurd (omega arith)
values_at m (suc v) lt = let e : suc v - 1 ≡ v = omega arith in rw e refl

-- one write to the model
pub values-set : (m : List Bool) (u v : ℕ) (b : Bool) → 0 < u → u ≤ length m → values (set m (u - 1) b) v ≡ cond (eqb u v) b (values m v)
values-set m u v b pos in' =
    elim (cases_eq u v) [
      | inl e ↦ rw (eq-eqb u v e, ← e, values_at (set m (u - 1) b) u pos) (get_or-set_same m (u - 1) b false (omega arith))
      | inr n ↦ rw (ne_eqb u v n) (go v n)
    ] where
      go : (v : ℕ) → u ≢ v → values (set m (u - 1) b) v ≡ values m v
      go zero n = values_zero (set m (u - 1) b) ∙ sym (values_zero m)
      go (suc k) n = values_at (set m (u - 1) b) (suc k) (omega arith) ∙ get_or-set_other m (u - 1) (suc k - 1) b false (λ e. n (omega arith)) ∙ sym (values_at m (suc k) (omega arith))

-- a literal by its test of sign
pub lit_true_pos : (f : Assignment) (l : ℕ) → eqb (l % 2) 0 ≡ true → lit_true f l ≡ f (var_of l)
unfolding var_of
lit_true_pos f l h = lit_true-even f l (eqb-true (l % 2) 0 h)

pub lit_true_neg : (f : Assignment) (l : ℕ) → eqb (l % 2) 0 ≡ false → lit_true f l ≡ not (f (var_of l))
unfolding var_of
lit_true_neg f l h = let n = eqb-false (l % 2) 0 h in lit_true-odd f l (omega arith)

pub same_values : (f g : Assignment) → ((v : ℕ) → f v ≡ g v) → f ≡ g
same_values f g h = fun_ext h

pub ruleset reads = (values_zero, values_past, values_at)

pub ruleset signs = (lit_true_pos, lit_true_neg)

-- Literals of free variables.
use Rattle.std.proofs.Common.{◌≡◌, ◌≤◌, ℕ, Bool, true, false, cond, List, refl, ap, ◌∙◌, arith, Some, None}
use Rattle.sat_terms.specs.Literal.{neg, var_of, pos_lit, neg_lit}
use Rattle.sat_terms.proofs.Literals.{neg-pos_lit, neg-neg_lit, var_of-pos_lit, var_of-neg_lit}
use Rattle.trail_state.specs.declared.trail.Step.{Step}
use Rattle.trail_state.specs.Trail.{Trace, true_on, value_on}
use Rattle.decide_order.specs.Ordering.{Ordered, saved_phase, in_phase, IsOpen, IsPick, SameVars}

-- a literal has no value where its opposite has none
none_swapped : (a b : Bool) → cond a (Some true) (cond b (Some false) None) ≡ None → cond b (Some true) (cond a (Some false) None) ≡ None
none_swapped true b h = absurd (let e : Some true ≡ None = h in cc)
none_swapped false true h = absurd (let e : Some false ≡ None = h in cc)
none_swapped false false h = refl

pub free_neg : (t : List Step) (v : ℕ) → value_on t (pos_lit v) ≡ None → value_on t (neg_lit v) ≡ None
free_neg t v h = rw (neg-neg_lit v) (none_swapped (true_on t (pos_lit v)) (true_on t (neg_lit v)) (rw (neg-pos_lit v) at h))

-- what `pick` answers, as the code reads it
pub picked : (o o' : Ordered) (t : Trace) (v l : ℕ) → IsOpen o t v → v ≤ o.declared → SameVars o o' → l ≡ in_phase o' v → IsPick o t l
picked o o' t v l open' known same is = by (saved_phase o v) refl where
  by : (b : Bool) → saved_phase o v ≡ b → IsPick o t l
  by true e =
      let e' : l ≡ pos_lit v = rw (same.phase v, e) at is in
      let here : var_of l ≡ v = ap var_of e' ∙ var_of-pos_lit v in
      record { open_ = rw here open'; phase = rw (here, e) e'; free = rw e' open'.free; known = rw here known }
  by false e =
      let e' : l ≡ neg_lit v = rw (same.phase v, e) at is in
      let here : var_of l ≡ v = ap var_of e' ∙ var_of-neg_lit v in
      record { open_ = rw here open'; phase = rw (here, e) e'; free = rw e' (free_neg t.steps v open'.free); known = rw here known }

-- the variable of a literal in its saved phase
pub in_phase_var : (o : Ordered) (v l : ℕ) → l ≡ in_phase o v → var_of l ≡ v
in_phase_var o v l is = by (saved_phase o v) is where
  by : (b : Bool) → l ≡ cond b (pos_lit v) (neg_lit v) → var_of l ≡ v
  by true e = ap var_of e ∙ var_of-pos_lit v
  by false e = ap var_of e ∙ var_of-neg_lit v

-- Looks at clauses of fewer than two literals.
use Rattle.std.proofs.Common.{◌≡◌, ℕ, ◌+◌, ◌<◌, true, false, eqb, List, [], ◌∷◌, ◌++◌, length, get_or, inl, inr, sym, ap, ◌∙◌, subst, arith, Option, Some}
use Rattle.std.proofs.lemmas.Bool.{false≢true, cases_eq}
use Rattle.std.proofs.lemmas.List.{get_or_default}
use Rattle.sat_terms.specs.Literal.{has, var_of}
use Rattle.clause_store.specs.Stored.{Stored, slot, slot_lits}
use Rattle.trail_state.specs.declared.trail.Step.{Step}
use Rattle.trail_state.specs.Trail.{Trace, step, true_on, level_on, IsTrail}
use Rattle.trail_state.proofs.Places.{place_of_true, place_apart, level_at}
use Rattle.watch_lists.specs.Propagation.{Grown, TrueAtRoot, AllFixed}
use Rattle.watch_lists.specs.Watching.{TrueIn}
use Rattle.watch_lists.specs.Shorts.{AllMet}
use Rattle.watch_lists.proofs.Fronts.{has_here}
use Rattle.watch_lists.proofs.Watched.{true_in_from, true_pushed}
use Rattle.watch_lists.proofs.Turns.{true_grown, root_grown}

not_empty : (c : List ℕ) → eqb (length c) 0 ≡ false → 0 < length c
not_empty [] e = absurd (false≢true (sym e))
not_empty (x ∷ c) e = omega arith

-- the first literal, as the code reads it
pub first_held : (c : List ℕ) (x : ℕ) → eqb (length c) 0 ≡ false → x ≡ get_or c 0 x → has c x ≡ true
first_held c x e is = let in' = not_empty c e in has_here c 0 x in' (sym (is ∙ get_or_default c 0 x 0 in'))

pub met_true : (t : List Step) (c : List ℕ) (x : ℕ) → eqb (length c) 0 ≡ false → x ≡ get_or c 0 x → true_on t x ≡ true → TrueIn c t
met_true t c x e is on = true_in_from t c x (first_held c x e is) on

pub met_assigned : (t t' : List Step) (s : Step) (c : List ℕ) (x : ℕ) → eqb (length c) 0 ≡ false → x ≡ get_or c 0 x → t' ≡ t ++ s ∷ [] → s.lit ≡ x → TrueIn c t'
met_assigned t t' s c x e is steps same = met_true t' c x e is (rw (steps, ← same) (true_pushed t s))

pub fixed_at : (t : List Step) (top : ℕ) (c : List ℕ) (x level : ℕ) → IsTrail t top → eqb (length c) 0 ≡ false → x ≡ get_or c 0 x → level_on t (var_of x) ≡ Some level → level ≡ 0 → true_on t x ≡ true → TrueAtRoot c t
fixed_at t top c x level shape e is here zero' on =
    let p = place_of_true t x on in
    let at = level_at t (var_of x) p.0 (place_apart t (var_of x) p.0 shape.apart p.1 (ap var_of p.2)) in
    let both : Some level ≡ Some (step t p.0).level = sym here ∙ at in
    let q : level ≡ (step t p.0).level = cc in
    record { true_in = record { place = p.0; within = p.1; holds = rw p.2 (first_held c x e is) }; root = sym q ∙ zero' }

-- a longer trail
pub fixed_grown : (ids : List ℕ) (s : List (Option Stored)) (short : List ℕ) (n : ℕ) (a b : Trace) → Grown ids s a b → AllFixed s short n a.steps → AllFixed s short n b.steps
fixed_grown ids s short n a b g h = record { few = h.few; at_root = λ k lt. root_grown (slot_lits (slot s (get_or short k 0))) ids s a b g (h.at_root k lt) }

pub met_grown : (ids : List ℕ) (s : List (Option Stored)) (short : List ℕ) (n : ℕ) (a b : Trace) → Grown ids s a b → AllMet s short n a.steps → AllMet s short n b.steps
met_grown ids s short n a b g h k lt = true_grown (slot_lits (slot s (get_or short k 0))) ids s a b g (h k lt)

-- one clause more
pub met_more : (s : List (Option Stored)) (short : List ℕ) (k id : ℕ) (t : List Step) → k < length short → id ≡ get_or short k id → AllMet s short k t → TrueIn (slot_lits (slot s id)) t → AllMet s short (k + 1) t
met_more s short k id t in' is all here j lt =
    elim (cases_eq j k) [
      | inl e ↦ subst (λ z. TrueIn (slot_lits (slot s z)) t) (is ∙ get_or_default short k id 0 in' ∙ ap (λ z. get_or short z 0) (sym e)) here
      | inr n ↦ all j (omega arith)
    ]

pub fixed_more : (s : List (Option Stored)) (short : List ℕ) (k n id : ℕ) (t : List Step) → k < length short → id ≡ get_or short k id → k ≡ n → AllFixed s short n t → TrueAtRoot (slot_lits (slot s id)) t → AllFixed s short (n + 1) t
fixed_more s short k n id t in' is same all here = record {
  few = omega arith;
  at_root = λ j lt.
      elim (cases_eq j k) [
        | inl e ↦ subst (λ z. TrueAtRoot (slot_lits (slot s z)) t) (is ∙ get_or_default short k id 0 in' ∙ ap (λ z. get_or short z 0) (sym e)) here
        | inr m ↦ all.at_root j (omega arith)
      ];
}

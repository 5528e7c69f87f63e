-- From the seen trail to the trail, and what a call of the box keeps.
use Rattle.std.proofs.Common.{◌≡◌, ℕ, zero, suc, ◌<◌, Bool, true, false, cond, eqb, List, [], ◌∷◌, length, take, inl, inr, refl, sym, ap, ◌∙◌, subst, arith, Option, Some, None}
use Rattle.std.proofs.lemmas.Bool.{eqb-true, cases_lt}
use Rattle.sat_terms.specs.Literal.{neg, var_of}
use Rattle.clause_store.specs.Stored.{Stored}
use Rattle.trail_state.specs.declared.trail.Step.{Step}
use Rattle.trail_state.specs.Trail.{step, true_on, place_on, IsTrail}
use Rattle.trail_state.specs.Clauses.{IsReason}
use Rattle.trail_state.proofs.Levels.{rising}
use Rattle.trail_state.proofs.Places.{place_apart, place_of_true, level_at}
use Rattle.rooted_trails.proofs.Falses.{true_in_front}
use Rattle.rooted_trails.proofs.Reasons.{under_fewer}
use Rattle.user_propagator.specs.declared.seen.Seen.{Seen}
use Rattle.user_propagator.specs.Board.{entry, trail_value}
use Rattle.user_propagator.specs.Meaning.{Meaning, InStep, IsReasonGiven}
use Rattle.theory_bridge.specs.Shown.{Shown}
use Rattle.theory_bridge.proofs.Later.{stands_later}
use Rattle.theory_bridge.specs.Going.{Asked}
use Rattle.theory_bridge.specs.Following.{Mirrors}
use Rattle.lazy_reasons.specs.Facing.{IsReady}

-- the place of a literal that is false on a front of the seen trail
none_some : None ≡ Some false → ⊥
none_some e = cc

true_false : Some true ≡ Some false → ⊥
true_false e = cc

pub false_seen : (n : ℕ) (seen : List Seen) (x : ℕ) → trail_value (take n seen) x ≡ Some false → (j : ℕ) × (j < n) × (j < length seen) × ((entry seen j).lit ≡ neg x)
false_seen zero seen x h = absurd (none_some h)
false_seen (suc n) [] x h = absurd (none_some h)
false_seen (suc n) (e ∷ seen) x h = go (eqb e.lit x) (eqb e.lit (neg x)) refl (false_seen n seen x) h where
  go : (a b : Bool) → b ≡ eqb e.lit (neg x) → (trail_value (take n seen) x ≡ Some false → (j : ℕ) × (j < n) × (j < length seen) × ((entry seen j).lit ≡ neg x))
      → cond a (Some true) (cond b (Some false) (trail_value (take n seen) x)) ≡ Some false → (j : ℕ) × (j < suc n) × (j < length (e ∷ seen)) × ((entry (e ∷ seen) j).lit ≡ neg x)
  go true b is rec h = absurd (true_false h)
  go false true is rec h = (0, omega arith, omega arith, eqb-true e.lit (neg x) (sym is))
  go false false is rec h =
      let r = rec h in
      let a = r.1 in
      let b = r.2 in
      (suc r.0, omega arith, omega arith, r.3)

some_same : {A : Type 0} {a b : A} → Some a ≡ Some b → a ≡ b
some_same e = cc

module _ (seen : List Seen) (t : List Step) (top : ℕ) (m : Mirrors seen t) (shape : IsTrail t top) where
  -- where a literal of the seen trail stands on the trail
  pub on_trail : (k : ℕ) → k < length seen → (p : ℕ) × (p < length t) × ((step t p).lit ≡ (entry seen k).lit) × (place_on t (var_of (entry seen k).lit) ≡ Some p) × ((step t p).level ≡ (entry seen k).level)
  on_trail k in' =
      let r = place_of_true t (entry seen k).lit (m.lits k in') in
      let place = place_apart t (var_of (entry seen k).lit) r.0 shape.apart r.1 (ap var_of r.2) in
      (r.0, r.1, r.2, place, some_same (sym (level_at t (var_of (entry seen k).lit) r.0 place) ∙ m.levels k in'))

  -- what is false before a place of the seen trail is false before the literal's place on the trail
  pub false_before : (i k x : ℕ) → i < length t → 0 < (step t i).level → k < length seen → (entry seen k).lit ≡ (step t i).lit → trail_value (take k seen) x ≡ Some false → true_on (take i t) (neg x) ≡ true
  false_before i k x in' above inside is off =
      let j = false_seen k seen x off in
      let a = on_trail j.0 j.2 in
      let b = on_trail k inside in
      let same : b.0 ≡ i = some_same (sym b.3 ∙ place_apart t (var_of (entry seen k).lit) i shape.apart in' (ap var_of (sym is))) in
      let deep : 0 < (entry seen k).level = subst (λ n. 0 < n) (sym (ap (λ p. (step t p).level) same) ∙ b.4) above in
      true_in_front i t a.0 (neg x) (before j a b same deep) a.1 (a.2 ∙ j.3) where
        before : (j : (j : ℕ) × (j < k) × (j < length seen) × ((entry seen j).lit ≡ neg x))
            → (a : (p : ℕ) × (p < length t) × ((step t p).lit ≡ (entry seen j.0).lit) × (place_on t (var_of (entry seen j.0).lit) ≡ Some p) × ((step t p).level ≡ (entry seen j.0).level))
            → (b : (p : ℕ) × (p < length t) × ((step t p).lit ≡ (entry seen k).lit) × (place_on t (var_of (entry seen k).lit) ≡ Some p) × ((step t p).level ≡ (entry seen k).level))
            → b.0 ≡ i → 0 < (entry seen k).level → a.0 < i
        before j a b same deep =
            elim (cases_lt 0 (entry seen j.0).level) [
              | inl high ↦ subst (λ q. a.0 < q) same (m.order j.0 k j.1 inside high deep a.0 b.0 a.3 b.3)
              | inr low ↦
                  elim (cases_lt a.0 i) [
                    | inl lt ↦ lt
                    | inr ge ↦ absurd (let up = rising 0 t top shape.levels i a.0 ge a.1 in let e = a.4 in omega arith)
                  ]
            ]

-- a reason that the box gave is one on the trail
pub given_reason : (means : Meaning) (seen : List Seen) (t : List Step) (top i k : ℕ) (c : List ℕ) → Mirrors seen t → IsTrail t top → i < length t → 0 < (step t i).level
    → k < length seen → (entry seen k).lit ≡ (step t i).lit → IsReasonGiven means seen k (step t i).lit c → IsReason c t i
given_reason means seen t top i k c m shape in' above inside is g = record {
  holds = g.holds;
  others = λ l h n. false_before seen t top m shape i k l in' above inside is (g.others l h n);
}

-- calls of the box keep all that the analysis asks for
pub ready_later : (s : List (Option Stored)) (t : List Step) (most : ℕ) (old new : Shown) → IsReady s t old → Asked most old new → InStep new.means new.board → IsReady s t new
ready_later s t most old new r a step' = record {
  in_step = step';
  rooted = under_fewer s old.means.admits new.means.admits t a.later.fewer r.rooted;
  mirrors = subst (λ seen. Mirrors seen t) (sym a.later.seen) r.mirrors;
  explained = λ i in' above is. let p = r.explained i in' above is in (p.0, stands_later old.means new.means old.board new.board p.0 (step t i).lit a.later p.1);
}

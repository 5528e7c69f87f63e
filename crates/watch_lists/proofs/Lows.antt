-- Where the head may stand once a clause watches two literals.
use Rattle.std.proofs.Common.{◌≡◌, ℕ, ◌≤◌, true, List, sym, ap, ◌∙◌, arith, Some, None}
use Rattle.sat_terms.specs.Literal.{neg, var_of}
use Rattle.sat_terms.proofs.Literals.{var_of-neg}
use Rattle.trail_state.specs.declared.trail.Step.{Step}
use Rattle.trail_state.specs.Trail.{step, true_on, place_on, level_on, IsTrail}
use Rattle.trail_state.proofs.Places.{place_nowhere, place_some, place_apart, level_at, place_of_true, true_at_place}
use Rattle.watch_lists.specs.Placing.{IsLow, IsNoHigher}
use Rattle.trail_state.proofs.Values.{not_both}

pub low_nowhere : (t : List Step) (l other head : ℕ) → place_on t (var_of l) ≡ None → IsLow t l other head
low_nowhere t l other head none i below in' is = absurd (place_nowhere t (var_of l) none i in' (ap var_of is ∙ var_of-neg l))

pub low_true : (t : List Step) (top l other head : ℕ) → IsTrail t top → true_on t l ≡ true → IsLow t l other head
low_true t top l other head shape on i below in' is = absurd (not_both t l shape.apart on (true_at_place t i (neg l) in' is))

pub low_before : (t : List Step) (top l other head p : ℕ) → IsTrail t top → place_on t (var_of l) ≡ Some p → head ≤ p → IsLow t l other head
low_before t top l other head p shape here le i below in' is =
    let at = place_some t (var_of l) p here in
    let same = shape.apart i p in' at.0 (ap var_of is ∙ var_of-neg l ∙ sym at.1) in
    absurd (omega arith)

pub low_level : (t : List Step) (top l other head p : ℕ) → IsTrail t top → place_on t (var_of l) ≡ Some p → true_on t other ≡ true → IsNoHigher (level_on t (var_of other)) (level_on t (var_of l)) → IsLow t l other head
low_level t top l other head p shape here on high i below in' is =
    let at = place_some t (var_of l) p here in
    let same = shape.apart i p in' at.0 (ap var_of is ∙ var_of-neg l ∙ sym at.1) in
    let o = place_of_true t other on in
    let right : Some high.right ≡ Some (step t p).level = sym high.right-is ∙ level_at t (var_of l) p here in
    let right' : high.right ≡ (step t p).level = cc in
    let left : Some high.left ≡ Some (step t o.0).level = sym high.left-is ∙ level_at t (var_of other) o.0 (place_apart t (var_of other) o.0 shape.apart o.1 (ap var_of o.2)) in
    let left' : high.left ≡ (step t o.0).level = cc in
    let low = high.low in
    record { place = o.0; within = o.1; here = o.2; low = rw same (omega arith) }

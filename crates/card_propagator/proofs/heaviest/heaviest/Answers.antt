use Rattle.std.proofs.Common.{rules, ◌≡◌, ◌≤◌, ◌<◌, ◌+◌, ◌∙◌, ℕ, take, length, get_or, refl, arith, sym, ap, Ordering}
use Rattle.std.proofs.lemmas.List.Sorted.{IsNonDecreasingBy-from_sort}
use Rattle.clause_store.specs.Listing.{times}
use Rattle.card_propagator.proofs.Running.{ok_then, times_sorted}
use Rattle.card_propagator.proofs.heaviest.heaviest.Goals as goal

pub longest_run-requires : goal.longest_run-requires
longest_run-requires c = λ i j le lt.
    let sorted = ok_then c.sort.result _ c.sort.ensures.sorted (search rules) in
    rw c.deref.ensures.value (IsNonDecreasingBy-from_sort (λ (x : ℕ). x) _ sorted i j 0 le (rw c.deref.ensures.value at lt))

pub returns : goal.returns
returns c = λ l.
    let a = c.longest_run.ensures l in
    let b : times c.sort.new.self.items l ≡ times c.args.lits.now l = times_sorted _ _ l c.sort.ensures.permutation ∙ ap (λ x. times x l) c.in_ok-codes.ensures in
    let e : times c.deref.result.now l ≡ times c.sort.new.self.items l = ap (λ x. times x l) c.deref.ensures.value in
    omega (arith, a, b, e)

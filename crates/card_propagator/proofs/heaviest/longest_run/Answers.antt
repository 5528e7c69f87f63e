use Rattle.std.proofs.Common.{◌≡◌, ◌≤◌, ◌<◌, ◌+◌, ℕ, take, length, get_or, refl, arith, below_more, subst}
use Rattle.clause_store.specs.Listing.{times}
use Rattle.card_propagator.proofs.Running.{run_next, most_next, most_all}
use Rattle.card_propagator.proofs.heaviest.longest_run.Goals as goal

pub loop-code-preserved : goal.loop-code-preserved
loop-code-preserved c =
    let s = c.args.sorted.now in
    let i = c.loop-code.code-index in
    let lt : i < length s = c.loop-code-test.true in
    let le : c.loop-code.last ≤ get_or s i 0 = c.loop-code.invariant.high i (omega arith) lt in
    let run = run_next s i (get_or s i 0) _ _ _ lt refl c.loop-code.invariant.run c.loop-code.invariant.low le c.next_run-run.ensures in
    record {
      run = run;
      most = most_next s i (get_or s i 0) _ _ _ lt refl run c.loop-code.invariant.most c.larger-most.ensures.first c.larger-most.ensures.second;
      low = below_more _ _ (λ (j : ℕ) (l : j < i). omega (arith, c.loop-code.invariant.low j l, le)) (omega arith);
      high = λ j l in'. c.requires i j (omega arith) in';
    }

pub returns : goal.returns
returns c = most_all _ _ _ c.loop-code-test.false c.loop-code.invariant.most

use Rattle.std.proofs.Common.{◌≡◌, ◌∙◌, ◌+◌, ◌<◌, ap, sym, subst, arith, ℕ, Bool, length}
use Rattle.plain_search.specs.declared.scan.Finding.{Finding}
use Rattle.plain_search.specs.Rules.{rules}
use Rattle.plain_search.specs.Search.{FindsIn}
use Rattle.plain_search.proofs.RuleLemmas.{length-rules}
use Rattle.plain_search.proofs.Looking.{IsAt, Round, next_at, round_stays, round_open}
use Rattle.plain_search.proofs.scan.scan.Goals as goal
use Rattle.plain_search.proofs.scan.scan.Goals.{in-Met, in-Undecided}

pub loop-k-preserved : goal.loop-k-preserved
loop-k-preserved g c =
    let i = c.loop-k.invariant in
    let steps = c.args.now.now.steps in
    let all = rules c.args.assumed.now (g.L.ClauseList.clauses c.args.clauses.now) in
    let size : length all ≡ length c.args.assumed.now + c.len.result =
    length-rules c.args.assumed.now (g.L.ClauseList.clauses c.args.clauses.now) ∙ ap (λ n. length c.args.assumed.now + n) (sym c.len.ensures.count) in
    let some : 0 < length c.args.assumed.now + c.len.result = omega (arith, c.loop-k-test.true) in
    let below = i.below some in
    let within : c.loop-k.at < length all = omega (arith, size, below) in
    let A : ℕ → Type 0 = λ n. IsAt c.if-place-count.at n c.loop-k._k c.loop-k.at in
    let place : IsAt c.if-place-count.at (length all) c.loop-k._k c.loop-k.at = subst A (sym size) i.place in
    let F : Finding → Type 0 = λ f. FindsIn steps c.rule.result.now f in
    let R : Bool → Type 0 = λ b. Round steps all c.if-place-count.at (c.loop-k._k + 1) b in
    record {
      start = i.start;
      below = λ _. c.next_place-at.ensures.below;
      place = next_at _ _ _ _ _ (i.start some) c.loop-k-test.true below i.place c.next_place-at.ensures.next c.next_place-at.ensures.first;
      round = elim c.match-finding.branch [
        | in-Met w ↦ subst R (sym w.met-is) (round_stays steps all _ _ _ c.rule.result.now _ within place c.rule.ensures (subst F w.in-Met.is c.look-finding.ensures) i.round)
        | in-Undecided w ↦ subst R (sym w.met-is) (round_open steps all _ c.rule.result.now within c.rule.ensures (subst F w.in-Undecided.is c.look-finding.ensures))
      ];
    }

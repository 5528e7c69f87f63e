use Rattle.std.proofs.Common.{◌≤◌, ◌+◌, arith, length}
use Rattle.sat_terms.specs.Limits.{max_literals}
use Rattle.solver_api.proofs.StandingLemmas.{stands_add, stands_input}
use Rattle.solver_api.proofs.solver.Solver.add.Goals as goal

pub invariant_of-self : goal.invariant_of-self
invariant_of-self c =
    let s = c.args.self.now in
    record { stands = rw (c.in_err-give.ensures.kept, c.in_err-give.ensures.err, c.hide.ensures.engine, c.hide.ensures.mode) (stands_input s.engine s.given s.pending s.queried s.taken s.greatest s.settled s.mode s.stands) }

pub invariant_of-self-2 : goal.invariant_of-self-2
invariant_of-self-2 c =
    let s = c.args.self.now in
    let room : s.taken + length c.args.lits.now ≤ max_literals = omega (arith, c.if-count-self.false, s.stands.room) in
    let more : s.greatest ≤ c.greatest_of-self.result = omega (arith, c.greatest_of-self.ensures.value) in
    record {
      stands = rw (c.in_ok-give.ensures.given, c.settles-self.ensures, c.hide.ensures.mode)
          (stands_add s.engine s.given s.pending s.queried s.taken s.greatest s.settled s.mode s.stands c.give.new.engine c.args.lits.now _ _
          (rw c.hide.ensures.engine at c.in_ok-give.ensures.takes) (rw c.hide.ensures.engine at c.give.ensures.declared) room more c.greatest_of-self.ensures.few c.greatest_of-self.ensures.within);
    }

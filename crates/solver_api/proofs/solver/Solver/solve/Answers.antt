use Rattle.std.proofs.Common.{◌≡◌, ◌∙◌, refl, arith, []}
use Rattle.std.specs.Prelude.{◌||◌, true}
use Rattle.solver_api.specs.Given.{GivenTrue}
use Rattle.solver_api.proofs.Lists.{empty_core}
use Rattle.solver_api.proofs.StandingLemmas.{stands_for_learned, model_of_given, core_of_given, stands_searched, stands_model, stands_core}
use Rattle.solver_api.proofs.solver.Solver.solve.Goals as goal

pub invariant_of-self : goal.invariant_of-self
invariant_of-self c =
    let s = c.args.self.now in
    let settled : s.settled ≡ (s.settled || true) = rw c.if-self.true refl in
    record {
      stands = rw (c.replace-pending.ensures.after ∙ c.new.ensures, c.replace-pending.ensures.value, c.empty.ensures, c.hide.ensures.engine, settled)
          (stands_core s.engine s.given s.pending s.queried s.taken s.greatest s.settled s.mode s.stands s.engine [] s.stands.stored (s.stands.hopeless c.if-self.true));
    }

pub returns-then-self-clause-step : goal.returns-then-self-clause-step
returns-then-self-clause-step c =
    let s = c.args.self.now in
    let settled : s.settled ≡ (s.settled || true) = rw c.if-self.true refl in
    ([], empty_core (GivenTrue s.given) s.pending [] refl (s.stands.hopeless c.if-self.true), λ _. refl, cc)

pub invariant_of-self-in-Break-1 : goal.invariant_of-self-in-Break-1
invariant_of-self-in-Break-1 c =
    let s = c.args.self.now in
    let stored = stands_for_learned c.hide.new.engine c.search.new.engine s.given s.greatest c.search.ensures.learns c.search.ensures.within c.search.ensures.declared (rw c.hide.ensures.engine s.stands.stored) in
    record {
      stands = rw (c.replace-pending.ensures.after ∙ c.new.ensures, c.hide.ensures.mode)
          (stands_searched s.engine s.given s.pending s.queried s.taken s.greatest s.settled s.mode s.stands c.search.new.engine s.queried stored);
    }

pub invariant_of-self-in-Model : goal.invariant_of-self-in-Model
invariant_of-self-in-Model c =
    let s = c.args.self.now in
    let stored = stands_for_learned c.hide.new.engine c.search.new.engine s.given s.greatest c.search.ensures.learns c.search.ensures.within c.search.ensures.declared (rw c.hide.ensures.engine s.stands.stored) in
    let found = rw (c.in-Model.is, c.as_slice.ensures, c.replace-pending.ensures.value) at c.in_ok-answer.ensures.finds in
    record {
      stands = rw (c.replace-pending.ensures.after ∙ c.new.ensures, c.replace-pending.ensures.value)
          (stands_model s.engine s.given s.pending s.queried s.taken s.greatest s.settled s.mode s.stands c.search.new.engine c.in-Model.values stored
          (model_of_given c.hide.new.engine s.given s.greatest s.pending c.in-Model.values (rw c.hide.ensures.engine s.stands.stored) found));
    }

pub invariant_of-self-in-Core : goal.invariant_of-self-in-Core
invariant_of-self-in-Core c =
    let s = c.args.self.now in
    let core = c.in-Core.core in
    let stored = stands_for_learned c.hide.new.engine c.search.new.engine s.given s.greatest c.search.ensures.learns c.search.ensures.within c.search.ensures.declared (rw c.hide.ensures.engine s.stands.stored) in
    let found = rw (c.in-Core.is, c.as_slice.ensures, c.replace-pending.ensures.value) at c.in_ok-answer.ensures.finds in
    let settled = rw c.as_slice-in-Core.ensures at c.settles-self.ensures in
    record {
      stands = rw (c.replace-pending.ensures.after ∙ c.new.ensures, c.replace-pending.ensures.value, settled)
          (stands_core s.engine s.given s.pending s.queried s.taken s.greatest s.settled s.mode s.stands c.search.new.engine core stored
          (core_of_given c.hide.new.engine s.given s.greatest s.pending core (rw c.hide.ensures.engine s.stands.stored) found).none);
    }

pub invariant_of-self-in-Spent : goal.invariant_of-self-in-Spent
invariant_of-self-in-Spent c =
    let s = c.args.self.now in
    let stored = stands_for_learned c.hide.new.engine c.search.new.engine s.given s.greatest c.search.ensures.learns c.search.ensures.within c.search.ensures.declared (rw c.hide.ensures.engine s.stands.stored) in
    record {
      stands = rw (c.replace-pending.ensures.after ∙ c.new.ensures, c.hide.ensures.mode)
          (stands_searched s.engine s.given s.pending s.queried s.taken s.greatest s.settled s.mode s.stands c.search.new.engine c.replace-pending.result stored);
    }

pub returns-then-self-clause-counts : goal.returns-then-self-clause-counts
returns-then-self-clause-counts c =
    let few = rw c.hide.ensures.engine at c.law_total.ensures in
    record {
      total = rw (c.of_conflicts-self.ensures, c.hide.ensures.engine) (omega arith);
      others = rw c.of_conflicts-self.ensures refl;
      settled = λ h. c.of_conflicts-self.ensures;
    }

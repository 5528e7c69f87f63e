use Rattle.std.proofs.Common.{◌≡◌, ◌≤◌, eqb, not, ◌&&◌, true, false, length, sym, ◌∙◌, arith}
use Rattle.clause_store.specs.Stored.{slot, is_firm}
use Rattle.pass_terms.proofs.Ruling.{ruled_trans}
use Rattle.pass_terms.specs.Ruled.{always}
use Rattle.subsume_pass.specs.Trying.{Leaves, Alters}
use Rattle.subsume_pass.proofs.Trying.{testing_none, testing_skip, testing_met, flagged_none, flagged_same, flagged_less, other_of, keeps_both, still_firm, tested_empty, tested_idly, tested_well, came_full}
use Rattle.subsume_pass.proofs.turn.meet_all.Goals as goal
use Rattle.subsume_pass.proofs.turn.meet_all.Goals.{then-names_other+else-steps-limit+in_ok-meet_due+in-Nothing, then-names_other+else-steps-limit+in_ok-meet_due+in-Something, else-names_other}

pub loop-id-init : goal.loop-id-init
loop-id-init c = record {
  testing = testing_none c.args.kernel.now c.args.by c.args.ids.now c.args.steps.now c.args.limit c.requires.fresh c.requires.ids c.requires.rest;
  flagged = flagged_none c.args.kernel.now;
}

pub returns-then-steps-limit-clause-turned : goal.returns-then-steps-limit-clause-turned
returns-then-steps-limit-clause-turned c = came_full c.args.kernel.now c.loop-id.kernel c.args.by c.args.ids.now c.loop-id.id-index c.args.steps.now c.loop-id.steps c.args.limit c.loop-id-test.true c.if-steps-limit.true c.loop-id.invariant.testing

pub meet_due-requires-clause-by : goal.meet_due-requires-clause-by
meet_due-requires-clause-by c = still_firm c.args.kernel.now c.loop-id.kernel c.args.by c.args.ids.now c.loop-id.id-index c.args.steps.now c.loop-id.steps c.args.limit c.requires.by c.loop-id.invariant.testing

pub meet_due-requires-clause-id : goal.meet_due-requires-clause-id
meet_due-requires-clause-id c =
    let o : (not (eqb c.args.by c.id-item.result) && is_firm (slot c.loop-id.kernel.store c.id-item.result)) ≡ true = rw c.store.ensures at (sym c.names_other.ensures ∙ c.if-names_other.true) in
    (other_of c.args.by c.id-item.result (slot c.loop-id.kernel.store c.id-item.result) o).1

pub meet_due-requires-clause-other : goal.meet_due-requires-clause-other
meet_due-requires-clause-other c =
    let o : (not (eqb c.args.by c.id-item.result) && is_firm (slot c.loop-id.kernel.store c.id-item.result)) ≡ true = rw c.store.ensures at (sym c.names_other.ensures ∙ c.if-names_other.true) in
    (other_of c.args.by c.id-item.result (slot c.loop-id.kernel.store c.id-item.result) o).0

pub returns-in_err-meet_due-clause-ruled : goal.returns-in_err-meet_due-clause-ruled
returns-in_err-meet_due-clause-ruled c = ruled_trans always c.args.kernel.now c.loop-id.kernel c.meet_due.new.kernel c.loop-id.invariant.testing.ruled c.meet_due.ensures.ruled

pub returns-in_err-meet_due-clause-keeps : goal.returns-in_err-meet_due-clause-keeps
returns-in_err-meet_due-clause-keeps c = keeps_both c.args.kernel.now c.loop-id.kernel c.meet_due.new.kernel c.args.by c.loop-id.invariant.testing.keeps c.meet_due.ensures.keeps

pub returns-in-Empty-clause-keeps : goal.returns-in-Empty-clause-keeps
returns-in-Empty-clause-keeps c = keeps_both c.args.kernel.now c.loop-id.kernel c.meet_due.new.kernel c.args.by c.loop-id.invariant.testing.keeps c.meet_due.ensures.keeps

pub returns-in-Empty-clause-ruled : goal.returns-in-Empty-clause-ruled
returns-in-Empty-clause-ruled c = ruled_trans always c.args.kernel.now c.loop-id.kernel c.meet_due.new.kernel c.loop-id.invariant.testing.ruled c.meet_due.ensures.ruled

pub returns-in-Empty-clause-turned : goal.returns-in-Empty-clause-turned
returns-in-Empty-clause-turned c =
    tested_empty c.args.kernel.now c.loop-id.kernel c.meet_due.new.kernel c.args.by c.args.ids.now c.loop-id.id-index c.args.steps.now c.loop-id.steps c.meet_due.new.steps c.args.limit c.loop-id-test.true c.meet_due.ensures.counted
    (rw c.in-Empty.is at c.in_ok-meet_due.ensures.effects) c.loop-id.invariant.testing

pub loop-id-preserved : goal.loop-id-preserved
loop-id-preserved c =
    elim c.if-names_other.branch [
      | then-names_other+else-steps-limit+in_ok-meet_due+in-Nothing w ↦
          (let m : Leaves c.loop-id.kernel w.meet_due.new.kernel c.args.by c.id-item.result = rw w.in-Nothing.is at w.in_ok-meet_due.ensures.effects in
          rw (w.kernel-is, w.steps-is, w.changed-is) (record {
            testing =
                testing_met c.args.kernel.now c.loop-id.kernel w.meet_due.new.kernel c.args.by c.args.ids.now c.loop-id.id-index c.id-item.result c.args.steps.now c.loop-id.steps w.meet_due.new.steps c.args.limit
                c.loop-id-test.true c.id-item.is c.loop-id.invariant.testing w.meet_due.ensures.ruled m.met w.meet_due.ensures.counted w.if-steps-limit.false;
            flagged = flagged_same c.args.kernel.now c.loop-id.kernel w.meet_due.new.kernel c.loop-id.changed c.loop-id.invariant.flagged m.same;
          }))
      | then-names_other+else-steps-limit+in_ok-meet_due+in-Something w ↦
          (let m : Alters c.loop-id.kernel w.meet_due.new.kernel c.args.by c.id-item.result = rw w.in-Something.is at w.in_ok-meet_due.ensures.effects in
          rw (w.kernel-is, w.steps-is, w.changed-is) (record {
            testing =
                testing_met c.args.kernel.now c.loop-id.kernel w.meet_due.new.kernel c.args.by c.args.ids.now c.loop-id.id-index c.id-item.result c.args.steps.now c.loop-id.steps w.meet_due.new.steps c.args.limit
                c.loop-id-test.true c.id-item.is c.loop-id.invariant.testing w.meet_due.ensures.ruled m.met w.meet_due.ensures.counted w.if-steps-limit.false;
            flagged = flagged_less c.args.kernel.now c.loop-id.kernel w.meet_due.new.kernel c.loop-id.invariant.testing.keeps.falls m.less;
          }))
      | else-names_other w ↦
          (let o : (not (eqb c.args.by c.id-item.result) && is_firm (slot c.loop-id.kernel.store c.id-item.result)) ≡ false = rw c.store.ensures at (sym c.names_other.ensures ∙ w.if-names_other.false) in
          rw (w.kernel-is, w.steps-is, w.changed-is) (record {
            testing =
                testing_skip c.args.kernel.now c.loop-id.kernel c.args.by c.args.ids.now c.loop-id.id-index c.id-item.result c.args.steps.now c.loop-id.steps c.args.limit
                c.loop-id-test.true c.id-item.is o c.loop-id.invariant.testing;
            flagged = c.loop-id.invariant.flagged;
          }))
    ]

pub returns-clause-turned : goal.returns-clause-turned
returns-clause-turned c =
    let past : length c.args.ids.now ≤ c.loop-id.id-index = omega arith in
    let upto : c.loop-id.id-index ≤ length c.args.ids.now = omega arith in
    tested_idly c.args.kernel.now c.loop-id.kernel c.args.by c.args.ids.now c.loop-id.id-index c.args.steps.now c.loop-id.steps c.args.limit c.loop-id.changed c.if-changed.false past upto c.loop-id.invariant.testing c.loop-id.invariant.flagged

pub returns-then-changed-clause-turned : goal.returns-then-changed-clause-turned
returns-then-changed-clause-turned c =
    let past : length c.args.ids.now ≤ c.loop-id.id-index = omega arith in
    let upto : c.loop-id.id-index ≤ length c.args.ids.now = omega arith in
    tested_well c.args.kernel.now c.loop-id.kernel c.args.by c.args.ids.now c.loop-id.id-index c.args.steps.now c.loop-id.steps c.args.limit c.loop-id.changed c.if-changed.true past upto c.loop-id.invariant.testing c.loop-id.invariant.flagged

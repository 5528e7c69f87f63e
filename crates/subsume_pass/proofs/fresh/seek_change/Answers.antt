use Rattle.std.proofs.Common.{◌≡◌, ◌≤◌, eqb, not, ◌&&◌, false, length, sym, ◌∙◌, arith}
use Rattle.clause_store.specs.Stored.{slot, slot_lits, is_firm}
use Rattle.firm_terms.specs.Subsuming.{IsFree}
use Rattle.pass_terms.specs.Ruled.{always}
use Rattle.pass_terms.proofs.Ruling.{ruled_trans}
use Rattle.subsume_pass.proofs.Seeking.{seeking_none, seeking_skip, seeking_kept, seek_free}
use Rattle.subsume_pass.proofs.fresh.seek_change.Goals as goal
use Rattle.subsume_pass.proofs.fresh.seek_change.Goals.{then-names_other+else-steps-limit+in_ok-meet+in-Kept, else-names_other}

pub loop-by-init : goal.loop-by-init
loop-by-init c = seeking_none c.args.kernel.now c.args.id c.args.ids.now c.args.steps.now c.args.limit c.requires.rest

pub returns-in-Gone-clause-ruled : goal.returns-in-Gone-clause-ruled
returns-in-Gone-clause-ruled c = ruled_trans always c.args.kernel.now c.loop-by.kernel c.meet.new.kernel c.loop-by.invariant.ruled c.meet.ensures.ruled

pub returns-in-Came-clause-ruled : goal.returns-in-Came-clause-ruled
returns-in-Came-clause-ruled c = ruled_trans always c.args.kernel.now c.loop-by.kernel c.meet.new.kernel c.loop-by.invariant.ruled c.meet.ensures.ruled

pub loop-by-preserved : goal.loop-by-preserved
loop-by-preserved c =
    elim c.if-names_other.branch [
      | then-names_other+else-steps-limit+in_ok-meet+in-Kept w ↦
          (let k : (w.meet.new.kernel ≡ c.loop-by.kernel) × IsFree (slot_lits (slot c.loop-by.kernel.store c.by-item.result)) (slot_lits (slot c.loop-by.kernel.store c.args.id)) = rw w.in-Kept.is at w.in_ok-meet.ensures.changes in
          rw (w.kernel-is, w.steps-is)
          (seeking_kept c.args.kernel.now c.loop-by.kernel w.meet.new.kernel c.args.id c.args.ids.now c.loop-by.by-index c.by-item.result c.args.steps.now c.loop-by.steps w.meet.new.steps c.args.limit
          c.loop-by-test.true c.by-item.is c.loop-by.invariant w.meet.ensures.ruled k w.meet.ensures.counted w.if-steps-limit.false))
      | else-names_other w ↦
          (let o : (not (eqb c.args.id c.by-item.result) && is_firm (slot c.loop-by.kernel.store c.by-item.result)) ≡ false = rw c.store.ensures at (sym c.names_other.ensures ∙ w.if-names_other.false) in
          rw (w.kernel-is, w.steps-is)
          (seeking_skip c.args.kernel.now c.loop-by.kernel c.args.id c.args.ids.now c.loop-by.by-index c.by-item.result c.args.steps.now c.loop-by.steps c.args.limit c.loop-by-test.true c.by-item.is o c.loop-by.invariant))
    ]

pub returns-clause-fated : goal.returns-clause-fated
returns-clause-fated c =
    let past : length c.args.ids.now ≤ c.loop-by.by-index = omega arith in
    let upto : c.loop-by.by-index ≤ length c.args.ids.now = omega arith in
    seek_free c.args.kernel.now c.loop-by.kernel c.args.id c.args.ids.now c.loop-by.by-index c.args.steps.now c.loop-by.steps c.args.limit past upto c.loop-by.invariant

use Rattle.var_elim.proofs.Merging.{walk_left, walk_right, walk_both, walk_skip, walk_clash}
use Rattle.var_elim.proofs.resolve.merge.Goals as goal

pub loop-at-preserved-in-Left : goal.loop-at-preserved-in-Left
loop-at-preserved-in-Left c =
    walk_left c.args.lit c.loop-at.at c.loop-at.to c.args.left.now c.args.right.now c.loop-at.form.items c.requires.left c.requires.right c.requires.holds c.requires.negation c.loop-at.invariant c.push.new.self.items c.index-left-at.result
    c.in_ok-push-in-Left.ensures.items c.index-left-at.is (rw c.in-Left.is at c.compare.ensures)

pub loop-at-preserved-in-Right : goal.loop-at-preserved-in-Right
loop-at-preserved-in-Right c =
    walk_right c.args.lit c.loop-at.at c.loop-at.to c.args.left.now c.args.right.now c.loop-at.form.items c.requires.left c.requires.right c.requires.holds c.requires.negation c.loop-at.invariant c.push-in-Right.new.self.items c.index-right-to.result
    c.in_ok-push-in-Right.ensures.items c.index-right-to.is (rw c.in-Right.is at c.compare.ensures)

pub loop-at-preserved-in-Both : goal.loop-at-preserved-in-Both
loop-at-preserved-in-Both c =
    walk_both c.args.lit c.loop-at.at c.loop-at.to c.args.left.now c.args.right.now c.loop-at.form.items c.requires.left c.requires.right c.requires.holds c.requires.negation c.loop-at.invariant c.push-in-Both.new.self.items c.index-left-at-in-Both.result
    c.in_ok-push-in-Both.ensures.items c.index-left-at-in-Both.is (rw c.in-Both.is at c.compare.ensures)

pub loop-at-preserved : goal.loop-at-preserved
loop-at-preserved c =
    walk_skip c.args.lit c.loop-at.at c.loop-at.to c.args.left.now c.args.right.now c.loop-at.form.items c.requires.left c.requires.right c.requires.holds c.requires.negation c.loop-at.invariant (rw c.in-Skip.is at c.compare.ensures)

pub returns-in-Clash : goal.returns-in-Clash
returns-in-Clash c =
    walk_clash c.args.lit c.loop-at.at c.loop-at.to c.args.left.now c.args.right.now c.loop-at.form.items c.requires.left c.requires.right c.requires.holds c.requires.negation c.loop-at.invariant (rw c.in-Clash.is at c.compare.ensures)

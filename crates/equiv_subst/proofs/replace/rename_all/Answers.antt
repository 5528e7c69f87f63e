use Rattle.std.proofs.Common.{◌≡◌, arith}
use Rattle.equiv_subst.proofs.Replacing.{renaming_none, renaming_more, ruled_then, stopped}
use Rattle.equiv_subst.proofs.replace.rename_all.Goals as goal

pub loop-id-init : goal.loop-id-init
loop-id-init c = renaming_none c.args.kernel.now c.args.p c.args.q c.args.tie.now.forth c.args.tie.now.back c.args.steps.now c.args.limit c.requires.tied c.requires.rest

pub returns-then-steps-limit-clause-done : goal.returns-then-steps-limit-clause-done
returns-then-steps-limit-clause-done c =
    let i = rw c.store.ensures at c.in-Some.ensures.some in
    let rest = c.loop-id.invariant.rest in
    let full : c.loop-id.steps ≡ c.args.limit = omega arith in
    stopped c.args.kernel.now.store c.loop-id.kernel.store c.in-Some.id c.args.p c.args.q c.args.tie.now.forth c.args.tie.now.back c.args.steps.now c.loop-id.steps c.args.limit c.requires.apart c.loop-id.invariant.renamed i.0 i.1 full

pub returns-in_err-rename-clause-ruled : goal.returns-in_err-rename-clause-ruled
returns-in_err-rename-clause-ruled c = ruled_then _ c.args.kernel.now c.loop-id.kernel c.rename.new.kernel c.loop-id.invariant.ruled c.rename.ensures.ruled

pub loop-id-preserved : goal.loop-id-preserved
loop-id-preserved c =
    let i = rw c.store.ensures at c.in-Some.ensures.some in
    renaming_more c.args.kernel.now c.loop-id.kernel c.rename.new.kernel c.in-Some.id c.args.p c.args.q c.args.tie.now.forth c.args.tie.now.back c.args.steps.now c.loop-id.steps c.args.limit c.requires.apart c.loop-id.invariant i.0 i.1
    c.rename.ensures.ruled c.in_ok-rename.ensures.ok (omega arith)

use Rattle.std.proofs.Common.{sym, inl, inr, arith}
use Rattle.blocked_clauses.proofs.Clashing.{clear_start, read_less, read_greater, read_same, read_found, clear_end, differs, same_or}
use Rattle.blocked_clauses.proofs.clash.clash.Goals.{else-ne-via-then-ne+else-ne-2, else-ne-via-else-ne}
use Rattle.blocked_clauses.proofs.clash.clash.Goals as goal

pub loop-i-init : goal.loop-i-init
loop-i-init c = clear_start c.args.lit c.args.first.now c.args.second.now

pub loop-i-preserved-in-Less : goal.loop-i-preserved-in-Less
loop-i-preserved-in-Less c =
    read_less c.args.lit c.args.first.now c.args.second.now c.loop-i.i c.loop-i.j c.index-first-i.result c.index-second-j.result c.var.result c.var-in-loop-i.result
    c.requires.first c.requires.second c.loop-i.invariant (omega arith) (omega arith) c.index-first-i.is c.index-second-j.is c.var.ensures.value c.var-in-loop-i.ensures.value c.in-Less.ensures

pub loop-i-preserved-in-Greater : goal.loop-i-preserved-in-Greater
loop-i-preserved-in-Greater c =
    read_greater c.args.lit c.args.first.now c.args.second.now c.loop-i.i c.loop-i.j c.index-first-i.result c.index-second-j.result c.var.result c.var-in-loop-i.result
    c.requires.first c.requires.second c.loop-i.invariant (omega arith) (omega arith) c.index-first-i.is c.index-second-j.is c.var.ensures.value c.var-in-loop-i.ensures.value c.in-Greater.ensures

pub returns-then-ne-2 : goal.returns-then-ne-2
returns-then-ne-2 c =
    sym (read_found c.args.lit c.args.first.now c.args.second.now c.loop-i.i c.loop-i.j c.index-first-i.result c.index-second-j.result c.var.result c.var-in-loop-i.result
    c.requires.first c.requires.second c.loop-i.invariant (omega arith) (omega arith) c.index-first-i.is c.index-second-j.is c.var.ensures.value c.var-in-loop-i.ensures.value c.in-Equal.ensures
    (differs c.index-first-i.result c.index-second-j.result c.if-ne.ensures) (differs c.index-first-i.result c.args.lit c.if-ne-2.ensures))

pub loop-i-preserved : goal.loop-i-preserved
loop-i-preserved c =
    read_same c.args.lit c.args.first.now c.args.second.now c.loop-i.i c.loop-i.j c.index-first-i.result c.index-second-j.result c.var.result c.var-in-loop-i.result
    c.requires.first c.requires.second c.loop-i.invariant (omega arith) (omega arith) c.index-first-i.is c.index-second-j.is c.var.ensures.value c.var-in-loop-i.ensures.value c.in-Equal.ensures
    (elim c.else-ne.branch [
      | else-ne-via-then-ne+else-ne-2 w ↦ inr (same_or c.index-first-i.result c.args.lit w.if-ne-2.ensures)
      | else-ne-via-else-ne w ↦ inl (same_or c.index-first-i.result c.index-second-j.result w.if-ne.ensures)
    ])

pub returns-else-j-second : goal.returns-else-j-second
returns-else-j-second c =
    sym (clear_end c.args.lit c.args.first.now c.args.second.now c.loop-i.i c.loop-i.j c.requires.first c.requires.second c.loop-i.invariant (inr (omega arith)))

pub returns-after-loop-i : goal.returns-after-loop-i
returns-after-loop-i c =
    sym (clear_end c.args.lit c.args.first.now c.args.second.now c.loop-i.i c.loop-i.j c.requires.first c.requires.second c.loop-i.invariant (inl (omega arith)))

use Rattle.std.proofs.Common.{◌≡◌, ◌<◌, length, subst, arith}
use Rattle.rule_kernel.specs.Frozen.{is_frozen}
use Rattle.equiv_subst.specs.Walk.{Way}
use Rattle.equiv_subst.proofs.Turning.{turned_close, turned_look, top_read, lit_read}
use Rattle.equiv_subst.proofs.walk.Walk.turn.Goals as goal

pub returns-then-waiting-top : goal.returns-then-waiting-top
returns-then-waiting-top c =
    let w : Way = record { marks = c.self.inside.marks.items; path = c.self.inside.path.items; work = c.self.inside.work.items; roots = c.self.inside.roots.items; count = c.self.inside.count } in
    let roots : c.len.result ≡ length c.self.inside.roots.items = omega arith in
    let here : c.len-waiting.result ≡ length c.self.inside.work.items = omega arith in
    let top = top_read w c.args.self.now c.len.result c.index-top.result.now c.self.view_is roots c.requires.rooted c.index-top.ensures in
    let waiting : c.len-waiting.result ≡ length c.args.self.now.work = subst (λ (z : Way). c.len-waiting.result ≡ length z.work) c.self.view_is here in
    turned_close c.args.graph.now (is_frozen c.args.frozen.now) c.args.self.now c.close.new.self c.args.pairs.now.items c.close.new.pairs.items c.args.steps.now c.args.limit c.index-top.result.now
    c.requires.walks c.requires.rooted top (omega arith) c.requires.rest c.in_ok-close.ensures

pub returns : goal.returns
returns c =
    let w : Way = record { marks = c.self.inside.marks.items; path = c.self.inside.path.items; work = c.self.inside.work.items; roots = c.self.inside.roots.items; count = c.self.inside.count } in
    let roots : c.len.result ≡ length c.self.inside.roots.items = omega arith in
    let here : c.len-waiting.result ≡ length c.self.inside.work.items = omega arith in
    let top = top_read w c.args.self.now c.len.result c.index-top.result.now c.self.view_is roots c.requires.rooted c.index-top.ensures in
    let waiting : c.len-waiting.result ≡ length c.args.self.now.work = subst (λ (z : Way). c.len-waiting.result ≡ length z.work) c.self.view_is here in
    let some : 0 < c.len-waiting.result = omega arith in
    let lit = lit_read w c.args.self.now c.len-waiting.result c.index-lit.result.now c.self.view_is here some c.index-lit.ensures in
    turned_look c.args.graph.now (is_frozen c.args.frozen.now) c.args.self.now c.look.new.self c.args.pairs.now.items c.args.steps.now c.args.limit c.index-lit.result.now c.index-top.result.now
    c.law_places.ensures c.requires.walks c.requires.rooted top (omega arith) (omega arith) lit (rw waiting at c.in_ok-look.ensures)

use Rattle.std.proofs.Common.{◌∙◌, take, drop, arith}
use Rattle.std.proofs.Math.Seq.{take-add}
use Rattle.std.proofs.KnownBytes.{Appends-trans}
use Rattle.std.specs.Io.KnownBytes.{Appends}
use Rattle.std.proofs.lemmas.List.{take_rest, length-drop}
use Rattle.io_edge.proofs.outside.write_all.Goals as goal

pub loop-at-preserved : goal.loop-at-preserved
loop-at-preserved g c =
    let all = take_rest c.args.text.now c.loop-at.at in
    let here : Appends (g.K.Sink.written c.loop-at.sink) (g.K.Sink.written c.write.new.self) (take c.in_ok-at.field-0 (drop c.loop-at.at c.args.text.now)) =
    rw all at c.in_ok-at.ensures.bytes in
    let bound = rw (all, length-drop) at c.in_ok-at.ensures.bound in
    record {
      within = omega (arith, bound);
      bytes = rw take-add (Appends-trans _ _ _ _ _ c.loop-at.invariant.bytes here);
      kept = c.in_ok-at.ensures.cause.kept ∙ c.loop-at.invariant.kept;
    }

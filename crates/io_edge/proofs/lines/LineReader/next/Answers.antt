use Rattle.std.proofs.Common.{◌≡◌, ◌<◌, ◌+◌, ◌∙◌, refl, ap, arith, sym, length, true, false}
use Rattle.std.proofs.lemmas.Bool.{false≢true}
use Rattle.io_edge.specs.Reading.{LineState, end_of}
use Rattle.io_edge.proofs.Cutting.{given, stopped_as}
use Rattle.io_edge.proofs.lines.LineReader.next.Goals.{else-not-lf-via-then-not-lf+else-is_empty, else-not-lf-via-else-not-lf}
use Rattle.io_edge.proofs.lines.LineReader.next.Goals as goal

pub returns-clause-answer : goal.returns-clause-answer
returns-clause-answer g c =
    let e = c.in-Ok.ensures in
    let some : c.in-Ok.lf ≡ false → 0 < length c.gather.new.line.items =
    elim c.else-not-lf.branch [
      | else-not-lf-via-then-not-lf+else-is_empty w ↦ λ _. grind (arith, w.if-is_empty.false, w.is_empty.ensures)
      | else-not-lf-via-else-not-lf w ↦ λ e. absurd (false≢true (sym e ∙ w.if-not-lf.false))
    ] in
    let len : c.len.result ≡ length c.gather.new.line.items = omega arith in
    let size : c.size_of_line.result ≡ length c.gather.new.line.items + length (end_of c.in-Ok.lf) = c.size_of_line.ensures ∙ ap (λ n. n + length (end_of c.in-Ok.lf)) len in
    rw (← c.self.view_is, c.if-self.false, size) (refl, refl, given c.in-Ok.lf _ _ _ _ _ _ e.lf e.end some e.fits.0 e.fits.1)

pub returns-in-Err-clause-answer : goal.returns-in-Err-clause-answer
returns-in-Err-clause-answer g c =
    let e = c.in-Err.ensures in
    let new : LineState = record { ahead = c.gather.new.ahead; line = c.clear-in-Err.new.self.items; number = c.self.inside.number; used = c.self.inside.used; ended = c.self.inside.ended; done = true } in
    stopped_as c.in-Err.broken _ _ new _ _ c.gather.new.line.items _ c.self.view_is c.stop_at.ensures c.if-self.false c.if-self.false c.self.invariant.1 e.memory e.fault e.long e.much

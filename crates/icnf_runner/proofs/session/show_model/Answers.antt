use Rattle.std.proofs.Common.{◌≡◌, ◌∙◌, sym, ap, subst, Bool, true, false, List, ℕ, ⊎_elim, inl, inr}
use Rattle.std.specs.Prelude.{OnOk, OnErr}
use Rattle.std.specs.Io.KnownBytes.{Appends}
use Rattle.io_edge.specs.Told.{AppendsFront}
use Rattle.io_edge.proofs.Flowing.{fails_if, takes_if}
use Rattle.reply_text.specs.Reply.{Sat}
use Rattle.reply_text.specs.Text.{padded}
use Rattle.solver_api.specs.Steps.{state}
use Rattle.icnf_runner.specs.Output.{printed_reply}
use Rattle.icnf_runner.specs.Session.{checks, ShowsModel}
use Rattle.icnf_runner.proofs.Texts.{same_count}
use Rattle.icnf_runner.proofs.session.show_model.Goals as goal

pub returns-clause-ok : goal.returns-clause-ok
returns-clause-ok g c =
    let w = g.K.Sink.written in
    let m = padded c.args.vars c.in-Ok.model.now in
    let s = state c.args.solver.now in
    let P : List ℕ → Type 0 = λ t. Appends (w c.args.sink.now) (w c.write_checked_model.new.sink) t in
    takes_if c.write_checked_model.result _ _ (λ (h : Appends (w c.args.sink.now) (w c.write_checked_model.new.sink) (printed_reply c.args.check c.checked_count.result (Sat m))).
    (c.in-Ok.model.now, c.in-Ok.ensures.shown, subst P (same_count c.args.check c.checked_count.result (checks s) m c.checked_count.ensures) h)) c.write_checked_model.ensures.ok

pub returns-clause-err : goal.returns-clause-err
returns-clause-err g c =
    let w = g.K.Sink.written in
    let m = padded c.args.vars c.in-Ok.model.now in
    let s = state c.args.solver.now in
    let P : List ℕ → Type 0 = λ t. AppendsFront (w c.args.sink.now) (w c.write_checked_model.new.sink) t in
    fails_if c.write_checked_model.result _ _ (λ (h : AppendsFront (w c.args.sink.now) (w c.write_checked_model.new.sink) (printed_reply c.args.check c.checked_count.result (Sat m))).
    (c.in-Ok.model.now, c.in-Ok.ensures.shown, subst P (same_count c.args.check c.checked_count.result (checks s) m c.checked_count.ensures) h)) c.write_checked_model.ensures.err

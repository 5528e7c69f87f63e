use Rattle.std.proofs.Common.{◌≡◌, sym, ap, subst, List, ℕ, ◌++◌}
use Rattle.std.specs.Prelude.{OnOk, OnErr}
use Rattle.std.specs.Io.KnownBytes.{Appends}
use Rattle.std.proofs.KnownBytes.{Appends-trans}
use Rattle.io_edge.specs.Told.{AppendsFront}
use Rattle.io_edge.proofs.Flowing.{fails_if, takes_if, err_always}
use Rattle.reply_text.specs.Reply.{Sat}
use Rattle.reply_text.specs.Text.{padded, reply_text, checked_text}
use Rattle.icnf_runner.specs.Output.{printed_reply, check_line}
use Rattle.icnf_runner.proofs.Texts.{front_more, then_front, with_check, without_check}
use Rattle.icnf_runner.proofs.session.write_checked_model.Goals as goal

pub returns-in_err-write_model-clause-err : goal.returns-in_err-write_model-clause-err
returns-in_err-write_model-clause-err g c =
    let m = padded c.args.vars c.args.model.now in
    err_always c.from_residual.result _ (front_more _ _ (reply_text (Sat m)) (check_line c.args.check c.args.count (Sat m)) c.in_err-write_model.ensures.err)

pub returns-then-check-clause-ok : goal.returns-then-check-clause-ok
returns-then-check-clause-ok g c =
    let m = padded c.args.vars c.args.model.now in
    let w = g.K.Sink.written in
    let P : List ℕ → Type 0 = λ t. Appends (w c.args.sink.now) (w c.write_checked.new.sink) t in
    takes_if c.write_checked.result _ _ (λ (h : Appends (w c.write_model.new.sink) (w c.write_checked.new.sink) (checked_text c.args.count)).
    subst P (with_check c.args.check c.args.count m c.if-check.true) (Appends-trans (w c.args.sink.now) (w c.write_model.new.sink) (w c.write_checked.new.sink) (reply_text (Sat m)) (checked_text c.args.count) c.in_ok-write_model.ensures.ok h)) c.write_checked.ensures.ok

pub returns-then-check-clause-err : goal.returns-then-check-clause-err
returns-then-check-clause-err g c =
    let m = padded c.args.vars c.args.model.now in
    let w = g.K.Sink.written in
    let P : List ℕ → Type 0 = λ t. AppendsFront (w c.args.sink.now) (w c.write_checked.new.sink) t in
    fails_if c.write_checked.result _ _ (λ (h : AppendsFront (w c.write_model.new.sink) (w c.write_checked.new.sink) (checked_text c.args.count)).
    subst P (with_check c.args.check c.args.count m c.if-check.true) (then_front (w c.args.sink.now) (w c.write_model.new.sink) (w c.write_checked.new.sink) (reply_text (Sat m)) (checked_text c.args.count) c.in_ok-write_model.ensures.ok h)) c.write_checked.ensures.err

pub returns-else-check-clause-ok : goal.returns-else-check-clause-ok
returns-else-check-clause-ok g c =
    let m = padded c.args.vars c.args.model.now in
    let w = g.K.Sink.written in
    let P : List ℕ → Type 0 = λ t. Appends (w c.args.sink.now) (w c.write_model.new.sink) t in
    subst P (without_check c.args.check c.args.count m c.if-check.false) c.in_ok-write_model.ensures.ok

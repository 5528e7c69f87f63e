use Rattle.std.proofs.Common.{◌≡◌, ◌∙◌, sym, ap, refl, subst, List, ℕ}
use Rattle.std.specs.Prelude.{OnOk, OnErr, IfOk}
use Rattle.std.specs.Io.KnownBytes.{Appends}
use Rattle.io_edge.specs.Told.{AppendsFront}
use Rattle.reply_text.specs.Reply.{Unknown}
use Rattle.reply_text.specs.Text.{reply_text}
use Rattle.solver_api.specs.Steps.{state}
use Rattle.solver_api.specs.declared.calls.Outcome.{Outcome}
use Rattle.icnf_runner.specs.declared.status.Status.{Status}
use Rattle.icnf_runner.specs.Session.{assumed, Solves, ShowsModel, ShowsCore, IsAnswered, IsHalfReplied}
use Rattle.icnf_runner.proofs.Texts.{status_ok, status_err}
use Rattle.icnf_runner.proofs.Sessions.{shows_model, shows_core, replied_sat, replied_unsat, replied_unknown, answered_sat, answered_unsat, answered_unknown}
use Rattle.icnf_runner.proofs.session.give_reply.Goals as goal

pub returns-in-Ok-Sat-clause-ok : goal.returns-in-Ok-Sat-clause-ok
returns-in-Ok-Sat-clause-ok g c =
    let w = g.K.Sink.written in
    let o = c.args.options in
    let old = state c.args.solver.now in
    let new = state c.solve.new.solver in
    let lits = c.args.lits.now in
    let W : Outcome → Type 0 = λ x. Solves o (assumed old lits) x new in
    let P : List ℕ → Type 0 = λ t. Appends (w c.args.sink.now) (w c.show_model-wrote.new.sink) t in
    status_ok c.show_model-wrote.result _ c.status_of.result (ShowsModel o.check c.args.vars new P) (λ status. IsAnswered o c.args.vars old lits new (w c.args.sink.now) (w c.show_model-wrote.new.sink) status.code)
    c.status_of.ensures c.show_model-wrote.ensures.ok
    (λ t. answered_sat o c.args.vars old new lits (w c.args.sink.now) (w c.show_model-wrote.new.sink) (subst W c.in-Ok-Sat.field-0-is c.in-Ok-Sat.ensures) t)

pub returns-in-Ok-Sat-clause-write : goal.returns-in-Ok-Sat-clause-write
returns-in-Ok-Sat-clause-write g c =
    let w = g.K.Sink.written in
    let o = c.args.options in
    let old = state c.args.solver.now in
    let new = state c.solve.new.solver in
    let lits = c.args.lits.now in
    let W : Outcome → Type 0 = λ x. Solves o (assumed old lits) x new in
    let P : List ℕ → Type 0 = λ t. AppendsFront (w c.args.sink.now) (w c.show_model-wrote.new.sink) t in
    status_err c.show_model-wrote.result _ c.status_of.result (ShowsModel o.check c.args.vars new P) (IsHalfReplied o c.args.vars old lits (w c.args.sink.now) (w c.show_model-wrote.new.sink))
    c.status_of.ensures c.show_model-wrote.ensures.err
    (λ t. record { new = new; replied = replied_sat o c.args.vars old new lits P (subst W c.in-Ok-Sat.field-0-is c.in-Ok-Sat.ensures) t })

pub returns-in-Ok-Unsat-clause-ok : goal.returns-in-Ok-Unsat-clause-ok
returns-in-Ok-Unsat-clause-ok g c =
    let w = g.K.Sink.written in
    let o = c.args.options in
    let old = state c.args.solver.now in
    let new = state c.solve.new.solver in
    let lits = c.args.lits.now in
    let W : Outcome → Type 0 = λ x. Solves o (assumed old lits) x new in
    let P : List ℕ → Type 0 = λ t. Appends (w c.args.sink.now) (w c.show_core-wrote.new.sink) t in
    status_ok c.show_core-wrote.result _ c.status_of-in-Ok-Unsat.result (ShowsCore new P) (λ status. IsAnswered o c.args.vars old lits new (w c.args.sink.now) (w c.show_core-wrote.new.sink) status.code)
    c.status_of-in-Ok-Unsat.ensures c.show_core-wrote.ensures.ok
    (λ t. answered_unsat o c.args.vars old new lits (w c.args.sink.now) (w c.show_core-wrote.new.sink) (subst W c.in-Ok-Unsat.field-0-is c.in-Ok-Unsat.ensures) t)

pub returns-in-Ok-Unsat-clause-write : goal.returns-in-Ok-Unsat-clause-write
returns-in-Ok-Unsat-clause-write g c =
    let w = g.K.Sink.written in
    let o = c.args.options in
    let old = state c.args.solver.now in
    let new = state c.solve.new.solver in
    let lits = c.args.lits.now in
    let W : Outcome → Type 0 = λ x. Solves o (assumed old lits) x new in
    let P : List ℕ → Type 0 = λ t. AppendsFront (w c.args.sink.now) (w c.show_core-wrote.new.sink) t in
    status_err c.show_core-wrote.result _ c.status_of-in-Ok-Unsat.result (ShowsCore new P) (IsHalfReplied o c.args.vars old lits (w c.args.sink.now) (w c.show_core-wrote.new.sink))
    c.status_of-in-Ok-Unsat.ensures c.show_core-wrote.ensures.err
    (λ t. record { new = new; replied = replied_unsat o c.args.vars old new lits P (subst W c.in-Ok-Unsat.field-0-is c.in-Ok-Unsat.ensures) t })

pub returns-in-Ok-Unknown-clause-ok : goal.returns-in-Ok-Unknown-clause-ok
returns-in-Ok-Unknown-clause-ok g c =
    let w = g.K.Sink.written in
    let o = c.args.options in
    let old = state c.args.solver.now in
    let new = state c.solve.new.solver in
    let lits = c.args.lits.now in
    let n = c.conflicts_of.result in
    let W : Outcome → Type 0 = λ x. Solves o (assumed old lits) x new in
    let P : List ℕ → Type 0 = λ t. Appends (w c.args.sink.now) (w c.write_unknown-wrote.new.sink) t in
    status_ok c.write_unknown-wrote.result _ c.status_of-in-Ok-Unknown.result (P (reply_text (Unknown n))) (λ status. IsAnswered o c.args.vars old lits new (w c.args.sink.now) (w c.write_unknown-wrote.new.sink) status.code)
    c.status_of-in-Ok-Unknown.ensures c.write_unknown-wrote.ensures.ok
    (λ t. answered_unknown o c.args.vars old new lits _ n (w c.args.sink.now) (w c.write_unknown-wrote.new.sink) c.conflicts_of.ensures (subst W c.in-Ok-Unknown.field-0-is c.in-Ok-Unknown.ensures) t)

pub returns-in-Ok-Unknown-clause-write : goal.returns-in-Ok-Unknown-clause-write
returns-in-Ok-Unknown-clause-write g c =
    let w = g.K.Sink.written in
    let o = c.args.options in
    let old = state c.args.solver.now in
    let new = state c.solve.new.solver in
    let lits = c.args.lits.now in
    let n = c.conflicts_of.result in
    let W : Outcome → Type 0 = λ x. Solves o (assumed old lits) x new in
    let P : List ℕ → Type 0 = λ t. AppendsFront (w c.args.sink.now) (w c.write_unknown-wrote.new.sink) t in
    status_err c.write_unknown-wrote.result _ c.status_of-in-Ok-Unknown.result (P (reply_text (Unknown n))) (IsHalfReplied o c.args.vars old lits (w c.args.sink.now) (w c.write_unknown-wrote.new.sink))
    c.status_of-in-Ok-Unknown.ensures c.write_unknown-wrote.ensures.err
    (λ t. record { new = new; replied = replied_unknown o c.args.vars old new lits _ n P c.conflicts_of.ensures (subst W c.in-Ok-Unknown.field-0-is c.in-Ok-Unknown.ensures) t })

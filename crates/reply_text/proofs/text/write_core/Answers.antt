use Rattle.std.proofs.Common.{◌≡◌, ◌∙◌, ◌+◌, sym, ap, subst, arith, rules, drop, get_or, refl, List, ℕ, ℤ, [], ◌++◌}
use Rattle.std.proofs.lemmas.List.{drop_all, length-map}
use Rattle.std.proofs.lemmas.Int.{to_z-of_z}
use Rattle.std.specs.Prelude.{codes, map}
use mir.Val.{SFits}
use mir.Syntax.{w32}
use Rattle.std.specs.Io.KnownBytes.{Appends}
use Rattle.io_edge.specs.Told.{AppendsFront}
use Rattle.io_edge.specs.Wrapped.{TakesNumber, FailsAt, IsUnderWay, still_to_come}
use Rattle.io_edge.proofs.Flowing.{flow_is_wrapped, under_way, under_way_takes, under_way_fails, under_way_ends, under_way_front, fails_if, takes_if, err_always}
use Rattle.reply_text.specs.Reply.{Unsat}
use Rattle.reply_text.specs.Text.{reply_text, number_of}
use Rattle.reply_text.proofs.Numbers.{number_is, drop_map}
use Rattle.reply_text.proofs.text.write_core.Goals as goal

pub loop-lit-init : goal.loop-lit-init
loop-lit-init g c =
    let w = g.K.Sink.written c.args.sink.now in
    let numbers = map number_of c.args.core.now in
    let whole = reply_text (Unsat c.args.core.now) in
    let P : List ℕ → Type 0 = λ rest. IsUnderWay whole rest w w in
    record {
      wrote = subst P (sym (ap (λ l. still_to_come (codes "f ") l numbers) c.after-line.ensures ∙ ap (λ t. codes "s UNSATISFIABLE\n" ++ t) (flow_is_wrapped (codes "f ") numbers))) (under_way w whole);
      kept = refl;
    }

pub loop-lit-preserved : goal.loop-lit-preserved
loop-lit-preserved g c =
    let core = c.args.core.now in
    let numbers = map number_of core in
    let k = c.loop-lit.lit-index in
    let number = c.number.result in
    let fits : SFits w32 number = search rules in
    let lit = get_or core k c.lit-item.result in
    let is : number ≡ number_of lit = number_is number lit (c.number.ensures ∙ c.lit-item.is) in
    let w = g.K.Sink.written c.loop-lit.sink in
    let w' = g.K.Sink.written c.push.new.sink in
    let T : ℤ → Type 0 = λ z. TakesNumber (codes "f ") z c.loop-lit.line c.push.new.self w w' in
    let U : List ℤ → Type 0 = λ l. IsUnderWay (reply_text (Unsat core)) (still_to_come (codes "f ") c.loop-lit.line l) (g.K.Sink.written c.args.sink.now) w in
    record {
      wrote = under_way_takes (g.K.Sink.written c.args.sink.now) w w' (reply_text (Unsat core)) (codes "f ") (number_of lit) (drop (k + 1) numbers) c.loop-lit.line c.push.new.self
          (subst U (drop_map k c.lit-item.result core c.loop-lit-test.true) c.loop-lit.invariant.wrote) (subst T (to_z-of_z w32 number fits ∙ is) c.in_ok-push.ensures.ok);
      kept = c.in_ok-push.ensures.cause.kept ∙ c.loop-lit.invariant.kept;
    }

pub returns-in_err-push-clause-err : goal.returns-in_err-push-clause-err
returns-in_err-push-clause-err g c =
    let core = c.args.core.now in
    let numbers = map number_of core in
    let k = c.loop-lit.lit-index in
    let number = c.number.result in
    let fits : SFits w32 number = search rules in
    let lit = get_or core k c.lit-item.result in
    let is : number ≡ number_of lit = number_is number lit (c.number.ensures ∙ c.lit-item.is) in
    let w = g.K.Sink.written c.loop-lit.sink in
    let w' = g.K.Sink.written c.push.new.sink in
    let F : ℤ → Type 0 = λ z. FailsAt (codes "f ") z c.loop-lit.line w w' in
    let U : List ℤ → Type 0 = λ l. IsUnderWay (reply_text (Unsat core)) (still_to_come (codes "f ") c.loop-lit.line l) (g.K.Sink.written c.args.sink.now) w in
    err_always c.from_residual.result _ (under_way_fails (g.K.Sink.written c.args.sink.now) w w' (reply_text (Unsat core)) (codes "f ") (number_of lit) (drop (k + 1) numbers) c.loop-lit.line
    (subst U (drop_map k c.lit-item.result core c.loop-lit-test.true) c.loop-lit.invariant.wrote) (subst F (to_z-of_z w32 number fits ∙ is) c.in_err-push.ensures.err))

pub returns-clause-ok : goal.returns-clause-ok
returns-clause-ok g c =
    let core = c.args.core.now in
    let numbers = map number_of core in
    let w = g.K.Sink.written c.loop-lit.sink in
    let w' = g.K.Sink.written c.finish.new.sink in
    let none : drop c.loop-lit.lit-index numbers ≡ [] = drop_all c.loop-lit.lit-index numbers (omega (arith, c.loop-lit-test.false, length-map core number_of)) in
    let U : List ℤ → Type 0 = λ l. IsUnderWay (reply_text (Unsat core)) (still_to_come (codes "f ") c.loop-lit.line l) (g.K.Sink.written c.args.sink.now) w in
    takes_if c.finish.result _ _ (λ (h : Appends w w' (still_to_come (codes "f ") c.loop-lit.line [])).
    under_way_ends (g.K.Sink.written c.args.sink.now) w w' (reply_text (Unsat core)) (still_to_come (codes "f ") c.loop-lit.line []) (subst U none c.loop-lit.invariant.wrote) h) c.finish.ensures.ok

pub returns-clause-err : goal.returns-clause-err
returns-clause-err g c =
    let core = c.args.core.now in
    let numbers = map number_of core in
    let w = g.K.Sink.written c.loop-lit.sink in
    let w' = g.K.Sink.written c.finish.new.sink in
    let none : drop c.loop-lit.lit-index numbers ≡ [] = drop_all c.loop-lit.lit-index numbers (omega (arith, c.loop-lit-test.false, length-map core number_of)) in
    let U : List ℤ → Type 0 = λ l. IsUnderWay (reply_text (Unsat core)) (still_to_come (codes "f ") c.loop-lit.line l) (g.K.Sink.written c.args.sink.now) w in
    fails_if c.finish.result _ _ (λ (h : AppendsFront w w' (still_to_come (codes "f ") c.loop-lit.line [])).
    under_way_front (g.K.Sink.written c.args.sink.now) w w' (reply_text (Unsat core)) (still_to_come (codes "f ") c.loop-lit.line []) (subst U none c.loop-lit.invariant.wrote) h) c.finish.ensures.err

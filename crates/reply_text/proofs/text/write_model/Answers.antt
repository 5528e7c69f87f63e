use Rattle.std.proofs.Common.{◌≡◌, ◌∙◌, ◌+◌, ◌-◌, ◌<◌, sym, ap, subst, arith, rules, drop, get_or, length, refl, false, List, ℕ, ℤ, [], ◌++◌, length-append}
use Rattle.std.proofs.lemmas.List.{drop_all, length-replicate}
use Rattle.std.proofs.lemmas.Int.{to_z-of_z}
use Rattle.std.specs.Prelude.{codes, replicate}
use mir.Val.{SFits}
use mir.Syntax.{w32}
use Rattle.std.specs.Io.KnownBytes.{Appends}
use Rattle.io_edge.specs.Told.{AppendsFront}
use Rattle.io_edge.specs.Wrapped.{TakesNumber, FailsAt, IsUnderWay, still_to_come}
use Rattle.io_edge.proofs.Flowing.{flow_is_wrapped, under_way, under_way_takes, under_way_fails, under_way_ends, under_way_front, fails_if, takes_if, err_always}
use Rattle.reply_text.specs.Reply.{Sat}
use Rattle.reply_text.specs.Text.{reply_text, true_numbers, value_number, padded}
use Rattle.reply_text.proofs.Numbers.{length_numbers, drop_numbers, value_padded, plus_one}
use Rattle.reply_text.proofs.text.write_model.Goals as goal

pub loop-place-init : goal.loop-place-init
loop-place-init g c =
    let w = g.K.Sink.written c.args.sink.now in
    let numbers = true_numbers 1 (padded c.args.vars c.args.model.now) in
    let whole = reply_text (Sat (padded c.args.vars c.args.model.now)) in
    let P : List ℕ → Type 0 = λ rest. IsUnderWay whole rest w w in
    record {
      wrote = subst P (sym (ap (λ l. still_to_come (codes "v ") l numbers) c.after-line.ensures ∙ ap (λ t. codes "s SATISFIABLE\n" ++ t) (flow_is_wrapped (codes "v ") numbers))) (under_way w whole);
      kept = refl;
    }

pub loop-place-preserved : goal.loop-place-preserved
loop-place-preserved g c =
    let model = c.args.model.now in
    let values = padded c.args.vars model in
    let numbers = true_numbers 1 values in
    let k = c.loop-place.place in
    let number = c.number_at.result in
    let fits : SFits w32 number = search rules in
    let size : k < length values = omega (arith, c.loop-place-test.true, c.max-size.ensures, length-append model (replicate (c.args.vars - length model) false), length-replicate (c.args.vars - length model) false) in
    let is : number ≡ value_number (1 + k) (get_or values k false) = c.number_at.ensures ∙ ap (value_number (k + 1)) (c.value_at.ensures ∙ sym (value_padded model (c.args.vars - length model) k)) ∙ ap (λ v. value_number v (get_or values k false)) (plus_one k) in
    let w = g.K.Sink.written c.loop-place.sink in
    let w' = g.K.Sink.written c.push.new.sink in
    let T : ℤ → Type 0 = λ z. TakesNumber (codes "v ") z c.loop-place.line c.push.new.self w w' in
    let U : List ℤ → Type 0 = λ l. IsUnderWay (reply_text (Sat values)) (still_to_come (codes "v ") c.loop-place.line l) (g.K.Sink.written c.args.sink.now) w in
    record {
      wrote = under_way_takes (g.K.Sink.written c.args.sink.now) w w' (reply_text (Sat values)) (codes "v ") (value_number (1 + k) (get_or values k false)) (drop (k + 1) numbers) c.loop-place.line c.push.new.self
          (subst U (drop_numbers 1 k values size) c.loop-place.invariant.wrote) (subst T (to_z-of_z w32 number fits ∙ is) c.in_ok-push.ensures.ok);
      kept = c.in_ok-push.ensures.cause.kept ∙ c.loop-place.invariant.kept;
    }

pub returns-in_err-push-clause-err : goal.returns-in_err-push-clause-err
returns-in_err-push-clause-err g c =
    let model = c.args.model.now in
    let values = padded c.args.vars model in
    let numbers = true_numbers 1 values in
    let k = c.loop-place.place in
    let number = c.number_at.result in
    let fits : SFits w32 number = search rules in
    let size : k < length values = omega (arith, c.loop-place-test.true, c.max-size.ensures, length-append model (replicate (c.args.vars - length model) false), length-replicate (c.args.vars - length model) false) in
    let is : number ≡ value_number (1 + k) (get_or values k false) = c.number_at.ensures ∙ ap (value_number (k + 1)) (c.value_at.ensures ∙ sym (value_padded model (c.args.vars - length model) k)) ∙ ap (λ v. value_number v (get_or values k false)) (plus_one k) in
    let w = g.K.Sink.written c.loop-place.sink in
    let w' = g.K.Sink.written c.push.new.sink in
    let F : ℤ → Type 0 = λ z. FailsAt (codes "v ") z c.loop-place.line w w' in
    let U : List ℤ → Type 0 = λ l. IsUnderWay (reply_text (Sat values)) (still_to_come (codes "v ") c.loop-place.line l) (g.K.Sink.written c.args.sink.now) w in
    err_always c.from_residual.result _ (under_way_fails (g.K.Sink.written c.args.sink.now) w w' (reply_text (Sat values)) (codes "v ") (value_number (1 + k) (get_or values k false)) (drop (k + 1) numbers) c.loop-place.line
    (subst U (drop_numbers 1 k values size) c.loop-place.invariant.wrote) (subst F (to_z-of_z w32 number fits ∙ is) c.in_err-push.ensures.err))

pub returns-clause-ok : goal.returns-clause-ok
returns-clause-ok g c =
    let model = c.args.model.now in
    let values = padded c.args.vars model in
    let numbers = true_numbers 1 values in
    let w = g.K.Sink.written c.loop-place.sink in
    let w' = g.K.Sink.written c.finish.new.sink in
    let none : drop c.loop-place.place numbers ≡ [] = drop_all c.loop-place.place numbers
    (omega (arith, c.loop-place-test.false, c.max-size.ensures, length_numbers 1 values, length-append model (replicate (c.args.vars - length model) false), length-replicate (c.args.vars - length model) false)) in
    let U : List ℤ → Type 0 = λ l. IsUnderWay (reply_text (Sat values)) (still_to_come (codes "v ") c.loop-place.line l) (g.K.Sink.written c.args.sink.now) w in
    takes_if c.finish.result _ _ (λ (h : Appends w w' (still_to_come (codes "v ") c.loop-place.line [])).
    under_way_ends (g.K.Sink.written c.args.sink.now) w w' (reply_text (Sat values)) (still_to_come (codes "v ") c.loop-place.line []) (subst U none c.loop-place.invariant.wrote) h) c.finish.ensures.ok

pub returns-clause-err : goal.returns-clause-err
returns-clause-err g c =
    let model = c.args.model.now in
    let values = padded c.args.vars model in
    let numbers = true_numbers 1 values in
    let w = g.K.Sink.written c.loop-place.sink in
    let w' = g.K.Sink.written c.finish.new.sink in
    let none : drop c.loop-place.place numbers ≡ [] = drop_all c.loop-place.place numbers
    (omega (arith, c.loop-place-test.false, c.max-size.ensures, length_numbers 1 values, length-append model (replicate (c.args.vars - length model) false), length-replicate (c.args.vars - length model) false)) in
    let U : List ℤ → Type 0 = λ l. IsUnderWay (reply_text (Sat values)) (still_to_come (codes "v ") c.loop-place.line l) (g.K.Sink.written c.args.sink.now) w in
    fails_if c.finish.result _ _ (λ (h : AppendsFront w w' (still_to_come (codes "v ") c.loop-place.line [])).
    under_way_front (g.K.Sink.written c.args.sink.now) w w' (reply_text (Sat values)) (still_to_come (codes "v ") c.loop-place.line []) (subst U none c.loop-place.invariant.wrote) h) c.finish.ensures.err

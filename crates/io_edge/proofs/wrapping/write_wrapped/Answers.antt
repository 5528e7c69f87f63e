use Rattle.std.proofs.Common.{◌≡◌, ◌∙◌, ◌+◌, sym, ap, subst, rules, drop, get_or, refl, List, ℕ, ℤ, pos, []}
use Rattle.std.proofs.lemmas.List.{drop_more, drop_all}
use Rattle.std.proofs.lemmas.Int.{to_z-of_z}
use mir.Val.{SFits}
use mir.Syntax.{w32}
use Rattle.std.specs.Io.KnownBytes.{Appends}
use Rattle.io_edge.specs.Told.{AppendsFront}
use Rattle.io_edge.specs.Wrapped.{TakesNumber, FailsAt, IsUnderWay, wrap, still_to_come}
use Rattle.io_edge.proofs.Flowing.{flow_is_wrapped, under_way, under_way_takes, under_way_fails, under_way_ends, under_way_front, fails_if, takes_if, err_always}
use Rattle.io_edge.proofs.wrapping.write_wrapped.Goals as goal

pub loop-number-init : goal.loop-number-init
loop-number-init g c =
    let w = g.K.Sink.written c.args.sink.now in
    let whole = wrap c.args.prefix.now c.args.numbers.now in
    let P : List ℕ → Type 0 = λ rest. IsUnderWay whole rest w w in
    record {
      wrote = subst P (sym (ap (λ l. still_to_come c.args.prefix.now l c.args.numbers.now) c.new-line.ensures ∙ flow_is_wrapped c.args.prefix.now c.args.numbers.now)) (under_way w whole);
      kept = refl;
    }

pub returns-in_err-push-clause-err : goal.returns-in_err-push-clause-err
returns-in_err-push-clause-err g c =
    let numbers = c.args.numbers.now in
    let i = c.loop-number.number-index in
    let number = get_or numbers i (pos 0) in
    let fits : SFits w32 number = search rules in
    let same = to_z-of_z w32 number fits in
    let w = g.K.Sink.written c.loop-number.sink in
    let w' = g.K.Sink.written c.push.new.sink in
    let F : ℤ → Type 0 = λ z. FailsAt c.args.prefix.now z c.loop-number.line w w' in
    let U : List ℤ → Type 0 = λ l. IsUnderWay (wrap c.args.prefix.now numbers) (still_to_come c.args.prefix.now c.loop-number.line l) (g.K.Sink.written c.args.sink.now) w in
    err_always c.from_residual.result _ (under_way_fails (g.K.Sink.written c.args.sink.now) w w' (wrap c.args.prefix.now numbers) c.args.prefix.now number (drop (i + 1) numbers) c.loop-number.line
    (subst U (drop_more numbers i (pos 0) c.loop-number-test.true) c.loop-number.invariant.wrote) (subst F same c.in_err-push.ensures.err))

pub loop-number-preserved : goal.loop-number-preserved
loop-number-preserved g c =
    let numbers = c.args.numbers.now in
    let i = c.loop-number.number-index in
    let number = get_or numbers i (pos 0) in
    let fits : SFits w32 number = search rules in
    let same = to_z-of_z w32 number fits in
    let w = g.K.Sink.written c.loop-number.sink in
    let w' = g.K.Sink.written c.push.new.sink in
    let T : ℤ → Type 0 = λ z. TakesNumber c.args.prefix.now z c.loop-number.line c.push.new.self w w' in
    let U : List ℤ → Type 0 = λ l. IsUnderWay (wrap c.args.prefix.now numbers) (still_to_come c.args.prefix.now c.loop-number.line l) (g.K.Sink.written c.args.sink.now) w in
    record {
      wrote = under_way_takes (g.K.Sink.written c.args.sink.now) w w' (wrap c.args.prefix.now numbers) c.args.prefix.now number (drop (i + 1) numbers) c.loop-number.line c.push.new.self
          (subst U (drop_more numbers i (pos 0) c.loop-number-test.true) c.loop-number.invariant.wrote) (subst T same c.in_ok-push.ensures.ok);
      kept = c.in_ok-push.ensures.cause.kept ∙ c.loop-number.invariant.kept;
    }

pub returns-clause-ok : goal.returns-clause-ok
returns-clause-ok g c =
    let numbers = c.args.numbers.now in
    let w = g.K.Sink.written c.loop-number.sink in
    let w' = g.K.Sink.written c.finish.new.sink in
    let none : drop c.loop-number.number-index numbers ≡ [] = drop_all c.loop-number.number-index numbers c.loop-number-test.false in
    let U : List ℤ → Type 0 = λ l. IsUnderWay (wrap c.args.prefix.now numbers) (still_to_come c.args.prefix.now c.loop-number.line l) (g.K.Sink.written c.args.sink.now) w in
    takes_if c.finish.result _ _ (λ (h : Appends w w' (still_to_come c.args.prefix.now c.loop-number.line [])).
    under_way_ends (g.K.Sink.written c.args.sink.now) w w' (wrap c.args.prefix.now numbers) (still_to_come c.args.prefix.now c.loop-number.line []) (subst U none c.loop-number.invariant.wrote) h) c.finish.ensures.ok

pub returns-clause-err : goal.returns-clause-err
returns-clause-err g c =
    let numbers = c.args.numbers.now in
    let w = g.K.Sink.written c.loop-number.sink in
    let w' = g.K.Sink.written c.finish.new.sink in
    let none : drop c.loop-number.number-index numbers ≡ [] = drop_all c.loop-number.number-index numbers c.loop-number-test.false in
    let U : List ℤ → Type 0 = λ l. IsUnderWay (wrap c.args.prefix.now numbers) (still_to_come c.args.prefix.now c.loop-number.line l) (g.K.Sink.written c.args.sink.now) w in
    fails_if c.finish.result _ _ (λ (h : AppendsFront w w' (still_to_come c.args.prefix.now c.loop-number.line [])).
    under_way_front (g.K.Sink.written c.args.sink.now) w w' (wrap c.args.prefix.now numbers) (still_to_come c.args.prefix.now c.loop-number.line []) (subst U none c.loop-number.invariant.wrote) h) c.finish.ensures.err

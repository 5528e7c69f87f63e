use Rattle.std.proofs.Common.{◌≡◌, ◌∙◌, ◌+◌, sym, ap, subst, arith, List, ℕ, ◌++◌}
use Rattle.std.specs.Fmt.{signed_decimal}
use Rattle.std.proofs.lemmas.Int.{to_z-of_z}
use mir.Syntax.{w32}
use Rattle.std.specs.Io.KnownBytes.{Appends}
use Rattle.io_edge.specs.Told.{AppendsFront}
use Rattle.io_edge.specs.Wrapped.{LineSoFar, TakesNumber, FailsAt}
use Rattle.io_edge.proofs.Flowing.{takes_open, takes_full, takes_last, fails_last, fails_if, takes_if}
use Rattle.io_edge.proofs.wrapping.OpenLine.push.Goals as goal

pub invariant_of-self : goal.invariant_of-self
invariant_of-self g c = (omega arith, omega (arith, c.push_number.ensures.size, c.push_lead.ensures.size))

pub push-requires : goal.push-requires
push-requires g c = omega (arith, c.push_number.ensures.size, c.push_lead.ensures.size)

pub returns-then-self-clause-ok : goal.returns-then-self-clause-ok
returns-then-self-clause-ok g c =
    let w = g.K.Sink.written c.args.sink.now in
    let number = c.args.number in
    let pushed : c.push_number.new.self ≡ c.push_lead.new.line ++ signed_decimal number = c.push_number.ensures.text ∙ ap (λ z. c.push_lead.new.line ++ signed_decimal z) (to_z-of_z w32 number c.ranges.number) in
    let P : LineSoFar → Type 0 = λ old. TakesNumber c.args.prefix.now number old (record { bytes = c.push_number.new.self; count = c.self.inside.count + 1 }) w w in
    subst P c.self.view_is (takes_open w c.args.prefix.now number c.self.inside.bytes c.push_lead.new.line c.push_number.new.self c.self.inside.count (omega (arith, c.if-self.true)) c.push_lead.ensures.text pushed)

pub returns-then-len-le-WAITING-clause-ok : goal.returns-then-len-le-WAITING-clause-ok
returns-then-len-le-WAITING-clause-ok g c =
    let w = g.K.Sink.written c.args.sink.now in
    let number = c.args.number in
    let pushed : c.push_number.new.self ≡ c.push_lead.new.line ++ signed_decimal number = c.push_number.ensures.text ∙ ap (λ z. c.push_lead.new.line ++ signed_decimal z) (to_z-of_z w32 number c.ranges.number) in
    let count : c.self.inside.count ≡ 19 = omega (arith, c.if-self.false, c.self.invariant) in
    let P : LineSoFar → Type 0 = λ old. TakesNumber c.args.prefix.now number old (record { bytes = c.push.new.self; count = 0 }) w w in
    subst P c.self.view_is (takes_full w c.args.prefix.now number c.self.inside.bytes c.push_lead.new.line c.push_number.new.self c.push.new.self c.self.inside.count count c.push_lead.ensures.text pushed c.push.ensures)

pub returns-clause-ok : goal.returns-clause-ok
returns-clause-ok g c =
    let w = g.K.Sink.written c.args.sink.now in
    let w' = g.K.Sink.written c.write_all-wrote.new.sink in
    let number = c.args.number in
    let pushed : c.push_number.new.self ≡ c.push_lead.new.line ++ signed_decimal number = c.push_number.ensures.text ∙ ap (λ z. c.push_lead.new.line ++ signed_decimal z) (to_z-of_z w32 number c.ranges.number) in
    let count : c.self.inside.count ≡ 19 = omega (arith, c.if-self.false, c.self.invariant) in
    let P : LineSoFar → Type 0 = λ old. TakesNumber c.args.prefix.now number old (record { bytes = c.clear.new.self; count = 0 }) w w' in
    let Q : List ℕ → Type 0 = λ bytes. TakesNumber c.args.prefix.now number (record { bytes = c.self.inside.bytes; count = c.self.inside.count }) (record { bytes = bytes; count = 0 }) w w' in
    takes_if c.write_all-wrote.result _ _ (λ (h : Appends w w' c.as_slice.result.now).
    subst P c.self.view_is (subst Q (sym c.clear.ensures) (takes_last w w' c.args.prefix.now number c.self.inside.bytes c.push_lead.new.line c.push_number.new.self c.as_slice.result.now c.self.inside.count count c.push_lead.ensures.text pushed
    (c.as_slice.ensures ∙ c.push.ensures) h))) c.write_all-wrote.ensures.ok

pub returns-clause-err : goal.returns-clause-err
returns-clause-err g c =
    let w = g.K.Sink.written c.args.sink.now in
    let w' = g.K.Sink.written c.write_all-wrote.new.sink in
    let number = c.args.number in
    let pushed : c.push_number.new.self ≡ c.push_lead.new.line ++ signed_decimal number = c.push_number.ensures.text ∙ ap (λ z. c.push_lead.new.line ++ signed_decimal z) (to_z-of_z w32 number c.ranges.number) in
    let count : c.self.inside.count ≡ 19 = omega (arith, c.if-self.false, c.self.invariant) in
    let P : LineSoFar → Type 0 = λ old. FailsAt c.args.prefix.now number old w w' in
    fails_if c.write_all-wrote.result _ _ (λ (h : AppendsFront w w' c.as_slice.result.now).
    subst P c.self.view_is (fails_last w w' c.args.prefix.now number c.self.inside.bytes c.push_lead.new.line c.push_number.new.self c.as_slice.result.now c.self.inside.count count c.push_lead.ensures.text pushed
    (c.as_slice.ensures ∙ c.push.ensures) h)) c.write_all-wrote.ensures.err

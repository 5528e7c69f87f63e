use Rattle.std.proofs.Common.{◌≡◌, ◌∙◌, ◌+◌, sym, ap, arith, drop, length, length-set, append_assoc, [], ◌++◌, ◌∷◌, ◌<◌, ◌/◌, ◌%◌, ◌-◌, ◌^◌}
use Rattle.std.proofs.lemmas.List.{drop-set, drop_all}
use Rattle.io_edge.proofs.Digits.{front_digits, front_step, below_power, decimal_front}
use Rattle.io_edge.proofs.buffer.digits_of.Goals as goal

pub loop-rest-init : goal.loop-rest-init
loop-rest-init c =
    let field = c.args.field.now in
    let size = c.told-field in
    let fits : c.args.number < 2 ^ 64 = omega arith in
    let last : 19 < length field = omega arith in
    let none : drop 20 field ≡ [] = drop_all 20 field (omega arith) in
    record {
      size = omega (arith, length-set field 19 (48 + c.args.number % 10));
      within = omega arith;
      below = omega arith;
      digits = ap (λ d. front_digits (c.args.number / 10) ++ d) (drop-set field 19 (48 + c.args.number % 10) last ∙ ap (λ d. (48 + c.args.number % 10) ∷ d) none)
          ∙ sym (decimal_front c.args.number fits);
    }

pub loop-rest-preserved : goal.loop-rest-preserved
loop-rest-preserved c =
    let field = c.loop-rest.field in
    let rest = c.loop-rest.rest in
    let at = c.loop-rest.at in
    let i = c.loop-rest.invariant in
    let some : 0 < rest = c.loop-rest-test.true in
    let size = i.size in
    let within = i.within in
    let below = below_power rest at some i.below in
    let pos = below.0 in
    let in' : at - 1 < length field = omega arith in
    let next : at - 1 + 1 ≡ at = omega arith in
    let fits : rest < 2 ^ 64 = omega (arith, c.loop-rest.auto.rest-fits) in
    let d = 48 + rest % 10 in
    record {
      size = omega (arith, length-set field (at - 1) d);
      within = omega arith;
      below = below.1;
      digits = ap (λ x. front_digits (rest / 10) ++ x) (drop-set field (at - 1) d in' ∙ ap (λ k. d ∷ drop k field) next)
          ∙ sym (append_assoc (front_digits (rest / 10)) (d ∷ []) (drop at field))
          ∙ ap (λ x. x ++ drop at field) (sym (front_step rest some fits)) ∙ i.digits;
    }

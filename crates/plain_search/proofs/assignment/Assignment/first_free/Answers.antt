use Rattle.std.proofs.Common.{◌≡◌, ◌∙◌, ◌≤◌, arith, ap, sym, None}
use Rattle.std.specs.Prelude.{not, reverse, vec_len}
use Rattle.std.proofs.lemmas.Grind.{common_steps}
use Rattle.sat_terms.specs.Literal.{var_of, pos_lit}
use Rattle.plain_search.specs.Steps.{value_in}
use Rattle.plain_search.proofs.Values.{free_at, has_value}
use Rattle.plain_search.proofs.assignment.Assignment.first_free.Goals as goal

pub returns-then-is_none-clause-some : goal.returns-then-is_none-clause-some
returns-then-is_none-clause-some c =
    let i = c.loop-self.invariant in
    let steps = ap (λ t. reverse t.items) i.trail ∙ ap (λ a. a.steps) c.self.view_is in
    let at : value_in c.args.self.now.steps (pos_lit c.loop-self.self-inside.low) ≡ None =
    ap (λ s. value_in s (pos_lit c.loop-self.self-inside.low)) (sym steps) ∙ free_at i.holds.mirrors c.loop-self.self-inside.low c.index.result.now (omega (arith, c.loop-self-test.true, c.len.ensures)) c.index.ensures (ap not c.if-is_none.ensures) in
    let low : c.loop-self.self-inside.low ≤ c.args.self.now.vars = omega (arith, c.loop-self-test.true, c.len.ensures, ap vec_len i.values, ap (λ a. a.vars) c.self.view_is) in
    grind (arith, common_steps, c.new.ensures.value, i.holds.from_one)

pub returns-clause-none : goal.returns-clause-none
returns-clause-none c =
    let i = c.loop-self.invariant in
    let vars = ap (λ a. a.vars) c.self.view_is in
    let size = ap vec_len i.values in
    let some = i.holds.mirrors.some in
    let steps = ap (λ t. reverse t.items) i.trail ∙ ap (λ a. a.steps) c.self.view_is in
    λ l low high is. has_value i.holds.mirrors l (omega (arith, vars, size, c.len.ensures)) (i.holds.full (var_of l) low (omega (arith, vars, size, c.loop-self-test.false, c.len.ensures)))
    (ap (λ s. value_in s l) steps ∙ is)

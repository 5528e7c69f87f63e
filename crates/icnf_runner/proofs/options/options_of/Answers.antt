use Rattle.std.proofs.Common.{◌≡◌, ◌∙◌, sym, ap, subst, map, string_bytes}
use Rattle.icnf_runner.specs.declared.options.Options.{Options}
use Rattle.icnf_runner.specs.Options.{Accepts}
use Rattle.icnf_runner.specs.Items.{options_by}
use Rattle.icnf_runner.proofs.Words.{read_accepts, unread_refused, accepted_range}
use Rattle.icnf_runner.proofs.options.options_of.Goals as goal

pub returns-in-Ok-clause-some : goal.returns-in-Ok-clause-some
returns-in-Ok-clause-some c =
    let texts = map string_bytes c.args.words.now in
    let found : Accepts texts (options_by c.in-Some.found) = read_accepts texts c.in-Some.found (sym c.read_words.ensures ∙ c.in-Some.is) in
    let same : options_by c.in-Some.found ≡ c.options_of_found.result = ap options_by (sym c.in-Ok.ensures) ∙ sym c.options_of_found.ensures in
    let a : Accepts texts c.options_of_found.result = subst (Accepts texts) same found in
    (a, accepted_range texts c.options_of_found.result a)

pub returns-in-Err-clause-memory : goal.returns-in-Err-clause-memory
returns-in-Err-clause-memory c =
    let texts = map string_bytes c.args.words.now in
    (options_by c.in-Some.found, read_accepts texts c.in-Some.found (sym c.read_words.ensures ∙ c.in-Some.is))

pub returns-in-None-clause-none : goal.returns-in-None-clause-none
returns-in-None-clause-none c = unread_refused (map string_bytes c.args.words.now) (sym c.read_words.ensures ∙ c.in-None.is)

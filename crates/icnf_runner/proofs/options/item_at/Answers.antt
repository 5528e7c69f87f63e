use Rattle.std.proofs.Common.{◌≡◌, ◌∙◌, ◌+◌, ◌<◌, sym, ap, arith, drop, length, map, string_bytes, List, ℕ, ◌∷◌, Option, Some, None}
use Rattle.icnf_runner.specs.declared.options.Choice.{Choice}
use Rattle.icnf_runner.specs.Items.{one_word, two_words}
use Rattle.icnf_runner.proofs.Words.{texts_at, first_one, first_two, none_two, none_always}
use Rattle.icnf_runner.proofs.options.item_at.Goals as goal

pub returns-in-Some-clause-some : goal.returns-in-Some-clause-some
returns-in-Some-clause-some c =
    let texts = map string_bytes c.args.words.now in
    let cut = texts_at string_bytes c.args.words.now c.args.at c.index-words-at.result c.requires c.index-words-at.is in
    let e = sym (c.choice_of_one.ensures ∙ ap one_word c.as_bytes-word.ensures.value) ∙ c.in-Some.is in
    (omega arith, omega (arith, c.requires), first_one (drop c.args.at texts) (drop (c.args.at + 1) texts) _ c.in-Some.choice cut e)

pub returns-in_ok-choice-in-None-clause-some : goal.returns-in_ok-choice-in-None-clause-some
returns-in_ok-choice-in-None-clause-some c =
    let texts = map string_bytes c.args.words.now in
    let at = c.args.at in
    let more : at + 1 < length c.args.words.now = omega (arith, c.requires, c.if-at-words.false) in
    let next : at + 1 + 1 ≡ at + 2 = omega arith in
    let one = texts_at string_bytes c.args.words.now at c.index-words-at.result c.requires c.index-words-at.is in
    let two = texts_at string_bytes c.args.words.now (at + 1) c.index-words-at-in-None.result more c.index-words-at-in-None.is in
    let cut = one ∙ ap (λ l. string_bytes c.index-words-at.result ∷ l) (two ∙ ap (λ k. string_bytes c.index-words-at-in-None.result ∷ drop k texts) next) in
    let none = sym (c.choice_of_one.ensures ∙ ap one_word c.as_bytes-word.ensures.value) ∙ c.in-None.is in
    let e = sym (c.choice_of_two.ensures ∙ ap (λ w. two_words w c.as_bytes.result.now) c.as_bytes-word.ensures.value ∙ ap (two_words (string_bytes c.index-words-at.result)) c.as_bytes.ensures.value) ∙ c.in_ok-choice-in-None.was in
    (omega arith, omega (arith, more), first_two (drop at texts) (drop (at + 2) texts) _ _ c.in_ok-choice-in-None.choice cut none e)

pub returns-in_err-choice-in-None-clause-none : goal.returns-in_err-choice-in-None-clause-none
returns-in_err-choice-in-None-clause-none c =
    let texts = map string_bytes c.args.words.now in
    let at = c.args.at in
    let more : at + 1 < length c.args.words.now = omega (arith, c.requires, c.if-at-words.false) in
    let one = texts_at string_bytes c.args.words.now at c.index-words-at.result c.requires c.index-words-at.is in
    let two = texts_at string_bytes c.args.words.now (at + 1) c.index-words-at-in-None.result more c.index-words-at-in-None.is in
    let cut = one ∙ ap (λ l. string_bytes c.index-words-at.result ∷ l) two in
    let none = sym (c.choice_of_one.ensures ∙ ap one_word c.as_bytes-word.ensures.value) ∙ c.in-None.is in
    let e = sym (c.choice_of_two.ensures ∙ ap (λ w. two_words w c.as_bytes.result.now) c.as_bytes-word.ensures.value ∙ ap (two_words (string_bytes c.index-words-at.result)) c.as_bytes.ensures.value) ∙ c.in_err-choice-in-None.was in
    none_always c.from_residual.result _ (none_two (drop at texts) _ _ _ cut none e)

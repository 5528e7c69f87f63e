use Rattle.std.proofs.Common.{◌≡◌, ◌∙◌, ap, subst, List, ℕ, ◌++◌, append_assoc}
use Rattle.std.specs.Prelude.{codes, OnErr}
use Rattle.std.specs.Fmt.{decimal}
use Rattle.io_edge.specs.Told.{AppendsFront}
use Rattle.reply_text.specs.Reply.{Unknown}
use Rattle.reply_text.specs.Text.{reply_text}
use Rattle.reply_text.proofs.text.write_unknown.Goals as goal

pub returns-clause-err : goal.returns-clause-err
returns-clause-err g c =
    let text : c.as_slice.result.now ≡ reply_text (Unknown c.args.conflicts) =
    c.as_slice.ensures ∙ c.push_all-2.ensures ∙ ap (λ t. t ++ codes "\n") (c.push_decimal.ensures.text ∙ ap (λ t. t ++ decimal c.args.conflicts) (c.push_all.ensures ∙ ap (λ t. t ++ codes "s UNKNOWN\nc conflicts ") c.new-text.ensures))
    ∙ append_assoc (codes "s UNKNOWN\nc conflicts ") (decimal c.args.conflicts) (codes "\n") in
    let P : List ℕ → Type 0 = λ t. OnErr c.write_all.result (AppendsFront (g.K.Sink.written c.args.sink.now) (g.K.Sink.written c.write_all.new.sink) t) in
    subst P text c.write_all.ensures.err

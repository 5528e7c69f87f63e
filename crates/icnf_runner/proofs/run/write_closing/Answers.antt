use Rattle.std.proofs.Common.{◌≡◌, ◌∙◌, sym, ap, subst, List, ℕ, ◌++◌, append_assoc}
use Rattle.std.specs.Prelude.{codes, OnErr}
use Rattle.std.specs.Fmt.{decimal}
use Rattle.io_edge.specs.Told.{AppendsFront}
use Rattle.icnf_reader.specs.Reasons.{why_text}
use Rattle.icnf_runner.specs.Output.{closing_line}
use Rattle.icnf_runner.proofs.run.write_closing.Goals as goal

joined : (a b d e f : List ℕ) → (((a ++ b) ++ d) ++ e) ++ f ≡ a ++ (b ++ (d ++ (e ++ f)))
joined a b d e f = simp append_assoc

pub returns-clause-err : goal.returns-clause-err
returns-clause-err g c =
    let one : c.push_all.new.self ≡ codes "c refused at line " = c.push_all.ensures ∙ ap (λ t. t ++ codes "c refused at line ") c.new-text.ensures in
    let two : c.push_decimal.new.self ≡ codes "c refused at line " ++ decimal c.args.line = c.push_decimal.ensures.text ∙ ap (λ t. t ++ decimal c.args.line) one in
    let three : c.push_all-2.new.self ≡ (codes "c refused at line " ++ decimal c.args.line) ++ codes ": " = c.push_all-2.ensures ∙ ap (λ t. t ++ codes ": ") two in
    let why : c.as_bytes.result.now ≡ why_text c.args.why = c.as_bytes.ensures.value ∙ c.text.ensures.text in
    let four : c.push_all-3.new.self ≡ ((codes "c refused at line " ++ decimal c.args.line) ++ codes ": ") ++ why_text c.args.why =
    c.push_all-3.ensures ∙ ap (λ t. t ++ c.as_bytes.result.now) three ∙ ap (λ t. ((codes "c refused at line " ++ decimal c.args.line) ++ codes ": ") ++ t) why in
    let text : c.as_slice.result.now ≡ closing_line c.args.line c.args.why = c.as_slice.ensures ∙ c.push_all-4.ensures ∙ ap (λ t. t ++ codes "\n") four ∙ joined (codes "c refused at line ") (decimal c.args.line) (codes ": ") (why_text c.args.why) (codes "\n") in
    let P : List ℕ → Type 0 = λ t. OnErr c.write_all.result (AppendsFront (g.K.Sink.written c.args.sink.now) (g.K.Sink.written c.write_all.new.sink) t) in
    subst P text c.write_all.ensures.err

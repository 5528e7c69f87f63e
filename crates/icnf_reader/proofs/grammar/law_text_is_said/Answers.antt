use Rattle.icnf_reader.proofs.Grammars.{law_text_is_said}
use Rattle.icnf_reader.proofs.grammar.law_text_is_said.Goals as goal

pub returns : goal.returns
returns c = law_text_is_said

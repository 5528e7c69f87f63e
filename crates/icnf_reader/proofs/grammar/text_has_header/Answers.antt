use Rattle.icnf_reader.proofs.Ranks.{text_has_header}
use Rattle.icnf_reader.proofs.grammar.text_has_header.Goals as goal

pub returns : goal.returns
returns c = text_has_header

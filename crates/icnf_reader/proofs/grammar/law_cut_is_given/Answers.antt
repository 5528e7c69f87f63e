use Rattle.icnf_reader.proofs.Grammars.{law_cut_is_given}
use Rattle.icnf_reader.proofs.grammar.law_cut_is_given.Goals as goal

pub returns : goal.returns
returns c = law_cut_is_given

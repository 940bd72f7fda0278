use Rattle.kasa_graph.proofs.ReadPatternLemmas.{one_pattern}
use Rattle.kasa_graph.proofs.laws.a_text_is_of_one_pattern.Goals as goal

pub returns : goal.returns
returns c = one_pattern

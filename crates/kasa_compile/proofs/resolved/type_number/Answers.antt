use Rattle.kasa_graph.specs.Signature.{type_names}
use Rattle.kasa_sig.specs.Mentions.{word}
use Rattle.kasa_compile.proofs.PairLemmas.{number_found}
use Rattle.kasa_compile.proofs.resolved.type_number.Goals as goal

pub returns : goal.returns
returns c = number_found (type_names c.args.sig.now) c.word_at.result.now (word c.args.text.now c.args.name) c.find_type.result c.unwrap_or.result c.requires.valid.types.differ c.word_at.ensures c.find_type.ensures c.unwrap_or.ensures

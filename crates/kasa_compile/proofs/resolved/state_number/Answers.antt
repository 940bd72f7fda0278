use Rattle.kasa_graph.specs.Signature.{state_names}
use Rattle.kasa_sig.specs.Mentions.{word}
use Rattle.kasa_compile.proofs.PairLemmas.{number_found}
use Rattle.kasa_compile.proofs.resolved.state_number.Goals as goal

pub returns : goal.returns
returns c = number_found (state_names c.args.sig.now c.args.agent c.args.site) c.word_at.result.now (word c.args.text.now c.args.name) c.find_state.result c.unwrap_or.result (c.requires.valid.states c.args.agent c.args.site).differ c.word_at.ensures c.find_state.ensures c.unwrap_or.ensures

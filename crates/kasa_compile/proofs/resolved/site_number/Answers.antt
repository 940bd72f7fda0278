use Rattle.kasa_graph.specs.Signature.{site_names}
use Rattle.kasa_sig.specs.Mentions.{word}
use Rattle.kasa_compile.proofs.PairLemmas.{number_found}
use Rattle.kasa_compile.proofs.resolved.site_number.Goals as goal

pub returns : goal.returns
returns c = number_found (site_names c.args.sig.now c.args.agent) c.word_at.result.now (word c.args.text.now c.args.name) c.find_site.result c.unwrap_or.result (c.requires.valid.sites c.args.agent).differ c.word_at.ensures c.find_site.ensures c.unwrap_or.ensures

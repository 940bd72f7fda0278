use Rattle.kasa_graph.specs.Signature.{site_names}
use Rattle.kasa_compile.proofs.KnownLemmas.{if_unknown-found, if_unknown-absent}
use Rattle.kasa_compile.proofs.names.unknown_site.Goals as goal

pub returns-in-Some : goal.returns-in-Some
returns-in-Some c = if_unknown-found c.args.text.now (site_names c.args.sig.now c.args.agent) c.args.name c.word_at.result.now c.word_at.ensures c.in-Some.field-0 c.in-Some.ensures

pub returns-in-None : goal.returns-in-None
returns-in-None c = if_unknown-absent c.args.text.now (site_names c.args.sig.now c.args.agent) c.args.name c.word_at.result.now c.word_at.ensures c.in-None.ensures

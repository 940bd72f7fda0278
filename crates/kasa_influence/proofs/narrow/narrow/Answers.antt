use Rattle.kasa_pre.proofs.NarrowLemmas.{Narrows-test}
use Rattle.kasa_influence.proofs.narrow.narrow.Goals as goal

pub returns : goal.returns
returns c = Narrows-test c.args.sig.now c.args.g.now c.requires.over c.args.node c.args.site c.args.test c.requires.exists c.requires.known c.refine.result c.refine.new.self c.refine.ensures.found c.refine.ensures.written c.refine.ensures.none

use Rattle.kasa_pre.specs.Asked.{SourcesBefore, NodesBefore}
use Rattle.kasa_pre.proofs.NarrowLemmas.{Narrows-both}
use Rattle.kasa_pre.proofs.narrow.narrow_all.Goals as goal

pub returns-then-not-narrow_sources : goal.returns-then-not-narrow_sources
returns-then-not-narrow_sources c = λ h valid implied asks. (rw c.if-not-narrow_sources.true at c.narrow_sources.ensures) h valid implied asks.0

pub returns : goal.returns
returns c = Narrows-both c.args.asked.now.sig.now c.args.g.now (SourcesBefore c.args.asked.now.rule.now c.args.asked.now.stands.now c.args.asked.now.freed.now) (NodesBefore c.args.asked.now.rule.now c.args.asked.now.v.now c.args.asked.now.stands.now c.args.asked.now.freed.now)
    c.narrow_sources.new.g c.narrow_nodes.new.g c.narrow_nodes.result (rw c.if-not-narrow_sources.false at c.narrow_sources.ensures) c.narrow_nodes.ensures

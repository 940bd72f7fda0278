use Rattle.kasa_graph.specs.Pattern.{link_test}
use Rattle.kasa_pre.proofs.AskedSteps.{link-freed, link-unfreed}
use Rattle.kasa_pre.proofs.narrow.narrow_unfreed.Goals as goal

pub returns-then-is_freed : goal.returns-then-is_freed
returns-then-is_freed c = link-freed c.args.asked.now.sig.now c.args.asked.now.rule.now c.args.asked.now.v.now c.args.asked.now.stands.now c.args.g.now c.requires.nodes.valid c.args.node c.args.site c.args.stand.now (link_test c.args.asked.now.v.now c.args.node c.args.site) c.requires.stand c.args.asked.now.freed.now (c.is_freed.ensures.0 c.if-is_freed.true)

pub returns : goal.returns
returns c = link-unfreed c.args.asked.now.sig.now c.args.asked.now.rule.now c.args.asked.now.v.now c.args.asked.now.stands.now c.args.g.now c.requires.nodes.valid c.args.node c.args.site c.args.stand.now (link_test c.args.asked.now.v.now c.args.node c.args.site) c.requires.stand c.args.asked.now.freed.now c.narrow_link.result c.narrow_link.new.g
    (λ freed. let yes' = c.is_freed.ensures.1 freed in let against = c.if-is_freed.false in cc) c.narrow_link.ensures

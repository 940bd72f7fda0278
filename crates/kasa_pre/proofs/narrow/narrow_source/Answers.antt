use Rattle.std.proofs.Common.{sym, ◌∙◌}
use Rattle.kasa_pre.proofs.AskedSteps.{source-unplaced, source-no_site, source-no_far}
use Rattle.kasa_pre.proofs.narrow.narrow_source.Goals as goal

pub returns-in-None : goal.returns-in-None
returns-in-None c = source-unplaced c.args.asked.now.sig.now c.args.asked.now.rule.now c.args.asked.now.v.now c.args.asked.now.stands.now c.args.g.now c.requires.nodes.valid c.args.f.now (sym c.place.ensures ∙ c.in-None.is)

pub returns-then-not-has_site : goal.returns-then-not-has_site
returns-then-not-has_site c = source-no_site c.args.asked.now.sig.now c.args.asked.now.rule.now c.args.asked.now.v.now c.args.asked.now.stands.now c.args.g.now c.requires.nodes.valid c.args.f.now c.in-Some.p (sym c.place.ensures ∙ c.in-Some.is)
    (λ has. let yes' = c.has_site.ensures.1 has in let against = c.if-not-has_site.true in cc)

pub returns-then-not-has_site-2 : goal.returns-then-not-has_site-2
returns-then-not-has_site-2 c = source-no_far c.args.asked.now.sig.now c.args.asked.now.rule.now c.args.asked.now.v.now c.args.asked.now.stands.now c.args.g.now c.requires.nodes.valid c.args.f.now c.in-Some.p (sym c.place.ensures ∙ c.in-Some.is)
    (λ has. let yes' = c.has_site-in-Some.ensures.1 has in let against = c.if-not-has_site-2.true in cc)

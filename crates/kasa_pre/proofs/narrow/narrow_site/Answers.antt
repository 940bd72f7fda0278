use Rattle.kasa_graph.specs.Pattern.{state_test, link_test}
use Rattle.kasa_pre.specs.Before.{place_of, IsFreed, StateBefore, LinkBefore}
use Rattle.kasa_pre.proofs.NarrowLemmas.{Narrows-both}
use Rattle.kasa_pre.proofs.narrow.narrow_site.Goals as goal

pub returns-then-not-narrow_state : goal.returns-then-not-narrow_state
returns-then-not-narrow_state c = λ h valid implied asks. (rw c.if-not-narrow_state.true at c.narrow_state.ensures) h valid implied asks.0

pub returns : goal.returns
returns c = Narrows-both c.args.asked.now.sig.now c.args.g.now
    (λ h. StateBefore c.args.asked.now.rule.now h (place_of c.args.asked.now.rule.now c.args.asked.now.stands.now c.args.node) c.args.stand.now c.args.site (state_test c.args.asked.now.v.now c.args.node c.args.site))
    (λ h. ¬ IsFreed c.args.asked.now.freed.now c.args.node c.args.site → LinkBefore c.args.asked.now.rule.now h c.args.asked.now.stands.now (place_of c.args.asked.now.rule.now c.args.asked.now.stands.now c.args.node) c.args.stand.now c.args.site (link_test c.args.asked.now.v.now c.args.node c.args.site))
    c.narrow_state.new.g c.narrow_unfreed.new.g c.narrow_unfreed.result (rw c.if-not-narrow_state.false at c.narrow_state.ensures) c.narrow_unfreed.ensures

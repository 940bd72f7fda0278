use Rattle.std.proofs.Common.{◌≡◌}
use Rattle.kasa_compile.proofs.AskedLemmas.{HasNodeSite-asked, IsAsking-state_asked, MayAsk-asked, IsFurther-site_asked, IsAsked-site_asked, one_site}
use Rattle.kasa_compile.proofs.rule.ask_site.Goals as goal

pub put_state-requires : goal.put_state-requires
put_state-requires c =
    let known = c.requires.known in
    HasNodeSite-asked known.0 c.args.agents.now c.args.left.now known.1.0 c.requires.joined known.1.1 c.args.n c.args.i c.site_said-said.result c.site_said-said.ensures

pub put_link-requires-clause-exists : goal.put_link-requires-clause-exists
put_link-requires-clause-exists c =
    let known = c.requires.known in
    rw c.put_state.ensures (HasNodeSite-asked known.0 c.args.agents.now _ known.1.0 c.requires.joined
    (IsAsking-state_asked known.0 c.args.agents.now c.args.left.now known.1.0 c.requires.joined known.1.1 c.args.n c.args.i c.site_said-said.result c.site_said-said.ensures)
    c.args.n c.args.i c.site_said-said.result c.site_said-said.ensures)

pub put_link-requires-clause-may : goal.put_link-requires-clause-may
put_link-requires-clause-may c =
    let known = c.requires.known in
    rw c.put_state.ensures (MayAsk-asked known.0 c.args.agents.now c.args.left.now known.1.0 c.requires.joined known.1.1 c.args.n c.args.i c.site_said-said.result c.site_said-said.ensures c.asked-test.result c.asked-test.ensures)

pub returns-clause-further : goal.returns-clause-further
returns-clause-further c =
    let known = c.requires.known in
    rw (c.put_link.ensures, c.put_state.ensures) (IsFurther-site_asked known.0 c.args.agents.now c.args.left.now known.1.0 c.requires.joined known.1.1 c.args.n c.args.i c.site_said-said.result c.site_said-said.ensures c.asked-test.result c.asked-test.ensures)

pub returns-clause-asked : goal.returns-clause-asked
returns-clause-asked c = λ s says.
    let known = c.requires.known in
    let same : s ≡ c.site_said-said.result = one_site says c.site_said-said.ensures in
    rw (same, c.put_link.ensures, c.put_state.ensures) (IsAsked-site_asked known.0 c.args.agents.now c.args.left.now known.1.0 c.requires.joined known.1.1 c.args.n c.args.i c.site_said-said.result c.site_said-said.ensures c.asked-test.result c.asked-test.ensures)

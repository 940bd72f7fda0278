use Rattle.std.proofs.Common.{sym, ◌∙◌}
use Rattle.kasa_pre.specs.declared.Stand.TheVariants.{Left, Made}
use Rattle.kasa_pre.proofs.AskedLemmas.{HasStandSite-asked, HasNodeSite-place, known_state, place_of-left}
use Rattle.kasa_pre.proofs.narrow.narrow_state.Goals as goal

pub made_state-requires : goal.made_state-requires
made_state-requires c = HasStandSite-asked c.args.asked.now.sig.now c.args.asked.now.rule.now c.args.asked.now.v.now c.args.asked.now.stands.now c.args.asked.now.places.now c.requires.asked c.args.node c.args.site (Made c.in-Made.k) (rw c.in-Made.is at c.requires.stand) c.requires.exists

pub written_state-requires : goal.written_state-requires
written_state-requires c = HasStandSite-asked c.args.asked.now.sig.now c.args.asked.now.rule.now c.args.asked.now.v.now c.args.asked.now.stands.now c.args.asked.now.places.now c.requires.asked c.args.node c.args.site (Left c.in-Left.n) (rw c.in-Left.is at c.requires.stand) c.requires.exists

pub narrow-requires-clause-exists : goal.narrow-requires-clause-exists
narrow-requires-clause-exists c = HasNodeSite-place c.args.asked.now.sig.now c.args.asked.now.rule.now c.args.asked.now.v.now c.args.asked.now.stands.now c.args.asked.now.places.now c.requires.asked c.args.g.now c.requires.nodes c.args.node c.in-Left.n c.args.site (place_of-left c.args.asked.now.rule.now c.args.asked.now.stands.now c.args.node c.in-Left.n (rw c.in-Left.is at c.requires.stand)) c.requires.exists

pub narrow-requires-clause-known : goal.narrow-requires-clause-known
narrow-requires-clause-known c = known_state c.args.asked.now.sig.now c.args.asked.now.rule.now c.args.asked.now.v.now c.args.asked.now.stands.now c.args.asked.now.places.now c.requires.asked c.args.g.now c.requires.nodes c.args.node c.in-Left.n c.args.site c.state-test.result c.state-test.ensures (place_of-left c.args.asked.now.rule.now c.args.asked.now.stands.now c.args.node c.in-Left.n (rw c.in-Left.is at c.requires.stand)) c.requires.exists

pub narrow-requires-in-Some-place-clause-exists : goal.narrow-requires-in-Some-place-clause-exists
narrow-requires-in-Some-place-clause-exists c = HasNodeSite-place c.args.asked.now.sig.now c.args.asked.now.rule.now c.args.asked.now.v.now c.args.asked.now.stands.now c.args.asked.now.places.now c.requires.asked c.args.g.now c.requires.nodes c.args.node c.in-Some-place.p c.args.site (sym c.place.ensures ∙ c.in-Some-place.is) c.requires.exists

pub narrow-requires-in-Some-place-clause-known : goal.narrow-requires-in-Some-place-clause-known
narrow-requires-in-Some-place-clause-known c = known_state c.args.asked.now.sig.now c.args.asked.now.rule.now c.args.asked.now.v.now c.args.asked.now.stands.now c.args.asked.now.places.now c.requires.asked c.args.g.now c.requires.nodes c.args.node c.in-Some-place.p c.args.site c.state-test.result c.state-test.ensures (sym c.place.ensures ∙ c.in-Some-place.is) c.requires.exists

use Rattle.kasa_graph.proofs.SignatureLemmas.{few_states, no_type_states, no_site, some_site}
use Rattle.kasa_graph.proofs.signature.Signature.states_by_name.Goals as goal

pub returns-in_err-sites-clause-states : goal.returns-in_err-sites-clause-states
returns-in_err-sites-clause-states c = rw (c.from_residual.ensures, ← c.self.view_is, ← c.agent.view_is) (no_type_states _ _ c.args.site c.in_err-sites.ensures.entry)

pub returns-in_err-states-clause-states : goal.returns-in_err-states-clause-states
returns-in_err-states-clause-states c =
    rw (c.from_residual-in_err-states.ensures, ← c.self.view_is, ← c.agent.view_is, ← c.site.view_is)
    (no_site _ _ _ _ c.in_ok-sites.ensures.entry c.in_err-states.ensures.entry)

pub returns-clause-states : goal.returns-clause-states
returns-clause-states c =
    rw (← c.self.view_is, ← c.agent.view_is, ← c.site.view_is) (some_site _ _ _ _ _ c.in_ok-sites.ensures.entry c.in_ok-states.ensures.entry)

pub returns-clause-few : goal.returns-clause-few
returns-clause-few c = few_states _ _ _ _ _ c.self.invariant c.in_ok-sites.ensures.entry c.in_ok-states.ensures.entry

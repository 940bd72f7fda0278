use Rattle.kasa_graph.proofs.SignatureLemmas.{few_sites, no_type, some_type}
use Rattle.kasa_graph.proofs.signature.Signature.sites_by_name.Goals as goal

pub returns-in_err-sites-clause-sites : goal.returns-in_err-sites-clause-sites
returns-in_err-sites-clause-sites c = rw (c.from_residual.ensures, ← c.self.view_is, ← c.agent.view_is) (no_type _ _ c.in_err-sites.ensures.entry)

pub returns-clause-sites : goal.returns-clause-sites
returns-clause-sites c = rw (← c.self.view_is, ← c.agent.view_is) (some_type _ _ _ c.in_ok-sites.ensures.entry)

pub returns-clause-few : goal.returns-clause-few
returns-clause-few c = few_sites _ _ _ c.self.invariant c.in_ok-sites.ensures.entry

use Rattle.std.proofs.Common.{map}
use Rattle.kasa_graph.specs.SignatureView.{site_entry}
use Rattle.kasa_graph.specs.SameNames.{same_site}
use Rattle.kasa_graph.proofs.SameLemmas.{SameBelow}
use Rattle.kasa_graph.proofs.signature.same_sites.Given as goal

abbrev pub invariant-loop-site : goal.invariant-loop-site
invariant-loop-site l = SameBelow same_site (map site_entry l.sites.entries) (map site_entry l.others.entries) l.site

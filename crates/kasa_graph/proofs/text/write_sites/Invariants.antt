use Rattle.kasa_graph.specs.PatternTextParts.{sites_at}
use Rattle.kasa_graph.proofs.TextLemmas.{SitesWritten}
use Rattle.kasa_graph.proofs.text.write_sites.Given as goal

abbrev pub invariant-loop-site : goal.invariant-loop-site
invariant-loop-site l =
    SitesWritten l.sig l.pattern l.node l.agent (sites_at l.pattern l.node) l.site l.initial.out.items l.out.items l.initial.firsts.keys l.firsts.keys l.any

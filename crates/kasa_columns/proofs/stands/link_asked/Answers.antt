use Rattle.kasa_columns.proofs.StandLemmas.{untested}
use Rattle.std.proofs.Common.{sym}
use Rattle.kasa_columns.proofs.stands.link_asked.Goals as goal

pub returns-else-has_node_site : goal.returns-else-has_node_site
returns-else-has_node_site c =
    rw (← c.left.ensures.pattern)
    (sym (untested c.left.result.now c.args.node c.args.here.site (λ has. let yes = c.has_node_site.ensures.1 has in let no = c.if-has_node_site.false in absurd cc)))

use Rattle.std.proofs.Common.{sym, ◌∙◌}
use Rattle.kasa_columns.proofs.StandSites.{link_of_missing}
use Rattle.kasa_columns.proofs.written.link_written.Goals as goal

pub returns-then-not-has_site : goal.returns-then-not-has_site
returns-then-not-has_site c = c.no_link.ensures ∙ sym (link_of_missing c.args.sig.now c.args.rule.now c.requires.over c.args.stand.now c.args.site (λ has. let yes = c.has_site.ensures.1 has in let no = c.if-not-has_site.true in absurd cc))

use Rattle.std.proofs.Common.{sym}
use Rattle.kasa_columns.proofs.StandSites.{state_of_no_site}
use Rattle.kasa_columns.proofs.written.state_written.Goals as goal

pub returns-then-not-has_site : goal.returns-then-not-has_site
returns-then-not-has_site c = sym (state_of_no_site c.args.sig.now c.args.rule.now c.requires.over c.args.stand.now c.args.site (λ has. let yes = c.has_site.ensures.1 has in let no = c.if-not-has_site.true in absurd cc))

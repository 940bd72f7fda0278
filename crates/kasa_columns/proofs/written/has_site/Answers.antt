use Rattle.kasa_columns.proofs.StandSites.{made_sites_of_type}
use Rattle.kasa_columns.proofs.written.has_site.Goals as goal

pub returns-in-Made : goal.returns-in-Made
returns-in-Made c =
    let same = made_sites_of_type c.args.sig.now c.args.rule.now c.requires.over c.in-Made.k c.made_type.result c.args.site c.made_type.ensures in
    rw c.in-Made.is (λ yes. same.0 (c.type_has_site.ensures.0 yes), λ has. c.type_has_site.ensures.1 (same.1 has))

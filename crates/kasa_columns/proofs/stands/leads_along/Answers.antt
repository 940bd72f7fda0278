use Rattle.std.proofs.Common.{◌≡◌, refl, sym, ap, ◌∙◌, length, Some, None}
use Rattle.std.specs.Prelude.{MatchOption, slice_get}
use Rattle.std.proofs.lemmas.Option.{slice_get_read}
use Rattle.kasa_families.specs.declared.shape.NodeSite.{NodeSite}
use Rattle.kasa_families.proofs.ColumnLemmas.{nth_some}
use Rattle.kasa_pre.specs.declared.Stand.{Stand}
use Rattle.kasa_pre.specs.Before.{link_written}
use Rattle.kasa_columns.specs.Along.{WrittenLeads, StandLeads}
use Rattle.kasa_columns.proofs.stands.leads_along.Goals as goal

pub returns-in-Some : goal.returns-in-Some
returns-in-Some c =
    let at : slice_get c.args.stands.now c.args.here.node ≡ Some c.index-stands-here.result = slice_get_read c.args.stands.now (length c.args.stands.now) c.args.here.node c.index-stands-here.result refl c.requires.within (rw (ap (λ (x : NodeSite). x.node) c.here.view_is) at c.index-stands-here.is) in
    let written : link_written c.args.rule.now c.index-stands-here.result c.args.here.site ≡ Some c.in-Some.written = rw (ap (λ (x : NodeSite). x.site) c.here.view_is) at (sym c.link_written.ensures ∙ c.in-Some.is) in
    nth_some c.args.stands.now c.args.here.node (λ (stand : Stand). MatchOption (link_written c.args.rule.now stand c.args.here.site) (StandLeads c.args.rule.now c.args.stands.now c.args.here c.args.there stand) (WrittenLeads c.args.stands.now c.args.there)) c.index-stands-here.result c.written_leads.result at (rw written c.written_leads.ensures)

pub returns-in-None : goal.returns-in-None
returns-in-None c =
    let at : slice_get c.args.stands.now c.args.here.node ≡ Some c.index-stands-here.result = slice_get_read c.args.stands.now (length c.args.stands.now) c.args.here.node c.index-stands-here.result refl c.requires.within (rw (ap (λ (x : NodeSite). x.node) c.here.view_is) at c.index-stands-here.is) in
    let written : link_written c.args.rule.now c.index-stands-here.result c.args.here.site ≡ None = rw (ap (λ (x : NodeSite). x.site) c.here.view_is) at (sym c.link_written.ensures ∙ c.in-None.is) in
    nth_some c.args.stands.now c.args.here.node (λ (stand : Stand). MatchOption (link_written c.args.rule.now stand c.args.here.site) (StandLeads c.args.rule.now c.args.stands.now c.args.here c.args.there stand) (WrittenLeads c.args.stands.now c.args.there)) c.index-stands-here.result c.stand_leads.result at (rw written c.stand_leads.ensures)

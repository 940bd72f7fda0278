-- Side effects on one column: which sites free its test, and the outcomes with one column more.
use Rattle.std.specs.Prelude.{◌≡◌, ℕ, true, List, Option, Some, None}
use Rattle.kasa_graph.specs.Lists.{Has}
use Rattle.kasa_graph.specs.Pattern.{agent_at, HasNodeSite}
use Rattle.kasa_families.specs.declared.row.Local.{Local}
use Rattle.kasa_rules.specs.declared.rule.Written.{Written}
use Rattle.kasa_rules.specs.declared.rule.Written.TheVariants as written
use Rattle.kasa_rules.specs.Rule.{RuleParts, touched}
use Rattle.kasa_pre.specs.declared.Stand.{Stand}
use Rattle.kasa_pre.specs.declared.Stand.TheVariants.{Left, Made, Outside}
use Rattle.kasa_pre.specs.declared.FreedBy.{FreedBy}
use Rattle.kasa_families.specs.declared.shape.NodeSite.{NodeSite}
use Rattle.kasa_columns.specs.Comes.{Outcome, ColumnComes, FreesToo, freed_before}

-- ---- which sites free a test

-- a left node of the type has the site, which is touched
abbrev pub IsTouchedPartner : RuleParts → ℕ → ℕ → ℕ → Type 0
IsTouchedPartner r a y n = (agent_at r.left n ≡ Some a) × HasNodeSite r.left n y × (touched r n y ≡ true)

-- it frees the column's test
abbrev pub IsTouchedFor : RuleParts → NodeSite → ℕ → ℕ → FreedBy → Type 0
IsTouchedFor r c a y f = (f.node ≡ c.node) × (f.site ≡ c.site) × (f.«at» ≡ y) × IsTouchedPartner r a y f.from

-- ---- one column more

-- one of the sources frees the column, and none of those that the outcome has
abbrev pub FreesBefore : Local → List FreedBy → Outcome → Outcome → Type 0
FreesBefore l sources rest out = (f : FreedBy) × Has sources f × ¬ FreesToo rest.freed f × (out ≡ freed_before l f rest)

-- an outcome of the rest, with one column more
abbrev pub ComesBefore : RuleParts → Stand → NodeSite → Local → List Outcome → Outcome → Type 0
ComesBefore r stand c l outs out = (rest : Outcome) × Has outs rest × ColumnComes r c l rest out stand

-- the link of a site that doesn't exist, which is free at a created agent
abbrev pub link_of_no_site : Stand → Option Written
link_of_no_site (Left n) = None
link_of_no_site (Made k) = Some written.Free
link_of_no_site Outside = None

-- What the columns of a root show after a rule fired, by what they showed before.
use Rattle.std.specs.Prelude.{◌≡◌, ℕ, ◌⊎◌, true, List, [], ◌∷◌, Option, Some, None}
use Rattle.kasa_graph.specs.Lists.{Has}
use Rattle.kasa_graph.specs.Pattern.{agent_at, HasNodeSite}
use Rattle.kasa_families.specs.declared.row.LocalLink.{LocalLink}
use Rattle.kasa_families.specs.declared.row.LocalLink.TheVariants.{Free, Partner}
use Rattle.kasa_families.specs.declared.row.Local.{Local}
use Rattle.kasa_families.specs.declared.shape.NodeSite.{NodeSite}
use Rattle.kasa_families.specs.Shape.{Nth}
use Rattle.kasa_rules.specs.declared.rule.Written.{Written}
use Rattle.kasa_rules.specs.declared.rule.Written.TheVariants as written
use Rattle.kasa_rules.specs.Rule.{RuleParts, end_type, touched}
use Rattle.kasa_pre.specs.declared.Stand.{Stand}
use Rattle.kasa_pre.specs.declared.FreedBy.{FreedBy}
use Rattle.kasa_pre.specs.Before.{state_written, link_written}

-- ---- a site

-- what a site shows with a partner of the type of an end, where the end has one
abbrev pub partner_of : Option ℕ → ℕ → LocalLink
partner_of (Some b) y = Partner b y
partner_of None y = Free

abbrev pub link_shown : RuleParts → Written → LocalLink
link_shown r written.Free = Free
link_shown r (written.To e y) = partner_of (end_type r e) y

abbrev pub state_after : Option ℕ → Option ℕ → Option ℕ
state_after (Some u) state = Some u
state_after None state = state

abbrev pub link_after : RuleParts → Option Written → LocalLink → LocalLink
link_after r (Some w) link = link_shown r w
link_after r None link = link

-- the site shows what the rule writes there, and else what it showed
abbrev pub local_after : RuleParts → Stand → ℕ → Local → Local
local_after r stand s l = record { state = state_after (state_written r stand s) l.state; link = link_after r (link_written r stand s) l.link }

-- the same, but its partner is gone
abbrev pub local_freed : RuleParts → Stand → ℕ → Local → Local
local_freed r stand s l = record { state = state_after (state_written r stand s) l.state; link = Free }

-- the rule doesn't write the column's site, and touches a left site that the partner may be
pub record IsSource (r : RuleParts) (stand : Stand) (c : NodeSite) (l : Local) (f : FreedBy) : Type 0 where
  pub node : f.node ≡ c.node
  pub site : f.site ≡ c.site
  pub unwritten : link_written r stand c.site ≡ None
  pub exists : HasNodeSite r.left f.from f.«at»
  pub by_touched : touched r f.from f.«at» ≡ true
  pub agent : ℕ
  pub typed : agent_at r.left f.from ≡ Some agent
  pub partner : l.link ≡ Partner agent f.«at»

-- ---- all columns

-- what the columns show afterwards, and the tests among these that the side effect made true
pub record Outcome : Type 0 where
  pub locals : List Local
  pub freed : List FreedBy

-- one column more, which stays or is written, or is freed
abbrev pub kept_before : Local → Outcome → Outcome
kept_before l rest = record { locals = l ∷ rest.locals; freed = rest.freed }

abbrev pub freed_before : Local → FreedBy → Outcome → Outcome
freed_before l f rest = record { locals = l ∷ rest.locals; freed = f ∷ rest.freed }

-- the same site frees one of the tests
abbrev pub FreesToo : List FreedBy → FreedBy → Type 0
FreesToo freed f = (g : FreedBy) × Has freed g × (g.from ≡ f.from) × (g.«at» ≡ f.«at»)

-- the column stays or is written, or is freed by a source that frees none of the rest
abbrev pub ColumnComes : RuleParts → NodeSite → Local → Outcome → Outcome → Stand → Type 0
ColumnComes r c l rest out stand =
    (out ≡ kept_before (local_after r stand c.site l) rest) ⊎ ((f : FreedBy) × IsSource r stand c l f × ¬ FreesToo rest.freed f × (out ≡ freed_before (local_freed r stand c.site l) f rest))

-- nodes with the stands can come out so, whose columns showed these local states
abbrev pub ComesOut : RuleParts → List Stand → List NodeSite → List Local → Outcome → Type 0
ComesOut r stands [] [] out = out ≡ record { locals = []; freed = [] }
ComesOut r stands (c ∷ columns) (l ∷ locals) out =
    (rest : Outcome) × ComesOut r stands columns locals rest × Nth stands c.node (ColumnComes r c l rest out)
ComesOut r stands _ _ out = ⊥

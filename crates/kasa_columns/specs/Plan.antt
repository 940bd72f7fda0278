-- What depends on a rule, the columns of a family and stands alone: worked out once before a walk over stored rows.
use Rattle.std.specs.Prelude.{◌≡◌, ℕ, List, [], None, Some, Option, option_map, slice_get}
use Rattle.std.specs.Bool.{OnTrue}
use Rattle.std.specs.List.{AllZip}
use Rattle.kasa_graph.specs.Lists.{Has}
use Rattle.kasa_graph.specs.Pattern.{link_test, StatesAgree, LinksAgree}
use Rattle.kasa_families.specs.declared.row.LocalLink.{LocalLink}
use Rattle.kasa_families.specs.declared.row.LocalLink.TheVariants.{Partner}
use Rattle.kasa_families.specs.declared.row.Local.{Local}
use Rattle.kasa_families.specs.declared.shape.NodeSite.{NodeSite}
use Rattle.kasa_families.specs.Local.{local_state_test, local_link_test}
use Rattle.kasa_families.specs.Shape.{Nth}
use Rattle.kasa_rules.specs.Rule.{RuleParts}
use Rattle.kasa_pre.specs.declared.Stand.{Stand}
use Rattle.kasa_pre.specs.Before.{state_written, link_written}
use Rattle.kasa_pre.specs.Acts.{LeavesOpen}
use Rattle.kasa_columns.specs.declared.plan.Effect.{Effect}
use Rattle.kasa_columns.specs.declared.plan.Asked.{Asked}
use Rattle.kasa_columns.specs.declared.plan.Plan.{Plan}
use Rattle.kasa_columns.specs.Comes.{link_shown, state_after}
use Rattle.kasa_columns.specs.Outcomes.{IsTouchedPartner}
use Rattle.kasa_columns.specs.Forward.{StandAgrees}
use Rattle.kasa_columns.specs.Along.{LeavesColumns}

-- ---- what is written

-- what the rule writes at a site of a node with the stand
pub record IsEffect (r : RuleParts) (s : ℕ) (e : Effect) (stand : Stand) : Type 0 where
  pub state : e.state ≡ state_written r stand s
  pub link : e.link ≡ option_map (link_shown r) (link_written r stand s)

-- at each column
abbrev pub AreEffects : RuleParts → List Stand → List NodeSite → List Effect → Type 0
AreEffects r stands columns effects = AllZip (λ c e. Nth stands c.node (IsEffect r c.site e)) columns effects

abbrev pub shown_or : Option LocalLink → LocalLink → LocalLink
shown_or (Some w) link = w
shown_or None link = link

-- a site's local state afterwards
abbrev pub after : Effect → Local → Local
after e l = record { state = state_after e.state l.state; link = shown_or e.link l.link }

-- so it is at each column
abbrev pub AreAfter : List Effect → List Local → List Local → Type 0
AreAfter effects shown kept = (k : ℕ) (e : Effect) (l : Local) → slice_get effects k ≡ Some e → slice_get shown k ≡ Some l → slice_get kept k ≡ Some (after e l)

-- nothing is written at a column
abbrev pub IsNoEffect : Effect → Type 0
IsNoEffect e = (e.state ≡ None) × (e.link ≡ None)

-- ---- what is asked

-- a local state doesn't contradict what is asked
abbrev pub MeetsAsked : Asked → Local → Type 0
MeetsAsked q l = StatesAgree q.state (local_state_test l.state) × LinksAgree [] q.link (local_link_test l.link)

-- what doesn't contradict the left pattern at the column meets it
abbrev pub IsAskedAt : RuleParts → List Stand → List NodeSite → Asked → Type 0
IsAskedAt r stands columns q = (c : NodeSite) × (slice_get columns q.column ≡ Some c) × Nth stands c.node (λ stand. (l : Local) → StandAgrees r c.site l stand → MeetsAsked q l)

-- some column's local state contradicts what is asked there
abbrev pub IsUnmet : List Asked → List Local → Type 0
IsUnmet asked shown = (q : Asked) × (l : Local) × Has asked q × (slice_get shown q.column ≡ Some l) × ¬ MeetsAsked q l

-- ---- what side effects free

-- the links of all partners that a side effect of the rule can take away: at touched sites whose test leaves the partner open
abbrev pub AreFreeing : RuleParts → List LocalLink → Type 0
AreFreeing r links = (n a y : ℕ) → IsTouchedPartner r a y n → LeavesOpen (link_test r.left n y) → Has links (Partner a y)

-- none of the columns where no link is written has such a link
abbrev pub HasNoFreeing : List LocalLink → List Effect → List Local → Type 0
HasNoFreeing links effects shown = (k : ℕ) (e : Effect) (l : Local) → slice_get effects k ≡ Some e → slice_get shown k ≡ Some l → e.link ≡ None → ¬ Has links l.link

-- ---- all of it

pub record IsPlan (r : RuleParts) (stands : List Stand) (columns : List NodeSite) (plan : Plan) : Type 0 where
  pub asked : (q : Asked) → Has plan.asked.items q → IsAskedAt r stands columns q
  pub effects : AreEffects r stands columns plan.effects.items
  pub idle : OnTrue plan.is_idle (LeavesColumns r columns stands)

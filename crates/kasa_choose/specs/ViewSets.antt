-- What the steps of the plan of views say: sets of sites, and views as families.
use Rattle.std.specs.Prelude.{◌≡◌, ◌≢◌, ℕ, List, [], map, Vec}
use Rattle.std.specs.Global.{Global}
use Rattle.kasa_graph.specs.Lists.{Has}
use Rattle.kasa_rules.specs.declared.model.Model.{Model}
use Rattle.kasa_rules.specs.Rule.{RuleParts}
use Rattle.kasa_families.specs.declared.family.Family.{Family}
use Rattle.kasa_families.specs.declared.family.Family.TheVariants.{View}
use Rattle.kasa_choose.specs.ViewPlan.{Mentions, IsLeftNode, IsListOf, IsPart, IsWithin, IsViewOf}

-- the 16 least sites, or the others, where there are some
abbrev pub IsSomePart : List ℕ → List ℕ → Type 0
IsSomePart whole sites = IsPart whole sites × (sites ≢ [])

-- such a part of the sites that one left node of this type mentions
abbrev pub IsPartOfRule : RuleParts → ℕ → List ℕ → Type 0
IsPartOfRule r a sites = (n : ℕ) × (whole : List ℕ) × IsLeftNode r n a × IsListOf (Mentions r n) whole × IsSomePart whole sites

abbrev pub IsMentionedPart : Model → ℕ → List ℕ → Type 0
IsMentionedPart model a sites = (r : RuleParts) × Has model.rules r × IsPartOfRule r a sites

-- some of the sets has the site
abbrev pub IsInSome : List (List ℕ) → ℕ → Type 0
IsInSome sets s = (sites : List ℕ) × Has sets sites × Has sites s

-- no part of a larger one
abbrev pub IsInNoLarger : List (List ℕ) → List ℕ → Type 0
IsInNoLarger sets sites = (others : List ℕ) → Has sets others → IsWithin sites others → IsWithin others sites

-- the family is a view of this type
abbrev pub IsViewFamily : Model → ℕ → Family → Type 0
IsViewFamily model a f = (sites : List ℕ) × (f ≡ View a sites) × IsViewOf model a sites

-- a list of sites
abbrev pub site_list : Vec ℕ Global → List ℕ
site_list sites = sites.items

abbrev pub site_lists : List (Vec ℕ Global) → List (List ℕ)
site_lists sets = map site_list sets

-- a type with sites of it, as a family
abbrev pub view_family : ℕ × Vec ℕ Global → Family
view_family view = View view.0 view.1.items

abbrev pub view_families : List (ℕ × Vec ℕ Global) → List Family
view_families views = map view_family views

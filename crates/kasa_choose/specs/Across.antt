-- The plan of families across a bond: the sites that a rule mentions at both ends of a bond on its left.
use Rattle.std.specs.Prelude.{ℕ, Bool, not, ◌&&◌, cond, List, [], ◌∷◌, length, map, Option, Some, None, nat_eq}
use Rattle.std.specs.List.{filter, flat_map}
use Rattle.kasa_graph.specs.declared.pattern.LinkTest.{LinkTest}
use Rattle.kasa_graph.specs.declared.pattern.LinkTest.TheVariants.{To}
use Rattle.kasa_graph.specs.Signature.{TypeEntry, state_counts}
use Rattle.kasa_graph.specs.Pattern.{agent_at, link_test}
use Rattle.kasa_rules.specs.declared.model.Model.{Model}
use Rattle.kasa_rules.specs.Rule.{RuleParts}
use Rattle.kasa_families.specs.declared.family.Family.{Family}
use Rattle.kasa_families.specs.declared.family.Family.TheVariants.{Across}
use Rattle.kasa_choose.specs.Kept.{each_once}
use Rattle.kasa_choose.specs.Views.{numbers, mentions, precedes}

abbrev pub or_zero : Option ℕ → ℕ
or_zero None = 0
or_zero (Some a) = a

-- the type of a left node; 0 where there is no such node
abbrev pub type_of : RuleParts → ℕ → ℕ
type_of r n = or_zero (agent_at r.left n)

-- the sites of left node n
abbrev pub sites_of_node : List TypeEntry → RuleParts → ℕ → List ℕ
sites_of_node sig r n = numbers (length (state_counts sig (type_of r n)))

-- p is another site than x, and left node n mentions it
abbrev pub is_further : RuleParts → ℕ → ℕ → ℕ → Bool
is_further r n x p = not (nat_eq p x) && mentions r n p

-- the sites that left node n mentions, but for x
abbrev pub further_sites : List TypeEntry → RuleParts → ℕ → ℕ → List ℕ
further_sites sig r n x = filter (is_further r n x) (sites_of_node sig r n)

-- the family over a bond of which each end is a type, the bond's site and a further site; the lesser end stands first
abbrev pub across : ℕ → ℕ → ℕ → ℕ → ℕ → ℕ → Family
across a x p b y q = cond (precedes (b ∷ y ∷ q ∷ []) (a ∷ x ∷ p ∷ [])) (Across b y q a x p) (Across a x p b y q)

-- the families over the bond from site x of left node n to site y of left node m
abbrev pub over_bond : List TypeEntry → RuleParts → ℕ → ℕ → ℕ → ℕ → List Family
over_bond sig r n x m y =
    flat_map (λ p. map (across (type_of r n) x p (type_of r m) y) (further_sites sig r m y)) (further_sites sig r n x)

-- those over a link test at site x of left node n; a bond from a node to itself has none
abbrev pub over_test : List TypeEntry → RuleParts → ℕ → ℕ → LinkTest → List Family
over_test sig r n x (To m y) = cond (nat_eq m n) [] (over_bond sig r n x m y)
over_test sig r n x _ = []

abbrev pub over_node : List TypeEntry → RuleParts → ℕ → List Family
over_node sig r n = flat_map (λ x. over_test sig r n x (link_test r.left n x)) (sites_of_node sig r n)

abbrev pub over_rule : List TypeEntry → RuleParts → List Family
over_rule sig r = flat_map (over_node sig r) (numbers (length r.left))

-- rule by rule, node by node, site by site; each family once
abbrev pub across_plan : Model → List Family
across_plan model = each_once (flat_map (over_rule model.sig) model.rules)

-- The plan of chains: the sites that a rule mentions at the outer nodes of two bonds of one node on its left.
use Rattle.std.specs.Prelude.{ℕ, Bool, not, ◌&&◌, cond, List, [], length, map, nat_eq, nat_lt}
use Rattle.std.specs.List.{flat_map}
use Rattle.kasa_graph.specs.declared.pattern.LinkTest.{LinkTest}
use Rattle.kasa_graph.specs.declared.pattern.LinkTest.TheVariants.{To}
use Rattle.kasa_graph.specs.Signature.{TypeEntry}
use Rattle.kasa_graph.specs.Pattern.{link_test}
use Rattle.kasa_rules.specs.declared.model.Model.{Model}
use Rattle.kasa_rules.specs.Rule.{RuleParts}
use Rattle.kasa_families.specs.declared.family.Family.{Family}
use Rattle.kasa_families.specs.declared.family.Family.TheVariants.{Chain}
use Rattle.kasa_choose.specs.Kept.{each_once}
use Rattle.kasa_choose.specs.Views.{numbers}
use Rattle.kasa_choose.specs.Across.{type_of, sites_of_node, further_sites}

-- the chains over the bonds from site y of left node n to site x of left node m, and from site z of n to site w of left node k
abbrev pub over_bonds : List TypeEntry → RuleParts → ℕ → ℕ → ℕ → ℕ → ℕ → ℕ → ℕ → List Family
over_bonds sig r m x n y z k w =
    flat_map (λ p. map (Chain (type_of r m) x p (type_of r n) y z (type_of r k) w) (further_sites sig r k w)) (further_sites sig r m x)

-- the first site is less than the second, and the three nodes are different
abbrev pub is_chain : ℕ → ℕ → ℕ → ℕ → ℕ → Bool
is_chain m n y z k = nat_lt y z && not (nat_eq m n) && not (nat_eq k n) && not (nat_eq m k)

-- those over a bond at y and a link test at z
abbrev pub over_second : List TypeEntry → RuleParts → ℕ → ℕ → ℕ → ℕ → ℕ → LinkTest → List Family
over_second sig r m x n y z (To k w) = cond (is_chain m n y z k) (over_bonds sig r m x n y z k w) []
over_second sig r m x n y z _ = []

-- those over a link test at y
abbrev pub over_first : List TypeEntry → RuleParts → ℕ → ℕ → LinkTest → List Family
over_first sig r n y (To m x) = flat_map (λ z. over_second sig r m x n y z (link_test r.left n z)) (sites_of_node sig r n)
over_first sig r n y _ = []

abbrev pub chains_of_node : List TypeEntry → RuleParts → ℕ → List Family
chains_of_node sig r n = flat_map (λ y. over_first sig r n y (link_test r.left n y)) (sites_of_node sig r n)

abbrev pub chains_of_rule : List TypeEntry → RuleParts → List Family
chains_of_rule sig r = flat_map (chains_of_node sig r) (numbers (length r.left))

-- rule by rule, node by node, two sites by two sites; each family once
abbrev pub chain_plan : Model → List Family
chain_plan model = each_once (flat_map (chains_of_rule model.sig) model.rules)

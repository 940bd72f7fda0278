-- The plan of parallel families: two possible bonds of one type to another type.
use Rattle.std.specs.Prelude.{ℕ, Bool, false, not, ◌||◌, ◌&&◌, cond, List, [], ◌∷◌, ◌++◌, length, map, Option, Some, None, nat_eq, nat_lt}
use Rattle.std.specs.List.{filter, flat_map, list_any}
use Rattle.kasa_graph.specs.declared.mixture.Agent.{Agent}
use Rattle.kasa_graph.specs.Mixture.{type_in, partner_in}
use Rattle.kasa_graph.specs.Signature.{state_counts}
use Rattle.kasa_rules.specs.declared.model.Model.{Model}
use Rattle.kasa_rules.specs.declared.rule.End.{End}
use Rattle.kasa_rules.specs.declared.rule.End.TheVariants.{Left, Made}
use Rattle.kasa_rules.specs.declared.rule.Written.{Written}
use Rattle.kasa_rules.specs.declared.rule.Written.TheVariants.{To}
use Rattle.kasa_rules.specs.Rule.{RuleParts, end_type, end_link}
use Rattle.kasa_families.specs.declared.family.Family.{Family}
use Rattle.kasa_families.specs.declared.family.Family.TheVariants.{Parallel}
use Rattle.kasa_choose.specs.Kept.{each_once}
use Rattle.kasa_choose.specs.Views.{numbers, is_type, sites_of_type}

-- ---- which bonds are possible

-- the partner of a site is site y of an agent of type b
abbrev pub leads_to : List (Option Agent) → ℕ → ℕ → Option (ℕ × ℕ) → Bool
leads_to m b y None = false
leads_to m b y (Some (d, t)) = nat_eq t y && is_type b (type_in m d)

-- a mixture has a bond from site x of type a to site y of type b
abbrev pub has_bond : ℕ → ℕ → ℕ → ℕ → List (Option Agent) → Bool
has_bond a x b y m = list_any (λ c. is_type a (type_in m c) && leads_to m b y (partner_in m c x)) (numbers (length m))

-- what is written at a site leads to site y of an agent of type b
abbrev pub writes_to : RuleParts → ℕ → ℕ → Option Written → Bool
writes_to r b y (Some (To e t)) = nat_eq t y && is_type b (end_type r e)
writes_to r b y _ = false

-- the left nodes of a rule, and the agents that it creates
abbrev pub ends_of : RuleParts → List End
ends_of r = map Left (numbers (length r.left)) ++ map Made (numbers (length r.made))

-- a rule writes or creates a bond from site x of type a to site y of type b
abbrev pub writes_bond : ℕ → ℕ → ℕ → ℕ → RuleParts → Bool
writes_bond a x b y r = list_any (λ e. is_type a (end_type r e) && writes_to r b y (end_link r e x)) (ends_of r)

-- a declared complex has the bond, or some rule writes or creates it
abbrev pub is_possible : Model → ℕ → ℕ → ℕ → ℕ → Bool
is_possible model a x b y = list_any (has_bond a x b y) model.inits || list_any (writes_bond a x b y) model.rules

-- the types, each with a site of it, to which a bond from site x of type a is possible
abbrev pub partners_at : Model → ℕ → ℕ → ℕ → List (ℕ × ℕ)
partners_at model a x b = map (λ y. (b, y)) (filter (is_possible model a x b) (sites_of_type model b))

abbrev pub partners : Model → ℕ → ℕ → List (ℕ × ℕ)
partners model a x = flat_map (partners_at model a x) (numbers (length model.sig))

-- ---- the plan

-- bonds from sites x and u of type a to two sites of one other type
abbrev pub two_bonds : ℕ → ℕ → ℕ → ℕ × ℕ → ℕ × ℕ → List Family
two_bonds a x u (b, y) (c, w) = cond (nat_eq b c && not (nat_eq y w) && not (nat_eq a b)) (Parallel a x u b y w ∷ []) []

-- all such of two sites, the first of which is less, where it is known which partners each site has
abbrev pub over_sites : (ℕ → List (ℕ × ℕ)) → ℕ → ℕ → ℕ → List Family
over_sites partners_of a x u = cond (nat_lt x u) (flat_map (λ first. flat_map (two_bonds a x u first) (partners_of u)) (partners_of x)) []

-- of one site, and of all, where the type has so many
abbrev pub over_site : (ℕ → List (ℕ × ℕ)) → ℕ → ℕ → ℕ → List Family
over_site partners_of a count x = flat_map (over_sites partners_of a x) (numbers count)

abbrev pub over_type : (ℕ → List (ℕ × ℕ)) → ℕ → ℕ → List Family
over_type partners_of a count = flat_map (over_site partners_of a count) (numbers count)

-- type by type, two sites by two sites, partner by partner
abbrev pub parallel_plan : Model → List Family
parallel_plan model = each_once (flat_map (λ a. over_type (partners model a) a (length (state_counts model.sig a))) (numbers (length model.sig)))

-- The plan of views: which sites of a type are looked at together. They are the covering classes of KaSa.
use Rattle.std.specs.Prelude.{ℕ, Bool, true, false, not, ◌||◌, ◌&&◌, List, [], ◌∷◌, ◌++◌, length, map, take, drop, cond, Option, Some, None, is_some, nat_eq, nat_lt}
use Rattle.std.specs.List.{filter, flat_map, list_any, list_all, range_with_len}
use Rattle.kasa_graph.specs.declared.pattern.StateTest.{StateTest}
use Rattle.kasa_graph.specs.declared.pattern.StateTest.TheVariants as state
use Rattle.kasa_graph.specs.declared.pattern.LinkTest.{LinkTest}
use Rattle.kasa_graph.specs.declared.pattern.LinkTest.TheVariants as link
use Rattle.kasa_graph.specs.Signature.{state_counts}
use Rattle.kasa_graph.specs.Pattern.{agent_at, state_test, link_test}
use Rattle.kasa_rules.specs.declared.model.Model.{Model}
use Rattle.kasa_rules.specs.Rule.{RuleParts, written_state, written_link}
use Rattle.kasa_families.specs.declared.family.Family.{Family}
use Rattle.kasa_families.specs.declared.family.Family.TheVariants.{View}

-- the numbers from 0, so many
abbrev pub numbers : ℕ → List ℕ
numbers n = range_with_len 0 n

-- ---- which sites a rule speaks of

-- the test asks for something
abbrev pub asks_state : StateTest → Bool
asks_state state.Any = false
asks_state _ = true

abbrev pub asks_link : LinkTest → Bool
asks_link link.Any = false
asks_link _ = true

-- the rule tests or writes the state or the link at this site of its left node n
abbrev pub mentions : RuleParts → ℕ → ℕ → Bool
mentions r n s =
    asks_state (state_test r.left n s)
    || asks_link (link_test r.left n s)
    || is_some (written_state r n s)
    || is_some (written_link r n s)

abbrev pub is_type : ℕ → Option ℕ → Bool
is_type a None = false
is_type a (Some b) = nat_eq b a

-- n is a left node of the rule, and has this type
abbrev pub has_type : RuleParts → ℕ → ℕ → Bool
has_type r a n = is_type a (agent_at r.left n)

-- ---- the sets of sites of a type

-- the sites of the type
abbrev pub sites_of_type : Model → ℕ → List ℕ
sites_of_type model a = numbers (length (state_counts model.sig a))

-- those that this left node of the rule mentions
abbrev pub mentioned_sites : Model → ℕ → RuleParts → ℕ → List ℕ
mentioned_sites model a r n = filter (mentions r n) (sites_of_type model a)

-- a set for each left node of this type
abbrev pub sets_of_rule : Model → ℕ → RuleParts → List (List ℕ)
sets_of_rule model a r = map (mentioned_sites model a r) (filter (has_type r a) (numbers (length r.left)))

abbrev pub mentioned_sets : Model → ℕ → List (List ℕ)
mentioned_sets model a = flat_map (sets_of_rule model a) model.rules

abbrev pub has : List ℕ → ℕ → Bool
has sites s = list_any (nat_eq s) sites

-- the sites that no left node mentions
abbrev pub unmentioned_sites : Model → ℕ → List ℕ
unmentioned_sites model a = filter (λ s. not (list_any (λ set. has set s) (mentioned_sets model a))) (sites_of_type model a)

abbrev pub is_some_set : List ℕ → Bool
is_some_set [] = false
is_some_set (s ∷ sites) = true

-- the 16 least sites and the others, but no empty set
abbrev pub parts : List ℕ → List (List ℕ)
parts whole = filter is_some_set (take 16 whole ∷ drop 16 whole ∷ [])

abbrev pub site_sets : Model → ℕ → List (List ℕ)
site_sets model a = flat_map parts (mentioned_sets model a ++ unmentioned_sites model a ∷ [])

-- ---- the largest of them, in order

-- each site of the first is one of the second
abbrev pub is_within : List ℕ → List ℕ → Bool
is_within sites others = list_all (has others) sites

-- no part of a larger one
abbrev pub is_largest : List (List ℕ) → List ℕ → Bool
is_largest sets sites = list_all (λ others. not (is_within sites others) || is_within others sites) sets

-- the first list is a prefix of the second, or smaller where they differ first
abbrev pub precedes : List ℕ → List ℕ → Bool
precedes [] [] = false
precedes [] (y ∷ ys) = true
precedes (x ∷ xs) [] = false
precedes (x ∷ xs) (y ∷ ys) = nat_lt x y || (nat_eq x y && precedes xs ys)

-- a set among others in order, in its place, where it isn't there yet
abbrev pub put : List ℕ → List (List ℕ) → List (List ℕ)
put sites [] = sites ∷ []
put sites (others ∷ sets) =
    cond (precedes sites others) (sites ∷ others ∷ sets) (others ∷ cond (precedes others sites) (put sites sets) sets)

abbrev pub in_order : List (List ℕ) → List (List ℕ)
in_order [] = []
in_order (sites ∷ sets) = put sites (in_order sets)

-- ---- the plan

-- the views of a type; a type without sites has one view, without sites
abbrev pub view_sets : Model → ℕ → List (List ℕ)
view_sets model a =
    cond (is_some_set (state_counts model.sig a)) (in_order (filter (is_largest (site_sets model a)) (site_sets model a))) ([] ∷ [])

-- by type, and then by sites
abbrev pub all_views : Model → List Family
all_views model = flat_map (λ a. map (View a) (view_sets model a)) (numbers (length model.sig))

-- cut after its 8,001st family, which is one too many
abbrev pub view_plan : Model → List Family
view_plan model = take 8001 (all_views model)

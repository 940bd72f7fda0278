-- The search for arrows.
use Rattle.std.specs.Prelude.{◌≡◌, ℕ, ◌↔◌, ◌⊎◌, List, Some, slice_get}
use Rattle.kasa_graph.specs.declared.pattern.Node.{Node}
use Rattle.kasa_graph.specs.Lists.{Has}
use Rattle.kasa_rules.specs.declared.model.Model.{Model}
use Rattle.kasa_rules.specs.Rule.{RuleParts}
use Rattle.kasa_influence.specs.declared.lone.Lone.{Lone}
use Rattle.kasa_graph.specs.Pattern.{state_test, link_test, with_state, with_link}
use Rattle.kasa_influence.specs.Alone.{alone, unnamed}
use Rattle.kasa_families.specs.Table.{Table}
use Rattle.kasa_influence.specs.declared.map.Arrow.{Arrow}
use Rattle.kasa_influence.specs.Arrows.{IsGain, IsLoss}
use Rattle.kasa_influence.specs.inner.Ask.{Asked}
use Rattle.kasa_influence.specs.inner.Makes.{MayMake}
use Rattle.kasa_influence.specs.inner.Stops.{Aimed, MayStop}

-- a left node of the rule of this number, by itself
abbrev pub IsLoneOf : RuleParts → ℕ → Lone → Type 0
IsLoneOf r k l = (l.rule ≡ k) × ((node : Node) × (slice_get r.left l.node ≡ Some node) × (l.pattern ≡ alone r.left node))

-- a left node of a rule of the model, by itself
abbrev pub IsLone : Model → Lone → Type 0
IsLone model l = (r : RuleParts) × (slice_get model.rules l.rule ≡ Some r) × IsLoneOf r l.rule l

-- the new list has what the old one has, and what has the property
abbrev pub Adds : {X : Type 0} → (X → Type 0) → List X → List X → Type 0
Adds {X} P old new = (x : X) → Has new x ↔ (Has old x ⊎ P x)

-- the arrows of the rule of a number
abbrev pub IsGainFrom : Model → List Table → ℕ → Arrow → Type 0
IsGainFrom model tables k arrow = (arrow.from ≡ k) × IsGain model tables arrow

abbrev pub IsLossFrom : Model → List Table → ℕ → Arrow → Type 0
IsLossFrom model tables k arrow = (arrow.from ≡ k) × IsLoss model tables arrow

-- a left node as what a rule may stop
abbrev pub target_of : List Node → Lone → Aimed
target_of left l = record { left = left; node = l.node; alone = l.pattern }

-- the arrow to the rule of a node, and those to the rules of some
abbrev pub IsGainOf : Asked → ℕ → Lone → Arrow → Type 0
IsGainOf a k l arrow = (arrow ≡ record { from = k; to = l.rule }) × MayMake a l.pattern

abbrev pub IsLossOf : Asked → List Node → ℕ → Lone → Arrow → Type 0
IsLossOf a left k l arrow = (arrow ≡ record { from = k; to = l.rule }) × MayStop a (target_of left l)

abbrev pub IsLossTo : Asked → Model → ℕ → Lone → Arrow → Type 0
IsLossTo a model k l arrow = (r : RuleParts) × (slice_get model.rules l.rule ≡ Some r) × IsLossOf a r.left k l arrow

abbrev pub IsGainAmong : Asked → ℕ → List Lone → Arrow → Type 0
IsGainAmong a k ls arrow = (l : Lone) × Has ls l × IsGainOf a k l arrow

abbrev pub IsLossAmong : Asked → Model → ℕ → List Lone → Arrow → Type 0
IsLossAmong a model k ls arrow = (l : Lone) × Has ls l × IsLossTo a model k l arrow

-- v whose first node has the tests of a node of g at a site
abbrev pub copied : List Node → ℕ → ℕ → List Node → List Node
copied g n s v = with_link (with_state v 0 s (state_test g n s)) 0 s (unnamed g (link_test g n s))

-- The agents of a side of a rule, and the labels that don't stand exactly twice on a side.
use Rattle.std.specs.Prelude.{ℕ, List, [], ◌∷◌, Option, Some, option_map, slice_get, count_by, ◌==◌, if◌then◌else◌}
use Rattle.std.specs.List.{filter, flat_map}
use Rattle.kasa_syntax.specs.declared.agents.LinkWord.{LinkWord}
use Rattle.kasa_syntax.specs.declared.agents.LinkWord.TheVariants.{Label as label}
use Rattle.kasa_syntax.specs.declared.agents.AgentText.{AgentText}
use Rattle.kasa_syntax.specs.declared.decls.Item.{Item}
use Rattle.kasa_syntax.specs.declared.decls.Item.TheVariants.{Absent, Agent}
use Rattle.kasa_syntax.specs.declared.decls.Form.{Form}
use Rattle.kasa_compile.specs.declared.resolved.Side.{Side}
use Rattle.kasa_compile.specs.declared.label_counts.Label.{Label}
use Rattle.kasa_compile.specs.Said.{link_word, items_on, stands_on}

-- ---- agents

-- the agents among items, and those of them that stand on a side
abbrev pub agents_in : Item → List AgentText
agents_in Absent = []
agents_in (Agent a) = a ∷ []

abbrev pub agents_of : List Item → List AgentText
agents_of items = flat_map agents_in items

abbrev pub standing_in : Side → Item → List AgentText
standing_in side item = filter (λ a. stands_on side a.mark) (agents_in item)

abbrev pub standing : Side → List Item → List AgentText
standing side items = flat_map (standing_in side) items

abbrev pub agents_on : Side → Form → List AgentText
agents_on side form = standing side (items_on side form)

-- the offset of the agent behind the first so many
abbrev pub behind : ℕ → List AgentText → Option ℕ
behind most agents = option_map (λ a. a.name.start) (slice_get agents most)

-- ---- labels

-- the labels of agents on a side, with their offsets
abbrev pub label_in : Option LinkWord → List Label
label_in (Some (label number span)) = record { number = number; «at» = span.start } ∷ []
label_in _ = []

abbrev pub labels_in : Side → AgentText → List Label
labels_in side a = flat_map (λ s. label_in (link_word side s)) a.sites

unfoldable pub labels_on : Side → List AgentText → List Label
labels_on side agents = flat_map (labels_in side) agents

-- the offset of a label that doesn't stand exactly twice among some
abbrev pub if_odd : List Label → Label → List ℕ
if_odd labels l = if count_by (λ (m : Label). m.number == l.number) labels == 2 then [] else l.«at» ∷ []

unfoldable pub odd_labels : List Label → List ℕ
odd_labels labels = flat_map (if_odd labels) labels

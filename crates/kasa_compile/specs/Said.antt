-- What agents of a text say on one side, in the numbers of a signature.
use Rattle.std.specs.Prelude.{ℕ, Bool, true, false, ◌||◌, List, [], ◌∷◌, Option, Some, None, map, option_map, unwrap_or, is_some, if◌then◌else◌}
use Rattle.std.specs.Option.{option_map_or}
use Rattle.kasa_graph.specs.Signature.{TypeEntry}
use Rattle.kasa_graph.specs.declared.pattern.StateTest.{StateTest}
use Rattle.kasa_graph.specs.declared.pattern.StateTest.TheVariants.{Any, Is}
use Rattle.kasa_syntax.specs.declared.agents.StateWord.{StateWord}
use Rattle.kasa_syntax.specs.declared.agents.StateWord.TheVariants as state
use Rattle.kasa_syntax.specs.declared.agents.LinkWord.{LinkWord}
use Rattle.kasa_syntax.specs.declared.agents.LinkWord.TheVariants as link
use Rattle.kasa_syntax.specs.declared.agents.SiteText.{SiteText}
use Rattle.kasa_syntax.specs.declared.agents.Mark.{Mark}
use Rattle.kasa_syntax.specs.declared.agents.Mark.TheVariants.{Plus, Minus}
use Rattle.kasa_syntax.specs.declared.agents.AgentText.{AgentText}
use Rattle.kasa_syntax.specs.declared.decls.Item.{Item}
use Rattle.kasa_syntax.specs.declared.decls.Item.TheVariants.{Absent, Agent}
use Rattle.kasa_syntax.specs.declared.decls.Form.{Form}
use Rattle.kasa_syntax.specs.declared.decls.Form.TheVariants.{Edit, Arrow}
use Rattle.kasa_compile.specs.declared.resolved.Side.{Side}
use Rattle.kasa_compile.specs.declared.resolved.Side.TheVariants.{Left, Right}
use Rattle.kasa_compile.specs.declared.said.LinkSaid.{LinkSaid}
use Rattle.kasa_compile.specs.declared.said.LinkSaid.TheVariants as said
use Rattle.kasa_compile.specs.declared.said.SiteSaid.{SiteSaid}
use Rattle.kasa_compile.specs.declared.said.AgentSaid.{AgentSaid}
use Rattle.kasa_compile.specs.declared.said.Pair.{Pair}
use Rattle.kasa_compile.specs.Names.{type_number, site_number, state_number}

-- ---- words

abbrev pub state_said : List ℕ → List TypeEntry → ℕ → ℕ → StateWord → StateTest
state_said text sig a x state.Hash = Any
state_said text sig a x (state.Named s) = Is (state_number text sig a x s)

abbrev pub link_said : List ℕ → List TypeEntry → LinkWord → LinkSaid
link_said text sig link.Free = said.Free
link_said text sig link.Hash = said.Any
link_said text sig link.Bound = said.Bound
link_said text sig (link.Partner s b) = said.Partner (type_number text sig b) (site_number text sig (type_number text sig b) s)
link_said text sig (link.Label number span) = said.Label number

-- ---- sites and agents

-- `{S/S}` and `[L/L]` give left and right, and without `/` both sides have the same text
abbrev pub state_word : Side → SiteText → Option StateWord
state_word Left s = option_map (λ t. t.left) s.state
state_word Right s = option_map (λ t. unwrap_or t.right t.left) s.state

abbrev pub link_word : Side → SiteText → Option LinkWord
link_word Left s = option_map (λ t. t.left) s.link
link_word Right s = option_map (λ t. unwrap_or t.right t.left) s.link

abbrev pub has_slash : SiteText → Bool
has_slash s = option_map_or (λ t. is_some t.right) s.state false || option_map_or (λ t. is_some t.right) s.link false

-- what a site of a type, and an agent, say on a side
abbrev pub site_on : Side → List ℕ → List TypeEntry → ℕ → SiteText → SiteSaid
site_on side text sig a s = let x = site_number text sig a s.name in record {
  «at» = s.name.start;
  site = x;
  state = option_map (state_said text sig a x) (state_word side s);
  link = option_map (link_said text sig) (link_word side s);
  slash = has_slash s;
}

unfoldable pub agent_on : Side → List ℕ → List TypeEntry → AgentText → AgentSaid
agent_on side text sig a = record { «at» = a.name.start; agent = type_number text sig a.name; sites = map (site_on side text sig (type_number text sig a.name)) a.sites }

-- ---- the two sides of a rule

-- the items of a side: without an arrow both sides have the same
abbrev pub items_on : Side → Form → List Item
items_on side (Edit items) = items
items_on Left (Arrow left right both) = left
items_on Right (Arrow left right both) = right

-- an agent that is marked `+` stands on the right alone, and one that is marked `-` on the left alone
abbrev pub stands_on : Side → Mark → Bool
stands_on Left Plus = false
stands_on Right Minus = false
stands_on _ _ = true

abbrev pub item_on : Side → List ℕ → List TypeEntry → Item → Option AgentSaid
item_on side text sig Absent = None
item_on side text sig (Agent a) = if stands_on side a.mark then Some (agent_on side text sig a) else None

-- the k-th item on the left belongs to the k-th on the right, and the shorter side is filled with `.`
abbrev pub across : List (Option AgentSaid) → List (Option AgentSaid) → List Pair
across [] [] = []
across [] (r ∷ rights) = record { left = None; right = r } ∷ across [] rights
across (l ∷ lefts) [] = record { left = l; right = None } ∷ across lefts []
across (l ∷ lefts) (r ∷ rights) = record { left = l; right = r } ∷ across lefts rights

unfoldable pub pairs_of : List ℕ → List TypeEntry → Form → List Pair
pairs_of text sig form = across (map (item_on Left text sig) (items_on Left form)) (map (item_on Right text sig) (items_on Right form))

-- from right to left
abbrev pub turned : List Pair → List Pair
turned pairs = map (λ p. record { left = p.right; right = p.left }) pairs

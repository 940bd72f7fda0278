-- Sites of declared complexes that say too little, by the offsets of their names.
use Rattle.std.specs.Prelude.{ℕ, Bool, true, false, ◌||◌, List, [], ◌∷◌, Option, Some, None, if◌then◌else◌}
use Rattle.std.specs.List.{flat_map}
use Rattle.kasa_syntax.specs.declared.agents.StateWord.{StateWord}
use Rattle.kasa_syntax.specs.declared.agents.StateWord.TheVariants as state
use Rattle.kasa_syntax.specs.declared.agents.StateText.{StateText}
use Rattle.kasa_syntax.specs.declared.agents.LinkWord.{LinkWord}
use Rattle.kasa_syntax.specs.declared.agents.LinkWord.TheVariants as link
use Rattle.kasa_syntax.specs.declared.agents.LinkText.{LinkText}
use Rattle.kasa_syntax.specs.declared.agents.SiteText.{SiteText}
use Rattle.kasa_syntax.specs.declared.agents.AgentText.{AgentText}

-- `{#}`
abbrev pub is_hash : StateWord → Bool
is_hash state.Hash = true
is_hash (state.Named s) = false

abbrev pub leaves_state : Option StateText → Bool
leaves_state None = false
leaves_state (Some t) = is_hash t.left

-- `[#]`, `[_]`, `[s.B]`
abbrev pub leaves_word : LinkWord → Bool
leaves_word link.Free = false
leaves_word (link.Label number span) = false
leaves_word _ = true

abbrev pub leaves_link : Option LinkText → Bool
leaves_link None = false
leaves_link (Some t) = leaves_word t.left

-- a site whose state or link is left open
abbrev pub partial_site : SiteText → List ℕ
partial_site s = if leaves_state s.state || leaves_link s.link then s.name.start ∷ [] else []

unfoldable pub partial_sites : AgentText → List ℕ
partial_sites a = flat_map partial_site a.sites

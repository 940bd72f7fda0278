-- What the sites of a mixture show: their local states.
use Rattle.std.specs.Prelude.{ℕ, List, Option, Some, None}
use Rattle.kasa_graph.specs.declared.mixture.Agent.{Agent}
use Rattle.kasa_graph.specs.Mixture.{type_in, state_in, partner_in}
use Rattle.kasa_families.specs.declared.row.LocalLink.{LocalLink}
use Rattle.kasa_families.specs.declared.row.LocalLink.TheVariants.{Free, Partner}
use Rattle.kasa_families.specs.declared.row.Local.{Local}

-- the partner's type and site
abbrev pub link_to : Option ℕ → ℕ → LocalLink
link_to None t = Free
link_to (Some b) t = Partner b t

abbrev pub link_seen : List (Option Agent) → Option (ℕ × ℕ) → LocalLink
link_seen m None = Free
link_seen m (Some p) = link_to (type_in m p.0) p.1

-- the local state of a site
abbrev pub local_in : List (Option Agent) → ℕ → ℕ → Local
local_in m c s = record { state = state_in m c s; link = link_seen m (partner_in m c s) }

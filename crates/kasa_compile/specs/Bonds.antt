-- The sites that labels join, on one side of a rule or in a complex.
use Rattle.std.specs.Prelude.{ℕ, suc, Bool, false, ◌&&◌, List, [], ◌∷◌, ◌++◌, Option, Some, None, nat_eq, if◌then◌else◌}
use Rattle.std.specs.List.{flat_map}
use Rattle.kasa_compile.specs.declared.said.LinkSaid.{LinkSaid}
use Rattle.kasa_compile.specs.declared.said.LinkSaid.TheVariants.{Label}
use Rattle.kasa_compile.specs.declared.said.SiteSaid.{SiteSaid}
use Rattle.kasa_compile.specs.declared.said.AgentSaid.{AgentSaid}

-- what an agent says of its site of a number
abbrev pub said_at : List SiteSaid → ℕ → Option SiteSaid
said_at [] s = None
said_at (x ∷ sites) s = if nat_eq x.site s then Some x else said_at sites s

-- ---- labels

abbrev pub has_label : ℕ → Option LinkSaid → Bool
has_label number (Some (Label other)) = nat_eq other number
has_label number _ = false

-- the sites of the k-th agent at which a label stands
abbrev pub labelled : ℕ → ℕ → List SiteSaid → List (ℕ × ℕ)
labelled k number sites = flat_map (λ (s : SiteSaid). if has_label number s.link then (k, s.site) ∷ [] else []) sites

abbrev pub labelled_from : ℕ → ℕ → List AgentSaid → List (ℕ × ℕ)
labelled_from k number [] = []
labelled_from k number (a ∷ agents) = labelled k number a.sites ++ labelled_from (suc k) number agents

-- where a label stands, by the agent's number and the site's
unfoldable pub places_of : ℕ → List AgentSaid → List (ℕ × ℕ)
places_of number agents = labelled_from 0 number agents

abbrev pub is_same : ℕ × ℕ → ℕ × ℕ → Bool
is_same p q = nat_eq p.0 q.0 && nat_eq p.1 q.1

-- the other one of two places
abbrev pub other_of : ℕ × ℕ → List (ℕ × ℕ) → ℕ × ℕ
other_of p (q ∷ r ∷ []) = if is_same p q then r else q
other_of p _ = p

-- the site that a label joins to the one at which it stands
abbrev pub joined_to : List AgentSaid → ℕ → ℕ × ℕ → ℕ × ℕ
joined_to agents number p = other_of p (places_of number agents)

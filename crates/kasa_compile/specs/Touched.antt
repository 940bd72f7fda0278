-- The sites that a rule touches, read through their links.
use Rattle.std.specs.Prelude.{◌≡◌, ℕ, ◌<◌, Bool, false, ◌&&◌, not, List, length, Option, Some, is_some}
use Rattle.kasa_compile.specs.declared.said.LinkSaid.{LinkSaid}
use Rattle.kasa_compile.specs.declared.said.LinkSaid.TheVariants.{Label}
use Rattle.kasa_compile.specs.declared.said.AgentSaid.{AgentSaid}
use Rattle.kasa_compile.specs.Sides.{SidesParts}
use Rattle.kasa_compile.specs.Bonds.{places_of, joined_to}
use Rattle.kasa_compile.specs.Causes.{is_touched}
use Rattle.kasa_compile.specs.Rule.{link_asked, link_to_write}

-- a link that is a label joins two sites
abbrev pub IsPaired : List AgentSaid → Option LinkSaid → Type 0
IsPaired agents link = (number : ℕ) → link ≡ Some (Label number) → length (places_of number agents) ≡ 2

-- and on the right its other end is one of the rule
abbrev pub LeadsToEnd : SidesParts → ℕ × ℕ → Option LinkSaid → Type 0
LeadsToEnd x p link = (number : ℕ) → link ≡ Some (Label number) → (joined_to x.right number p).0 < length x.ends

-- the link on the right of a kept site differs from the one on the left
abbrev pub is_link_new : SidesParts → ℕ × ℕ → Option LinkSaid → ℕ × ℕ → Option LinkSaid → Bool
is_link_new x p from q to = is_some (link_to_write x q (link_asked x.left p from) to)

-- a site that isn't touched, whose label leads to one that is
abbrev pub is_half_bond : SidesParts → ℕ × ℕ → Option LinkSaid → Bool
is_half_bond x p (Some (Label number)) = let q = joined_to x.left number p in not (is_touched x p.0 p.1) && is_touched x q.0 q.1
is_half_bond x p _ = false

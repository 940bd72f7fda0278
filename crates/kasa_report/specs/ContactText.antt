-- The section `contact map`: for each site the states and the partners that can be there.
use Rattle.std.specs.Prelude.{ℕ, zero, suc, ◌&&◌, Bool, List, [], ◌∷◌, ◌++◌, length, map, filter, nat_eq, codes}
use Rattle.std.specs.List.{flat_map}
use Rattle.kasa_graph.specs.PatternText.{name_at}
use Rattle.kasa_graph.specs.Signature.{TypeEntry, type_names, site_names, state_names, sites_of}
use Rattle.kasa_polymers.specs.declared.map.Bond.{Bond}
use Rattle.kasa_polymers.specs.declared.map.StateSeen.{StateSeen}
use Rattle.kasa_polymers.specs.declared.map.ContactMap.{ContactMap}
use Rattle.kasa_report.specs.Section.{joined}

-- the numbers below n, in order
abbrev pub numbers : ℕ → List ℕ
numbers zero = []
numbers (suc n) = numbers n ++ n ∷ []

abbrev pub type_name : List TypeEntry → ℕ → List ℕ
type_name sig a = name_at (type_names sig) a

abbrev pub site_name : List TypeEntry → ℕ → ℕ → List ℕ
site_name sig a x = name_at (site_names sig a) x

-- what the map has at a site of a type, in its order
abbrev pub is_state_at : ℕ → ℕ → StateSeen → Bool
is_state_at a x q = nat_eq q.a a && nat_eq q.x x

abbrev pub is_bond_at : ℕ → ℕ → Bond → Bool
is_bond_at a x p = nat_eq p.a a && nat_eq p.x x

abbrev pub state_text : List TypeEntry → StateSeen → List ℕ
state_text sig q = name_at (state_names sig q.a q.x) q.u

-- the partner, as `site.Type`
abbrev pub partner_text : List TypeEntry → Bond → List ℕ
partner_text sig p = site_name sig p.b p.y ++ codes "." ++ type_name sig p.b

-- the states in braces and the partners in brackets, nothing where there are none
abbrev pub states_text : List TypeEntry → List StateSeen → List ℕ
states_text sig [] = []
states_text sig (q ∷ states) = codes "{" ++ joined (codes " ") (map (state_text sig) (q ∷ states)) ++ codes "}"

abbrev pub partners_text : List TypeEntry → List Bond → List ℕ
partners_text sig [] = []
partners_text sig (p ∷ bonds) = codes "[" ++ joined (codes " ") (map (partner_text sig) (p ∷ bonds)) ++ codes "]"

unfoldable pub site_text : List TypeEntry → ℕ → ℕ → List StateSeen → List Bond → List ℕ
site_text sig a x states bonds =
    codes " " ++ type_name sig a ++ codes "." ++ site_name sig a x ++ states_text sig states ++ partners_text sig bonds

-- a site has a line where there is a state or a partner
abbrev pub site_lines : List TypeEntry → ℕ → ℕ → List StateSeen → List Bond → List (List ℕ)
site_lines sig a x [] [] = []
site_lines sig a x states bonds = site_text sig a x states bonds ∷ []

abbrev pub lines_at : List TypeEntry → ContactMap → ℕ → ℕ → List (List ℕ)
lines_at sig m a x = site_lines sig a x (filter (is_state_at a x) m.states) (filter (is_bond_at a x) m.bonds)

-- the sites of each type in order
abbrev pub type_lines : List TypeEntry → ContactMap → ℕ → List (List ℕ)
type_lines sig m a = flat_map (lines_at sig m a) (numbers (length (sites_of sig a)))

abbrev pub contact_lines : List TypeEntry → ContactMap → List (List ℕ)
contact_lines sig m = flat_map (type_lines sig m) (numbers (length sig))

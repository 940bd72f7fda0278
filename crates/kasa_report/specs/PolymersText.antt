-- The section `polymers`: how large species can become.
use Rattle.std.specs.Prelude.{ℕ, List, ◌++◌, map, codes, decimal}
use Rattle.kasa_graph.specs.Signature.{TypeEntry}
use Rattle.kasa_polymers.specs.declared.map.Bond.{Bond}
use Rattle.kasa_polymers.specs.declared.map.Polymers.{Polymers}
use Rattle.kasa_polymers.specs.declared.map.Polymers.TheVariants.{AtMost, Beyond, Cycle}
use Rattle.kasa_report.specs.Section.{joined}
use Rattle.kasa_report.specs.ContactText.{type_name, site_name}

-- the bond, as `Type.site-Type.site`
unfoldable pub bond_text : List TypeEntry → Bond → List ℕ
bond_text sig p =
    type_name sig p.a ++ codes "." ++ site_name sig p.a p.x ++ codes "-" ++
    type_name sig p.b ++ codes "." ++ site_name sig p.b p.y

abbrev pub verdict_text : List TypeEntry → Polymers → List ℕ
verdict_text sig (AtMost n) = codes " none: at most " ++ decimal n ++ codes " agents"
verdict_text sig Beyond = codes " none: the bound passes 18446744073709551615"
verdict_text sig (Cycle bonds) = codes " not excluded: " ++ joined (codes ", ") (map (bond_text sig) bonds)

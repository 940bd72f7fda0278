-- Bonds of one type, and the partners at its sites.
use Rattle.std.specs.Prelude.{ℕ, List, map, nat_eq}
use Rattle.std.specs.List.{filter}
use Rattle.kasa_polymers.specs.declared.map.Bond.{Bond}

-- the type and the site to which a bond leads
abbrev pub far_end : Bond → ℕ × ℕ
far_end bond = (bond.b, bond.y)

-- the far ends of those bonds that begin at site x
abbrev pub partners_among : List Bond → ℕ → List (ℕ × ℕ)
partners_among bonds x = map far_end (filter (λ bond. nat_eq bond.x x) bonds)

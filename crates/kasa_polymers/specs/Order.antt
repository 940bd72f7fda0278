-- The order of bonds, of lists of bonds, and of states.
use Rattle.std.specs.Prelude.{◌≡◌, ◌<◌, ◌⊎◌, List, [], ◌∷◌}
use Rattle.kasa_polymers.specs.declared.map.Bond.{Bond}
use Rattle.kasa_polymers.specs.declared.map.StateSeen.{StateSeen}

-- by the first type, then its site, then the second type, then its site
abbrev pub IsBondBelow : Bond → Bond → Type 0
IsBondBelow p q =
    (p.a < q.a) ⊎ ((p.a ≡ q.a) × (p.x < q.x)) ⊎
    ((p.a ≡ q.a) × (p.x ≡ q.x) × (p.b < q.b)) ⊎ ((p.a ≡ q.a) × (p.x ≡ q.x) × (p.b ≡ q.b) × (p.y < q.y))

-- by type, then site, then state
abbrev pub IsStateBelow : StateSeen → StateSeen → Type 0
IsStateBelow s t = (s.a < t.a) ⊎ ((s.a ≡ t.a) × (s.x < t.x)) ⊎ ((s.a ≡ t.a) × (s.x ≡ t.x) × (s.u < t.u))

-- the lexicographic order of lists of as many bonds
abbrev pub AreBondsBelow : List Bond → List Bond → Type 0
AreBondsBelow [] bonds = ⊥
AreBondsBelow (p ∷ ps) [] = ⊥
AreBondsBelow (p ∷ ps) (q ∷ qs) = IsBondBelow p q ⊎ ((p ≡ q) × AreBondsBelow ps qs)

-- the first bond of one list is below that of the other
abbrev pub FirstBelow : List Bond → List Bond → Type 0
FirstBelow (p ∷ ps) (q ∷ qs) = IsBondBelow p q
FirstBelow _ _ = ⊥

-- An index of the labels of a side: for each label the places where it stands.
use Rattle.std.specs.Prelude.{◌≡◌, ℕ, List, [], ◌∷◌, ◌++◌, length, Option, Some, None, nat_eq, if◌then◌else◌}
use Rattle.std.specs.Map.{lookup}
use Rattle.kasa_compile.specs.declared.bonds.Ends.{Ends}
use Rattle.kasa_compile.specs.declared.said.LinkSaid.{LinkSaid}
use Rattle.kasa_compile.specs.declared.said.LinkSaid.TheVariants.{Label}
use Rattle.kasa_compile.specs.declared.said.AgentSaid.{AgentSaid}
use Rattle.kasa_compile.specs.Bonds.{places_of}

-- the first and the last place of a label, by the index
abbrev pub ends_at : List (ℕ × Ends) → ℕ → Option Ends
ends_at bonds number = lookup (nat_eq number) bonds

-- each label that stands twice among the agents is found with its places
abbrev pub AreBondsOf : List AgentSaid → List (ℕ × Ends) → Type 0
AreBondsOf agents bonds = (number : ℕ) → length (places_of number agents) ≡ 2 → (e : Ends) × (ends_at bonds number ≡ Some e) × (places_of number agents ≡ e.first ∷ e.last ∷ [])

-- ---- an index that grows

-- the last one of some places after p
abbrev pub last_of : ℕ × ℕ → List (ℕ × ℕ) → ℕ × ℕ
last_of p [] = p
last_of p (q ∷ places) = last_of q places

unfoldable pub ends_of : List (ℕ × ℕ) → Option Ends
ends_of [] = None
ends_of (p ∷ places) = Some (record { first = p; last = last_of p places })

-- more places of each label come after those that stand in the old index
abbrev pub IsContinued : List (ℕ × Ends) → List (ℕ × Ends) → (ℕ → List (ℕ × ℕ)) → Type 0
IsContinued old new more = (number : ℕ) (places : List (ℕ × ℕ)) → ends_at old number ≡ ends_of places → ends_at new number ≡ ends_of (places ++ more number)

-- the label of a link, none where it is no label
abbrev pub label_of : Option LinkSaid → Option ℕ
label_of (Some (Label number)) = Some number
label_of _ = None

-- one place of one label
abbrev pub one_place : ℕ → ℕ × ℕ → ℕ → List (ℕ × ℕ)
one_place other p number = if nat_eq other number then p ∷ [] else []

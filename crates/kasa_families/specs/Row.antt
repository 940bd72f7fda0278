-- Rows: which are valid for a family, and their order.
use Rattle.std.specs.Prelude.{◌≡◌, ℕ, ◌<◌, ⊤, ◌⊎◌, List, [], ◌∷◌, Option, Some, None}
use Rattle.kasa_graph.specs.Signature.{TypeEntry}
pub use Rattle.kasa_families.specs.Local.{IsLocalState, IsLocalLink, IsLocal}
pub use Rattle.kasa_families.specs.Kinds.{AreLocals}
use Rattle.kasa_families.specs.declared.family.Family.{Family}
use Rattle.kasa_families.specs.declared.family.Family.TheVariants.{Parallel}
use Rattle.kasa_families.specs.declared.row.LocalLink.{LocalLink}
use Rattle.kasa_families.specs.declared.row.LocalLink.TheVariants.{Free, Partner}
use Rattle.kasa_families.specs.declared.row.Local.{Local}
use Rattle.kasa_families.specs.declared.row.Row.{Row}
use Rattle.kasa_families.specs.declared.row.Row.TheVariants.{Locals, Same, Different}
use Rattle.kasa_families.specs.Shape.{AreColumns}
use Rattle.kasa_families.specs.Family.{shape_of}

-- a row has the shape of a family and is valid over the signature
abbrev pub IsRow : List TypeEntry → Family → Row → Type 0
IsRow sig (Parallel a x u b y w) (Locals locals) = ⊥
IsRow sig (Parallel a x u b y w) row = ⊤
IsRow sig family (Locals locals) = AreColumns sig (shape_of family).types (shape_of family).columns locals
IsRow sig family row = ⊥

-- ---- the order of rows

abbrev pub IsStateBelow : Option ℕ → Option ℕ → Type 0
IsStateBelow None (Some w) = ⊤
IsStateBelow (Some u) (Some w) = u < w
IsStateBelow _ _ = ⊥

abbrev pub IsLinkBelow : LocalLink → LocalLink → Type 0
IsLinkBelow Free (Partner b y) = ⊤
IsLinkBelow (Partner a x) (Partner b y) = (a < b) ⊎ ((a ≡ b) × (x < y))
IsLinkBelow _ _ = ⊥

abbrev pub IsLocalBelow : Local → Local → Type 0
IsLocalBelow l k = IsStateBelow l.state k.state ⊎ ((l.state ≡ k.state) × IsLinkBelow l.link k.link)

abbrev pub AreLocalsBelow : List Local → List Local → Type 0
AreLocalsBelow [] (k ∷ ks) = ⊤
AreLocalsBelow (l ∷ ls) (k ∷ ks) = IsLocalBelow l k ⊎ ((l ≡ k) × AreLocalsBelow ls ks)
AreLocalsBelow _ [] = ⊥

-- one row comes before another
abbrev pub IsRowBelow : Row → Row → Type 0
IsRowBelow (Locals ls) (Locals ks) = AreLocalsBelow ls ks
IsRowBelow (Locals ls) Same = ⊤
IsRowBelow (Locals ls) Different = ⊤
IsRowBelow Same Different = ⊤
IsRowBelow _ _ = ⊥

-- each row comes before the next
abbrev pub AreAscending : List Row → Type 0
AreAscending [] = ⊤
AreAscending (row ∷ []) = ⊤
AreAscending (row ∷ next ∷ rows) = IsRowBelow row next × AreAscending (next ∷ rows)

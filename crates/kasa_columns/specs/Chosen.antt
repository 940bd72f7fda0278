-- Choices of local states, column by column.
use Rattle.std.specs.Prelude.{◌≡◌, ℕ, ⊤, ◌⊎◌, ◌↔◌, List, [], ◌∷◌, None, Some, slice_get}
use Rattle.std.specs.List.{AllZip}
use Rattle.kasa_graph.specs.Signature.{TypeEntry, HasSite}
use Rattle.kasa_graph.specs.Lists.{Has}
use Rattle.kasa_families.specs.declared.family.Family.TheVariants.{View}
use Rattle.kasa_families.specs.declared.row.LocalLink.{LocalLink}
use Rattle.kasa_families.specs.declared.row.LocalLink.TheVariants.{Free, Partner}
use Rattle.kasa_families.specs.declared.row.Local.{Local}
use Rattle.kasa_families.specs.declared.row.Row.{Row}
use Rattle.kasa_families.specs.declared.row.Row.TheVariants.{Locals}
use Rattle.kasa_families.specs.declared.shape.NodeSite.{NodeSite}
use Rattle.kasa_families.specs.Local.{IsLocal}
use Rattle.kasa_families.specs.Shape.{Nth}
use Rattle.kasa_families.specs.Family.{shape_of}
use Rattle.kasa_families.specs.Table.{families_of}
use Rattle.kasa_pre.specs.declared.Stand.{Stand}
use Rattle.kasa_pre.specs.declared.Stand.TheVariants.{Left, Made, Outside}
use Rattle.kasa_columns.specs.Forward.{LeavesBonds, WasStored}
use Rattle.kasa_columns.specs.Choices.{IsInView}
use Rattle.kasa_columns.specs.Ask.{Ask}
use Rattle.kasa_columns.specs.Stands.{AreFrom}

-- ---- one column

-- a row lists the local state at a place
abbrev pub ListsAt : ℕ → Row → Local → Type 0
ListsAt place row l = (locals : List Local) × (row ≡ Locals locals) × (slice_get locals place ≡ Some l)

-- the local states that the rows of a view of the type list at a site of it
abbrev pub IsViewChoice : Ask → ℕ → ℕ → List Local → Type 0
IsViewChoice a t s states = (sites : List ℕ) × Has sites s × Has (families_of a.tables) (View t sites) × ((l : Local) → Has states l ↔ IsInView a.tables t sites s l)

-- these, or all local states of the site
abbrev pub IsChoiceOf : Ask → ℕ → ℕ → List Local → Type 0
IsChoiceOf a t s states = IsViewChoice a t s states ⊎ ((l : Local) → Has states l ↔ IsLocal a.sig t s l)

abbrev pub IsColumnChoice : Ask → NodeSite → List Local → Type 0
IsColumnChoice a c states = Nth (shape_of a.family).types c.node (λ t. IsChoiceOf a t c.site states)

abbrev pub AreColumnChoices : Ask → List (List Local) → Type 0
AreColumnChoices a choices = AllZip (IsColumnChoice a) a.columns choices

-- a partner of the type, at a site of it
abbrev pub IsPartnerOf : List TypeEntry → ℕ → ℕ → LocalLink → Type 0
IsPartnerOf sig b y link = (link ≡ Partner b y) × HasSite sig b y

-- ---- all columns

-- one of the choices; of a created node nothing that matters
abbrev pub IsAmong : List Local → Local → Stand → Type 0
IsAmong choice l (Left n) = Has choice l
IsAmong choice l (Made k) = l ≡ record { state = None; link = Free }
IsAmong choice l Outside = Has choice l

abbrev pub AreAmong : List Stand → List NodeSite → List (List Local) → List Local → Type 0
AreAmong stands [] [] [] = ⊤
AreAmong stands (c ∷ columns) (choice ∷ choices) (l ∷ shown) = Nth stands c.node (IsAmong choice l) × AreAmong stands columns choices shown
AreAmong stands _ _ _ = ⊥

-- a local state in front of others, and of one of the rest
abbrev pub IsConsOf : Local → List Local → List Local → Type 0
IsConsOf l others shown = shown ≡ l ∷ others

abbrev pub IsInFront : List (List Local) → Local → List Local → Type 0
IsInFront rest l shown = AreFrom (IsConsOf l) rest shown

-- a stored row where the rule leaves the bonds of the root, and else choices
abbrev pub MayBe : Ask → List (List Local) → List Stand → List Local → Type 0
MayBe a choices stands shown =
    WasStored a.tables a.rule a.family stands shown ⊎ ((¬ LeavesBonds a.rule (shape_of a.family).bonds stands) × AreAmong stands a.columns choices shown)

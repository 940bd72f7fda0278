-- Rows that come forward where the rule writes a bond of the root: each column's local state is chosen for itself.
use Rattle.std.specs.Prelude.{◌≡◌, ℕ, ◌⊎◌, List, Option, Some, None, slice_get}
use Rattle.std.specs.List.{AllZip}
use Rattle.kasa_graph.specs.Signature.{TypeEntry}
use Rattle.kasa_graph.specs.Lists.{Has}
use Rattle.kasa_families.specs.declared.family.Family.{Family}
use Rattle.kasa_families.specs.declared.family.Family.TheVariants.{View}
use Rattle.kasa_families.specs.declared.row.LocalLink.TheVariants.{Free}
use Rattle.kasa_families.specs.declared.row.Local.{Local}
use Rattle.kasa_families.specs.declared.row.Row.TheVariants.{Locals}
use Rattle.kasa_families.specs.declared.shape.NodeSite.{NodeSite}
use Rattle.kasa_families.specs.Local.{IsLocal}
use Rattle.kasa_families.specs.Shape.{Shape, Nth}
use Rattle.kasa_families.specs.Family.{shape_of}
use Rattle.kasa_families.specs.Table.{Table, Holds, families_of}
use Rattle.kasa_rules.specs.Rule.{RuleParts}
use Rattle.kasa_pre.specs.declared.Stand.{Stand}
use Rattle.kasa_pre.specs.declared.Stand.TheVariants.{Left, Made, Outside}
use Rattle.kasa_columns.specs.Forward.{LeavesBonds, WasStored}

-- ---- one column

-- a view's row that the tables hold lists the local state at the site
pub record IsInView (tables : List Table) (a : ℕ) (sites : List ℕ) (s : ℕ) (l : Local) : Type 0 where
  pub row : List Local
  pub holds : Holds tables (View a sites) (Locals row)
  pub number : ℕ
  pub site : slice_get sites number ≡ Some s
  pub listed : slice_get row number ≡ Some l

-- a choice from the rows of a view with these sites, and with no view from all local states of the site
abbrev pub IsChoice : List TypeEntry → List Table → Option (List ℕ) → ℕ → ℕ → Local → Type 0
IsChoice sig tables (Some sites) a s l = IsInView tables a sites s l
IsChoice sig tables None a s l = IsLocal sig a s l

-- what the column of a node with a stand may have shown; a created node nothing that matters
abbrev pub IsChosen : List TypeEntry → List Table → Option (List ℕ) → ℕ → ℕ → Local → Stand → Type 0
IsChosen sig tables view a s l (Left n) = IsChoice sig tables view a s l
IsChosen sig tables view a s l (Made k) = l ≡ record { state = None; link = Free }
IsChosen sig tables view a s l Outside = IsChoice sig tables view a s l

-- ---- all columns

-- for each column the sites of a view of the tables that has its site, or none
abbrev pub AreViews : List Table → Shape → (NodeSite → Option (List ℕ)) → Type 0
AreViews tables shape view = (c : NodeSite) (sites : List ℕ) → Has shape.columns c → view c ≡ Some sites → Has sites c.site × Nth shape.types c.node (λ a. Has (families_of tables) (View a sites))

abbrev pub AreChosen : List TypeEntry → List Table → Shape → (NodeSite → Option (List ℕ)) → List Stand → List Local → Type 0
AreChosen sig tables shape view stands shown = AllZip (λ c l. Nth shape.types c.node (λ a. Nth stands c.node (IsChosen sig tables (view c) a c.site l))) shape.columns shown

-- a stored row where the rule leaves the bonds of the root, and else choices
abbrev pub MayHaveShown : List TypeEntry → List Table → RuleParts → Family → (NodeSite → Option (List ℕ)) → List Stand → List Local → Type 0
MayHaveShown sig tables r family view stands shown =
    WasStored tables r family stands shown ⊎ ((¬ LeavesBonds r (shape_of family).bonds stands) × AreChosen sig tables (shape_of family) view stands shown)

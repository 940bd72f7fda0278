-- The pattern of a row has the sites of its types.
use Rattle.std.proofs.Common.{ℕ, List, [], ◌∷◌}
use Rattle.kasa_graph.specs.declared.pattern.Node.{Node}
use Rattle.kasa_graph.specs.Signature.{TypeEntry}
use Rattle.kasa_graph.specs.Pattern.{with_state}
use Rattle.kasa_families.specs.declared.family.Family.{Family}
use Rattle.kasa_families.specs.declared.family.Family.TheVariants.{Parallel}
use Rattle.kasa_families.specs.declared.row.Local.{Local}
use Rattle.kasa_families.specs.declared.row.Row.{Row}
use Rattle.kasa_families.specs.declared.row.Row.TheVariants.{Locals, Same, Different}
use Rattle.kasa_families.specs.declared.shape.NodeSite.{NodeSite}
use Rattle.kasa_families.specs.declared.shape.Bond.{Bond}
use Rattle.kasa_families.specs.Local.{local_state_test, local_link_test, with_local}
use Rattle.kasa_families.specs.Shape.{Shape, with_bonds, root_of, with_columns}
use Rattle.kasa_families.specs.Family.{shape_of, same, different}
use Rattle.kasa_families.specs.Row.{IsRow}
use Rattle.kasa_families.specs.Pattern.{row_pattern}
use Rattle.kasa_families.proofs.ColumnLemmas.{bonded}
use Rattle.kasa_graph.proofs.ShapeLemmas.{IsShaped, IsShaped-with_state, IsShaped-with_link, IsShaped-with_bond, IsShaped-blank}

IsShaped-with_local : (sig : List TypeEntry) (g : List Node) (n s : ℕ) (l : Local) → IsShaped sig g → IsShaped sig (with_local g n s l)
IsShaped-with_local sig g n s l ok = IsShaped-with_link sig (with_state g n s (local_state_test l.state)) n s (local_link_test l.link) (IsShaped-with_state sig g n s (local_state_test l.state) ok)

IsShaped-with_columns : (sig : List TypeEntry) (g : List Node) (columns : List NodeSite) (locals : List Local) → IsShaped sig g → IsShaped sig (with_columns g columns locals)
IsShaped-with_columns sig g [] locals ok = ok
IsShaped-with_columns sig g (s ∷ columns) [] ok = ok
IsShaped-with_columns sig g (s ∷ columns) (l ∷ locals) ok = IsShaped-with_columns sig (with_local g s.node s.site l) columns locals (IsShaped-with_local sig g s.node s.site l ok)

IsShaped-with_bonds : (sig : List TypeEntry) (g : List Node) (bonds : List Bond) → IsShaped sig g → IsShaped sig (with_bonds g bonds)
IsShaped-with_bonds sig g [] ok = ok
IsShaped-with_bonds sig g (b ∷ bonds) ok = IsShaped-with_bonds sig (bonded g b) bonds (IsShaped-with_bond sig g b.first.node b.first.site b.second.node b.second.site ok)

IsShaped-root_of : (sig : List TypeEntry) (shape : Shape) → IsShaped sig (root_of sig shape)
IsShaped-root_of sig shape = IsShaped-with_bonds sig _ shape.bonds (IsShaped-blank sig shape.types)

pub IsShaped-row_pattern : (sig : List TypeEntry) (family : Family) (row : Row) → IsRow sig family row → IsShaped sig (row_pattern sig family row)
IsShaped-row_pattern sig (Parallel a x u b y w) Same ok = IsShaped-root_of sig (same a x u b y w)
IsShaped-row_pattern sig (Parallel a x u b y w) Different ok = IsShaped-root_of sig (different a x u b y w)
IsShaped-row_pattern sig (Parallel a x u b y w) (Locals locals) ok = absurd ok
IsShaped-row_pattern sig family (Locals locals) ok = IsShaped-with_columns sig _ (shape_of family).columns locals (IsShaped-root_of sig (shape_of family))
IsShaped-row_pattern sig family row ok = absurd ok

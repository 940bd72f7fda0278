use Rattle.std.proofs.Common.{◌≤◌, List, length, arith}
use Rattle.std.proofs.lemmas.Slice.Zip.{AllZip-long}
use Rattle.kasa_graph.specs.Signature.{TypeEntry}
use Rattle.kasa_families.specs.declared.family.Family.{Family}
use Rattle.kasa_families.specs.declared.family.Family.TheVariants.{Parallel}
use Rattle.kasa_families.specs.declared.row.Local.{Local}
use Rattle.kasa_families.specs.declared.row.Row.TheVariants.{Locals}
use Rattle.kasa_families.specs.Local.{IsLocal}
use Rattle.kasa_families.specs.Row.{IsRow}
use Rattle.kasa_families.specs.Family.{shape_of}
use Rattle.kasa_families.specs.Shape.{Nth, ends}
use Rattle.kasa_families.proofs.ColumnLemmas.{AreApart-right}
use Rattle.kasa_families.proofs.FamilyShape.{IsShape-of, IsShape-different, few_columns}
use Rattle.kasa_families.proofs.OverLemmas.{AreOpen-columns}
use Rattle.kasa_families.proofs.patterns.refined.Goals as goal

few_locals : (sig : List TypeEntry) (family : Family) (locals : List Local) → IsRow sig family (Locals locals) → length locals ≤ length (shape_of family).columns
few_locals sig (Parallel a x u b y w) locals valid = absurd valid
few_locals sig family locals valid = let long = AllZip-long (λ s l. Nth (shape_of family).types s.node (λ a. IsLocal sig a s.site l)) (shape_of family).columns locals valid in omega arith

pub shape_root-requires : goal.shape_root-requires
shape_root-requires c = IsShape-of _ _ c.requires.family

pub read_columns-columns-requires : goal.read_columns-columns-requires
read_columns-columns-requires c = few_columns _ _ c.requires.family

pub put_columns-requires-clause-apart : goal.put_columns-requires-clause-apart
put_columns-requires-clause-apart c = rw (c.as_slice.ensures, c.read_columns-columns.ensures) (AreApart-right (ends (shape_of c.args.family.now).bonds) _ (IsShape-of _ _ c.requires.family).apart)

pub put_columns-requires-clause-unbound : goal.put_columns-requires-clause-unbound
put_columns-requires-clause-unbound c = rw (c.in_ok-g-in-Locals.ensures, c.as_slice.ensures, c.read_columns-columns.ensures) (AreOpen-columns c.args.sig.now (shape_of c.args.family.now) (IsShape-of _ _ c.requires.family))

pub put_columns-requires-clause-many : goal.put_columns-requires-clause-many
put_columns-requires-clause-many c = rw (c.as_slice.ensures, c.read_columns-columns.ensures, c.as_slice-in-Locals.ensures.value) (few_locals c.args.sig.now c.args.family.now _ (rw c.in-Locals.is at c.requires.row))

pub shape_root-requires-in-Same : goal.shape_root-requires-in-Same
shape_root-requires-in-Same c = IsShape-of _ _ c.requires.family

pub apart-requires : goal.apart-requires
apart-requires c = IsShape-different _ _ _ _ _ _ _ (rw c.in-Parallel.is at c.requires.family)

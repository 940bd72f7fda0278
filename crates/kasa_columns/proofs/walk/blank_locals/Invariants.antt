use Rattle.std.proofs.Common.{◌≡◌, map, take}
use Rattle.std.specs.Prelude.{None}
use Rattle.kasa_families.specs.declared.shape.NodeSite.{NodeSite}
use Rattle.kasa_families.specs.declared.row.Local.{Local}
use Rattle.kasa_families.specs.declared.row.LocalLink.TheVariants.{Free}
use Rattle.kasa_columns.proofs.walk.blank_locals.Given as goal

abbrev pub invariant-loop : goal.invariant-loop
invariant-loop l = l.locals.items ≡ map (λ (c : NodeSite). let x : Local = record { state = None; link = Free } in x) (take l.index l.columns)

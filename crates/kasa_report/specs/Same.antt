-- Tables that hold the same.
use Rattle.std.specs.Prelude.{◌≡◌, List}
use Rattle.kasa_families.specs.Table.{Table, families_of, IsWithin}

-- the same families, each with the same rows, in whatever order
pub record HoldTheSame (tables others : List Table) : Type 0 where
  pub families : families_of others ≡ families_of tables
  pub there : IsWithin tables others
  pub back : IsWithin others tables

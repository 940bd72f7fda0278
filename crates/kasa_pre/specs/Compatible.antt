-- Whether a row of a family can stand at a place of its root.
pub use Rattle.kasa_families.specs.Local.{LocalAgrees}
pub use Rattle.kasa_families.specs.Compatible.{CanBeSame, CanBeDifferent, IsCompatible}

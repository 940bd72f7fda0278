-- Places of a pattern's nodes among the nodes of another pattern.
pub use Rattle.kasa_families.specs.Place.{ImpliesAt, IsPlace}

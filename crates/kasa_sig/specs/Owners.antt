-- Owners of names that are found again by their own names.
use Rattle.std.specs.Prelude.{◌≡◌, ℕ, List, Some, slice_get}
use Rattle.kasa_graph.specs.Lists.{AllDifferent}
use Rattle.kasa_graph.specs.Signature.{TypeEntry, type_names, site_names}

-- types have different names, and so have the sites of each type
pub record HaveDifferentNames (sig : List TypeEntry) : Type 0 where
  pub types : AllDifferent (type_names sig)
  pub sites : (a : ℕ) → AllDifferent (site_names sig a)

-- the type of this number has this name, and no other one has
pub record IsTypeNamed (sig : List TypeEntry) (a : ℕ) (name : List ℕ) : Type 0 where
  pub differ : HaveDifferentNames sig
  pub named : slice_get (type_names sig) a ≡ Some name

-- the site of this number has this name, and no other one of its type has
pub record IsSiteNamed (sig : List TypeEntry) (a x : ℕ) (agent name : List ℕ) : Type 0 where
  pub owner : IsTypeNamed sig a agent
  pub named : slice_get (site_names sig a) x ≡ Some name

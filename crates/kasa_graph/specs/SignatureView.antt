-- What a signature's maps stand for.
use Rattle.std.specs.Prelude.{ℕ, List, map, Vec}
use Rattle.std.specs.Global.{Global}
use Rattle.std.specs.declared.hash.FoldHasher.{FoldHasher}
use Rattle.std.specs.declared.hash.BuildHasherDefault.{BuildHasherDefault}
use Rattle.indexmap.specs.IndexMap.{IndexMap}
use Rattle.indexmap.specs.IndexSet.{IndexSet}
use Rattle.kasa_graph.specs.Signature.{SiteEntry, TypeEntry}
use Rattle.kasa_graph.specs.declared.signature.Signature.TheInside.{Inside}

abbrev pub Hasher : Type 0
Hasher = BuildHasherDefault FoldHasher

-- the states of a site, and the sites of a type, by their names
abbrev pub StateSet : Type 0
StateSet = IndexSet (Vec ℕ Global) Hasher

abbrev pub SiteMap : Type 0
SiteMap = IndexMap (Vec ℕ Global) StateSet Hasher

abbrev pub name_bytes : Vec ℕ Global → List ℕ
name_bytes name = name.items

abbrev pub site_entry : Vec ℕ Global × StateSet → SiteEntry
site_entry e = record { name = e.0.items; states = map name_bytes e.1.keys }

abbrev pub type_entry : Vec ℕ Global × SiteMap → TypeEntry
type_entry e = record { name = e.0.items; sites = map site_entry e.1.entries }

abbrev pub type_entries : Inside → List TypeEntry
type_entries s = map type_entry s.types.entries

-- The pairs that act, as a system for the worklist.
use Rattle.std.specs.Prelude.{◌≡◌, ℕ, ◌<◌, ◌||◌, Bool, false, List, [], ◌∷◌, ◌++◌, length, Some, slice_get, nat_eq}
use Rattle.std.specs.Option.{option_map_or}
use Rattle.kasa_lists.specs.Lists.{Has}
use Rattle.kasa_graph.specs.Pattern.{types_of}
use Rattle.kasa_families.specs.declared.family.Family.{Family}
use Rattle.kasa_families.specs.declared.row.Row.{Row}
use Rattle.kasa_families.specs.Family.{IsFamily, family_types}
use Rattle.kasa_families.specs.Row.{IsRow}
use Rattle.kasa_families.specs.Table.{Table, AreTables, families_of, rows_of}
use Rattle.kasa_rules.specs.declared.model.Model.{Model}
use Rattle.kasa_rules.specs.Reached.{IsModel}
use Rattle.kasa_rules.specs.Rule.{RuleParts}
use Rattle.kasa_pre.specs.Yields.{Yields}
use Rattle.kasa_worklist.specs.System.{Relations}
use Rattle.kasa_fixpoint.specs.declared.pairs.Pair.{Pair}
use Rattle.kasa_fixpoint.specs.Pairs.{IsPairOf, AreActingPairs}
use Rattle.kasa_fixpoint.specs.Readers.{AreReadersBelow}

-- a model, families, and pairs of its rules and these
pub record SystemParts : Type 0 where
  pub model : Model
  pub families : List Family
  pub pairs : List Pair

-- one of the numbers
abbrev pub is_among : ℕ → List ℕ → Bool
is_among a [] = false
is_among a (b ∷ numbers) = nat_eq a b || is_among a numbers

-- whether a rule reads a family where it yields rows of another one
unfoldable pub reads_family : RuleParts → Family → Family → Bool
reads_family r family other = option_map_or (λ a. is_among a (types_of r.left ++ family_types family)) (slice_get (family_types other) 0) false

-- the same of a pair
unfoldable pub pair_reads : Model → List Family → Pair → Family → Bool
pair_reads model families pair other =
    option_map_or (λ r. option_map_or (λ family. reads_family r family other) (slice_get families pair.family) false) (slice_get model.rules pair.rule) false

-- the same by numbers
unfoldable pub reads_at : SystemParts → ℕ → ℕ → Bool
reads_at s p g = option_map_or (λ pair. option_map_or (pair_reads s.model s.families pair) (slice_get s.families g) false) (slice_get s.pairs p) false

-- the number of a pair's family
unfoldable pub pair_family : SystemParts → ℕ → ℕ
pair_family s p = option_map_or (λ pair. pair.family) (slice_get s.pairs p) 0

-- the pair of a number yields a valid row of its family
pub record PairYields (s : SystemParts) (tables : List Table) (p : ℕ) (row : Row) : Type 0 where
  pub pair : Pair
  pub numbered : slice_get s.pairs p ≡ Some pair
  pub r : RuleParts
  pub family : Family
  pub is : IsPairOf s.model s.families pair r family
  pub valid : IsRow s.model.sig family row
  pub yielded : Yields s.model.sig tables r family row

abbrev pub AreTablesOf : SystemParts → List Table → Type 0
AreTablesOf s tables = AreTables s.model.sig tables × (families_of tables ≡ s.families)

abbrev pub system_of : SystemParts → Relations (List Table) Row
system_of s = record {
  pairs = length s.pairs;
  families = length s.families;
  family = pair_family s;
  reads = reads_at s;
  most = 200000;
  valid = AreTablesOf s;
  rows = rows_of;
  yields = PairYields s;
}

-- valid families, the pairs that act, and those that read families of each type
pub record IsPlanned (s : SystemParts) (lists : List (List ℕ)) : Type 0 where
  pub model : IsModel s.model
  pub valid : (family : Family) → Has s.families family → IsFamily s.model.sig family
  pub acting : AreActingPairs s.model s.families s.pairs
  pub few : length s.pairs < 4294967296
  pub readers : AreReadersBelow s.model s.families s.pairs (length s.pairs) lists

-- What is asked of a search for the rows of a parallel family: those that a rule yields from tables, or of these the new ones.
use Rattle.std.specs.Prelude.{◌≡◌, ℕ, ◌≤◌, ◌⊎◌, Bool, true, List, length, suc, Some, slice_get}
use Rattle.kasa_graph.specs.Signature.{TypeEntry}
use Rattle.kasa_graph.specs.Lists.{Has, AllDifferent}
use Rattle.kasa_families.specs.declared.family.Family.{Family}
use Rattle.kasa_families.specs.declared.family.Family.TheVariants.{Parallel}
use Rattle.kasa_families.specs.declared.row.Row.{Row}
use Rattle.kasa_families.specs.Table.{Table, AreTables, families_of, rows_of}
use Rattle.kasa_rules.specs.Rule.{RuleParts, IsRuleOver}
use Rattle.kasa_pre.specs.declared.Stand.{Stand}
use Rattle.kasa_pre.specs.Before.{FitsStand}
use Rattle.kasa_columns.specs.Results.{IsResult}
use Rattle.kasa_parallel.specs.Partners.{WritesPartner}

pub record ParallelAsk : Type 0 where
  pub sig : List TypeEntry
  pub tables : List Table
  pub rule : RuleParts
  pub number : ℕ
  pub family : Family
  pub a : ℕ
  pub x : ℕ
  pub u : ℕ
  pub b : ℕ
  pub y : ℕ
  pub w : ℕ
  pub only_new : Bool

-- the family of the number is the parallel one
pub record IsParallelAsk (k : ParallelAsk) : Type 0 where
  pub valid : AreTables k.sig k.tables
  pub over : IsRuleOver k.sig k.rule
  pub few : length k.rule.left ≤ 12
  pub numbered : slice_get (families_of k.tables) k.number ≡ Some k.family
  pub is : k.family ≡ Parallel k.a k.x k.u k.b k.y k.w

-- it asks for the rows of the family of a number that a rule yields from tables, or of these for the new ones alone
pub record AsksFor (sig : List TypeEntry) (tables : List Table) (r : RuleParts) (f : ℕ) (only_new : Bool) (k : ParallelAsk) : Type 0 where
  pub of_sig : k.sig ≡ sig
  pub of_tables : k.tables ≡ tables
  pub of_rule : k.rule ≡ r
  pub of_number : k.number ≡ f
  pub of_new : k.only_new ≡ only_new

-- a result, which is a new one where only those are asked for
pub record IsSought (k : ParallelAsk) (row : Row) : Type 0 where
  pub result : IsResult k.sig k.tables k.rule k.number row
  pub new : k.only_new ≡ true → ¬ Has (rows_of k.tables k.number) row

-- the tables have the row, and only new ones are asked for
abbrev pub IsKnownRow : ParallelAsk → Row → Type 0
IsKnownRow k row = (k.only_new ≡ true) × Has (rows_of k.tables k.number) row

-- the stands of a root's node that are looked at: all of its type, or those where the rule writes a bond
abbrev pub IsRootStand : ParallelAsk → Stand → Type 0
IsRootStand k stand = FitsStand k.rule stand k.a × (k.only_new ≡ true → WritesPartner k.rule k.x k.u stand)

-- the rows that are asked for, each once, where they are at most `most`, and else so many of them and one more
pub record AreSought (k : ParallelAsk) (most : ℕ) (rows : List Row) : Type 0 where
  pub different : AllDifferent rows
  pub asked : (row : Row) → Has rows row → IsSought k row
  pub complete : length rows ≤ most → (row : Row) → IsResult k.sig k.tables k.rule k.number row → Has rows row ⊎ IsKnownRow k row
  pub few : length rows ≤ suc most

-- How many steps are taken on the way to the least closed tables.
use Rattle.std.specs.Prelude.{ℕ, ◌+◌, ◌*◌, ◌≤◌, List, length, count_by}
use Rattle.std.specs.List.{sum_by}
use Rattle.kasa_families.specs.declared.family.Family.{Family}
use Rattle.kasa_families.specs.Table.{Table}
use Rattle.kasa_rules.specs.declared.model.Model.{Model}
use Rattle.kasa_fixpoint.specs.declared.pairs.Pair.{Pair}
use Rattle.kasa_fixpoint.specs.Pairs.{AreActingPairs}
use Rattle.kasa_fixpoint.specs.System.{pair_reads}

-- how many of the pairs read a family
abbrev pub reading_pairs : Model → List Family → List Pair → Family → ℕ
reading_pairs model families pairs other = count_by (λ pair. pair_reads model families pair other) pairs

-- for each row of the tables, how many of the pairs read its family
abbrev pub rows_read : Model → List Family → List Pair → List Table → ℕ
rows_read model families pairs tables = sum_by (λ t. reading_pairs model families pairs t.family * length t.rows) tables

-- at least as many steps as there are acting pairs, and at most that number and, for each row of the tables, the number
-- of acting pairs that read the row's family
pub record AreBoundedSteps (model : Model) (families : List Family) (tables : List Table) (old new : ℕ) : Type 0 where
  pub pairs : List Pair
  pub acting : AreActingPairs model families pairs
  pub at_least : old + length pairs ≤ new
  pub at_most : new ≤ old + length pairs + rows_read model families pairs tables

-- Where the nodes of a pattern lie that stands after a firing, and which of its tests the side effect made true.
use Rattle.std.specs.Prelude.{◌≡◌, ◌↔◌, ℕ, ◌+◌, ◌<◌, true, List, [], ◌∷◌, ◌++◌, length, Option, Some, None, slice_get}
use Rattle.kasa_graph.specs.declared.pattern.Node.{Node}
use Rattle.kasa_graph.specs.declared.mixture.Agent.{Agent}
use Rattle.kasa_graph.specs.declared.pattern.LinkTest.TheVariants as test
use Rattle.kasa_graph.specs.Signature.{TypeEntry}
use Rattle.kasa_graph.specs.Lists.{Has}
use Rattle.kasa_graph.specs.Pattern.{link_test}
use Rattle.kasa_graph.specs.Mixture.{partner_in}
use Rattle.kasa_graph.specs.Embedding.{IsEmbedding}
use Rattle.kasa_rules.specs.Rule.{RuleParts, touched}
use Rattle.kasa_rules.specs.Firing.{link_on}
use Rattle.kasa_pre.specs.declared.Stand.{Stand}
use Rattle.kasa_pre.specs.declared.Stand.TheVariants.{Left, Made, Outside}
use Rattle.kasa_pre.specs.declared.FreedBy.{FreedBy}
use Rattle.kasa_pre.specs.Before.{AreFreed, IsBefore}

-- the cell is one of the stand, where a rule fired on `cells` and the created agents count from `first` on
abbrev pub LiesOn : List ℕ → ℕ → Stand → ℕ → Type 0
LiesOn cells first (Left n) c = slice_get cells n ≡ Some c
LiesOn cells first (Made k) c = first + k ≡ c
LiesOn cells first Outside c = (c < first) × ¬ Has cells c

-- each node lies on a cell of its stand
pub record AllLieOn (cells : List ℕ) (first : ℕ) (stands : List Stand) (after : List ℕ) : Type 0 where
  pub count : length stands ≡ length after
  pub each : (i c : ℕ) (stand : Stand) → slice_get stands i ≡ Some stand → slice_get after i ≡ Some c → LiesOn cells first stand c

-- the cells of the nodes outside, in order
abbrev pub outside_cells : List Stand → List ℕ → List ℕ
outside_cells (Outside ∷ stands) (c ∷ after) = c ∷ outside_cells stands after
outside_cells (Left n ∷ stands) (c ∷ after) = outside_cells stands after
outside_cells (Made k ∷ stands) (c ∷ after) = outside_cells stands after
outside_cells (stand ∷ stands) [] = []
outside_cells [] after = []

-- the cells of a firing, and then those of the nodes outside
abbrev pub cells_before : List ℕ → List Stand → List ℕ → List ℕ
cells_before cells stands after = cells ++ outside_cells stands after

-- a rule that fired on `cells` freed a site of v that tests for it: the rule didn't write the site, but touched its partner's,
-- where v lies on the cells `after`
pub record WasFreed (r : RuleParts) (cells : List ℕ) (m : List (Option Agent)) (v : List Node) (after : List ℕ) (f : FreedBy) : Type 0 where
  pub test : link_test v f.node f.site ≡ test.Free
  pub cell : ℕ
  pub lies : slice_get after f.node ≡ Some cell
  pub source : ℕ
  pub source_lies : slice_get cells f.from ≡ Some source
  pub was : partner_in m cell f.site ≡ Some (source, f.at)
  pub unwritten : link_on r cells cell f.site ≡ None
  pub source_touched : touched r f.from f.at ≡ true

-- the list names just the tests that the side effect made true, each with its source
pub record AreJustFreed (r : RuleParts) (cells : List ℕ) (m : List (Option Agent)) (v : List Node) (after : List ℕ) (freed : List FreedBy) : Type 0 where
  pub just : (f : FreedBy) → Has freed f ↔ WasFreed r cells m v after f

-- before the firing some pattern stood on these cells, with which v can stand afterwards
pub record StoodBefore (sig : List TypeEntry) (r : RuleParts) (cells : List ℕ) (m : List (Option Agent)) (v : List Node) (after : List ℕ) (stands : List Stand) (freed : List FreedBy) : Type 0 where
  pub pattern : List Node
  pub free : AreFreed r v stands freed
  pub before : IsBefore sig r v stands freed pattern
  pub stood : IsEmbedding pattern m (cells_before cells stands after)

use Rattle.std.proofs.Common.{◌≡◌, ◌≢◌, ℕ, true, take}
use Rattle.std.specs.Prelude.{slice_index}
use Rattle.kasa_digraph.specs.Graph.{has}
use Rattle.kasa_digraph.proofs.cycle.has_component.Given as goal

abbrev pub invariant-loop-q : goal.invariant-loop-q
invariant-loop-q l = record { none : (x : ℕ) → has (take l.q-index l.points) x ≡ true → slice_index l.components x ≢ l.component }

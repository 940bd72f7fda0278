use Rattle.std.proofs.Common.{◌↔◌, ◌⊎◌, ℕ}
use Rattle.std.specs.Prelude.{Option}
use Rattle.kasa_graph.specs.Lists.{Has}
use Rattle.kasa_columns.proofs.ChosenLemmas.{IsNumbered}
use Rattle.kasa_columns.proofs.Pushing.{FromUpto}
use Rattle.kasa_columns.proofs.chosen.possible_states.Given as goal

abbrev pub invariant-loop-u : goal.invariant-loop-u
invariant-loop-u l = (state : Option ℕ) → Has l.states.items state ↔ (Has l.initial.states.items state ⊎ FromUpto (IsNumbered l.count) l.u state)

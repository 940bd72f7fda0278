use Rattle.std.proofs.Common.{sym, ◌∙◌, refl, arith}
use Rattle.std.proofs.lemmas.Grind.{common_steps}
use Rattle.std.proofs.lemmas.Option.{gets, slice_get_read}
use Rattle.std.specs.Prelude.{None}
use Rattle.kasa_graph.proofs.CellLemmas.{agent_in-at, agent_in-past}
use Rattle.kasa_graph.proofs.mixture.agent_at.Goals as goal

pub returns-in-Some-Some : goal.returns-in-Some-Some
returns-in-Some-Some c = sym (agent_in-at c.args.cells.now c.args.c _ (grind (arith, common_steps, gets)))

pub returns-in-Some-None : goal.returns-in-Some-None
returns-in-Some-None c = sym (agent_in-at c.args.cells.now c.args.c None
    (slice_get_read c.args.cells.now _ c.args.c None refl c.in-Some-None.ensures.lookup.3.0 (sym c.in-Some-None.field-0-is ∙ c.in-Some-None.ensures.lookup.3.1 None)))

pub returns-in-None : goal.returns-in-None
returns-in-None c = sym (agent_in-past c.args.cells.now c.args.c (grind (arith, common_steps, gets)))

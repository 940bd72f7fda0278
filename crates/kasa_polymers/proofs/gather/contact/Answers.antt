use Rattle.std.proofs.Common.{ap, subst, ◌∙◌}
use Rattle.kasa_rules.specs.declared.model.Model.{Model}
use Rattle.kasa_rules.specs.Reached.{IsModel}
use Rattle.kasa_polymers.specs.declared.gather.Seen.{Seen}
use Rattle.kasa_polymers.proofs.MapLemmas.{gathered_bonds, gathered_states, and_then, IsMapped-reached}
use Rattle.kasa_polymers.proofs.gather.contact.Goals as goal

pub see_complexes-requires : goal.see_complexes-requires
see_complexes-requires g c = record { over = λ m has. c.model.invariant.0.inits has.0 m (rw c.as_slice.ensures at has.1) }

pub see_rules-requires-clause-over : goal.see_rules-requires-clause-over
see_rules-requires-clause-over g c = λ r has. c.model.invariant.0.rules has.0 r (rw c.as_slice-2.ensures at has.1)

pub returns-clause-bonds : goal.returns-clause-bonds
returns-clause-bonds g c =
    let first : Seen = record { bonds = c.new.result; states = c.new-2.result } in
    λ p. and_then (c.in_order.ensures.same p)
    (gathered_bonds c.args.model.now (g.R.Rows.tables c.args.rows.now) c.model.inside.sig c.as_slice.result.now c.as_slice-2.result.now (ap (λ (m : Model). m.sig) c.model.view_is)
    (c.as_slice.ensures ∙ ap (λ (m : Model). m.inits) c.model.view_is) (c.as_slice-2.ensures ∙ ap (λ (m : Model). m.rules) c.model.view_is)
    first c.see_complexes.new.seen c.see_rules.new.seen c.new.ensures.items c.new-2.ensures.items c.in_ok-see_complexes.ensures c.in_ok-see_rules.ensures p)

pub returns-clause-states : goal.returns-clause-states
returns-clause-states g c =
    let first : Seen = record { bonds = c.new.result; states = c.new-2.result } in
    λ q. and_then (c.states_in_order.ensures.same q)
    (gathered_states c.args.model.now (g.R.Rows.tables c.args.rows.now) c.model.inside.sig c.as_slice.result.now c.as_slice-2.result.now (ap (λ (m : Model). m.sig) c.model.view_is)
    (c.as_slice.ensures ∙ ap (λ (m : Model). m.inits) c.model.view_is) (c.as_slice-2.ensures ∙ ap (λ (m : Model). m.rules) c.model.view_is)
    first c.see_complexes.new.seen c.see_rules.new.seen c.new.ensures.items c.new-2.ensures.items c.in_ok-see_complexes.ensures c.in_ok-see_rules.ensures q)

pub returns-clause-sound : goal.returns-clause-sound
returns-clause-sound g c =
    IsMapped-reached c.args.model.now (g.R.Rows.tables c.args.rows.now) (record { bonds = c.in_order.result; states = c.states_in_order.result }) c.requires.tables (subst IsModel c.model.view_is c.model.invariant.0) (returns-clause-bonds g c) (returns-clause-states g c)

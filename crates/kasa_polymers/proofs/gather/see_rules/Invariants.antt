use Rattle.std.proofs.Common.{◌≡◌}
use Rattle.std.specs.Prelude.{Some, slice_get}
use Rattle.kasa_rules.specs.Rule.{RuleParts}
use Rattle.kasa_pre.specs.Allowed.{IsAllowed}
use Rattle.kasa_polymers.specs.Contact.{WritesBond, WritesState}
use Rattle.kasa_polymers.specs.inner.Gather.{AddsSeen, Below}
use Rattle.kasa_polymers.proofs.gather.see_rules.Given as goal

abbrev pub invariant-loop-rule : goal.invariant-loop-rule
invariant-loop-rule g l = record {
  added : AddsSeen
      (Below (λ k p. (r : RuleParts) × (slice_get l.rules k ≡ Some r) × IsAllowed l.sig (g.R.Rows.tables l.rows) r.left × WritesBond r p) l.rule-index)
      (Below (λ k q. (r : RuleParts) × (slice_get l.rules k ≡ Some r) × IsAllowed l.sig (g.R.Rows.tables l.rows) r.left × WritesState r q) l.rule-index)
      l.initial.seen l.seen;
}

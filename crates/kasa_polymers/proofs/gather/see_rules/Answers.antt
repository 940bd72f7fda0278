use Rattle.std.proofs.Common.{◌≡◌, ◌≤◌, ℕ, ◌↔◌, List, length, refl, arith}
use Rattle.std.specs.Prelude.{Some, slice_get}
use Rattle.std.proofs.lemmas.Option.{slice_get_read}
use Rattle.kasa_graph.specs.Signature.{TypeEntry}
use Rattle.kasa_graph.specs.Lists.{Has}
use Rattle.kasa_rules.specs.Rule.{RuleParts}
use Rattle.kasa_families.specs.Table.{Table}
use Rattle.kasa_pre.specs.Allowed.{IsAllowed}
use Rattle.kasa_polymers.specs.declared.map.Bond.{Bond}
use Rattle.kasa_polymers.specs.declared.map.StateSeen.{StateSeen}
use Rattle.kasa_polymers.specs.Contact.{WritesBond, WritesState}
use Rattle.kasa_polymers.specs.inner.Gather.{Below}
use Rattle.kasa_polymers.proofs.AddsLemmas.{AddsSeen-start, AddsSeen-more, AddsSeen-same}
use Rattle.kasa_polymers.proofs.GatherLemmas.{some_place, one_place}
use Rattle.kasa_polymers.proofs.gather.see_rules.Goals as goal

-- what a live rule writes
abbrev of_bond : List TypeEntry → List Table → RuleParts → Bond → Type 0
of_bond sig tables r p = IsAllowed sig tables r.left × WritesBond r p

abbrev of_state : List TypeEntry → List Table → RuleParts → StateSeen → Type 0
of_state sig tables r q = IsAllowed sig tables r.left × WritesState r q

module _ (sig : List TypeEntry) (tables : List Table) (rules : List RuleParts) where
  abbrev bonds_at : ℕ → Bond → Type 0
  bonds_at k p = (r : RuleParts) × (slice_get rules k ≡ Some r) × IsAllowed sig tables r.left × WritesBond r p

  abbrev states_at : ℕ → StateSeen → Type 0
  states_at k q = (r : RuleParts) × (slice_get rules k ≡ Some r) × IsAllowed sig tables r.left × WritesState r q

  -- what holds of the rule at a place, and of some rule
  rule_bonds_at : (k : ℕ) (r : RuleParts) → slice_get rules k ≡ Some r → (p : Bond) → of_bond sig tables r p ↔ bonds_at k p
  rule_bonds_at k r at p =
      let one = one_place rules (of_bond sig tables) k r at p in
      (λ h. let w = one.0 h in (w.0, w.1, w.2.0, w.2.1), λ w. one.1 (w.0, w.1, (w.2, w.3)))

  rule_states_at : (k : ℕ) (r : RuleParts) → slice_get rules k ≡ Some r → (q : StateSeen) → of_state sig tables r q ↔ states_at k q
  rule_states_at k r at q =
      let one = one_place rules (of_state sig tables) k r at q in
      (λ h. let w = one.0 h in (w.0, w.1, w.2.0, w.2.1), λ w. one.1 (w.0, w.1, (w.2, w.3)))

  rules_bonds : (k : ℕ) → length rules ≤ k → (p : Bond) → Below bonds_at k p ↔ ((r : RuleParts) × Has rules r × IsAllowed sig tables r.left × WritesBond r p)
  rules_bonds k all p =
      let some = some_place rules (of_bond sig tables) k all p in
      (λ (j, h, (r, at, ok, writes)). (r, (j, at), ok, writes), λ (r, has, ok, writes). let w = some.1 (r, has, (ok, writes)) in (w.0, w.1, (w.2.0, w.2.1, w.2.2.0, w.2.2.1)))

  rules_states : (k : ℕ) → length rules ≤ k → (q : StateSeen) → Below states_at k q ↔ ((r : RuleParts) × Has rules r × IsAllowed sig tables r.left × WritesState r q)
  rules_states k all q =
      let some = some_place rules (of_state sig tables) k all q in
      (λ (j, h, (r, at, ok, writes)). (r, (j, at), ok, writes), λ (r, has, ok, writes). let w = some.1 (r, has, (ok, writes)) in (w.0, w.1, (w.2.0, w.2.1, w.2.2.0, w.2.2.1)))

pub loop-rule-init : goal.loop-rule-init
loop-rule-init g c =
    let tables = g.R.Rows.tables c.args.rows.now in
    record { added = AddsSeen-start (bonds_at c.args.sig.now tables c.args.rules.now) (states_at c.args.sig.now tables c.args.rules.now) c.args.seen.now }

pub see_rule-requires-clause-over : goal.see_rule-requires-clause-over
see_rule-requires-clause-over g c =
    let at = slice_get_read c.args.rules.now _ c.loop-rule.rule-index c.rule-item.result refl c.loop-rule-test.true c.rule-item.is in
    c.requires.over c.rule-item.result (c.loop-rule.rule-index, at)

pub loop-rule-preserved : goal.loop-rule-preserved
loop-rule-preserved g c =
    let tables = g.R.Rows.tables c.args.rows.now in
    let sig = c.args.sig.now in
    let rules = c.args.rules.now in
    let k = c.loop-rule.rule-index in
    let r = c.rule-item.result in
    let at = slice_get_read rules _ k r refl c.loop-rule-test.true c.rule-item.is in
    record {
      added = AddsSeen-more (bonds_at sig tables rules) (states_at sig tables rules) k c.args.seen.now c.loop-rule.seen c.see_rule.new.seen c.loop-rule.invariant.added
          (AddsSeen-same (of_bond sig tables r) (bonds_at sig tables rules k) (of_state sig tables r) (states_at sig tables rules k) c.loop-rule.seen c.see_rule.new.seen
          (rule_bonds_at sig tables rules k r at) (rule_states_at sig tables rules k r at) c.in_ok-see_rule.ensures);
    }

pub returns : goal.returns
returns g c =
    let tables = g.R.Rows.tables c.args.rows.now in
    let sig = c.args.sig.now in
    let rules = c.args.rules.now in
    let k = c.loop-rule.rule-index in
    let all : length rules ≤ k = omega arith in
    AddsSeen-same (Below (bonds_at sig tables rules) k) (λ p. (r : RuleParts) × Has rules r × IsAllowed sig tables r.left × WritesBond r p) (Below (states_at sig tables rules) k) (λ q. (r : RuleParts) × Has rules r × IsAllowed sig tables r.left × WritesState r q) c.args.seen.now c.loop-rule.seen
    (rules_bonds sig tables rules k all) (rules_states sig tables rules k all) c.loop-rule.invariant.added

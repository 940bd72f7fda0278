use Rattle.std.specs.Prelude.{ℕ}
use Rattle.std.proofs.lemmas.Result.{IfOk-weaker}
use Rattle.kasa_rules.specs.declared.rule.End.TheVariants.{Made}
use Rattle.kasa_pre.specs.Allowed.{IsAllowed, IsDead}
use Rattle.kasa_polymers.specs.Contact.{WritesBond, WritesState}
use Rattle.kasa_polymers.specs.inner.Gather.{AddsSeen, IsBondOfEnd, IsStateOfEnd}
use Rattle.kasa_polymers.proofs.AddsLemmas.{AddsSeen-none}
use Rattle.kasa_polymers.proofs.MapLemmas.{at_true, at_false, live_adds}
use Rattle.kasa_polymers.proofs.gather.see_rule.Goals as goal

pub returns-then-is_dead : goal.returns-then-is_dead
returns-then-is_dead g c =
    let sig = c.args.sig.now in
    let tables = g.R.Rows.tables c.args.rows.now in
    let r = c.args.rule.now in
    let dead = at_true c.is_dead.result (IsDead sig tables r) c.is_dead.ensures.dead c.if-is_dead.true in
    AddsSeen-none (λ p. IsAllowed sig tables r.left × WritesBond r p) (λ q. IsAllowed sig tables r.left × WritesState r q) c.args.seen.now (λ p (ok, _). dead ok) (λ q (ok, _). dead ok)

pub returns : goal.returns
returns g c =
    let sig = c.args.sig.now in
    let tables = g.R.Rows.tables c.args.rows.now in
    let r = c.args.rule.now in
    let live = at_false c.is_dead.result (IsAllowed sig tables r.left) c.is_dead.ensures.alive c.if-is_dead.false in
    IfOk-weaker c.see_made.result (λ _. AddsSeen (λ p. (k : ℕ) × IsBondOfEnd r (Made k) p) (λ q. (k : ℕ) × IsStateOfEnd r (Made k) q) c.see_left.new.seen c.see_made.new.seen)
    (λ _. AddsSeen (λ p. IsAllowed sig tables r.left × WritesBond r p) (λ q. IsAllowed sig tables r.left × WritesState r q) c.args.seen.now c.see_made.new.seen)
    (λ _ made. live_adds r (IsAllowed sig tables r.left) live c.args.seen.now c.see_left.new.seen c.see_made.new.seen c.in_ok-see_left.ensures made) c.see_made.ensures

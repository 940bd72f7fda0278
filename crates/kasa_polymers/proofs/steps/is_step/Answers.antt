use Rattle.std.proofs.Common.{◌≢◌, sym}
use Rattle.std.specs.Prelude.{IsTrue, ◌↔◌}
use Rattle.std.proofs.lemmas.Bool.Decides.{Decides-eqb}
use Rattle.kasa_pre.specs.Allowed.{IsAllowed}
use Rattle.kasa_polymers.specs.StepGraph.{step_pattern}
use Rattle.kasa_polymers.proofs.steps.is_step.Goals as goal

pub returns : goal.returns
returns g c =
    let tells : IsTrue c.allowed.result ↔ IsAllowed c.args.sig.now (g.R.Rows.tables c.args.rows.now) (step_pattern c.args.sig.now c.args.bond.now c.args.next.now) = rw c.in_ok-pattern.ensures.pattern at c.allowed.ensures.allowed in
    let other : c.args.next.now.x ≢ c.args.bond.now.y = λ e. absurd (let met = (Decides-eqb c.args.next.now.x c.args.bond.now.y).1 e in let unmet = sym c.if-eq.ensures in cc) in
    (λ holds. record { goes_on = c.requires.goes_on; other_site = other; allowed = tells.0 holds }, λ step. tells.1 step.allowed)

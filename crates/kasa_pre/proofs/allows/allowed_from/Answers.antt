use Rattle.std.proofs.Common.{◌+◌, ◌<◌, ℕ, refl}
use Rattle.kasa_families.specs.First.{IsRooted}
use Rattle.kasa_pre.specs.Spots.{IsNumberAllowedFrom}
use Rattle.kasa_pre.proofs.AllowsLemmas.{below_next, AreAllowedFrom-rooted}
use Rattle.kasa_pre.proofs.allows.allowed_from.Goals as goal

pub loop-f-preserved : goal.loop-f-preserved
loop-f-preserved g c =
    let tables = g.R.Rows.tables c.args.rows.now in
    let step : (j : ℕ) → j < c.in-Some.f + 1 → IsRooted tables c.agent-agent.result j → IsNumberAllowedFrom c.args.sig.now tables c.args.g.now c.args.node j =
    below_next c.args.sig.now tables c.requires.tables c.args.g.now c.agent-agent.result c.loop-f.from c.in-Some.f (IsNumberAllowedFrom c.args.sig.now tables c.args.g.now c.args.node) c.in-Some.ensures c.loop-f.invariant (c.has_row_from.ensures.0 c.if-not-has_row_from.false) in
    rw c.f.view_is step

pub returns : goal.returns
returns g c = (
  λ yes. AreAllowedFrom-rooted c.args.sig.now (g.R.Rows.tables c.args.rows.now) c.requires.tables c.args.g.now c.args.node c.agent-agent.result c.loop-f.from c.agent-agent.ensures (rw c.in_default.is at c.next_rooted.ensures) c.loop-f.invariant,
  λ all. refl,
)

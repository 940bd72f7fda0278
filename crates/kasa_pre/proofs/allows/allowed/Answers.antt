use Rattle.std.proofs.Common.{refl, below_more, arith}
use Rattle.kasa_pre.specs.Allowed.{IsAllowed}
use Rattle.kasa_pre.specs.Spots.{AreAllowedFrom}
use Rattle.kasa_pre.proofs.AllowedLemmas.{IsAllowed-general}
use Rattle.kasa_pre.proofs.CoverLemmas.{IsAllowed-cover}
use Rattle.kasa_pre.proofs.AllowsLemmas.{IsAllowed-from, AreAllowedFrom-all}
use Rattle.kasa_pre.proofs.allows.allowed.Goals as goal

pub returns-then-not-allowed_from-clause-nowhere : goal.returns-then-not-allowed_from-clause-nowhere
returns-then-not-allowed_from-clause-nowhere g c = λ m cells over cover at.
    let tables = g.R.Rows.tables c.args.rows.now in
    let all : IsAllowed c.args.sig.now tables c.args.g.now = IsAllowed-cover c.args.sig.now tables m c.args.g.now cells c.requires.tables over cover at in
    let yes = c.allowed_from.ensures.1 (AreAllowedFrom-all c.args.sig.now tables c.requires.tables c.args.g.now all c.loop-node.node) in
    let against = c.if-not-allowed_from.true in absurd cc

pub loop-node-preserved : goal.loop-node-preserved
loop-node-preserved g c = below_more (AreAllowedFrom c.args.sig.now (g.R.Rows.tables c.args.rows.now) c.args.g.now) c.loop-node.node c.loop-node.invariant (c.allowed_from.ensures.0 c.if-not-allowed_from.false)

pub returns-clause-allowed : goal.returns-clause-allowed
returns-clause-allowed g c = (
  λ yes. IsAllowed-from c.args.sig.now (g.R.Rows.tables c.args.rows.now) c.requires.tables c.args.g.now (λ n within. c.loop-node.invariant n (omega arith)),
  λ all. refl,
)

pub returns-clause-general : goal.returns-clause-general
returns-clause-general g c = λ h general.
    let tables = g.R.Rows.tables c.args.rows.now in
    let ok : IsAllowed c.args.sig.now tables c.args.g.now = (returns-clause-allowed g c).0 refl in
    IsAllowed-general h c.args.g.now general c.args.sig.now tables ok

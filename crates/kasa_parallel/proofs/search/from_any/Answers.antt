use Rattle.kasa_parallel.specs.Partners.{YieldsWith}
use Rattle.kasa_parallel.proofs.StandLists.{none_more, none_at_all}
use Rattle.kasa_parallel.proofs.search.from_any.Goals as goal

pub loop-first-preserved : goal.loop-first-preserved
loop-first-preserved g c =
    none_more (YieldsWith c.args.search.now.sig c.args.search.now.tables c.args.search.now.rule c.args.v.now) c.args.firsts.now c.loop-first.first-index c.first-item.result c.loop-first-test.true c.first-item.is c.loop-first.invariant (λ h. let yes = c.in_ok-from_first.ensures.1 h in let out = c.if-branch.false in absurd cc)

pub returns : goal.returns
returns g c = (
  λ yes. absurd (let e = yes in cc),
  λ h. absurd (none_at_all (YieldsWith c.args.search.now.sig c.args.search.now.tables c.args.search.now.rule c.args.v.now) c.args.firsts.now c.loop-first.first-index c.loop-first-test.false c.loop-first.invariant h.0 h.1 h.2),
)

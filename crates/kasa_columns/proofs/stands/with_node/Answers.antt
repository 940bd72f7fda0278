use Rattle.std.proofs.Common.{refl}
use Rattle.std.proofs.lemmas.Option.{slice_get_read}
use Rattle.kasa_families.specs.Family.{shape_of}
use Rattle.kasa_columns.specs.Stands.{IsLonger}
use Rattle.kasa_columns.proofs.Pushing.{pushed_none, pushed_next, pushed_all, from_all}
use Rattle.kasa_columns.proofs.stands.with_node.Goals as goal

pub loop-first-init : goal.loop-first-init
loop-first-init c = pushed_none (IsLonger c.args.rule.now (shape_of c.args.family.now).bonds c.args.next.now) _

pub push_longer-requires-clause-first : goal.push_longer-requires-clause-first
push_longer-requires-clause-first c =
    c.requires.firsts c.first-item.result (c.loop-first.first-index, slice_get_read c.args.firsts.now _ c.loop-first.first-index c.first-item.result refl c.loop-first-test.true c.first-item.is)

pub loop-first-preserved : goal.loop-first-preserved
loop-first-preserved c =
    pushed_next (IsLonger c.args.rule.now (shape_of c.args.family.now).bonds c.args.next.now) _ c.args.firsts.now c.loop-first.first-index c.loop-first.all.items _ c.first-item.result c.loop-first-test.true c.first-item.is c.loop-first.invariant c.in_ok-push_longer.ensures

pub returns : goal.returns
returns c =
    from_all (IsLonger c.args.rule.now (shape_of c.args.family.now).bonds c.args.next.now) c.args.firsts.now c.loop-first.all.items
    (rw c.new-all.ensures.items at (pushed_all (IsLonger c.args.rule.now (shape_of c.args.family.now).bonds c.args.next.now) _ c.args.firsts.now c.loop-first.first-index c.loop-first.all.items c.loop-first-test.false c.loop-first.invariant))

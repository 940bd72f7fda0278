use Rattle.std.proofs.Common.{◌<◌, arith}
use Rattle.kasa_fixpoint.proofs.StepLemmas.{IsStep-then}
use Rattle.kasa_fixpoint.proofs.LoopLemmas.{within_tables, occurring_next}
use Rattle.kasa_fixpoint.proofs.inits.insert_init.Goals as goal

pub loop-f-preserved : goal.loop-f-preserved
loop-f-preserved c = record {
  step = IsStep-then c.args.model.now c.args.tables.now c.loop-f.tables c.insert_initial.new.tables c.loop-f.invariant.step c.in_ok-insert_initial.ensures.step;
  initial = occurring_next c.args.model.now c.loop-f.tables c.insert_initial.new.tables c.in_ok-insert_initial.ensures.step c.loop-f.f c.args.init.now c.loop-f.invariant.initial c.in_ok-insert_initial.ensures.initial;
}

pub returns-clause-initial : goal.returns-clause-initial
returns-clause-initial c family has =
    let within = within_tables c.args.tables.now has.0 family (rw c.loop-f.invariant.step.families at has.1) in
    let all : has.0 < c.loop-f.f = let count = c.families-f-end.ensures.count in omega arith in
    c.loop-f.invariant.initial has.0 all family has.1

use Rattle.std.proofs.Common.{arith}
use Rattle.kasa_compile.proofs.StepLemmas.{IsLater-trans, CanWrite-later}
use Rattle.kasa_compile.proofs.WrittenLoops.{done_next, waits_on}
use Rattle.kasa_compile.proofs.rule.write_sites.Goals as goal

pub write_site-requires-clause-can : goal.write_site-requires-clause-can
write_site-requires-clause-can c =
    let can = c.requires.can in
    let now = c.loop-i.invariant in
    (can.0, CanWrite-later can.0 c.args.sides.now c.args.left.now c.args.draft.now c.loop-i.draft can.1 (now.later can.0 can.1) (now.over can.0 (can.1).over))

pub loop-i-preserved : goal.loop-i-preserved
loop-i-preserved c =
    let now = c.loop-i.invariant in
    record {
      over = λ sig over. c.write_site.ensures.over sig (now.over sig over);
      later = λ sig can.
          let middle = CanWrite-later sig c.args.sides.now c.args.left.now c.args.draft.now c.loop-i.draft can (now.later sig can) (now.over sig can.over) in
          IsLater-trans sig c.args.sides.now c.args.left.now c.args.draft.now c.loop-i.draft c.write_site.new.draft (now.later sig can) (c.write_site.ensures.later sig middle);
      waits = c.write_site.ensures.waits;
      done = λ sig can.
          let middle = CanWrite-later sig c.args.sides.now c.args.left.now c.args.draft.now c.loop-i.draft can (now.later sig can) (now.over sig can.over) in
          done_next sig c.args.sides.now c.args.left.now c.loop-i.draft c.write_site.new.draft c.args.k c.loop-i.i (c.write_site.ensures.later sig middle) (now.done sig can) (c.write_site.ensures.done sig middle);
    }

pub returns-clause-waits : goal.returns-clause-waits
returns-clause-waits c =
    waits_on c.args.sides.now c.args.left.now c.loop-i.draft c.args.k c.loop-i.i
    (λ j s says. let within = c.right_count-i-end.ensures.no_more j s says in let last = c.loop-i-test.false in omega arith)
    c.loop-i.invariant.waits

pub returns-clause-done : goal.returns-clause-done
returns-clause-done c = λ sig can j s says.
    let within = c.right_count-i-end.ensures.no_more j s says in
    let last = c.loop-i-test.false in
    c.loop-i.invariant.done sig can j s (omega arith) says

use Rattle.std.proofs.Common.{◌≤◌, length, rules}
use Rattle.kasa_compile.proofs.StepLemmas.{IsLater-trans, CanWrite-later}
use Rattle.kasa_compile.proofs.WrittenLoops.{all_next, all_done}
use Rattle.kasa_compile.proofs.rule.write_all.Goals as goal

pub write_sites-requires-clause-can : goal.write_sites-requires-clause-can
write_sites-requires-clause-can c =
    let can = c.requires.can in
    let now = c.loop-k.invariant in
    (can.0, CanWrite-later can.0 c.args.sides.now c.args.left.now c.args.draft.now c.loop-k.draft can.1 (now.later can.0 can.1) (now.over can.0 (can.1).over))

pub loop-k-preserved : goal.loop-k-preserved
loop-k-preserved c =
    let now = c.loop-k.invariant in
    record {
      over = λ sig over. c.write_sites.ensures.over sig (now.over sig over);
      later = λ sig can.
          let middle = CanWrite-later sig c.args.sides.now c.args.left.now c.args.draft.now c.loop-k.draft can (now.later sig can) (now.over sig can.over) in
          IsLater-trans sig c.args.sides.now c.args.left.now c.args.draft.now c.loop-k.draft c.write_sites.new.draft (now.later sig can) (c.write_sites.ensures.later sig middle);
      waits = c.write_sites.ensures.waits;
      done = λ sig can.
          let middle = CanWrite-later sig c.args.sides.now c.args.left.now c.args.draft.now c.loop-k.draft can (now.later sig can) (now.over sig can.over) in
          all_next sig c.args.sides.now c.args.left.now c.loop-k.draft c.write_sites.new.draft c.loop-k.k (c.write_sites.ensures.later sig middle) (now.done sig can) (c.write_sites.ensures.done sig middle);
    }

pub returns-clause-done : goal.returns-clause-done
returns-clause-done c = λ sig can.
    let last : length c.args.sides.now.right ≤ c.loop-k.k = search rules in
    all_done sig c.args.sides.now c.args.left.now c.loop-k.draft c.loop-k.k last (c.loop-k.invariant.done sig can)

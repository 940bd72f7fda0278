use Rattle.std.proofs.Common.{◌≤◌, length, rules}
use Rattle.std.proofs.lemmas.List.{take_all}
use Rattle.kasa_compile.proofs.rule.make_agents.Goals as goal

pub loop-j-preserved : goal.loop-j-preserved
loop-j-preserved c = record {
  over = λ over. c.in_ok-make_agent.ensures.over (c.loop-j.invariant.over over);
  count = c.in_ok-make_agent.ensures.count;
  bare = λ name g bare. c.in_ok-make_agent.ensures.bare name g (c.loop-j.invariant.bare name g bare);
}

pub returns-clause-bare : goal.returns-clause-bare
returns-clause-bare c = λ name g bare.
    let last : length c.args.sides.now.made ≤ c.loop-j.j = search rules in
    rw (take_all c.loop-j.j c.args.sides.now.made last) at (c.loop-j.invariant.bare name g bare)

use Rattle.kasa_compile.proofs.ComplexRead.{complex_is}
use Rattle.kasa_compile.proofs.JoiningLemmas.{IsJoining-unjoined, IsComplexOf-joined}
use Rattle.kasa_compile.proofs.complex.complex.Goals as goal

pub join_agents-requires-clause-once : goal.join_agents-requires-clause-once
join_agents-requires-clause-once c = λ k a is. (c.requires.said k a is).differ

pub join_agents-requires-clause-before : goal.join_agents-requires-clause-before
join_agents-requires-clause-before c = IsJoining-unjoined c.args.sig.now c.args.agents.now c.in_ok-mixture.mixture c.requires.said c.in_ok-mixture.ensures

pub returns-clause-is : goal.returns-clause-is
returns-clause-is c =
    complex_is c.args.sig.now c.args.agents.now c.join_agents.new.mixture
    (IsComplexOf-joined c.args.sig.now c.args.agents.now c.in_ok-mixture.mixture c.join_agents.new.mixture c.in_ok-mixture.ensures c.join_agents.ensures.more c.join_agents.ensures.joining c.join_agents.ensures.labels)

pub returns-clause-over : goal.returns-clause-over
returns-clause-over c = c.join_agents.ensures.more.over c.args.sig.now c.in_ok-mixture.ensures.over

use Rattle.std.proofs.Common.{arith}
use Rattle.kasa_graph.proofs.ListLemmas.{some_at}
use Rattle.kasa_compile.proofs.BareLemmas.{made_within, made_known, made_few, count-made, IsBare-made}
use Rattle.kasa_compile.proofs.rule.make_agent.Goals as goal

pub made_type-agent-requires-clause-there : goal.made_type-agent-requires-clause-there
made_type-agent-requires-clause-there c = made_within c.args.sig.now c.args.sides.now c.requires.sides c.args.j

pub make-requires-clause-known : goal.make-requires-clause-known
make-requires-clause-known c =
    let k = some_at c.args.sides.now.made c.args.j c.requires.within in
    rw (c.made_type-agent.ensures k.0 k.1) (made_known c.args.sig.now c.args.sides.now c.requires.sides c.args.j k.0 k.1)

pub make-requires-clause-room : goal.make-requires-clause-room
make-requires-clause-room c =
    let few = made_few c.args.sig.now c.args.sides.now c.requires.sides in
    omega (arith, few, c.requires.count, c.requires.within, c.requires.few)

pub returns-clause-count : goal.returns-clause-count
returns-clause-count c = rw (c.in_ok-make.ensures.ok).1 (count-made c.args.draft.now _ c.args.j c.requires.count)

pub returns-clause-bare : goal.returns-clause-bare
returns-clause-bare c = λ name g bare.
    let k = some_at c.args.sides.now.made c.args.j c.requires.within in
    rw (c.in_ok-make.ensures.ok).1 (IsBare-made c.args.sig.now c.args.sides.now name g c.args.j k.0 c.args.draft.now c.made_type-agent.result k.1 (c.made_type-agent.ensures k.0 k.1) bare)

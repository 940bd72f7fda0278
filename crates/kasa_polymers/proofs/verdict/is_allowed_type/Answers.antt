use Rattle.kasa_polymers.proofs.BondPatterns.{IsPatternOver-alone}
use Rattle.kasa_polymers.proofs.verdict.is_allowed_type.Goals as goal

pub allowed-requires-clause-over : goal.allowed-requires-clause-over
allowed-requires-clause-over g c = let alone = IsPatternOver-alone c.args.sig.now c.args.a c.new-g.result c.add_node.new.self c.requires.known c.new-g.ensures c.in_ok-add_node.ensures.ok.1 in rw alone.0 alone.1

pub returns : goal.returns
returns g c = let alone = IsPatternOver-alone c.args.sig.now c.args.a c.new-g.result c.add_node.new.self c.requires.known c.new-g.ensures c.in_ok-add_node.ensures.ok.1 in rw alone.0 at c.allowed.ensures.allowed

use Rattle.std.proofs.Common.{refl}
use Rattle.std.proofs.lemmas.Option.{slice_get_read}
use Rattle.kasa_graph.specs.Pattern.{agent_at}
use Rattle.kasa_graph.proofs.pattern.Pattern.agent_of.Goals as goal

pub returns : goal.returns
unfolding agent_at
returns c = rw (slice_get_read c.args.self.now _ c.args.node c.index.result.now refl c.requires (rw c.self.view_is at c.index.ensures)) refl

use Rattle.std.proofs.Common.{[], ◌∷◌, refl}
use Rattle.kasa_graph.proofs.TestLemmas.{HasNodeSite-blank}
use Rattle.kasa_families.proofs.OverLemmas.{AreKnown-alone, IsNoBond-blank, HasNodeSite-parallel_second, IsNoBond-parallel_second}
use Rattle.kasa_families.proofs.patterns.asked.Goals as goal

pub blank-requires-clause-known : goal.blank-requires-clause-known
blank-requires-clause-known c = AreKnown-alone _ _ _ _ _ _ _ c.requires

pub set_link-requires-clause-exists : goal.set_link-requires-clause-exists
set_link-requires-clause-exists c = rw c.in_ok-g.ensures (HasNodeSite-blank c.args.sig.now (c.args.a ∷ []) 0 c.args.x c.args.a refl c.requires.0)

pub set_link-requires-clause-old : goal.set_link-requires-clause-old
set_link-requires-clause-old c = rw c.in_ok-g.ensures (IsNoBond-blank c.args.sig.now (c.args.a ∷ []) 0 c.args.x)

pub set_link-requires-2-clause-exists : goal.set_link-requires-2-clause-exists
set_link-requires-2-clause-exists c = rw (c.set_link.ensures, c.in_ok-g.ensures) (HasNodeSite-parallel_second _ _ _ _ _ _ _ c.requires)

pub set_link-requires-2-clause-old : goal.set_link-requires-2-clause-old
set_link-requires-2-clause-old c = rw (c.set_link.ensures, c.in_ok-g.ensures) (IsNoBond-parallel_second _ _ _ _ _ _ _ c.requires)

use Rattle.std.proofs.Common.{◌≡◌, length, ℕ, List}
use Rattle.kasa_graph.specs.Signature.{TypeEntry, state_counts, sites_of}
use Rattle.kasa_graph.proofs.SignatureLemmas.{length-map}
use Rattle.std.proofs.Common.{arith}
use Rattle.std.proofs.lemmas.Grind.{common_steps}
use Rattle.kasa_families.proofs.valid.has_site.Goals as goal

how_many : (sig : List TypeEntry) (a : ℕ) → length (state_counts sig a) ≡ length (sites_of sig a)
unfolding state_counts
how_many sig a = length-map _ (sites_of sig a)

pub returns : goal.returns
returns c = rw (how_many c.args.sig.now c.args.agent, ← c.sites.ensures.count, ← c.site.view_is) (grind (arith, common_steps))

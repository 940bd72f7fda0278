use Rattle.std.proofs.Common.{List, refl, ap, sym}
use Rattle.std.specs.Prelude.{slice_get}
use Rattle.std.proofs.lemmas.Option.{slice_get_read}
use Rattle.kasa_graph.specs.declared.pattern.SiteTests.{SiteTests}
use Rattle.kasa_graph.specs.Pattern.{site_at}
use Rattle.kasa_graph.proofs.pattern.Pattern.tests.Goals as goal

pub returns : goal.returns
unfolding site_at
returns c = λ s. rw (slice_get_read c.args.self.now _ c.args.node c.index.result.now refl c.requires (rw c.self.view_is at c.index.ensures)) (ap (λ (xs : List SiteTests). slice_get xs s) (sym c.as_slice.ensures))

use Rattle.std.proofs.Common.{◌≡◌, ℕ, sym, ◌∙◌}
use Rattle.std.specs.Prelude.{Some, slice_get}
use Rattle.kasa_families.specs.Shape.{Nth}
use Rattle.kasa_families.specs.Family.{shape_of}
use Rattle.kasa_families.specs.Local.{LocalAgrees}
use Rattle.kasa_families.specs.Spot.{place_of, nodes_of}
use Rattle.kasa_families.proofs.ColumnLemmas.{nth_none, nth_some}
use Rattle.kasa_families.proofs.SpotLemmas.{HasNodeSite-column}
use Rattle.kasa_families.proofs.compatible.agrees_at.Goals as goal

pub returns-in-None : goal.returns-in-None
returns-in-None c = nth_none (shape_of c.args.family.now).columns c.args.k (λ s. Nth (place_of c.args.g.now c.args.family.now c.args.spot.now) s.node (λ n. LocalAgrees c.args.g.now n s.site c.args.local)) (sym c.column.ensures ∙ c.in-None.is)

pub column_agrees-requires : goal.column_agrees-requires
column_agrees-requires c = rw c.place_at.ensures (λ n on. HasNodeSite-column _ _ _ c.requires.stands c.requires.named c.in-Some.at (c.args.k, sym c.column.ensures ∙ c.in-Some.is) n on)

pub returns-in-Some : goal.returns-in-Some
returns-in-Some c = nth_some (shape_of c.args.family.now).columns c.args.k (λ s. Nth (place_of c.args.g.now c.args.family.now c.args.spot.now) s.node (λ n. LocalAgrees c.args.g.now n s.site c.args.local)) c.in-Some.at c.column_agrees.result (sym c.column.ensures ∙ c.in-Some.is) (rw c.place_at.ensures at c.column_agrees.ensures)

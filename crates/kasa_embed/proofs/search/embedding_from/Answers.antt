use Rattle.std.proofs.Common.{◌≡◌, sym}
use Rattle.std.specs.Prelude.{Some, None}
use Rattle.kasa_embed.specs.Route.{ends_of}
use Rattle.kasa_embed.proofs.RouteLemmas.{no_ends, ends_embedded, ends_not_embedded}
use Rattle.kasa_embed.proofs.search.embedding_from.Goals as goal

pub returns-in_err-cells : goal.returns-in_err-cells
returns-in_err-cells c =
    let none : ends_of c.args.mixture.now c.args.first c.args.routes.now ≡ None = sym c.in_err-cells.ensures in
    rw c.from_residual.ensures (no_ends _ _ _ _ c.requires.routes none)

pub returns-then-is_embedding : goal.returns-then-is_embedding
returns-then-is_embedding c =
    let some : ends_of c.args.mixture.now c.args.first c.args.routes.now ≡ Some c.in_ok-cells.cells.items = sym c.in_ok-cells.ensures in
    ends_embedded _ _ _ _ c.requires.routes _ some (rw c.as_slice.ensures.value at (c.is_embedding.ensures.0 c.if-is_embedding.true))

pub returns-else-is_embedding : goal.returns-else-is_embedding
returns-else-is_embedding c =
    let some : ends_of c.args.mixture.now c.args.first c.args.routes.now ≡ Some c.in_ok-cells.cells.items = sym c.in_ok-cells.ensures in
    ends_not_embedded _ _ _ _ c.requires.routes _ some (λ at. let yes = c.is_embedding.ensures.1 (rw c.as_slice.ensures.value at) in let not = c.if-is_embedding.false in cc)

use Rattle.std.proofs.Common.{◌≡◌, length, refl, ◌∙◌, sym, arith, rules, inl, inr, ap}
use Rattle.std.proofs.Math.Nat.{le_trans}
use Rattle.std.specs.Prelude.{slice_get}
use Rattle.std.proofs.lemmas.Option.{slice_get_within, slice_get-get_or, same_Some}
use Rattle.kasa_lists.proofs.Numbers.{same_or_not}
use Rattle.kasa_graph.proofs.FitLemmas.{IsEmbedding-of, FitsCell-from}
use Rattle.kasa_graph.proofs.embedding.is_embedding.Goals as goal

pub returns-then-not-fits_cell : goal.returns-then-not-fits_cell
returns-then-not-fits_cell c = (
  (λ h. absurd cc),
  (λ at. rw c.if-not-fits_cell.true at (c.fits_cell.ensures.1 (FitsCell-from _ _ _ at _ _ (slice_get-get_or c.args.ids.now c.loop-node.node 0 c.loop-node-test.true)))),
)

pub loop-node-preserved : goal.loop-node-preserved
loop-node-preserved c = λ k cell below here. elim (same_or_not k c.loop-node.node) [
  | inl e ↦
      let same = same_Some _ _ (sym here ∙ ap (slice_get c.args.ids.now) e ∙ slice_get-get_or c.args.ids.now c.loop-node.node 0 c.loop-node-test.true) in
      rw (e, same) (c.fits_cell.ensures.0 c.if-not-fits_cell.false)
  | inr ne ↦ c.loop-node.invariant k cell (omega arith) here
]

pub returns : goal.returns
returns c =
    let count : length c.args.ids.now ≡ length c.args.pattern.now = search rules in (
      (λ _. IsEmbedding-of _ _ _ count (c.are_different.ensures.0 c.if-not-are_different.false) (λ k cell here. c.loop-node.invariant k cell (le_trans (slice_get_within c.args.ids.now k cell here) c.loop-node-test.false) here)),
      (λ _. refl),
    )

use Rattle.std.proofs.Common.{◌≡◌, ◌∷◌, [], ◌++◌, ◌∙◌, List, sym, ap, Some}
use Rattle.std.specs.Prelude.{slice_get}
use Rattle.kasa_families.specs.declared.shape.NodeSite.{NodeSite}
use Rattle.kasa_families.specs.Family.{shape_of}
use Rattle.kasa_columns.proofs.Pushing.{take_one_at}
use Rattle.kasa_columns.proofs.yielded.columns_of.Goals as goal

pub loop-k-preserved : goal.loop-k-preserved
loop-k-preserved c =
    let at : slice_get (shape_of c.args.family.now).columns c.loop-k.k ≡ Some c.in-Some.column = sym c.column.ensures ∙ c.in-Some.is in
    rw (take_one_at (shape_of c.args.family.now).columns c.loop-k.k c.in-Some.column at, c.in_ok-push-in-Some.ensures.items)
    (ap (λ (columns : List NodeSite). columns ++ c.in-Some.column ∷ []) c.loop-k.invariant)

use Rattle.std.proofs.Common.{◌≡◌, ◌<◌, length, refl, arith}
use Rattle.std.specs.Prelude.{Some, slice_get}
use Rattle.std.proofs.lemmas.Option.{slice_get_read}
use Rattle.kasa_families.proofs.LeftLemmas.{IsOpen-at, ColumnsLeft-at, ColumnsLeft-ended}
use Rattle.kasa_families.proofs.patterns.put_columns.Goals as goal
use Rattle.kasa_families.proofs.patterns.put_columns.Goals.{After-index-columns-k}

column_read : (c : After-index-columns-k) → slice_get c.args.columns.now c.loop-k.k ≡ Some c.index-columns-k.result
column_read c =
    let within : c.loop-k.k < length c.args.columns.now = let many = c.requires.many in let below = c.loop-k-test.true in omega arith in
    slice_get_read _ _ _ _ refl within c.index-columns-k.is

pub put_local-requires : goal.put_local-requires
put_local-requires c = IsOpen-at _ _ _ _ _ c.loop-k.invariant c.index-columns-k.result (column_read (goal.at.put_local-requires c).After-index-columns-k)

pub loop-k-preserved : goal.loop-k-preserved
loop-k-preserved c =
    rw c.put_local.ensures (ColumnsLeft-at _ _ _ _ _ c.loop-k.invariant c.index-columns-k.result c.index-locals-k.result
    (column_read (goal.at.loop-k-preserved c).After-index-columns-k)
    (slice_get_read _ _ _ _ refl c.loop-k-test.true c.index-locals-k.is))

pub returns : goal.returns
returns c = ColumnsLeft-ended _ _ _ _ _ c.loop-k.invariant c.loop-k-test.false

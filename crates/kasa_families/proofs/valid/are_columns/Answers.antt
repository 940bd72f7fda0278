use Rattle.std.proofs.Common.{◌≡◌, ◌<◌, length, refl, sym, ◌∙◌, arith}
use Rattle.std.specs.Prelude.{Some, slice_get}
use Rattle.std.proofs.lemmas.Option.{slice_get_read}
use Rattle.std.proofs.lemmas.Slice.Zip.{AllZip-long}
use Rattle.kasa_families.specs.Family.{shape_of}
use Rattle.kasa_families.proofs.LeftLemmas.{PairsLeft-read, PairsLeft-unread, PairsLeft-ended}
use Rattle.kasa_families.proofs.valid.are_columns.Goals as goal
use Rattle.kasa_families.proofs.valid.are_columns.Goals.{After-index-columns-k}

column_read : (c : After-index-columns-k) → slice_get (shape_of c.args.family.now).columns c.loop-k.k ≡ Some c.index-columns-k.result
column_read c =
    let same = c.as_slice-columns.ensures in
    let all = c.read_columns-columns.ensures in
    let within : c.loop-k.k < length c.as_slice-columns.result.now = rw (same, all) (let equal = c.if-locals-columns.false in let long = c.columns.ensures in let below = c.loop-k-test.true in omega arith) in
    rw (same, all) at (slice_get_read _ _ _ _ refl within c.index-columns-k.is)

pub returns-then-locals-columns : goal.returns-then-locals-columns
returns-then-locals-columns c = (λ e. absurd cc, λ all. absurd (c.if-locals-columns.true (AllZip-long _ _ _ all ∙ sym c.columns.ensures)))

pub returns-then-not-is_local_of : goal.returns-then-not-is_local_of
returns-then-not-is_local_of c = (
  λ e. absurd cc,
  λ all. absurd (PairsLeft-unread _ _ _ _ c.loop-k.invariant c.index-locals-k.result (slice_get_read _ _ _ _ refl c.loop-k-test.true c.index-locals-k.is) _ (column_read (goal.at.returns-then-not-is_local_of c).After-index-columns-k) (λ holds. let yes = c.is_local_of.ensures.1 holds in let no = c.if-not-is_local_of.true in cc) all),
)

pub loop-k-preserved : goal.loop-k-preserved
loop-k-preserved c =
    PairsLeft-read _ _ _ _ c.loop-k.invariant c.index-locals-k.result (slice_get_read _ _ _ _ refl c.loop-k-test.true c.index-locals-k.is) _ (column_read (goal.at.loop-k-preserved c).After-index-columns-k) (c.is_local_of.ensures.0 (let yes = c.if-not-is_local_of.false in cc))

pub returns : goal.returns
returns c = (λ e. PairsLeft-ended _ _ _ _ c.loop-k.invariant (let same = c.if-locals-columns.false in let long = c.columns.ensures in omega arith) c.loop-k-test.false, λ all. refl)

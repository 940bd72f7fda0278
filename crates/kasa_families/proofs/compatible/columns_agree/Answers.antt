use Rattle.std.proofs.Common.{◌≡◌, ◌<◌, length, refl, sym, ◌∙◌, arith}
use Rattle.std.specs.Prelude.{Some, slice_get}
use Rattle.std.proofs.lemmas.Option.{slice_get_read}
use Rattle.std.proofs.lemmas.Slice.Zip.{AllZip-long}
use Rattle.kasa_families.proofs.LeftLemmas.{PairsLeft-read, PairsLeft-unread, PairsLeft-ended}
use Rattle.kasa_families.proofs.SpotLemmas.{HasNodeSite-column}
use Rattle.kasa_families.proofs.compatible.columns_agree.Goals as goal
use Rattle.kasa_families.proofs.compatible.columns_agree.Goals.{After-index-columns-k}

column_read : (c : After-index-columns-k) → slice_get c.args.columns.now c.loop-k.k ≡ Some c.index-columns-k.result
column_read c =
    let within : c.loop-k.k < length c.args.columns.now = let same = c.if-locals-columns.false in let below = c.loop-k-test.true in omega arith in
    slice_get_read _ _ _ _ refl within c.index-columns-k.is

pub returns-then-locals-columns : goal.returns-then-locals-columns
returns-then-locals-columns c = (λ e. absurd cc, λ all. absurd (c.if-locals-columns.true (AllZip-long _ _ _ all)))

pub column_agrees-requires : goal.column_agrees-requires
column_agrees-requires c = λ n on. HasNodeSite-column _ _ _ c.requires.stands c.requires.named c.index-columns-k.result (c.loop-k.k, rw (← c.requires.columns) (column_read (goal.at.column_agrees-requires c).After-index-columns-k)) n on

pub returns-then-not-column_agrees : goal.returns-then-not-column_agrees
returns-then-not-column_agrees c = (
  λ e. absurd cc,
  λ all. absurd (PairsLeft-unread _ _ _ _ c.loop-k.invariant c.index-locals-k.result (slice_get_read _ _ _ _ refl c.loop-k-test.true c.index-locals-k.is) _ (column_read (goal.at.returns-then-not-column_agrees c).After-index-columns-k) (λ holds. let yes = c.column_agrees.ensures.1 holds in let no = c.if-not-column_agrees.true in cc) all),
)

pub loop-k-preserved : goal.loop-k-preserved
loop-k-preserved c =
    PairsLeft-read _ _ _ _ c.loop-k.invariant c.index-locals-k.result (slice_get_read _ _ _ _ refl c.loop-k-test.true c.index-locals-k.is) _ (column_read (goal.at.loop-k-preserved c).After-index-columns-k) (c.column_agrees.ensures.0 (let yes = c.if-not-column_agrees.false in cc))

pub returns : goal.returns
returns c = (λ e. PairsLeft-ended _ _ _ _ c.loop-k.invariant (let same = c.if-locals-columns.false in let ended = c.loop-k-test.false in omega arith) c.loop-k-test.false, λ all. refl)

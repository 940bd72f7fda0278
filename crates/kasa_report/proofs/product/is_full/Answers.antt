use Rattle.std.proofs.Common.{◌≡◌, ◌+◌, length, subst, arith, ℕ}
use Rattle.std.proofs.lemmas.Bool.Decides.{Decides-eqb}
use Rattle.kasa_lists.proofs.Elements.{some_at}
use Rattle.kasa_report.proofs.MixedLemmas.{AreMixed, mixed_none, mixed_more, product_bounds, rows_bound, is_product}
use Rattle.kasa_report.proofs.ProductLemmas.{some_rows}
use Rattle.kasa_report.proofs.product.is_full.Goals as goal

pub loop-k-init : goal.loop-k-init
loop-k-init c = record { mixed = mixed_none c.args.rows.now; few = some_rows c.args.rows.now (c.if-is_empty.ensures) }

pub loop-k-preserved : goal.loop-k-preserved
loop-k-preserved c = record {
  mixed = mixed_more c.args.rows.now c.loop-k.k c.loop-k.mixed c.in_ok-count_states.field-0 c.in_ok-mixed.field-0 c.loop-k.invariant.mixed c.in_ok-count_states.ensures.counted c.in_ok-mixed.ensures.counted;
  few = c.if-mixed-rows.false;
}

pub returns-then-mixed-rows : goal.returns-then-mixed-rows
returns-then-mixed-rows c =
    let more = mixed_more c.args.rows.now c.loop-k.k c.loop-k.mixed c.in_ok-count_states.field-0 c.in_ok-mixed.field-0 c.loop-k.invariant.mixed c.in_ok-count_states.ensures.counted c.in_ok-mixed.ensures.counted in (
      λ yes. absurd cc,
      λ product.
          let few = product_bounds c.args.rows.now c.args.columns _ c.requires.wide (c.loop-k.k + 1) more (omega arith) product in
          let many = c.if-mixed-rows.true in absurd (omega arith),
    )

pub returns : goal.returns
returns c =
    let rows = c.args.rows.now in
    let end : c.loop-k.k ≡ c.args.columns = (let past = c.loop-k-test.false in let auto = c.loop-k.auto.k-end in omega arith) in
    let mixed = subst (λ (k : ℕ). AreMixed rows k c.loop-k.mixed) end c.loop-k.invariant.mixed in
    let least = rows_bound rows c.args.columns c.loop-k.mixed c.requires.wide mixed c.requires.different in
    let some = some_rows rows c.if-is_empty.ensures in
    let row = some_at rows 0 (omega arith) in
    let test = Decides-eqb c.loop-k.mixed (length rows) in (
      λ yes. let same = test.0 yes in is_product rows c.args.columns c.loop-k.mixed c.requires.wide mixed c.requires.different row.0 (0, row.1) (omega arith),
      λ product. let few = c.loop-k.invariant.few in test.1 (omega arith),
    )

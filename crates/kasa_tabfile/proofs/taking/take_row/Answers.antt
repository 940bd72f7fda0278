use Rattle.std.proofs.Common.{◌≡◌, ◌∙◌, ◌-◌, ap, Ok, Err}
use Rattle.kasa_families.specs.Table.{rows_of}
use Rattle.kasa_lists.specs.Lists.{Has}
use Rattle.kasa_tables.specs.Insert.{with_row}
use Rattle.kasa_tabfile.specs.Outcome.{last}
use Rattle.kasa_tabfile.proofs.TakingLemmas.{can_insert, twice, full, fine}
use Rattle.kasa_tabfile.proofs.taking.take_row.Goals as goal

is-last : (c : goal.After-insert-arg-1) → c.saturating_sub.result ≡ last c.args.tables.now
is-last c = c.saturating_sub.ensures ∙ ap (λ n. n - 1) c.families.ensures.count

pub insert-requires : goal.insert-requires
insert-requires c = can_insert c.args.sig.now c.args.n c.args.tables.now c.saturating_sub.result c.in-Some.row (is-last c) (c.is_row_at.ensures.0 c.if-not-is_row_at.false)

pub returns-in-Ok-true : goal.returns-in-Ok-true
returns-in-Ok-true c =
    let is = c.saturating_sub.ensures ∙ ap (λ n. n - 1) c.families.ensures.count in
    let there = c.is_row_at.ensures.0 c.if-not-is_row_at.false in
    let new : ¬ Has (rows_of c.args.tables.now c.saturating_sub.result) c.in-Some.row = λ has. let e = c.in-Ok-true.ensures.there.1 has in absurd cc in
    rw c.in-Some.is (
      fine c.args.sig.now c.args.n c.args.tables.now c.saturating_sub.result c.in-Some.row is there new c.families.ensures.shaped (λ many. let e = c.in-Ok-true.ensures.full.1 (new, many) in absurd cc),
      c.in-Ok-true.ensures.added (ap (λ b. Ok b) c.in-Ok-true.field-0-test) ∙ ap (λ k. with_row c.args.tables.now k c.in-Some.row) is,
    )

pub returns-in-Ok-false : goal.returns-in-Ok-false
returns-in-Ok-false c =
    let is = c.saturating_sub.ensures ∙ ap (λ n. n - 1) c.families.ensures.count in
    let there = c.is_row_at.ensures.0 c.if-not-is_row_at.false in
    rw c.in-Some.is (
      twice c.args.sig.now c.args.n c.args.tables.now c.saturating_sub.result c.in-Some.row is there (c.in-Ok-false.ensures.there.0 (ap (λ b. Ok b) c.in-Ok-false.field-0-test)),
      c.in-Ok-false.ensures.same (λ e. absurd cc),
    )

pub returns-in-Err-Full : goal.returns-in-Err-Full
returns-in-Err-Full c =
    let is = c.saturating_sub.ensures ∙ ap (λ n. n - 1) c.families.ensures.count in
    let there = c.is_row_at.ensures.0 c.if-not-is_row_at.false in
    let many = c.in-Err-Full.ensures.full.0 (ap (λ e. Err e) c.in-Err-Full.field-0-is) in
    rw c.in-Some.is (
      full c.args.sig.now c.args.n c.args.tables.now c.saturating_sub.result c.in-Some.row is there many.0 many.1,
      c.in-Err-Full.ensures.same (λ e. absurd cc),
    )

use Rattle.std.proofs.Common.{map, string_bytes}
use Rattle.kasa_choose.specs.Gathered.{IsGathered}
use Rattle.kasa_top.specs.Words.{IsAnalyse}
use Rattle.kasa_top.proofs.DueLemmas.{report_due, refused_due}
use Rattle.kasa_top.proofs.program.answer.Goals as goal

pub returns-clause-report : goal.returns-clause-report
returns-clause-report g c =
    let command : IsAnalyse (map string_bytes c.args.words.now) c.in-Some.without.items c.in-Some.name.now = rw c.in-Some.is at c.in_ok-without.ensures in
    report_due
    (IsGathered (λ b. (goal.Chooser-dyn g (b.vtable, b.value)).kind b.value) (λ b. (goal.Chooser-dyn g (b.vtable, b.value)).plan b.value) c.args.choosers.items)
    _ _ c.in-Some.without.items c.in-Some.name.now _ command c.in_ok-text.ensures.text c.analyse.result
    (rw (c.as_slice.ensures.value, c.as_slice-2.ensures.value) at c.analyse.ensures.report)

pub returns-clause-refused : goal.returns-clause-refused
returns-clause-refused g c =
    let command : IsAnalyse (map string_bytes c.args.words.now) c.in-Some.without.items c.in-Some.name.now = rw c.in-Some.is at c.in_ok-without.ensures in
    refused_due
    (IsGathered (λ b. (goal.Chooser-dyn g (b.vtable, b.value)).kind b.value) (λ b. (goal.Chooser-dyn g (b.vtable, b.value)).plan b.value) c.args.choosers.items)
    _ _ c.in-Some.without.items c.in-Some.name.now _ command c.in_ok-text.ensures.text _ c.analyse.result
    (rw (c.as_slice.ensures.value, c.as_slice-2.ensures.value) at c.analyse.ensures.unreported)

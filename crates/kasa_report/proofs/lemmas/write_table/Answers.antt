use Rattle.std.proofs.Common.{◌∙◌, append_assoc}
use Rattle.kasa_report.specs.LemmasText.{root_text}
use Rattle.kasa_report.proofs.TableLemmas.{on_ok_then}
use Rattle.kasa_report.proofs.lemmas.write_table.Goals as goal

pub returns : goal.returns
unfolding root_text
returns c = on_ok_then c.write_rows.result
    (λ written. written ∙ rw (c.in_ok-write_pattern_line.ensures, c.in_ok-root.ensures.pattern) (append_assoc c.args.out.now.items _ _))
    c.write_rows.ensures

use Rattle.std.proofs.Common.{codes, arith}
use Rattle.kasa_report.proofs.TableLemmas.{on_ok_then}
use Rattle.kasa_report.proofs.TextLemmas.{section_is}
use Rattle.kasa_report.proofs.dead.write_dead.Goals as goal

pub returns : goal.returns
returns g c =
    let w = c.in_ok-write_rules.ensures in
    on_ok_then c.write_none.result
    (λ below. (w.0, w.1, section_is (codes "dead rules") w.0 c.args.out.now.items c.write_line.new.out.items _ c.in_ok-write_line.ensures (below c.write_line.new.out.items w.0 (let count = c.len-before.ensures in let ok = c.write_line.new.out.ok.0 in omega arith) w.2)))
    c.write_none.ensures

use Rattle.std.proofs.Common.{codes, arith}
use Rattle.kasa_report.specs.ContactText.{contact_lines}
use Rattle.kasa_report.proofs.TableLemmas.{on_ok_then}
use Rattle.kasa_report.proofs.TextLemmas.{section_is}
use Rattle.kasa_report.proofs.map.write_map.Goals as goal

pub returns : goal.returns
returns c = on_ok_then c.write_none.result
    (λ below. section_is (codes "contact map") (contact_lines c.args.sig.now c.args.map.now) c.args.out.now.items c.write_line.new.out.items _ c.in_ok-write_line.ensures (below c.write_line.new.out.items (contact_lines c.args.sig.now c.args.map.now) (let count = c.len-before.ensures in let ok = c.write_line.new.out.ok.0 in omega arith) c.in_ok-write_types.ensures))
    c.write_none.ensures

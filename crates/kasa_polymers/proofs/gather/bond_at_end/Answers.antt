use Rattle.std.proofs.Common.{sym}
use Rattle.kasa_polymers.proofs.GatherLemmas.{end_exists}
use Rattle.kasa_polymers.proofs.gather.bond_at_end.Goals as goal

pub type_of-requires-in-Some-To : goal.type_of-requires-in-Some-To
type_of-requires-in-Some-To c = end_exists c.args.rule.now c.requires.valid c.args.end.now c.in-Some-To.other c.args.site c.in-Some-To.far (sym (rw c.in-Some-To.field-0-is at c.in-Some-To.ensures))

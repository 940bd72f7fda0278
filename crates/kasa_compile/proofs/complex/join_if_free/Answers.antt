use Rattle.std.proofs.Common.{◌∙◌}
use Rattle.kasa_compile.proofs.JoiningLemmas.{bonded-free, bonded-bound}
use Rattle.kasa_compile.proofs.complex.join_if_free.Goals as goal

pub returns-then-is_none : goal.returns-then-is_none
returns-then-is_none c = c.join.ensures ∙ bonded-free c.args.mixture.now c.args.p c.args.q c.partner.result c.partner.ensures c.if-is_none.ensures

pub returns-else-is_none : goal.returns-else-is_none
returns-else-is_none c = bonded-bound c.args.mixture.now c.args.p c.args.q c.partner.result c.partner.ensures c.if-is_none.ensures

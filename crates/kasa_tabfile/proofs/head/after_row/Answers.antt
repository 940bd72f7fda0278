use Rattle.std.proofs.Common.{ap, Some, rules}
use Rattle.kasa_tabfile.proofs.HeadLemmas.{row-more}
use Rattle.kasa_tabfile.proofs.head.after_row.Goals as goal

pub returns-else-eq-2 : goal.returns-else-eq-2
returns-else-eq-2 c ws = row-more _ _ c.args.word.now ws (ap (λ l. Some l) c.new.ensures) (search rules) (search rules) (c.after_local.ensures ws)

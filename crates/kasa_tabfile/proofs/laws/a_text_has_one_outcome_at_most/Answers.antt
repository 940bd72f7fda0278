use Rattle.kasa_tabfile.proofs.Unique.{one}
use Rattle.kasa_tabfile.proofs.laws.a_text_has_one_outcome_at_most.Goals as goal

pub returns : goal.returns
returns c = one

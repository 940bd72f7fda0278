use Rattle.kasa_tabfile.proofs.Exists.{some}
use Rattle.kasa_tabfile.proofs.laws.a_text_has_an_outcome.Goals as goal

pub returns : goal.returns
returns c = some

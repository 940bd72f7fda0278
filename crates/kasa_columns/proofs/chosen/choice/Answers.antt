use Rattle.std.proofs.Common.{ap, inr}
use Rattle.std.proofs.lemmas.Result.{IfOk-weaker}
use Rattle.kasa_columns.specs.Ask.{Ask}
use Rattle.kasa_columns.proofs.chosen.choice.Goals as goal

pub returns-in-None : goal.returns-in-None
returns-in-None g c = IfOk-weaker c.all_states.result _ _ (λ states each. inr each) (rw (ap (λ (a : Ask). a.sig) c.search.view_is) at c.all_states.ensures)

use Rattle.kasa_columns.specs.Choices.{MayHaveShown}
use Rattle.kasa_columns.proofs.Choices.{yields-chosen, chosen-yields}
use Rattle.kasa_columns.proofs.laws.rows_come_from_choices.Goals as goal

pub returns : goal.returns
returns c = λ sig tables r family view locals columned ok rule has views row. (
  yields-chosen sig tables ok r rule family has columned locals row view views,
  chosen-yields sig tables r family locals (MayHaveShown sig tables r family view),
)

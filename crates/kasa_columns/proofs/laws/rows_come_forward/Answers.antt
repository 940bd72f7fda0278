use Rattle.kasa_columns.proofs.Rows.{leaving-forward, forward-leaving}
use Rattle.kasa_columns.proofs.laws.rows_come_forward.Goals as goal

pub returns : goal.returns
returns c = λ sig tables r family locals columned ok rule has row. (
  leaving-forward sig tables ok r rule family has columned locals row,
  forward-leaving sig tables ok r rule family has columned locals row,
)

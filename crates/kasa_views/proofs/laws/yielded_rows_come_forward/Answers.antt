use Rattle.kasa_views.proofs.Forward.{yields-forward, forward-yields}
use Rattle.kasa_views.proofs.laws.yielded_rows_come_forward.Goals as goal

pub returns : goal.returns
returns c = λ sig tables r a sites locals ok rule has row. (
  yields-forward sig tables r a sites locals ok rule has row,
  forward-yields sig tables r a sites locals,
)

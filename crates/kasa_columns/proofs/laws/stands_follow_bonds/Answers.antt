use Rattle.kasa_columns.proofs.Along.{leads_along}
use Rattle.kasa_columns.proofs.laws.stands_follow_bonds.Goals as goal

pub returns : goal.returns
returns c = λ sig tables r shape locals stands freed rule ok y s t. leads_along sig r rule shape ok locals stands freed y.pattern y.free y.before s t

use Rattle.kasa_families.proofs.ShapeOnce as once
use Rattle.kasa_families.proofs.laws.shape_root_extends_once.Goals as goal

pub returns : goal.returns
returns c = λ sig shape m cells ok over emb. once.shape_extends_once sig shape m cells ok over emb

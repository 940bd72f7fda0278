use Rattle.kasa_compile.specs.Said.{pairs_of}
use Rattle.kasa_compile.proofs.pairs.pairs.Goals as goal

pub returns : goal.returns
unfolding pairs_of
returns c = rw (← c.items_on-lefts.ensures, ← c.items_on-rights.ensures) c.item_pairs.ensures

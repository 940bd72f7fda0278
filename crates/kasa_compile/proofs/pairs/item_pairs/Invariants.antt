use Rattle.std.proofs.Common.{◌≡◌, map, take}
use Rattle.kasa_compile.specs.declared.resolved.Side.TheVariants.{Left, Right}
use Rattle.kasa_compile.specs.Said.{item_on, across}
use Rattle.kasa_compile.proofs.pairs.item_pairs.Given as goal

abbrev pub invariant-loop-number : goal.invariant-loop-number
invariant-loop-number l = l.pairs.items ≡ take l.number (across (map (item_on Left l.text l.sig) l.lefts) (map (item_on Right l.text l.sig) l.rights))

use Rattle.std.proofs.Common.{◌≡◌, Ok, take}
use Rattle.std.specs.List.{flat_map}
use Rattle.kasa_sig.specs.declared.names.Source.TheVariants.{Uses}
use Rattle.kasa_sig.specs.Mentions.{used_item}
use Rattle.kasa_sig.specs.Outcome.{after}
use Rattle.kasa_sig.proofs.used.use_items.Given as goal

abbrev pub invariant-loop-item : goal.invariant-loop-item
invariant-loop-item l = after Uses l.fn.sig (flat_map (used_item l.text) (take l.item-index l.items)) ≡ Ok l.sig

use Rattle.std.proofs.Common.{◌≡◌, take, []}
use Rattle.std.specs.List.{flat_map}
use Rattle.kasa_compile.specs.Passes.{name_faults}
use Rattle.kasa_compile.proofs.FirstLemmas.{of_item}
use Rattle.kasa_compile.proofs.names.first_in_items.Given as goal

abbrev pub invariant-loop-item : goal.invariant-loop-item
invariant-loop-item l = flat_map (of_item (name_faults l.pass l.text l.sig)) (take l.item-index l.items) ≡ []

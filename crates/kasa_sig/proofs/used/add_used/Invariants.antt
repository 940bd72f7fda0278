use Rattle.std.proofs.Common.{◌≡◌, Ok, take}
use Rattle.std.specs.List.{flat_map}
use Rattle.kasa_sig.specs.declared.names.Source.TheVariants.{Uses}
use Rattle.kasa_sig.specs.Mentions.{used_decl}
use Rattle.kasa_sig.specs.Outcome.{after}
use Rattle.kasa_sig.proofs.used.add_used.Given as goal

abbrev pub invariant-loop-decl : goal.invariant-loop-decl
invariant-loop-decl l = after Uses l.fn.sig (flat_map (used_decl l.text) (take l.decl-index l.decls)) ≡ Ok l.sig

use Rattle.std.proofs.Common.{◌≡◌, Ok, take}
use Rattle.std.specs.List.{flat_map}
use Rattle.kasa_sig.specs.declared.names.Source.TheVariants.{Declarations}
use Rattle.kasa_sig.specs.Mentions.{declared_by}
use Rattle.kasa_sig.specs.Outcome.{after}
use Rattle.kasa_sig.proofs.declared.add_declared.Given as goal

abbrev pub invariant-loop-decl : goal.invariant-loop-decl
invariant-loop-decl l = after Declarations l.fn.sig (flat_map (declared_by l.text) (take l.decl-index l.decls)) ≡ Ok l.sig

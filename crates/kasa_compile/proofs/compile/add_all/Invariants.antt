use Rattle.std.proofs.Common.{◌≡◌, drop}
use Rattle.kasa_compile.specs.Model.{try_decls}
use Rattle.kasa_compile.specs.Compiling.{IsWhole, model_in}
use Rattle.kasa_compile.proofs.compile.add_all.Given as goal

abbrev pub invariant-loop-decl : goal.invariant-loop-decl
invariant-loop-decl l = (try_decls l.text l.decls (model_in l.fn.compiled) ≡ try_decls l.text (drop l.decl-index l.decls) (model_in l.next)) × IsWhole (model_in l.next)

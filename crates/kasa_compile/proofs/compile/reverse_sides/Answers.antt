use Rattle.std.proofs.Common.{◌≡◌, ◌≢◌, List, Some, IfErr, sym, ap, ◌∙◌, subst}
use Rattle.kasa_compile.specs.declared.said.Pair.{Pair}
use Rattle.kasa_compile.specs.declared.fault.CompileFault.TheVariants.{NoMemory as no_memory}
use Rattle.kasa_compile.specs.Said.{turned}
use Rattle.kasa_compile.specs.Sides.{sides_of}
use Rattle.kasa_compile.specs.Valid.{AreSides}
use Rattle.kasa_compile.specs.Causes.{first_of, sides_causes}
use Rattle.kasa_compile.proofs.FaultlessLemmas.{reverse_fault}
use Rattle.kasa_compile.proofs.compile.reverse_sides.Goals as goal

pub try_sides-requires-clause-known : goal.try_sides-requires-clause-known
try_sides-requires-clause-known c = (c.args.sig.now, subst (λ (ps : List Pair). AreSides c.args.sig.now (sides_of ps)) (sym (c.in_ok-others.ensures ∙ ap turned c.in_ok-pairs.ensures)) c.requires.sides)

pub returns-clause-sides : goal.returns-clause-sides
returns-clause-sides c = c.try_sides.ensures.sides c.args.sig.now (subst (λ (ps : List Pair). AreSides c.args.sig.now (sides_of ps)) (sym (c.in_ok-others.ensures ∙ ap turned c.in_ok-pairs.ensures)) c.requires.sides)

pub returns-clause-fault : goal.returns-clause-fault
returns-clause-fault c =
    reverse_fault c.args.text.now c.args.sig.now c.args.decl.now c.try_sides.result (λ f. f ≢ no_memory)
    (subst (λ (ps : List Pair). IfErr c.try_sides.result (λ f. f ≢ no_memory → first_of c.args.text.now (sides_causes ps) ≡ Some f)) (c.in_ok-others.ensures ∙ ap turned c.in_ok-pairs.ensures) c.try_sides.ensures.fault)

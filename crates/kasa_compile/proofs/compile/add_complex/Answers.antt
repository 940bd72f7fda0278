use Rattle.std.proofs.Common.{◌<◌, sym, ◌∙◌, subst}
use Rattle.kasa_compile.specs.Compiling.{IsWhole, model_in}
use Rattle.kasa_compile.proofs.FaultlessLemmas.{init_faultless}
use Rattle.kasa_compile.proofs.CompiledLemmas.{model-complex}
use Rattle.kasa_compile.proofs.compile.add_complex.Goals as goal

pub push_complex-requires : goal.push_complex-requires
push_complex-requires c = record { few = subst (λ n. n < 1000) (c.len.ensures ∙ c.args.compiled.inits.ok.0) (init_faultless c.args.text.now c.args.compiled.sig c.len.result c.args.init.now (sym c.in_ok-complex.ensures.faultless)).first }

pub returns-clause-after : goal.returns-clause-after
returns-clause-after c =
    let few = subst (λ n. n < 1000) (c.len.ensures ∙ c.args.compiled.inits.ok.0) (init_faultless c.args.text.now c.args.compiled.sig c.len.result c.args.init.now (sym c.in_ok-complex.ensures.faultless)).first in
    subst IsWhole (sym c.in_ok-next.ensures) (model-complex (model_in c.args.compiled) c.args.is_addition c.in_ok-complex.complex c.requires.before few c.in_ok-complex.ensures.small)

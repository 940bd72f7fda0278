use Rattle.kasa_compile.proofs.read.model_of_tree.Goals as goal

pub returns-in-Ok-clause-model : goal.returns-in-Ok-clause-model
returns-in-Ok-clause-model c = record {
  decls = c.args.decls.now;
  sig = c.in_ok-sig.sig;
  signed = record { tree = c.requires.tree; signed = c.in_ok-sig.ensures.signed };
  said = c.in-Ok.ensures.model;
}

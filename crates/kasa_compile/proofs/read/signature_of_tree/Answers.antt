use Rattle.kasa_compile.proofs.TreeNames.{tree_names}
use Rattle.kasa_compile.proofs.read.signature_of_tree.Goals as goal

pub build-requires-clause-names : goal.build-requires-clause-names
build-requires-clause-names c = tree_names c.args.text.now c.requires.tree.tokens c.args.decls.now c.requires.tree.lexed c.requires.tree.parsed

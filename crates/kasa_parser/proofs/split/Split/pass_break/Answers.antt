use Rattle.std.proofs.Common.{◌≡◌, ◌++◌, false, ap, rules}
use Rattle.kasa_parser.specs.Words.{words_of}
use Rattle.kasa_parser.specs.Steps.{is_none}
use Rattle.kasa_parser.specs.Split.{given_of}
use Rattle.kasa_parser.proofs.SplitLemmas.{break_kept}
use Rattle.kasa_parser.proofs.split.Split.pass_break.Goals as goal

pub returns-else-is_none-clause-split : goal.returns-else-is_none-clause-split
returns-else-is_none-clause-split c =
    let some : is_none c.args.self.now.broken ≡ false = search rules in
    λ text size w ws k start. ap (λ ds. given_of text c.args.self.now.declared.items ++ ds) (break_kept size c.args.self.now.depth (words_of text c.args.self.now.read.items) c.args.self.now.broken w ws some k)

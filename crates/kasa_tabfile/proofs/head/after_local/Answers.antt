use Rattle.kasa_tabfile.proofs.HeadLemmas.{given, local-more}
use Rattle.kasa_tabfile.proofs.head.after_local.Goals as goal

pub push_local-requires : goal.push_local-requires
push_local-requires c = let is = given c.args.word.now c.in-Some.local c.in-Some.ensures in (is.0, is.2)

pub returns-in-Some : goal.returns-in-Some
returns-in-Some c ws = local-more c.args.locals c.push_local.result c.args.word.now c.in-Some.local ws c.in-Some.ensures c.push_local.ensures

use Rattle.kasa_lists.specs.Lists.{Has}
use Rattle.kasa_fixpoint.proofs.ReaderLemmas.{PutsNumber-push}
use Rattle.kasa_fixpoint.proofs.readers.Numbers.put.Goals as goal

pub returns-in_ok-push : goal.returns-in_ok-push
returns-in_ok-push c =
    let fresh : ¬ Has c.args.self.now c.args.p = λ has. (let yes = c.has.ensures.1 has in let no = c.if-not-has.true in cc) in
    rw (c.in_ok-push.ensures.items, c.self.view_is) (PutsNumber-push c.args.p c.args.self.now c.requires fresh)

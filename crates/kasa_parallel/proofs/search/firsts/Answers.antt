use Rattle.std.proofs.lemmas.Result.{IfOk-weaker}
use Rattle.kasa_parallel.proofs.SearchLemmas.{all_firsts, writing_firsts}
use Rattle.kasa_parallel.proofs.search.firsts.Goals as goal

pub returns-then-not-search : goal.returns-then-not-search
returns-then-not-search g c = all_firsts c.args.search.now c.in_ok-all.all.items (rw (← c.search.view_is) c.in_ok-all.ensures) (rw (← c.search.view_is) c.if-not-search.true)

pub returns : goal.returns
returns g c =
    IfOk-weaker c.writing.result _ _
    (λ firsts some. writing_firsts c.args.search.now c.in_ok-all.all.items (rw (← c.search.view_is) c.in_ok-all.ensures) (rw (← c.search.view_is) c.if-not-search.false) firsts.items (rw c.as_slice.ensures.value at some))
    c.writing.ensures

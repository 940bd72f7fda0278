use Rattle.std.specs.Prelude.{Result, Ok, Err, OnErr}
use Rattle.kasa_tables.proofs.RootLemmas.{listed_in-kept, listed_in-pushed}
use Rattle.kasa_tables.proofs.roots.push_at.Goals as goal

on_err : {T E : Type 0} (r : Result T E) (P : Type 0) → P → OnErr r P
on_err (Ok x) P p = tt
on_err (Err e) P p = p

pub returns-in_err-push-clause-err : goal.returns-in_err-push-clause-err
returns-in_err-push-clause-err c =
    on_err c.from_residual.result _ (listed_in-kept c.args.lists.now.items c.args.i c.index_mut-list.result.now c.push.new.self c.requires c.index_mut-list.ensures.value c.in_err-push.ensures.items)

pub returns-clause-ok : goal.returns-clause-ok
returns-clause-ok c = listed_in-pushed c.args.lists.now.items c.args.i c.index_mut-list.result.now c.push.new.self c.requires c.index_mut-list.ensures.value c.args.number c.in_ok-push.ensures.items

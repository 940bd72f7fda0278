use Rattle.std.proofs.lemmas.Result.{IfOk-weaker}
use Rattle.kasa_columns.proofs.ChosenLemmas.{lists_locals}
use Rattle.kasa_columns.proofs.Pushing.{or_to}
use Rattle.kasa_columns.proofs.chosen.push_listed.Goals as goal

pub returns-in-Locals : goal.returns-in-Locals
returns-in-Locals c =
    rw c.in-Locals.is
    (IfOk-weaker c.push_at.result _ _ (λ done each l. or_to (rw c.as_slice.ensures.value at (each l)) (lists_locals c.args.place c.in-Locals.locals l)) c.push_at.ensures)

use Rattle.std.proofs.Common.{◌∷◌, ◌++◌, [], ◌∙◌, sym, ap, append_assoc, List}
use Rattle.std.proofs.lemmas.List.{append-nil}
use Rattle.kasa_families.specs.declared.row.Row.{Row}
use Rattle.kasa_columns.proofs.yielded.listed.Goals as goal

pub loop-row-preserved : goal.loop-row-preserved
loop-row-preserved c =
    rw c.in_ok-push.ensures.items
    (append_assoc c.loop-row.rows.items (c.in-Some.row ∷ []) c.next.new.self ∙ ap (λ (rest : List Row). c.loop-row.rows.items ++ rest) (sym c.in-Some.ensures.steps) ∙ c.loop-row.invariant)

pub returns : goal.returns
returns c =
    sym (append-nil c.loop-row.rows.items) ∙ ap (λ (rest : List Row). c.loop-row.rows.items ++ rest) (sym c.in-None.ensures.steps.0) ∙ c.loop-row.invariant ∙ c.into_iter-row-iterator.ensures.into_iter_gives.0

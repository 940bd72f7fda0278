use Rattle.std.proofs.Common.{refl, sym, ◌∙◌}
use Rattle.std.proofs.lemmas.Option.{same_Some}
use Rattle.kasa_families.specs.Shape.{at}
use Rattle.kasa_families.proofs.compatible.asks_are_met.Goals as goal

pub link-requires : goal.link-requires
link-requires c =
    let rooted = c.requires.rooted in
    let named = rw c.in-Parallel.is at c.requires.named in
    named c.args.node c.in-Parallel.a c.in-Parallel.x (rooted.1 ∙ sym (rw c.in-Parallel.is at rooted.2)) (at 0 c.in-Parallel.x, (0, refl), refl, refl)

pub link-requires-then-implies : goal.link-requires-then-implies
link-requires-then-implies c =
    let rooted = c.requires.rooted in
    let named = rw c.in-Parallel.is at c.requires.named in
    named c.args.node c.in-Parallel.a c.in-Parallel.u (rooted.1 ∙ sym (rw c.in-Parallel.is at rooted.2)) (at 0 c.in-Parallel.u, (2, refl), refl, refl)

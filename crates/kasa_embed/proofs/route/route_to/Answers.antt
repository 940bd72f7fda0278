use Rattle.std.proofs.Common.{◌<◌, length, inl, inr, arith}
use Rattle.kasa_lists.proofs.Numbers.{same_or_not}
use Rattle.kasa_embed.proofs.RouteLemmas.{bound_within}
use Rattle.kasa_embed.proofs.route.route_to.Goals as goal

pub loop-middle-preserved : goal.loop-middle-preserved
loop-middle-preserved c = λ k pos below first second. elim (same_or_not k c.loop-middle.middle) [
  | inl e ↦ c.in_default-route_over.ensures.none (rw e at first) (rw e at second)
  | inr ne ↦ c.loop-middle.invariant k pos (omega arith) first second
]

pub returns-clause-none : goal.returns-clause-none
returns-clause-none c = λ near. elim near [
  | inl direct ↦ c.in_default.ensures.none direct
  | inr over ↦
      let within : over.0 < length c.args.pattern.now = bound_within _ _ _ over.2 in
      elim (same_or_not over.0 0) [
        | inl e ↦ c.in_default.ensures.none (rw e at over.2)
        | inr ne ↦ c.loop-middle.invariant over.0 (omega arith) (omega arith) over.1 over.2
      ]
]

use Rattle.std.proofs.Common.{ℕ, Vec, Bor}
use Rattle.std.specs.Global.{Global}
use Rattle.kasa_graph.specs.Lists.{Has}
use Rattle.kasa_choose.proofs.views.is_in_some.Given as goal

abbrev pub invariant-loop-set : goal.invariant-loop-set
invariant-loop-set l = (set : Bor (Vec ℕ Global)) → Has l.yielded set → Has set.now.items l.site → ⊥

use Rattle.kasa_families.specs.Shape.{Nth}
use Rattle.kasa_families.specs.Local.{LocalAgrees}
use Rattle.kasa_families.specs.Spot.{nodes_of}
use Rattle.kasa_families.proofs.LeftLemmas.{PairsLeft}
use Rattle.kasa_families.proofs.compatible.columns_agree.Given as goal

abbrev pub invariant-loop-k : goal.invariant-loop-k
invariant-loop-k l = PairsLeft (λ s x. Nth (nodes_of l.place) s.node (λ n. LocalAgrees l.g n s.site x)) l.columns l.locals l.k

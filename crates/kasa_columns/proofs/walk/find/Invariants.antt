use Rattle.std.proofs.Common.{List}
use Rattle.kasa_families.specs.declared.row.Row.{Row}
use Rattle.kasa_pre.specs.declared.Stand.{Stand}
use Rattle.kasa_columns.specs.Ask.{AreFound}
use Rattle.kasa_columns.specs.Chosen.{MayBe}
use Rattle.kasa_columns.specs.Settled.{AreStandsSettled}
use Rattle.kasa_columns.proofs.WalkLemmas.{FirstSettled}
use Rattle.kasa_columns.proofs.walk.find.Given as goal

abbrev pub invariant-loop-stands : goal.invariant-loop-stands
invariant-loop-stands g l = AreFound l.search l.found.keys × FirstSettled (λ (found : List Row) (stands : List Stand). AreStandsSettled l.search (MayBe l.search l.choices.items stands) found stands) l.stands-items l.stands-index l.found.keys

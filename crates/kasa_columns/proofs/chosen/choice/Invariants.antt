use Rattle.std.specs.Prelude.{⊤, MatchOption}
use Rattle.kasa_columns.specs.Chosen.{IsViewChoice}
use Rattle.kasa_columns.proofs.chosen.choice.Given as goal

abbrev pub invariant-loop-f : goal.invariant-loop-f
invariant-loop-f g l = MatchOption l.best ⊤ (λ states. IsViewChoice l.search l.agent l.site states)

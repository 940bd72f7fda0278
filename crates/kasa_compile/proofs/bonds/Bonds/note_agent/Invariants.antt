use Rattle.std.proofs.Common.{take}
use Rattle.kasa_compile.specs.Bonds.{labelled}
use Rattle.kasa_compile.specs.BondIndex.{IsContinued}
use Rattle.kasa_compile.proofs.bonds.Bonds.note_agent.Given as goal

abbrev pub invariant-loop-site : goal.invariant-loop-site
invariant-loop-site l = IsContinued l.initial.self l.self (λ number. labelled l.agent number (take l.site-index l.sites))

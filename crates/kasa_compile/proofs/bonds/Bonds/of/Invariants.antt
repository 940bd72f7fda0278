use Rattle.std.proofs.Common.{◌≡◌, ℕ, take}
use Rattle.kasa_compile.specs.Bonds.{places_of}
use Rattle.kasa_compile.specs.BondIndex.{ends_at, ends_of}
use Rattle.kasa_compile.proofs.bonds.Bonds.of.Given as goal

abbrev pub invariant-loop-number : goal.invariant-loop-number
invariant-loop-number l = (label : ℕ) → ends_at l.bonds label ≡ ends_of (places_of label (take l.number l.agents))

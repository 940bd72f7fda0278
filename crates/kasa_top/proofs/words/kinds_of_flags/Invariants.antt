use Rattle.std.proofs.Common.{take, map, string_bytes}
use Rattle.kasa_top.specs.Words.{AreFlags}
use Rattle.kasa_top.proofs.words.kinds_of_flags.Given as goal

abbrev pub invariant-loop-flag : goal.invariant-loop-flag
invariant-loop-flag l = AreFlags (take l.flag-index (map string_bytes l.flags)) l.kinds.items

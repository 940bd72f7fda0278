use Rattle.std.proofs.Common.{◌≡◌, take, drop}
use Rattle.kasa_tabfile.specs.Word.{cut}
use Rattle.kasa_tabfile.proofs.WordLemmas.{before}
use Rattle.kasa_tabfile.proofs.word.cut_at.Given as goal

abbrev pub invariant-loop-k : goal.invariant-loop-k
invariant-loop-k l = before (take l.k l.word) (cut l.at (drop l.k l.word)) ≡ cut l.at l.word

use Rattle.std.proofs.Common.{◌≤◌, ◌+◌, take}
use Rattle.kasa_tabfile.specs.Reading.{GivesMore}
use Rattle.kasa_tabfile.proofs.reading.Reading.feed.Given as goal

abbrev pub invariant-loop-b : goal.invariant-loop-b
invariant-loop-b l = record {
  line : GivesMore l.sig l.fn.self l.self (take l.b-index l.part);
  number : l.self.number ≤ l.fn.self.number + l.b-index;
}

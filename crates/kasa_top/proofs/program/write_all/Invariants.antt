use Rattle.std.proofs.Common.{◌≡◌, ◌≤◌, ◌-◌, ◌++◌, take, length, option_map}
use Rattle.kasa_top.proofs.program.write_all.Given as goal

abbrev pub invariant-loop-at : goal.invariant-loop-at
invariant-loop-at g l = record {
  written : g.O.Sink.taken l.out ≡ option_map (λ t. t ++ take l.at l.text) (g.O.Sink.taken l.initial.out);
  within : l.at ≤ length l.text;
  later : g.O.Sink.faults l.initial.out ≤ g.O.Sink.faults l.out;
}

abbrev pub decreases-loop-at : goal.decreases-loop-at
decreases-loop-at g l = length l.text - l.at

use Rattle.std.specs.Prelude.{◌≡◌, ◌⊎◌, ℕ, ◌-◌, List, length, min, Contains}
use Rattle.kasa_edge.specs.Causes.{raised}
use Rattle.kasa_edge.specs.declared.sink_mem.SinkMem.{SinkMem}

-- the bytes that a sink in memory has taken
abbrev pub taken_of : SinkMem → List ℕ
taken_of sink = sink.bytes.items

-- how many bytes it takes in all
abbrev pub room_of : SinkMem → ℕ
room_of sink = sink.room

-- how many bytes it takes in one call at most
abbrev pub at_once_of : SinkMem → ℕ
at_once_of sink = sink.at_once

-- the numbers of the calls that fail
abbrev pub fails_of : SinkMem → List ℕ
fails_of sink = sink.fails.items

-- how many calls there were, up to 2^64 - 1
abbrev pub calls_of : SinkMem → ℕ
calls_of sink = sink.calls

-- how many calls failed
abbrev pub faults_of : SinkMem → ℕ
faults_of sink = sink.faults

-- the next call fails: it is one of those that do, or there is no room
abbrev pub IsFailing : SinkMem → Type 0
IsFailing sink = Contains (fails_of sink) (raised (calls_of sink)) ⊎ (length (taken_of sink) ≡ room_of sink)

-- how much of a piece is taken: what one call takes at most, and what there is room for
abbrev pub taken_len : SinkMem → List ℕ → ℕ
taken_len sink piece = min (at_once_of sink) (min (length piece) (room_of sink - length (taken_of sink)))

-- the sink's room, its most at once and its failing calls are the same
pub record SameSettings (old new : SinkMem) : Type 0 where
  pub room : room_of new ≡ room_of old
  pub at_once : at_once_of new ≡ at_once_of old
  pub fails : fails_of new ≡ fails_of old

use Rattle.std.proofs.Common.{length, ap, arith}
use Rattle.kasa_fixpoint.proofs.system.PairSystem.new.Goals as goal

pub readers-requires-clause-pairs : goal.readers-requires-clause-pairs
readers-requires-clause-pairs c pair has =
    rw c.as_slice-2.ensures.value (((rw c.as_slice.ensures.value at c.in_ok-pairs.ensures.acting).exact pair).0 (rw c.as_slice-3.ensures.value at has))

pub invariant_of-result : goal.invariant_of-result
invariant_of-result c = record {
  model = c.requires.model;
  valid = c.requires.valid;
  acting = rw c.as_slice.ensures.value at c.in_ok-pairs.ensures.acting;
  few = let few = c.in_ok-pairs.ensures.few in let size = ap length c.as_slice.ensures.value in let families = c.requires.few in omega arith;
  readers = rw (c.as_slice-2.ensures.value, c.as_slice-3.ensures.value) at c.in_ok-readers.ensures;
}

pub returns-clause-planned : goal.returns-clause-planned
returns-clause-planned c = (
  c.in_ok-readers.readers.items,
  record {
    model = c.requires.model;
    valid = c.requires.valid;
    acting = rw c.as_slice.ensures.value at c.in_ok-pairs.ensures.acting;
    few = let few = c.in_ok-pairs.ensures.few in let size = ap length c.as_slice.ensures.value in let families = c.requires.few in omega arith;
    readers = rw (c.as_slice-2.ensures.value, c.as_slice-3.ensures.value) at c.in_ok-readers.ensures;
  },
)

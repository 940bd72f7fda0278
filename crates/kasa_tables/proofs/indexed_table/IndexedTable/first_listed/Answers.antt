use Rattle.std.proofs.Common.{arith}
use Rattle.std.proofs.lemmas.Option.{slice_get_within}
use Rattle.kasa_families.specs.Spot.{place_of}
use Rattle.kasa_tables.specs.Index.{IsMatch, AgreesThere}
use Rattle.kasa_tables.proofs.NumberLemmas.{none_before, found_first, none_left, none_past}
use Rattle.kasa_tables.proofs.IndexLemmas.{match_agrees}
use Rattle.kasa_tables.proofs.indexed_table.IndexedTable.first_listed.Goals as goal

pub returns-in_err-k : goal.returns-in_err-k
returns-in_err-k c =
    let t = c.args.self.now in
    let place = place_of c.args.g.now t.family c.args.spot.now in
    rw c.from_residual.ensures
    (none_left (IsMatch t.rows c.args.g.now t.family place) (AgreesThere t.rows c.args.g.now t.family place c.args.c) c.args.from c.loop-next.next (match_agrees t.rows c.args.g.now t.family place c.args.c c.requires.column) c.in_err-k.ensures c.loop-next.invariant.none)

pub returns-then-is_match : goal.returns-then-is_match
returns-then-is_match c =
    let t = c.args.self.now in
    let place = place_of c.args.g.now t.family c.args.spot.now in
    found_first (IsMatch t.rows c.args.g.now t.family place) (AgreesThere t.rows c.args.g.now t.family place c.args.c) c.args.from c.loop-next.next c.in_ok-k.k (match_agrees t.rows c.args.g.now t.family place c.args.c c.requires.column) c.loop-next.invariant.up c.in_ok-k.ensures (c.is_match.ensures.0 c.if-is_match.true) c.loop-next.invariant.none

pub overflow_add-next : goal.overflow_add-next
overflow_add-next c =
    let there = c.in_ok-k.ensures.1 in
    let within = slice_get_within c.args.self.now.rows c.in_ok-k.k there.0 there.2 in
    let len = c.len.ensures.len in
    let small = c.len.ensures.small in
    omega arith

pub loop-next-preserved : goal.loop-next-preserved
loop-next-preserved c =
    let t = c.args.self.now in
    let place = place_of c.args.g.now t.family c.args.spot.now in
    record {
      up = let up = c.loop-next.invariant.up in let above = c.in_ok-k.ensures.0 in omega arith;
      none = none_before (IsMatch t.rows c.args.g.now t.family place) (AgreesThere t.rows c.args.g.now t.family place c.args.c) c.args.from c.loop-next.next c.in_ok-k.k (match_agrees t.rows c.args.g.now t.family place c.args.c c.requires.column) c.in_ok-k.ensures (λ yes. let t = c.is_match.ensures.1 yes in let f = c.if-is_match.false in absurd cc) c.loop-next.invariant.none;
    }

pub returns : goal.returns
returns c =
    let t = c.args.self.now in
    let place = place_of c.args.g.now t.family c.args.spot.now in
    none_past t.rows (IsMatch t.rows c.args.g.now t.family place) c.args.from c.loop-next.next (λ j m. (m.0, m.1)) (let past = c.loop-next-test.false in let len = c.len.ensures.len in omega arith) c.loop-next.invariant.none

use Rattle.std.proofs.Common.{◌≡◌, ◌<◌, ◌≤◌, ◌++◌, ◌∷◌, [], ℕ, List, length, refl, sym, ap, ◌∙◌, arith}
use Rattle.std.specs.Prelude.{Some, slice_get}
use Rattle.std.proofs.lemmas.Option.{slice_get_read}
use Rattle.std.proofs.lemmas.List.{length-set}
use Rattle.kasa_digraph.specs.Graph.{successors}
use Rattle.kasa_digraph.proofs.Searching.{successors_at}
use Rattle.kasa_polymers.proofs.PointLemmas.{by_type_next, by_type_all, by_type_none}
use Rattle.kasa_polymers.proofs.steps.points_by_type.Goals as goal

pub loop-number-init : goal.loop-number-init
loop-number-init c = record { size = c.in_ok-lists.ensures.size; listed = by_type_none c.args.points.now (successors c.in_ok-lists.lists.items) c.in_ok-lists.ensures.empty }

pub index_mut-requires : goal.index_mut-requires
index_mut-requires c =
    let at = slice_get_read c.args.points.now _ c.loop-number.number c.index-points-number.result refl c.loop-number-test.true c.index-points-number.is in
    let known = c.requires.known c.index-points-number.result (c.loop-number.number, at) in
    let is = c.type_from-at.ensures.is in
    let size = c.loop-number.invariant.size in omega arith

pub loop-number-preserved : goal.loop-number-preserved
loop-number-preserved c =
    let n = c.loop-number.number in
    let p = c.index-points-number.result in
    let i = c.type_from-at.result in
    let lists = c.loop-number.lists.items in
    let at = slice_get_read c.args.points.now _ n p refl c.loop-number-test.true c.index-points-number.is in
    let known = c.requires.known p (n, at) in
    let is = c.type_from-at.ensures.is in
    let size = c.loop-number.invariant.size in
    let within : p.a < length lists = omega arith in
    let inside : i < length lists = omega arith in
    record {
      size = length-set lists i c.push.new.self ∙ size;
      listed = by_type_next c.args.points.now n i p lists c.push.new.self is at within
          (c.in_ok-push.ensures.items ∙ ap (λ (xs : List ℕ). xs ++ n ∷ []) (sym (successors_at lists i c.index_mut.result.now inside c.index_mut.ensures.value))) c.loop-number.invariant.listed;
    }

pub returns-clause-numbers : goal.returns-clause-numbers
returns-clause-numbers c = λ a known. by_type_all c.args.points.now c.loop-number.number (successors c.loop-number.lists.items) (omega arith) c.loop-number.invariant.listed a

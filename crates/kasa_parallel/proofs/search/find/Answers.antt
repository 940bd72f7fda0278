use Rattle.std.proofs.Common.{arith, refl, inl, inr}
use Rattle.std.proofs.lemmas.Bool.{OnTrue_at, OnFalse_at}
use Rattle.kasa_parallel.specs.Sought.{IsParallelAsk}
use Rattle.kasa_parallel.proofs.FoundLemmas.{is_parallel, SameFound, sought_more, sought_no_more, sought_enough}
use Rattle.kasa_parallel.proofs.search.find.Goals.{then-branch+in_ok-push, else-branch, then-len-most+in_ok-is_sought-2+then-branch-2+in_ok-push-2, else-len-most, else-len-most-via-then-len-most+in_ok-is_sought-2+else-branch-2, else-len-most-via-else-len-most}
use Rattle.kasa_parallel.proofs.search.find.Goals as goal

pub returns : goal.returns
returns g c =
    let ok : IsParallelAsk c.args.search.now = rw (← c.search.view_is) c.search.invariant in
    let kind = is_parallel c.args.search.now ok in
    let first : SameFound c.args.search.now kind c.if-branch.found.items = elim c.if-branch.branch [
      | then-branch+in_ok-push w ↦ inr (rw (w.found-is, w.in_ok-push.ensures.items, c.in_ok-found.ensures.items) refl, OnTrue_at w.if-branch.true c.in_ok-is_sought.ensures.yes)
      | else-branch w ↦ inl (rw w.found-is c.in_ok-found.ensures.items, OnFalse_at w.if-branch.false c.in_ok-is_sought.ensures.no)
    ] in
    let count = c.len.ensures in
    elim c.if-len-most.branch [
      | then-len-most+in_ok-is_sought-2+then-branch-2+in_ok-push-2 w ↦
          rw (w.found-is, w.in_ok-push-2.ensures.items)
          (sought_more c.args.search.now kind c.args.most c.if-branch.found.items first (let less = w.if-len-most.true in omega arith) (OnTrue_at w.if-branch-2.true w.in_ok-is_sought-2.ensures.yes))
      | else-len-most w ↦
          rw w.found-is (elim w.else-len-most.branch [
            | else-len-most-via-then-len-most+in_ok-is_sought-2+else-branch-2 w' ↦ sought_no_more c.args.search.now kind c.args.most c.if-branch.found.items first (OnFalse_at w'.if-branch-2.false w'.in_ok-is_sought-2.ensures.no)
            | else-len-most-via-else-len-most w' ↦ sought_enough c.args.search.now kind c.args.most c.if-branch.found.items first (let more = w'.if-len-most.false in omega arith)
          ])
    ]

use Rattle.std.proofs.Common.{arith, ◌≤◌, length}
use Rattle.kasa_embed.proofs.SearchLemmas.{IsFoundBelow-start, IsFoundBelow-skip, IsFoundBelow-push, all_found}
use Rattle.kasa_embed.proofs.search.embeddings.Goals as goal
use Rattle.kasa_embed.proofs.search.embeddings.Goals.{in-Some+in_ok-from_slice+in_ok-push, in_default}

pub loop-first-init : goal.loop-first-init
loop-first-init c = rw c.new-found.ensures.items (IsFoundBelow-start _ _)

pub loop-first-preserved : goal.loop-first-preserved
loop-first-preserved c = elim c.match-embedding_from.branch [
  | in-Some+in_ok-from_slice+in_ok-push w ↦ rw (w.found-is, w.in_ok-push.ensures.items, w.new.ensures, w.in_ok-from_slice.ensures.items, w.as_slice-in-Some.ensures.value) (IsFoundBelow-push _ _ _ _ c.loop-first.invariant _ w.in-Some.ensures)
  | in_default w ↦ rw w.found-is (IsFoundBelow-skip _ _ _ _ c.loop-first.invariant w.in_default.ensures)
]

pub returns-clause-all : goal.returns-clause-all
returns-clause-all c =
    let end : length c.args.mixture.now ≤ c.loop-first.first = omega arith in
    all_found _ _ _ _ c.loop-first.invariant end c.requires.some

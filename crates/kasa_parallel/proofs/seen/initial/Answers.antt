use Rattle.std.proofs.Common.{◌≡◌, ◌↔◌, ℕ, List, subst, arith}
use Rattle.std.proofs.lemmas.Result.{IfOk-weaker}
use Rattle.kasa_graph.specs.Lists.{Has}
use Rattle.kasa_graph.specs.Embedding.{IsEmbedding}
use Rattle.kasa_families.specs.declared.family.Family.{Family}
use Rattle.kasa_families.specs.declared.family.Family.TheVariants.{Parallel}
use Rattle.kasa_families.specs.Family.{root}
use Rattle.kasa_parallel.proofs.SeenLemmas.{root_small, some_cell-parallel, rows_seen}
use Rattle.kasa_parallel.proofs.seen.initial.Goals as goal

pub embeddings-requires-clause-some : goal.embeddings-requires-clause-some
embeddings-requires-clause-some c = rw c.in_ok-root-in-Parallel.ensures.pattern (let one = (root_small c.args.sig.now c.args.family.now c.requires.parallel c.requires.valid).0 in omega arith)

pub embeddings-requires-clause-few : goal.embeddings-requires-clause-few
embeddings-requires-clause-few c = rw c.in_ok-root-in-Parallel.ensures.pattern (let one = (root_small c.args.sig.now c.args.family.now c.requires.parallel c.requires.valid).0 in omega arith)

pub embeddings-requires-clause-connected : goal.embeddings-requires-clause-connected
embeddings-requires-clause-connected c = rw c.in_ok-root-in-Parallel.ensures.pattern (root_small c.args.sig.now c.args.family.now c.requires.parallel c.requires.valid).1

pub seen_rows-requires : goal.seen_rows-requires
seen_rows-requires c = record {
  some = λ cells has. some_cell-parallel c.args.sig.now c.args.init.now c.args.family.now c.requires.parallel c.requires.valid cells (rw c.in_ok-root-in-Parallel.ensures.pattern at (c.in_ok-found-in-Parallel.ensures.embedded cells (rw c.as_slice.ensures.value at has)));
}

pub returns-clause-rows : goal.returns-clause-rows
returns-clause-rows c =
    let p = c.in-Parallel in
    let is : c.args.family.now ≡ Parallel p.a p.x p.u p.b p.y p.w = p.is in
    let found : (cells : List ℕ) → Has c.in_ok-found-in-Parallel.found.items cells ↔ IsEmbedding (root c.args.sig.now c.args.family.now) c.args.init.now cells = rw (← c.in_ok-root-in-Parallel.ensures.pattern) (λ cells. (c.in_ok-found-in-Parallel.ensures.embedded cells, c.in_ok-found-in-Parallel.ensures.all cells)) in
    let each = subst (λ (family : Family). (cells : List ℕ) → Has c.in_ok-found-in-Parallel.found.items cells ↔ IsEmbedding (root c.args.sig.now family) c.args.init.now cells) is found in
    rw is
    (IfOk-weaker c.seen_rows.result _ _
    (λ rows shown. rows_seen c.args.sig.now c.args.init.now c.requires.over p.a p.x p.u p.b p.y p.w (rw is at c.requires.valid) c.in_ok-found-in-Parallel.found.items each rows.items shown.same shown.different shown.others)
    (rw c.as_slice.ensures.value at c.seen_rows.ensures.shown))

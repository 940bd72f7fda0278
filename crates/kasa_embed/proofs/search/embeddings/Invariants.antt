use Rattle.kasa_embed.proofs.SearchLemmas.{IsFoundBelow}
use Rattle.kasa_embed.proofs.search.embeddings.Given as goal

abbrev pub invariant-loop-first : goal.invariant-loop-first
invariant-loop-first l = IsFoundBelow l.pattern l.mixture l.first l.found.items

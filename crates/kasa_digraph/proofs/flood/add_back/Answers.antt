use Rattle.std.proofs.Common.{◌≡◌, ◌<◌, ◌∷◌, ◌++◌, [], ℕ, List, true, get_or, set, length, arith, sym, ap, subst, ◌∙◌, inl, inr, ◌⊎◌}
use Rattle.std.proofs.lemmas.Bool.{cases_eq}
use Rattle.std.proofs.lemmas.List.{length-set}
use Rattle.kasa_digraph.specs.Graph.{has, successors, IsEdge}
use Rattle.kasa_digraph.proofs.Lists.{in_at, in_push, in_left, in_last, taken_back, taken_kept, taken_here}
use Rattle.kasa_digraph.proofs.Searching.{successors_at}
use Rattle.kasa_digraph.proofs.Flooding.{successors_set, successors_set_here}
use Rattle.kasa_digraph.proofs.flood.add_back.Goals as goal

pub index_mut-requires : goal.index_mut-requires
index_mut-requires c = let h = c.requires _ (in_at c.args.points.now c.loop-q.q-index c.loop-q-test.true) in omega (arith, h, c.loop-q.invariant.size)

pub loop-q-preserved : goal.loop-q-preserved
loop-q-preserved c =
    let q = get_or c.args.points.now c.loop-q.q-index 0 in
    let old = c.loop-q.back.items in
    let v = c.push.new.self in
    let within : q < length old = let h = c.requires q (in_at c.args.points.now c.loop-q.q-index c.loop-q-test.true) in omega (arith, h, c.loop-q.invariant.size) in
    let here : successors (set old q v) q ≡ successors old q ++ c.args.p ∷ [] =
    successors_set_here old q v within ∙ c.in_ok-push.ensures.items ∙ ap (λ (xs : List ℕ). xs ++ c.args.p ∷ []) (sym (successors_at old q c.index_mut.result.now within c.index_mut.ensures.value)) in
    let back : (r x : ℕ) → IsEdge (successors (set old q v)) r x → (IsEdge (successors old) r x) ⊎ ((x ≡ c.args.p) × (r ≡ q)) = λ r x e. elim (cases_eq r q) [
      | inl is ↦ (let P : ℕ → Type 0 = λ z. IsEdge (successors (set old q v)) z x in
          elim (in_push (successors old q) c.args.p x (subst (λ (xs : List ℕ). has xs x ≡ true) here (subst P is e))) [
            | inl o ↦ (let Q : ℕ → Type 0 = λ z. IsEdge (successors old) z x in inl (subst Q (sym is) o))
            | inr n ↦ inr (n, is)
          ])
      | inr ne ↦ inl (subst (λ (xs : List ℕ). has xs x ≡ true) (successors_set old q v r ne) e)
    ] in
    let forth : (r x : ℕ) → IsEdge (successors old) r x → IsEdge (successors (set old q v)) r x = λ r x e. elim (cases_eq r q) [
      | inl is ↦ (let P : ℕ → Type 0 = λ z. IsEdge (successors (set old q v)) z x in let Q : ℕ → Type 0 = λ z. IsEdge (successors old) z x in
          subst P (sym is) (subst (λ (xs : List ℕ). has xs x ≡ true) (sym here) (in_left (successors old q) (c.args.p ∷ []) x (subst Q is e))))
      | inr ne ↦ subst (λ (xs : List ℕ). has xs x ≡ true) (sym (successors_set old q v r ne)) e
    ] in
    record {
      size = length-set old q v ∙ c.loop-q.invariant.size;
      «from» = λ r x e. elim (back r x e) [
        | inl o ↦ elim (c.loop-q.invariant.from r x o) [ inl f ↦ inl f | inr n ↦ inr (n.0, taken_kept c.args.points.now c.loop-q.q-index r c.loop-q-test.true n.1) ]
        | inr n ↦ inr (n.0, taken_here c.args.points.now c.loop-q.q-index r c.loop-q-test.true n.1)
      ];
      kept = λ r x e. forth r x (c.loop-q.invariant.kept r x e);
      added = λ r h. elim (taken_back c.args.points.now c.loop-q.q-index r c.loop-q-test.true h) [
        | inl o ↦ forth r c.args.p (c.loop-q.invariant.added r o)
        | inr is ↦ (let P : ℕ → Type 0 = λ z. IsEdge (successors (set old q v)) z c.args.p in
            subst P (sym is) (subst (λ (xs : List ℕ). has xs c.args.p ≡ true) (sym here) (in_last (successors old q) c.args.p)))
      ];
    }

-- What the search has found after so many first cells.
use Rattle.std.proofs.Common.{◌≡◌, ℕ, zero, suc, ◌+◌, ◌<◌, ◌≤◌, inl, inr, List, [], ◌∷◌, ◌++◌, length, refl, sym, arith}
use Rattle.std.specs.Prelude.{Option, Some, None, slice_get}
use Rattle.std.specs.Ordering.{nat_cmp}
use Rattle.std.specs.Cmp.{nat_cmp_is}
use Rattle.std.specs.Cmp.Lexicographic.{slice_cmp}
use Rattle.std.specs.List.Sorted.{IsStrictlySortedBy}
use Rattle.std.specs.declared.cmp.Ordering.{Ordering}
use Rattle.std.specs.declared.cmp.Ordering.TheVariants.{Less}
use Rattle.kasa_graph.specs.declared.pattern.Node.{Node}
use Rattle.kasa_graph.specs.declared.mixture.Agent.{Agent}
use Rattle.kasa_lists.specs.Lists.{Has}
use Rattle.kasa_graph.specs.Mixture.{type_in}
use Rattle.kasa_graph.specs.Embedding.{IsEmbedding}
use Rattle.kasa_lists.proofs.Numbers.{same_or_not}
use Rattle.kasa_lists.proofs.Every.{AllByRecursion-push}
use Rattle.kasa_lists.proofs.Elements.{some_at, pushed_or, slice_get-pushed, slice_get-append_right}
use Rattle.kasa_graph.proofs.FitLemmas.{some_agent}
use Rattle.kasa_graph.proofs.CellLemmas.{living_of_type, alive_bound}
use Rattle.kasa_embed.specs.Route.{IsEmbeddingFrom}

-- ---- one more list, above all others

IsStrictlySortedBy-push : {X : Type 0} (c : X → X → Ordering) (xs : List X) (x : X) → IsStrictlySortedBy c xs → ((y : X) → Has xs y → c y x ≡ Less) → IsStrictlySortedBy c (xs ++ x ∷ [])
unfolding IsStrictlySortedBy
IsStrictlySortedBy-push c [] x sorted above = (tt, tt)
IsStrictlySortedBy-push c (y ∷ xs) x sorted above = (
  AllByRecursion-push (λ z. c y z ≡ Less) xs x sorted.0 (above y (zero, refl)),
  IsStrictlySortedBy-push c xs x sorted.1 (λ z has. above z (suc has.0, has.1)),
)

-- a list with a smaller first number comes before
first_decides : (xs ys : List ℕ) (x y : ℕ) → slice_get xs 0 ≡ Some x → slice_get ys 0 ≡ Some y → x < y → slice_cmp nat_cmp xs ys ≡ Less
first_decides [] ys x y at_x at_y below = absurd cc
first_decides (z ∷ xs) [] x y at_x at_y below = absurd cc
first_decides (z ∷ xs) (w ∷ ys) x y at_x at_y below =
    let first : z ≡ x = cc in
    let second : w ≡ y = cc in
    let less : z < w = omega arith in
    rw (sym (nat_cmp_is z w Less less)) refl

-- ---- the search

-- the list has just the embeddings that begin with a cell below c, in order
pub record IsFoundBelow (g : List Node) (m : List (Option Agent)) (c : ℕ) (found : List (List ℕ)) : Type 0 where
  pub embedded : (cells : List ℕ) → Has found cells → IsEmbedding g m cells
  pub below : (cells : List ℕ) → Has found cells → (d : ℕ) × (slice_get cells 0 ≡ Some d) × (d < c)
  pub all : (cells : List ℕ) (d : ℕ) → IsEmbedding g m cells → slice_get cells 0 ≡ Some d → d < c → Has found cells
  pub ascending : IsStrictlySortedBy (slice_cmp nat_cmp) found

module _ (g : List Node) (m : List (Option Agent)) where
  pub IsFoundBelow-start : IsFoundBelow g m 0 []
  unfolding IsStrictlySortedBy
  IsFoundBelow-start = record {
    embedded = λ cells has. absurd (let e = has.1 in cc);
    below = λ cells has. absurd (let e = has.1 in cc);
    all = λ cells d at first less. absurd (omega arith);
    ascending = tt;
  }

  module _ (c : ℕ) (found : List (List ℕ)) (so_far : IsFoundBelow g m c found) where
    -- no embedding begins with the next cell
    pub IsFoundBelow-skip : IsEmbeddingFrom g m c None → IsFoundBelow g m (c + 1) found
    IsFoundBelow-skip none = record {
      embedded = so_far.embedded;
      below = λ cells has. let first = so_far.below cells has in (first.0, first.1, let less = first.2 in omega arith);
      all = λ cells d at first less. elim (same_or_not d c) [
        | inl e ↦ absurd (let never = none.only cells at (rw e at first) in cc)
        | inr ne ↦ so_far.all cells d at first (omega arith)
      ];
      ascending = so_far.ascending;
    }

    -- one does
    pub IsFoundBelow-push : (next : List ℕ) → IsEmbeddingFrom g m c (Some next) → IsFoundBelow g m (c + 1) (found ++ next ∷ [])
    IsFoundBelow-push next one = record {
      embedded = λ cells has. elim (pushed_or found next cells has.0 has.1) [
        | inl h ↦ so_far.embedded cells (has.0, h)
        | inr e ↦ rw e (one.embedded next refl)
      ];
      below = λ cells has. elim (pushed_or found next cells has.0 has.1) [
        | inl h ↦ let first = so_far.below cells (has.0, h) in (first.0, first.1, let less = first.2 in omega arith)
        | inr e ↦ (c, (rw e (one.begins next refl)), omega arith)
      ];
      all = λ cells d at first less. elim (same_or_not d c) [
        | inl e ↦ let same : next ≡ cells = (let is = one.only cells at (rw e at first) in cc) in
            rw (← same) (length found, slice_get-append_right found (next ∷ []) 0 (length found) (omega arith))
        | inr ne ↦ let has = so_far.all cells d at first (omega arith) in (has.0, slice_get-pushed found next cells has.0 has.1)
      ];
      ascending = IsStrictlySortedBy-push (slice_cmp nat_cmp) found next so_far.ascending
          (λ cells has. let first = so_far.below cells has in first_decides cells next first.0 c first.1 (one.begins next refl) first.2);
    }

  -- all cells have had their turn
  pub all_found : (c : ℕ) (found : List (List ℕ)) → IsFoundBelow g m c found → length m ≤ c → 0 < length g → (cells : List ℕ) → IsEmbedding g m cells → Has found cells
  all_found c found so_far end some cells at =
      let first = some_at cells 0 (let e = at.count in omega arith) in
      let agent = some_agent g 0 some in
      let typed : type_in m first.0 ≡ Some agent.0 = at.types 0 first.0 agent.0 first.1 agent.1 in
      let within = alive_bound m first.0 (living_of_type m first.0 (rw typed refl)) in
      so_far.all cells first.0 at first.1 (omega arith)

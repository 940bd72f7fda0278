-- Laws of searches through the lists of a column.
use Rattle.std.proofs.Common.{◌≡◌, ℕ, zero, suc, ◌+◌, ◌<◌, ◌≤◌, ◌↔◌, ◌⊎◌, inl, inr, List, length, sym, Option, Some, None, arith}
use Rattle.std.specs.Prelude.{slice_get, option_map, IfSome}
use Rattle.kasa_graph.specs.declared.pattern.Node.{Node}
use Rattle.kasa_graph.specs.Lists.{Has}
use Rattle.std.proofs.lemmas.Option.{slice_get_past}
use Rattle.kasa_graph.proofs.ListLemmas.{same_or_not, below_or}
use Rattle.kasa_families.specs.declared.family.Family.{Family}
use Rattle.kasa_families.specs.declared.row.Local.{Local}
use Rattle.kasa_families.specs.First.{IsLeastFrom}
use Rattle.kasa_tables.specs.Post.{ColumnView, post}
use Rattle.kasa_tables.specs.Index.{AgreesAt, IsKey, AgreesHere, ListedHere, Listed, IsOnlyLocal, lesser}
use Rattle.kasa_tables.proofs.NumberLemmas.{IsLeastFrom-lesser, IsLeastFrom-same}
use Rattle.kasa_tables.proofs.IndexLemmas.{key_of}

module _ (v : ColumnView) (g : List Node) (family : Family) (place : List ℕ) (c : ℕ) where
  -- ---- least numbers

  -- a row's number stands in the list of one of the first local states, which agrees
  abbrev pub ListedBefore : ℕ → ℕ → Type 0
  ListedBefore i k = (j : ℕ) × (j < i) × ListedHere v j g family place c k

  pub ListedBefore-none : (from : ℕ) → IsLeastFrom (ListedBefore 0) from None
  ListedBefore-none from j up h = let low = h.1 in omega arith

  before_or_here : (i k : ℕ) → (ListedBefore i k ⊎ ListedHere v i g family place c k) ↔ ListedBefore (i + 1) k
  before_or_here i k = (
    λ either. elim either [ inl h ↦ (h.0, (let low = h.1 in omega arith), h.2) | inr h ↦ (i, omega arith, h) ],
    λ h. by h.0 h.1 h.2 (same_or_not h.0 i),
  )
    where
      by : (j : ℕ) → j < i + 1 → ListedHere v j g family place c k → (j ≡ i) ⊎ (j ≡ i → ⊥) → ListedBefore i k ⊎ ListedHere v i g family place c k
      by j low here (inl e) = inr (rw e at here)
      by j low here (inr ne) = inl (j, omega arith, here)

  pub ListedBefore-next : (i from : ℕ) (next here : Option ℕ) → IsLeastFrom (ListedBefore i) from next → IsLeastFrom (ListedHere v i g family place c) from here → IsLeastFrom (ListedBefore (i + 1)) from (lesser next here)
  ListedBefore-next i from next here before at =
      IsLeastFrom-same (λ k. ListedBefore i k ⊎ ListedHere v i g family place c k) (ListedBefore (i + 1)) from (lesser next here) (before_or_here i)
      (IsLeastFrom-lesser (ListedBefore i) (ListedHere v i g family place c) from next here before at)

  all_listed : (i k : ℕ) → length v.lists ≤ i → ListedBefore i k ↔ Listed v g family place c k
  all_listed i k past = (
    λ h. (h.2.0, h.2.1.1, h.2.2),
    λ h. let key = key_of v h.0 k h.2 in (key.0, (let low = key.1 in omega arith), (h.0, (key.2, h.1), h.2)),
  )

  pub ListedBefore-all : (i from : ℕ) (next : Option ℕ) → length v.lists ≤ i → IsLeastFrom (ListedBefore i) from next → IsLeastFrom (Listed v g family place c) from next
  ListedBefore-all i from next past least = IsLeastFrom-same (ListedBefore i) (Listed v g family place c) from next (λ k. all_listed i k past) least

  -- ---- the local state of a number

  same_key : (i : ℕ) (l m : Local) → IsKey v i l → IsKey v i m → l ≡ m
  same_key i l m e f = cc

  key_within : (i : ℕ) (l : Local) → IsKey v i l → i < length v.lists
  key_within i l is = elim (below_or i (length v.lists)) [
    | inl within ↦ within
    | inr past ↦ absurd (let none = slice_get_past v.lists i (let e = past.1 in omega arith) in cc)
  ]

  -- the list of this local state is all that there is at its number
  pub ListedHere-of : (i : ℕ) (l : Local) → AgreesHere v i g family place c l → (from : ℕ) (o : Option ℕ) → IsLeastFrom (Has (post v l)) from o → IsLeastFrom (ListedHere v i g family place c) from o
  ListedHere-of i l here from o least =
      IsLeastFrom-same (Has (post v l)) (ListedHere v i g family place c) from o
      (λ k. (λ has. (l, here, has), λ h. let same : h.0 ≡ l = same_key i h.0 l h.1.0 here.0 in rw same at h.2)) least

  pub ListedHere-none : (i : ℕ) → ((l : Local) → ¬ AgreesHere v i g family place c l) → (from : ℕ) → IsLeastFrom (ListedHere v i g family place c) from None
  ListedHere-none i none from j up h = none h.0 h.1

  -- ---- the only local state

  -- some local state of the number agrees
  abbrev pub SomeHere : ℕ → Type 0
  SomeHere i = (l : Local) × AgreesHere v i g family place c l

  -- where one number's local state agrees and no later one's does, it is the only one
  pub IsOnlyLocal-of : (i : ℕ) (q : Local) → IsKey v i q → IsLeastFrom SomeHere 0 (Some i) → IsLeastFrom SomeHere (i + 1) None → IsOnlyLocal v g family place c q
  IsOnlyLocal-of i q key first none = record {
    agrees = let l = first.1 in let same : l.0 ≡ q = same_key i l.0 q l.1.0 key in rw same at l.1.1;
    only = λ m k agrees has. let at_j = key_of v m k has in by m at_j.0 at_j.2 agrees (below_or at_j.0 i);
  }
    where
      by : (m : Local) (j : ℕ) → IsKey v j m → AgreesAt g family place c m → (j < i) ⊎ ((k : ℕ) × (i + k ≡ j)) → m ≡ q
      by m j is agrees (inl low) = absurd (first.2 j (omega arith) low (m, (is, agrees)))
      by m j is agrees (inr (zero, e)) = let same : j ≡ i = omega arith in same_key i m q (rw same at is) key
      by m j is agrees (inr (suc k, e)) = absurd (none j (omega arith) (m, (is, agrees)))

  pub IsOnlyLocal-found : (i : ℕ) (o : Option Local) → o ≡ option_map (λ e. e.0) (slice_get v.lists i) → IsLeastFrom SomeHere 0 (Some i) → IsLeastFrom SomeHere (i + 1) None → IfSome o (λ q. IsOnlyLocal v g family place c q)
  IsOnlyLocal-found i None is first none = tt
  IsOnlyLocal-found i (Some q) is first none = IsOnlyLocal-of i q (sym is) first none

  -- the search for a local state goes on, and ends
  pub no_more : (from i : ℕ) → ¬ SomeHere i → ((j : ℕ) → from ≤ j → j < i → ¬ SomeHere j) → (j : ℕ) → from ≤ j → j < i + 1 → ¬ SomeHere j
  no_more from i not_here before j up low h = elim (same_or_not j i) [ inl e ↦ not_here (rw e at h) | inr ne ↦ before j up (omega arith) h ]

  pub none_past : (from i : ℕ) → length v.lists ≤ i → ((j : ℕ) → from ≤ j → j < i → ¬ SomeHere j) → IsLeastFrom SomeHere from None
  none_past from i past before j up h = before j up (let within = key_within j h.0 h.1.0 in omega arith) h

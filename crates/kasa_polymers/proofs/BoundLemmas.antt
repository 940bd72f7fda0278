-- The largest sum of the types so far, and the bonds of numbers.
use Rattle.std.proofs.Common.{◌≡◌, ℕ, ◌+◌, ◌^◌, ◌<◌, ◌≤◌, inl, inr, List, [], ◌∷◌, ◌++◌, min, max, refl, sym, subst, arith}
use Rattle.std.specs.Prelude.{Some, slice_get}
use Rattle.std.proofs.lemmas.Bool.{cases_eq, cases_lt}
use Rattle.kasa_rules.specs.declared.model.Model.{Model}
use Rattle.kasa_families.specs.Table.{Table}
use Rattle.kasa_polymers.specs.declared.map.Bond.{Bond}
use Rattle.kasa_polymers.specs.StepGraph.{IsAllowedType}
use Rattle.kasa_polymers.specs.inner.Steps.{AreAt}
use Rattle.kasa_polymers.specs.inner.Bound.{IsSumOf, IsCappedSum, IsLargestSum}

module _ (model : Model) (tables : List Table) (group weight : ℕ → ℕ) (next : ℕ → List ℕ) where
  pub largest_none : IsLargestSum model tables group weight next 0 0
  largest_none = record { most = 0; largest = λ a h ok. absurd (omega arith); reached = inl refl; capped = omega arith }

  pub largest_more : (t n s : ℕ) → IsLargestSum model tables group weight next t n → IsCappedSum model tables group weight next t s → IsLargestSum model tables group weight next (t + 1) (max n s)
  largest_more t n s l (inr (refused, none)) = record {
    most = l.most;
    largest = λ a h ok. elim (cases_eq a t) [
      | inl is ↦ absurd (refused (let P : ℕ → Type 0 = λ b. IsAllowedType model tables b in subst P is ok))
      | inr ne ↦ l.largest a (omega arith) ok
    ];
    reached = l.reached;
    capped = let e = l.capped in omega arith;
  }
  largest_more t n s l (inl (ok, (k, sum_of, is))) = elim (cases_lt l.most k) [
    | inl less ↦ record {
      most = k;
      largest = λ a h ok2. elim (cases_eq a t) [
        | inl same ↦ (k, (let P : ℕ → Type 0 = λ b. IsSumOf model group weight next b k in subst P (sym same) sum_of), omega arith)
        | inr ne ↦ (let was = l.largest a (omega arith) ok2 in (was.0, was.1, let w = was.2 in omega arith))
      ];
      reached = inr (t, ok, sum_of);
      capped = let e = l.capped in omega arith;
    }
    | inr more ↦ record {
      most = l.most;
      largest = λ a h ok2. elim (cases_eq a t) [
        | inl same ↦ (k, (let P : ℕ → Type 0 = λ b. IsSumOf model group weight next b k in subst P (sym same) sum_of), omega arith)
        | inr ne ↦ l.largest a (omega arith) ok2
      ];
      reached = l.reached;
      capped = let e = l.capped in omega arith;
    }
  ]

-- of no more types than those so far
pub largest_all : (model : Model) (tables : List Table) (group weight : ℕ → ℕ) (next : ℕ → List ℕ) (t k n : ℕ) → t ≤ k → IsLargestSum model tables group weight next k n → IsLargestSum model tables group weight next t n
largest_all model tables group weight next t k n h l = record {
  most = l.most;
  largest = λ a less ok. l.largest a (omega arith) ok;
  reached = l.reached;
  capped = l.capped;
}

pub AreAt-push : (points : List Bond) (is : List ℕ) (ps : List Bond) (i : ℕ) (p : Bond) → AreAt points is ps → slice_get points i ≡ Some p → AreAt points (is ++ i ∷ []) (ps ++ p ∷ [])
AreAt-push points [] [] i p at here = (here, tt)
AreAt-push points [] (q ∷ ps) i p at here = absurd at
AreAt-push points (j ∷ is) [] i p at here = absurd at
AreAt-push points (j ∷ is) (q ∷ ps) i p at here = (at.0, AreAt-push points is ps i p at.1 here)

-- A count of labels grows with each label, and tells those that stand twice.
use Rattle.std.proofs.Common.{◌≡◌, ℕ, zero, suc, ◌+◌, ◌<◌, nat_eq, true, false, List, [], ◌∷◌, length, take, get_or, Some, refl, ap, sym, ◌∙◌, cond, inl, inr, arith, add-one}
use Rattle.std.specs.Prelude.{count_by, ◌==◌}
use Rattle.std.specs.List.{flat_map}
use Rattle.std.proofs.lemmas.Bool.Decides.{eqb_tells}
use Rattle.std.proofs.lemmas.List.Sums.{count_by_more_no, count_by_more_yes}
use Rattle.kasa_compile.specs.declared.label_counts.Label.{Label}
use Rattle.kasa_compile.specs.declared.label_counts.Times.{Times}
use Rattle.kasa_compile.specs.Labels.{if_odd}
use Rattle.kasa_compile.specs.Counts.{times, once_more, times_at, AreCountsOf, are_two, is_twice, odd_by}

-- what stands where no label is
abbrev pub no_label : Label
no_label = record { number = 0; «at» = 0 }

-- ---- one more label

times_more : (n : ℕ) → times (suc n) ≡ Some (once_more (times n))
times_more zero = refl
times_more (suc zero) = refl
times_more (suc (suc zero)) = refl
times_more (suc (suc (suc n))) = refl

times_plus : (n : ℕ) → times (n + 1) ≡ Some (once_more (times n))
times_plus n = rw add-one (times_more n)

pub AreCountsOf-next : (old new : List (ℕ × Times)) (labels : List Label) (i : ℕ) (x d : Label) (t : Times) → AreCountsOf (take i labels) old → i < length labels → x ≡ get_or labels i d → t ≡ once_more (times_at old x.number) → ((q : ℕ) → times_at new q ≡ cond (nat_eq x.number q) (Some t) (times_at old q)) → AreCountsOf (take (i + 1) labels) new
AreCountsOf-next old new labels i x d t before within at is updates q = elim (eqb_tells x.number q) [
  | inl h ↦
      let found : times_at new q ≡ Some t = rw h.0 at (updates q) in
      let passes : nat_eq (get_or labels i d).number q ≡ true = rw at at h.0 in
      let more : count_by (λ (y : Label). y.number == q) (take (i + 1) labels) ≡ count_by (λ (y : Label). y.number == q) (take i labels) + 1 = count_by_more_yes (λ (y : Label). y.number == q) labels i d within passes in
      let known : times_at old x.number ≡ times (count_by (λ (y : Label). y.number == q) (take i labels)) = ap (times_at old) h.1 ∙ before q in
      found ∙ ap (λ u. Some u) (is ∙ ap once_more known) ∙ sym (times_plus (count_by (λ (y : Label). y.number == q) (take i labels))) ∙ ap times (sym more)
  | inr h ↦
      let found : times_at new q ≡ times_at old q = rw h.0 at (updates q) in
      let fails : nat_eq (get_or labels i d).number q ≡ false = rw at at h.0 in
      found ∙ before q ∙ ap times (sym (count_by_more_no (λ (y : Label). y.number == q) labels i d within fails))
]

-- ---- labels that stand twice

two : (n : ℕ) → are_two (times n) ≡ (n == 2)
two zero = refl
two (suc zero) = refl
two (suc (suc zero)) = refl
two (suc (suc (suc n))) = elim (eqb_tells (suc (suc (suc n))) 2) [ inl h ↦ absurd (let e : suc (suc (suc n)) ≡ 2 = h.1 in omega arith) | inr h ↦ sym h.0 ]

-- the same labels by the counts as among the labels
pub odd-same : (labels : List Label) (counts : List (ℕ × Times)) → AreCountsOf labels counts → (some : List Label) → flat_map (odd_by counts) some ≡ flat_map (if_odd labels) some
odd-same labels counts counted [] = refl
odd-same labels counts counted (l ∷ some) =
    let e : is_twice counts l.number ≡ (count_by (λ (m : Label). m.number == l.number) labels == 2) = ap are_two (counted l.number) ∙ two (count_by (λ (m : Label). m.number == l.number) labels) in
    rw (e, odd-same labels counts counted some) refl

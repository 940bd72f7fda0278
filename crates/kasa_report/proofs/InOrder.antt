-- Lists in a strict order that have the same elements are the same.
use Rattle.std.proofs.Common.{◌≡◌, ℕ, suc, ◌<◌, ◌⊎◌, inl, inr, ◌↔◌, List, [], ◌∷◌, refl, sym, subst, ◌∙◌, arith}
use Rattle.std.specs.Prelude.{Some, slice_get, ⊤}
use Rattle.std.specs.List.{AllPairs}
use Rattle.kasa_lists.specs.Lists.{Has}
use Rattle.kasa_lists.proofs.Having.{Has-[], Has-head, Has-later, Has-cons}
use Rattle.kasa_polymers.proofs.OrderLemmas.{pair_at}

module _ {X : Type 0} (Below : X → X → Type 0) (asym : (x y : X) → Below x y → Below y x → ⊥) where
  -- each is below all that stand behind it
  abbrev pub AreBelow : List X → Type 0
  AreBelow [] = ⊤
  AreBelow (x ∷ xs) = ((y : X) → Has xs y → Below x y) × AreBelow xs

  pub AreBelow-numbered : (xs : List X) → ((i j : ℕ) (x y : X) → i < j → slice_get xs i ≡ Some x → slice_get xs j ≡ Some y → Below x y) → AreBelow xs
  AreBelow-numbered [] below = tt
  AreBelow-numbered (x ∷ xs) below = (
    λ y (k, at). below 0 (suc k) x y (omega arith) refl at,
    AreBelow-numbered xs (λ i j a b less at to. below (suc i) (suc j) a b (omega arith) at to),
  )

  pub AreBelow-pairs : (xs : List X) → AllPairs Below xs → AreBelow xs
  AreBelow-pairs xs pairs = AreBelow-numbered xs (λ i j x y less at to. pair_at Below xs i j x y pairs less at to)

  pub ordered_same : (xs ys : List X) → AreBelow xs → AreBelow ys → ((x : X) → Has xs x ↔ Has ys x) → xs ≡ ys
  ordered_same [] [] o p same = refl
  ordered_same [] (y ∷ ys) o p same = absurd (Has-[] y ((same y).1 (Has-head y ys)))
  ordered_same (x ∷ xs) [] o p same = absurd (Has-[] x ((same x).0 (Has-head x xs)))
  ordered_same (x ∷ xs) (y ∷ ys) o p same = let rest : xs ≡ ys = ordered_same xs ys o.1 p.1 (λ s. (there s, back s)) in rw (first, rest) refl
    where
      heads : (x ≡ y) ⊎ Has ys x → (y ≡ x) ⊎ Has xs y → x ≡ y
      heads (inl e) b = e
      heads (inr h) (inl e) = sym e
      heads (inr h) (inr k) = absurd (asym x y (o.0 y k) (p.0 x h))

      first : x ≡ y
      first = heads (Has-cons y ys x ((same x).0 (Has-head x xs))) (Has-cons x xs y ((same y).1 (Has-head y ys)))

      not_first : (z s : X) → Below z s → z ≡ s → ⊥
      not_first z s below e = let itself : Below z z = subst (λ t. Below z t) (sym e) below in asym z z itself itself

      there : (s : X) → Has xs s → Has ys s
      there s h = elim (Has-cons y ys s ((same s).0 (Has-later x xs s h))) [
        | inl is ↦ absurd (not_first x s (o.0 s h) (first ∙ sym is))
        | inr more ↦ more
      ]

      back : (s : X) → Has ys s → Has xs s
      back s h = elim (Has-cons x xs s ((same s).1 (Has-later y ys s h))) [
        | inl is ↦ absurd (not_first y s (p.0 s h) (sym first ∙ sym is))
        | inr more ↦ more
      ]

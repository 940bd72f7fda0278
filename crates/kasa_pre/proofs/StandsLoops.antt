-- Stands and places, node by node.
use Rattle.std.proofs.Common.{◌≡◌, ◌≢◌, ℕ, zero, suc, ◌+◌, ◌<◌, ◌≤◌, inl, inr, List, [], ◌∷◌, sym, ◌∙◌, length, take, arith}
use Rattle.std.specs.Prelude.{Some, slice_get}
use Rattle.std.proofs.lemmas.Option.{same_Some, slice_get_within}
use Rattle.kasa_graph.specs.declared.pattern.Node.{Node}
use Rattle.kasa_graph.specs.Lists.{Has}
use Rattle.kasa_graph.specs.Pattern.{agent_at}
use Rattle.kasa_graph.proofs.ListLemmas.{below_or}
use Rattle.kasa_rules.specs.Rule.{RuleParts}
use Rattle.kasa_pre.specs.declared.Stand.{Stand}
use Rattle.kasa_pre.specs.declared.Stand.TheVariants.{Outside}
use Rattle.kasa_pre.specs.Before.{FitsStand, AreStands}

-- ---- the first elements of a list

pub slice_get-take : {X : Type 0} (xs : List X) (n i : ℕ) (x : X) → i < n → slice_get xs i ≡ Some x → slice_get (take n xs) i ≡ Some x
slice_get-take [] n i x within e = absurd cc
slice_get-take (y ∷ xs) zero i x within e = absurd (omega arith)
slice_get-take (y ∷ xs) (suc n) zero x within e = e
slice_get-take (y ∷ xs) (suc n) (suc i) x within e = slice_get-take xs n i x (omega arith) e

pub slice_get-of_take : {X : Type 0} (xs : List X) (n i : ℕ) (x : X) → slice_get (take n xs) i ≡ Some x → (i < n) × (slice_get xs i ≡ Some x)
slice_get-of_take [] zero i x e = absurd cc
slice_get-of_take [] (suc n) i x e = absurd cc
slice_get-of_take (y ∷ xs) zero i x e = absurd cc
slice_get-of_take (y ∷ xs) (suc n) zero x e = (omega arith, e)
slice_get-of_take (y ∷ xs) (suc n) (suc i) x e = let rest = slice_get-of_take xs n i x e in (let within = rest.0 in omega arith, rest.1)

-- ---- stands that fit, below a number

pub record FitBelow (r : RuleParts) (v : List Node) (stands : List Stand) (n : ℕ) : Type 0 where
  pub fit : (i a : ℕ) (stand : Stand) → i < n → slice_get stands i ≡ Some stand → agent_at v i ≡ Some a → FitsStand r stand a
  pub different : (i j : ℕ) (stand : Stand) → stand ≢ Outside → i < n → j < n → slice_get stands i ≡ Some stand → slice_get stands j ≡ Some stand → i ≡ j

module _ (r : RuleParts) (v : List Node) (stands : List Stand) where
  pub FitBelow-start : FitBelow r v stands 0
  FitBelow-start = record { fit = λ i a stand below. absurd (omega arith); different = λ i j stand ne below. absurd (omega arith) }

  pub FitBelow-next : (n a : ℕ) (stand : Stand) → slice_get stands n ≡ Some stand → agent_at v n ≡ Some a → ¬ ((stand ≢ Outside) × Has (take n stands) stand) → FitsStand r stand a → FitBelow r v stands n → FitBelow r v stands (n + 1)
  FitBelow-next n a stand at typed free fits old = record { fit = fit; different = different }
    where
      fit : (i b : ℕ) (other : Stand) → i < n + 1 → slice_get stands i ≡ Some other → agent_at v i ≡ Some b → FitsStand r other b
      fit i b other below at' typed' = elim (below_or i n) [
        | inl earlier ↦ old.fit i b other earlier at' typed'
        | inr past ↦
            let same : n ≡ i = let e = past.1 in omega arith in
            let stand_same : stand ≡ other = same_Some stand other (sym at ∙ rw same at') in
            let type_same : a ≡ b = same_Some a b (sym typed ∙ rw same typed') in
            rw (← stand_same, ← type_same) fits
      ]

      clash : (i : ℕ) (other : Stand) → other ≢ Outside → i < n → slice_get stands i ≡ Some other → slice_get stands n ≡ Some other → ⊥
      clash i other ne earlier at' at'' =
          let same : other ≡ stand = same_Some other stand (sym at'' ∙ at) in
          free (rw same at ne, (i, slice_get-take stands n i stand earlier (rw same at at')))

      different : (i j : ℕ) (other : Stand) → other ≢ Outside → i < n + 1 → j < n + 1 → slice_get stands i ≡ Some other → slice_get stands j ≡ Some other → i ≡ j
      different i j other ne below below' e f = elim (below_or i n) [
        | inl earlier ↦ elim (below_or j n) [
          | inl also ↦ old.different i j other ne earlier also e f
          | inr past ↦ absurd (clash i other ne earlier e (let same : n ≡ j = let h = past.1 in omega arith in rw same f))
        ]
        | inr past ↦ elim (below_or j n) [
          | inl also ↦ absurd (clash j other ne also f (let same : n ≡ i = let h = past.1 in omega arith in rw same e))
          | inr also ↦ let h = past.1 in let k = also.1 in omega arith
        ]
      ]

  pub AreStands-below : (n : ℕ) → length stands ≡ length v → length v ≤ n → FitBelow r v stands n → AreStands r v stands
  AreStands-below n count past fits = record {
    count = count;
    fit = λ i a stand at typed. fits.fit i a stand (let within = slice_get_within stands i stand at in omega arith) at typed;
    different = λ i j stand ne e f. fits.different i j stand ne (let within = slice_get_within stands i stand e in omega arith) (let within = slice_get_within stands j stand f in omega arith) e f;
  }

  -- what stands taken twice, or unfit, rule out
  pub taken-none : (n : ℕ) (stand : Stand) → slice_get stands n ≡ Some stand → (stand ≢ Outside) × Has (take n stands) stand → ¬ AreStands r v stands
  taken-none n stand at (ne, (i, is)) ok =
      let there = slice_get-of_take stands n i stand is in
      let same = ok.different i n stand ne there.1 at in absurd (let below = there.0 in omega arith)

  pub unfit-none : (n a : ℕ) (stand : Stand) → slice_get stands n ≡ Some stand → agent_at v n ≡ Some a → ¬ FitsStand r stand a → ¬ AreStands r v stands
  unfit-none n a stand at typed against ok = against (ok.fit n a stand at typed)

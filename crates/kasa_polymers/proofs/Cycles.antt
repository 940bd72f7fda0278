-- There is one first cycle at most, since bonds and lists of as many bonds are ordered.
use Rattle.std.proofs.Common.{◌≡◌, ◌⊎◌, inl, inr, List, [], ◌∷◌, length, refl, sym, ap, ◌∙◌, arith}
use Rattle.std.specs.Prelude.{Some, slice_get}
use Rattle.kasa_rules.specs.declared.model.Model.{Model}
use Rattle.kasa_families.specs.Table.{Table}
use Rattle.kasa_polymers.specs.declared.map.Bond.{Bond}
use Rattle.kasa_polymers.specs.StepGraph.{IsFirstCycle}
use Rattle.kasa_polymers.specs.Order.{AreBondsBelow}
use Rattle.kasa_polymers.proofs.OrderLemmas.{bonds_ordered}

lists_ordered : (ps qs : List Bond) → length ps ≡ length qs → AreBondsBelow ps qs ⊎ (ps ≡ qs) ⊎ AreBondsBelow qs ps
lists_ordered [] [] e = inr (inl refl)
lists_ordered [] (q ∷ qs) e = absurd (omega arith)
lists_ordered (p ∷ ps) [] e = absurd (omega arith)
lists_ordered (p ∷ ps) (q ∷ qs) e = elim (bonds_ordered p q) [
  | inl less ↦ inl (inl less)
  | inr (inr more) ↦ inr (inr (inl more))
  | inr (inl same) ↦ elim (lists_ordered ps qs (omega arith)) [
    | inl less ↦ inl (inr (same, less))
    | inr (inr more) ↦ inr (inr (inr (sym same, more)))
    | inr (inl rest) ↦ inr (inl (ap (λ (r : Bond). r ∷ ps) same ∙ ap (λ (rs : List Bond). q ∷ rs) rest))
  ]
]

module _ (model : Model) (tables : List Table) where
  first_same : (ps qs : List Bond) → IsFirstCycle model tables ps → IsFirstCycle model tables qs → slice_get ps 0 ≡ slice_get qs 0
  first_same [] qs one two = absurd one.closed
  first_same (p ∷ ps) [] one two = absurd two.closed
  first_same (p ∷ ps) (q ∷ qs) one two = elim (bonds_ordered p q) [
    | inl less ↦ absurd (two.least_start (p ∷ ps) one.closed less)
    | inr (inr more) ↦ absurd (one.least_start (q ∷ qs) two.closed more)
    | inr (inl same) ↦ ap Some same
  ]

  pub one_first_cycle : (ps qs : List Bond) → IsFirstCycle model tables ps → IsFirstCycle model tables qs → ps ≡ qs
  one_first_cycle ps qs one two =
      let start = first_same ps qs one two in
      let h = one.shortest qs two.closed (sym start) in
      let k = two.shortest ps one.closed start in
      let long : length ps ≡ length qs = omega arith in
      elim (lists_ordered ps qs long) [
        | inl less ↦ absurd (two.first ps one.closed start long less)
        | inr (inr more) ↦ absurd (one.first qs two.closed (sym start) (sym long) more)
        | inr (inl same) ↦ same
      ]

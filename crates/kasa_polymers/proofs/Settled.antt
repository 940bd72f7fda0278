-- Weights by rounds: where there is no closed walk, as many rounds as there are points lead to a weighing, from any start.
use Rattle.std.proofs.Common.{◌≡◌, ℕ, zero, suc, ◌+◌, ◌≤◌, List, length, sym, ap, ◌∙◌, arith}
use Rattle.std.specs.Prelude.{⊤, sum}
use Rattle.kasa_graph.specs.Lists.{Has}
use Rattle.kasa_rules.specs.declared.model.Model.{Model}
use Rattle.kasa_families.specs.Table.{Table}
use Rattle.kasa_polymers.specs.declared.map.Bond.{Bond}
use Rattle.kasa_polymers.specs.StepGraph.{IsPoint, IsEdge, AreShares, IsWeighing, IsClosedWalk}
use Rattle.kasa_polymers.proofs.Weights.{shares-same}
use Rattle.kasa_polymers.proofs.Walks.{Ends, Ends-point}

module _ (model : Model) (tables : List Table) where
  -- w are the weights of the points that follow from the weights v
  abbrev pub IsRound : (Bond → ℕ) → (Bond → ℕ) → Type 0
  IsRound v w = (p : Bond) → IsPoint model tables p → (shares : List ℕ) × AreShares model tables p.b (λ z q. IsEdge model tables p q × (q.x ≡ z)) v shares × (w p ≡ 1 + sum shares)

  -- w are the weights after so many rounds
  abbrev pub IsAfter : ℕ → (Bond → ℕ) → Type 0
  IsAfter zero w = ⊤
  IsAfter (suc k) w = (v : Bond → ℕ) × IsAfter k v × IsRound v w

  -- where all walks from p have ended, more rounds change nothing
  after-same : (k i j : ℕ) (p : Bond) (v w : Bond → ℕ) → IsPoint model tables p → Ends model tables k p → IsAfter i v → IsAfter j w → k ≤ i → k ≤ j → v p ≡ w p
  after-same zero i j p v w point ended one two h g = absurd ended
  after-same (suc k) zero j p v w point ended one two h g = absurd (omega arith)
  after-same (suc k) (suc i) zero p v w point ended one two h g = absurd (omega arith)
  after-same (suc k) (suc i) (suc j) p v w point ended (v', one, v_round) (w', two, w_round) h g =
      let s = v_round p point in
      let t = w_round p point in
      let same = shares-same model tables p.b (λ z q. IsEdge model tables p q × (q.x ≡ z)) v' w' s.0 t.0 s.1 t.1 (λ z n is q step.
      let edge = step.0 in after-same k i j q v' w' edge.to (ended q edge) one two (omega arith) (omega arith)) in
      s.2 ∙ ap (λ (n : ℕ). 1 + n) same ∙ sym t.2

  pub IsWeighing-after : (points : List Bond) (v w : Bond → ℕ) → ((p : Bond) → IsPoint model tables p → Has points p) → ((walk : List Bond) → ¬ IsClosedWalk model tables walk) → IsAfter (length points) v → IsRound v w → IsWeighing model tables v
  IsWeighing-after points v w listed none after round p point =
      let s = round p point in
      let same = after-same (length points) (length points) (suc (length points)) p v w point (Ends-point model tables points listed none p point) after (v, after, round) (omega arith) (omega arith) in
      (s.0, s.1, same ∙ s.2)

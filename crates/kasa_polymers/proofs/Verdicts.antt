-- There is one verdict at most, and one where the contact map and the allowed patterns are known.
use Rattle.std.proofs.Common.{◌≡◌, ℕ, ◌^◌, ◌↔◌, inl, inr, List, refl, ap, arith}
use Rattle.kasa_graph.specs.declared.pattern.Node.{Node}
use Rattle.kasa_graph.specs.Lists.{Has}
use Rattle.kasa_graph.proofs.ListLemmas.{below_or}
use Rattle.kasa_rules.specs.declared.model.Model.{Model}
use Rattle.kasa_rules.specs.Reached.{IsModel}
use Rattle.kasa_families.specs.Table.{Table}
use Rattle.kasa_pre.specs.Allowed.{IsAllowed}
use Rattle.kasa_polymers.specs.declared.map.Bond.{Bond}
use Rattle.kasa_polymers.specs.Contact.{IsContactBond}
use Rattle.kasa_polymers.specs.declared.map.Polymers.{Polymers}
use Rattle.kasa_polymers.specs.declared.map.Polymers.TheVariants.{AtMost, Beyond, Cycle}
use Rattle.kasa_polymers.specs.StepGraph.{IsBound, IsFirstCycle}
use Rattle.kasa_polymers.specs.Verdict.{IsVerdict}
use Rattle.kasa_polymers.proofs.Weights.{one_bound, no_closed_walk}
use Rattle.kasa_polymers.proofs.Cycles.{one_first_cycle}
use Rattle.kasa_polymers.proofs.FirstCycle.{first_cycle_or_none}
use Rattle.kasa_polymers.proofs.Rounds.{Decided, edge_or_not, bound_exists}

module _ (model : Model) (tables : List Table) (valid : IsModel model) where
  not_both : (n : ℕ) (walk : List Bond) → IsBound model tables n → ¬ IsFirstCycle model tables walk
  not_both n walk bound cycle = no_closed_walk model tables valid bound.weight bound.weighing walk cycle.closed

  pub one_verdict : (v w : Polymers) → IsVerdict model tables v → IsVerdict model tables w → v ≡ w
  one_verdict (AtMost n) (AtMost k) one two = ap (λ (j : ℕ). AtMost j) (one_bound model tables n k one.0 two.0)
  one_verdict (AtMost n) Beyond one two =
      let e = one_bound model tables n two.0 one.0 two.1 in
      let h = one.1 in let g = two.2 in absurd (omega arith)
  one_verdict (AtMost n) (Cycle walk) one two = absurd (not_both n walk one.0 two)
  one_verdict Beyond (AtMost n) one two =
      let e = one_bound model tables one.0 n one.1 two.0 in
      let h = two.1 in let g = one.2 in absurd (omega arith)
  one_verdict Beyond Beyond one two = refl
  one_verdict Beyond (Cycle walk) one two = absurd (not_both one.0 walk one.1 two)
  one_verdict (Cycle walk) (AtMost n) one two = absurd (not_both n walk two.0 one)
  one_verdict (Cycle walk) Beyond one two = absurd (not_both two.0 walk two.1 one)
  one_verdict (Cycle walk) (Cycle others) one two = ap (λ (w : List Bond). Cycle w) (one_first_cycle model tables walk others one two)

pub some_verdict : (model : Model) (tables : List Table) (bonds : List Bond) → ((p : Bond) → IsContactBond model tables p ↔ Has bonds p) → ((g : List Node) → Decided (IsAllowed model.sig tables g)) → (v : Polymers) × IsVerdict model tables v
some_verdict model tables bonds map_of decided =
    elim (first_cycle_or_none model tables bonds (λ p point. (map_of p).0 point.0) (edge_or_not model tables bonds map_of decided)) [
      | inl (walk, cycle) ↦ (Cycle walk, cycle)
      | inr none ↦
          let b = bound_exists model tables bonds map_of decided none in
          elim (below_or b.0 (2 ^ 64)) [
            | inl fits ↦ (AtMost b.0, (b.1, fits))
            | inr k ↦ (Beyond, (b.0, b.1, let e = k.1 in omega arith))
          ]
    ]

use Rattle.std.proofs.Common.{◌≡◌, ℕ, List, true, arith, sym, subst, inl, inr}
use Rattle.std.proofs.lemmas.List.{take_all}
use Rattle.kasa_digraph.specs.Graph.{has}
use Rattle.kasa_digraph.specs.inner.Cycle.{IsBefore}
use Rattle.kasa_digraph.proofs.Lists.{in_at, taken_back, true_false}
use Rattle.kasa_digraph.proofs.Distances.{before_on}
use Rattle.kasa_digraph.proofs.cycle.closest.Goals as goal

pub loop-r-init : goal.loop-r-init
loop-r-init c = record { among = in_at c.args.points.now 0 c.requires.some; least = λ x h. true_false (sym h) }

pub closer-best-requires-clause-q : goal.closer-best-requires-clause-q
closer-best-requires-clause-q c = c.requires.within _ c.loop-r.invariant.among

pub closer-best-requires-clause-r : goal.closer-best-requires-clause-r
closer-best-requires-clause-r c = c.requires.within _ (in_at c.args.points.now c.loop-r.r-index c.loop-r-test.true)

pub loop-r-preserved : goal.loop-r-preserved
loop-r-preserved c = record {
  among = let P : ℕ → Type 0 = λ z. has c.args.points.now z ≡ true in elim (c.closer-best.ensures.either) [
    | inl old ↦ subst P (sym old) c.loop-r.invariant.among
    | inr new ↦ subst P (sym new) (in_at c.args.points.now c.loop-r.r-index c.loop-r-test.true)
  ];
  least = λ x h. elim (taken_back c.args.points.now c.loop-r.r-index x c.loop-r-test.true h) [
    | inl old ↦ before_on c.args.distances.now _ c.loop-r.best x c.closer-best.ensures.first (c.loop-r.invariant.least x old)
    | inr new ↦ (let P : ℕ → Type 0 = λ z. IsBefore c.args.distances.now c.closer-best.result z in subst P (sym new) c.closer-best.ensures.second)
  ];
}

pub returns : goal.returns
returns c = record {
  among = c.loop-r.invariant.among;
  least = λ x h. c.loop-r.invariant.least x (subst (λ (xs : List ℕ). has xs x ≡ true) (sym (take_all c.loop-r.r-index c.args.points.now (omega arith))) h);
}

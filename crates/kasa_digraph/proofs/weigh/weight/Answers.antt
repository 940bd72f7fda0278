use Rattle.std.proofs.Common.{◌≡◌, ℕ, List, ◌+◌, ◌^◌, min, sum, refl, ◌∙◌}
use Rattle.std.specs.Prelude.{slice_index}
use Rattle.std.proofs.lemmas.Result.{IfOk-weaker}
use Rattle.kasa_digraph.specs.Weight.{AreCapped, IsCappedWeight}
use Rattle.kasa_digraph.specs.inner.Weigh.{shares_of}
use Rattle.kasa_digraph.proofs.Weighing.{cut_weight, shares_are}
use Rattle.kasa_digraph.proofs.weigh.weight.Goals as goal

-- what is found from weights that are cut off is the weight, cut off
found : (group value : ℕ → ℕ) (points : List ℕ) (count n : ℕ) → n ≡ min (1 + sum (shares_of group value count points)) (2 ^ 64) →
    (weight : ℕ → ℕ) → AreCapped weight points value → IsCappedWeight group weight points count n
found group value points count n is weight capped =
    let shares = shares_of group weight count points in
    (1 + sum shares, (shares, shares_are group weight count points, refl), is ∙ cut_weight group weight value count points capped)

pub returns : goal.returns
returns c =
    let group = slice_index c.args.group.now in
    let value = slice_index c.args.values.now in
    IfOk-weaker c.weight_from.result (λ (n : ℕ). n ≡ min (1 + sum (shares_of group value c.args.count c.args.points.now)) (2 ^ 64))
    (λ (n : ℕ). (weight : ℕ → ℕ) → AreCapped weight c.args.points.now value → IsCappedWeight group weight c.args.points.now c.args.count n)
    (found group value c.args.points.now c.args.count) c.weight_from.ensures

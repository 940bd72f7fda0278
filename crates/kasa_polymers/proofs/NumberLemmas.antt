-- Walks and cycles of the step graph, by the numbers of its points.
use Rattle.std.proofs.Common.{◌≡◌, ℕ, zero, suc, ◌<◌, ◌≤◌, inl, inr, List, [], ◌∷◌, length, true, refl, sym, ap, subst, ◌∙◌, arith}
use Rattle.std.specs.Prelude.{Some, slice_get, Vec}
use Rattle.std.proofs.lemmas.Option.{slice_get_within}
use Rattle.kasa_digraph.specs.Graph as graph
use Rattle.kasa_digraph.specs.FirstCycle as first
use Rattle.kasa_digraph.proofs.Lists.{in_cons, true_false}
use Rattle.kasa_digraph.proofs.Flooding.{edge_from as edge_from-list}
use Rattle.kasa_digraph.proofs.Walks.{walk_within as last_within}
use Rattle.kasa_graph.specs.Lists.{Has}
use Rattle.kasa_graph.proofs.ListLemmas.{some_at}
use Rattle.kasa_rules.specs.declared.model.Model.{Model}
use Rattle.kasa_families.specs.Table.{Table}
use Rattle.kasa_polymers.specs.declared.map.Bond.{Bond}
use Rattle.kasa_polymers.specs.declared.map.Polymers.{Polymers}
use Rattle.kasa_polymers.specs.declared.map.Polymers.TheVariants.{AtMost, Beyond, Cycle}
use Rattle.kasa_polymers.specs.Order.{IsBondBelow, AreBondsBelow, FirstBelow}
use Rattle.kasa_polymers.specs.StepGraph.{IsPoint, IsEdge, IsWalk, IsClosedWalk, IsFirstCycle}
use Rattle.kasa_polymers.specs.Verdict.{IsVerdict}
use Rattle.kasa_polymers.specs.inner.Steps.{AreNumbers, AreAt}
use Rattle.kasa_polymers.specs.inner.Bound.{IsGraphOf, IsCycleOf}
use Rattle.kasa_polymers.proofs.OrderLemmas.{below_number, AllDifferent-ascend}
use Rattle.kasa_polymers.proofs.FirstCycle.{are_points}

-- ---- points and their numbers

pub AreAt-length : (points : List Bond) (is : List ℕ) (ps : List Bond) → AreAt points is ps → length is ≡ length ps
AreAt-length points [] [] at = refl
AreAt-length points [] (p ∷ ps) at = absurd at
AreAt-length points (i ∷ is) [] at = absurd at
AreAt-length points (i ∷ is) (p ∷ ps) at = let h = AreAt-length points is ps at.1 in omega arith

-- listed bonds have numbers
pub numbers_of : (points ps : List Bond) → ((p : Bond) (k : ℕ) → slice_get ps k ≡ Some p → Has points p) → (is : List ℕ) × AreAt points is ps
numbers_of points [] listed = ([], tt)
numbers_of points (p ∷ ps) listed =
    let here = listed p zero refl in
    let rest = numbers_of points ps (λ q k e. listed q (suc k) e) in
    (here.0 ∷ rest.0, (here.1, rest.1))

module _ (model : Model) (tables : List Table) (points : List Bond) (size : ℕ) (next : ℕ → List ℕ) (g : IsGraphOf model tables points size next) where
  edge_to : (i j : ℕ) (p q : Bond) → slice_get points i ≡ Some p → slice_get points j ≡ Some q → graph.IsEdge next i j → IsEdge model tables p q
  edge_to i j p q at there edge =
      let step = (g.steps i p at j).0 edge in
      let same : Some step.0 ≡ Some q = sym step.1 ∙ there in
      let one : step.0 ≡ q = cc in
      let ok = step.2 in
      subst (λ (r : Bond). IsEdge model tables p r) one (record {
        from = (g.listed p).0 (i, at);
        to = (g.listed step.0).0 (j, step.1);
        goes_on = ok.goes_on;
        other_site = ok.other_site;
        allowed = ok.allowed;
      })

  edge_from : (i j : ℕ) (p q : Bond) → slice_get points i ≡ Some p → slice_get points j ≡ Some q → IsEdge model tables p q → graph.IsEdge next i j
  edge_from i j p q at there edge = (g.steps i p at j).1 (q, there, record { goes_on = edge.goes_on; other_site = edge.other_site; allowed = edge.allowed })

  -- the numbers of the points to which a step leads
  pub AreNumbers-edges : (i : ℕ) (p : Bond) → slice_get points i ≡ Some p → AreNumbers points (IsEdge model tables p) (next i)
  AreNumbers-edges i p at j = (
    λ edge. let step = (g.steps i p at j).0 edge in (step.0, step.1, edge_to i j p step.0 at step.1 edge),
    λ (q, there, edge). edge_from i j p q at there edge,
  )

  -- ---- walks

  walk_to : (is : List ℕ) (ps : List Bond) (i j : ℕ) (p q : Bond) → AreAt points (i ∷ is) (p ∷ ps) → slice_get points j ≡ Some q → graph.IsWalk next (i ∷ is) j → IsWalk model tables (p ∷ ps) q
  walk_to [] [] i j p q at there walk = edge_to i j p q at.0 there walk
  walk_to [] (r ∷ ps) i j p q at there walk = absurd at.1
  walk_to (k ∷ is) [] i j p q at there walk = absurd at.1
  walk_to (k ∷ is) (r ∷ ps) i j p q at there walk = (edge_to i k p r at.0 at.1.0 walk.0, walk_to is ps k j r q at.1 there walk.1)

  walk_from : (is : List ℕ) (ps : List Bond) (i j : ℕ) (p q : Bond) → AreAt points (i ∷ is) (p ∷ ps) → slice_get points j ≡ Some q → IsWalk model tables (p ∷ ps) q → graph.IsWalk next (i ∷ is) j
  walk_from [] [] i j p q at there walk = edge_from i j p q at.0 there walk
  walk_from [] (r ∷ ps) i j p q at there walk = absurd at.1
  walk_from (k ∷ is) [] i j p q at there walk = absurd at.1
  walk_from (k ∷ is) (r ∷ ps) i j p q at there walk = (edge_from i k p r at.0 at.1.0 walk.0, walk_from is ps k j r q at.1 there walk.1)

  -- a closed walk, by numbers
  record Numbered (p : Bond) (ps : List Bond) : Type 0 where
    number : ℕ
    others : List ℕ
    at : AreAt points (number ∷ others) (p ∷ ps)
    closed : graph.IsClosedWalk next (number ∷ others)

  numbered : (p : Bond) (ps : List Bond) → IsClosedWalk model tables (p ∷ ps) → Numbered p ps
  numbered p ps closed =
      let here = (g.listed p).1 (are_points model tables ps p p closed p zero refl) in
      let rest = numbers_of points ps (λ q k e. (g.listed q).1 (are_points model tables ps p p closed q (suc k) e)) in
      record { number = here.0; others = rest.0; at = (here.1, rest.1); closed = walk_from rest.0 ps here.0 here.0 p p (here.1, rest.1) here.1 closed }

  pub no_closed_walk : ¬ graph.IsCyclic next → (walk : List Bond) → ¬ IsClosedWalk model tables walk
  no_closed_walk none [] closed = closed
  no_closed_walk none (p ∷ ps) closed = let n = numbered p ps closed in none (n.number ∷ n.others, n.closed)

  -- ---- the first cycle

  below_lists : (is js : List ℕ) (ps qs : List Bond) → AreAt points is ps → AreAt points js qs → AreBondsBelow qs ps → first.AreBelow js is
  below_lists is js ps [] at there below = absurd below
  below_lists is js [] (q ∷ qs) at there below = absurd below
  below_lists [] js (p ∷ ps) (q ∷ qs) at there below = absurd at
  below_lists (i ∷ is) [] (p ∷ ps) (q ∷ qs) at there below = absurd there
  below_lists (i ∷ is) (j ∷ js) (p ∷ ps) (q ∷ qs) at there (inl less) = inl (below_number points g.ascend j i q p there.0 at.0 less)
  below_lists (i ∷ is) (j ∷ js) (p ∷ ps) (q ∷ qs) at there (inr (same, less)) = inr (
    AllDifferent-ascend points g.ascend j i p (there.0 ∙ ap Some same) at.0,
    below_lists is js ps qs at.1 there.1 less,
  )

  module _ (i : ℕ) (is : List ℕ) (p : Bond) (ps : List Bond) (cycle : first.IsFirstCycle next (i ∷ is)) (at : AreAt points (i ∷ is) (p ∷ ps)) where
    starts : (q : Bond) (qs : List Bond) (n : Numbered q qs) → slice_get (q ∷ qs) 0 ≡ slice_get (p ∷ ps) 0 → n.number ≡ i
    starts q qs n e =
        let same : q ≡ p = cc in
        let there = n.at in
        AllDifferent-ascend points g.ascend n.number i p (there.0 ∙ ap Some same) at.0

    least_start : (other : List Bond) → IsClosedWalk model tables other → ¬ FirstBelow other (p ∷ ps)
    least_start [] closed below = below
    least_start (q ∷ qs) closed below =
        let n = numbered q qs closed in
        let there = n.at in
        cycle.least_start (n.number ∷ n.others) n.closed (below_number points g.ascend n.number i q p there.0 at.0 below)

    shortest : (other : List Bond) → IsClosedWalk model tables other → slice_get other 0 ≡ slice_get (p ∷ ps) 0 → length (p ∷ ps) ≤ length other
    shortest [] closed e = absurd closed
    shortest (q ∷ qs) closed e =
        let n = numbered q qs closed in
        let short = cycle.shortest (n.number ∷ n.others) n.closed (ap Some (starts q qs n e)) in
        let mine = AreAt-length points (i ∷ is) (p ∷ ps) at in
        let theirs = AreAt-length points (n.number ∷ n.others) (q ∷ qs) n.at in
        omega arith

    none_before : (other : List Bond) → IsClosedWalk model tables other → slice_get other 0 ≡ slice_get (p ∷ ps) 0 → length other ≡ length (p ∷ ps) → ¬ AreBondsBelow other (p ∷ ps)
    none_before [] closed e long below = closed
    none_before (q ∷ qs) closed e long below =
        let n = numbered q qs closed in
        let mine = AreAt-length points (i ∷ is) (p ∷ ps) at in
        let theirs = AreAt-length points (n.number ∷ n.others) (q ∷ qs) n.at in
        cycle.first (n.number ∷ n.others) n.closed (ap Some (starts q qs n e)) (omega arith) (below_lists (i ∷ is) (n.number ∷ n.others) (p ∷ ps) (q ∷ qs) at n.at below)

    first_cycle : IsFirstCycle model tables (p ∷ ps)
    first_cycle = record {
      closed = walk_to is ps i i p p at at.0 cycle.closed;
      least_start = least_start;
      shortest = shortest;
      first = none_before;
    }

  -- the first cycle by numbers is the first cycle
  pub IsFirstCycle-at : (numbers : List ℕ) (walk : List Bond) → first.IsFirstCycle next numbers → AreAt points numbers walk → IsFirstCycle model tables walk
  IsFirstCycle-at [] walk cycle at = absurd cycle.closed
  IsFirstCycle-at (i ∷ is) [] cycle at = absurd at
  IsFirstCycle-at (i ∷ is) (p ∷ ps) cycle at = first_cycle i is p ps cycle at

-- ---- what the calls on graphs ask

-- each step leads to one of the points
pub IsGraph-steps : {Z : Type 0} (model : Model) (tables : List Table) (points : List Bond) (steps : List (Vec ℕ Z)) → IsGraphOf model tables points (length steps) (graph.successors steps) → graph.IsGraph (graph.successors steps) (length steps)
IsGraph-steps model tables points steps g p q edge =
    let within = edge_from-list steps p q edge in
    let whole = g.whole in
    let at = some_at points p (omega arith) in
    let step = (g.steps p at.0 at.1 q).0 edge in
    let below = slice_get_within points q step.0 step.1 in omega arith

-- the points of a closed walk are points
others_within : (next : ℕ → List ℕ) (n : ℕ) → graph.IsGraph next n → (is : List ℕ) (i k j : ℕ) → graph.IsWalk next (i ∷ is) k → graph.has is j ≡ true → j < n
others_within next n ok [] i k j walk has = true_false (sym has)
others_within next n ok (r ∷ is) i k j walk has = elim (in_cons r is j has) [
  | inl same ↦ (let h = ok i r walk.0 in omega arith)
  | inr later ↦ others_within next n ok is r k j walk.1 later
]

pub walk_within : (next : ℕ → List ℕ) (n : ℕ) → graph.IsGraph next n → (walk : List ℕ) → graph.IsClosedWalk next walk → (j : ℕ) → graph.has walk j ≡ true → j < n
walk_within next n ok [] closed j has = absurd closed
walk_within next n ok (i ∷ is) closed j has = elim (in_cons i is j has) [
  | inl same ↦ (let h = last_within next n i is i ok closed in omega arith)
  | inr later ↦ others_within next n ok is i i j closed later
]

-- the first cycle by numbers gives the verdict
pub IsVerdict-cycle : (model : Model) (tables : List Table) (points : List Bond) (size : ℕ) (next : ℕ → List ℕ) → IsGraphOf model tables points size next → (verdict : Polymers) → IsCycleOf points next verdict → IsVerdict model tables verdict
IsVerdict-cycle model tables points size next g (AtMost n) is = absurd is
IsVerdict-cycle model tables points size next g Beyond is = absurd is
IsVerdict-cycle model tables points size next g (Cycle walk) (numbers, cycle, at) = IsFirstCycle-at model tables points size next g numbers walk cycle at

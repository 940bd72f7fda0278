-- Weights and sums of the step graph, from those that are found by numbers.
use Rattle.std.proofs.Common.{◌≡◌, ◌≢◌, ℕ, ◌+◌, ◌^◌, ◌<◌, ◌≤◌, ◌⊎◌, inl, inr, List, length, map, true, refl, sym, ap, subst, ◌∙◌, arith}
use Rattle.std.specs.Prelude.{Some, slice_get, slice_index, sum, option_map, ◌↔◌}
use Rattle.std.specs.List.{AllPairs}
use Rattle.std.proofs.lemmas.Option.{slice_get_within, get_or_from_slice_get, slice_get-map}
use Rattle.kasa_digraph.specs.Graph.{has}
use Rattle.kasa_digraph.specs.Weight as weight
use Rattle.kasa_graph.specs.Lists.{Has}
use Rattle.kasa_graph.specs.Signature.{state_counts, HasSite}
use Rattle.kasa_graph.proofs.ListLemmas.{some_at}
use Rattle.kasa_rules.specs.declared.model.Model.{Model}
use Rattle.kasa_rules.specs.Reached.{IsModel}
use Rattle.kasa_families.specs.Table.{Table}
use Rattle.kasa_polymers.specs.declared.map.Bond.{Bond}
use Rattle.kasa_polymers.specs.declared.map.Polymers.TheVariants.{AtMost, Beyond}
use Rattle.kasa_polymers.specs.Order.{IsBondBelow}
use Rattle.kasa_polymers.specs.StepGraph.{IsPoint, IsEdge, IsLargest, AreShares, IsWeighing, IsTypeSum, IsAllowedType, IsBound}
use Rattle.kasa_polymers.specs.Verdict.{IsVerdict}
use Rattle.kasa_polymers.specs.inner.Steps.{AreNumbers}
use Rattle.kasa_polymers.specs.inner.Bound.{IsGraphOf, AreCappedBy, IsSumOf, IsCappedSum, IsLargestSum}
use Rattle.kasa_polymers.proofs.OrderLemmas.{AllDifferent-ascend}
use Rattle.kasa_polymers.proofs.NumberLemmas.{AreNumbers-edges}
use Rattle.kasa_polymers.proofs.ContactSites.{HasSite-contact}
use Rattle.kasa_polymers.proofs.Walks.{listed_or_not}

module _ (points : List Bond) (w : ℕ → ℕ) where
  weight_by : (p : Bond) → Has points p ⊎ ((i : ℕ) → slice_get points i ≢ Some p) → ℕ
  weight_by p (inl has) = w has.0
  weight_by p (inr out) = 0

  -- the weight of a listed bond is that of its number
  weight_of : Bond → ℕ
  weight_of p = weight_by p (listed_or_not points p)

  weight_at : AllPairs IsBondBelow points → (i : ℕ) (p : Bond) → slice_get points i ≡ Some p → weight_of p ≡ w i
  unfolding weight_of weight_by
  weight_at ascend i p at = by_listed (listed_or_not points p)
    where
      by_listed : (o : Has points p ⊎ ((i : ℕ) → slice_get points i ≢ Some p)) → weight_by p o ≡ w i
      by_listed (inl has) = ap w (AllDifferent-ascend points ascend has.0 i p has.1 at)
      by_listed (inr out) = absurd (out i at)

module _ (model : Model) (tables : List Table) (points : List Bond) (ascend : AllPairs IsBondBelow points) (w group : ℕ → ℕ) (sites : (j : ℕ) (q : Bond) → slice_get points j ≡ Some q → group j ≡ q.x) where
  -- what is largest among numbers is largest among their points
  largest_at : (P : Bond → Type 0) (numbers : List ℕ) → AreNumbers points P numbers → ((q : Bond) → P q → Has points q) → (z n : ℕ) →
      weight.IsLargest (λ j. (has numbers j ≡ true) × (group j ≡ z)) w n → IsLargest model tables (λ q. P q × (q.x ≡ z)) (weight_of points w) n
  largest_at P numbers are listed z n largest = (
    (λ q ok.
        let at = listed q ok.0 in
        let h = largest.0 at.0 ((are at.0).1 (q, at.1, ok.0), sites at.0 q at.1 ∙ ok.1) in
        let e = weight_at points w ascend at.0 q at.1 in omega arith),
    elim largest.1 [
      | inl none ↦ inl none
      | inr (j, ok, is) ↦ (let q = (are j).0 ok.0 in inr (q.0, (q.2, sym (sites j q.0 q.1) ∙ ok.1), weight_at points w ascend j q.0 q.1 ∙ is))
    ],
  )

  shares_at : (P : Bond → Type 0) (numbers : List ℕ) → AreNumbers points P numbers → ((q : Bond) → P q → Has points q) → (a n : ℕ) →
      weight.IsWeight group w numbers (length (state_counts model.sig a)) n → (shares : List ℕ) × AreShares model tables a (λ z q. P q × (q.x ≡ z)) (weight_of points w) shares × (n ≡ 1 + sum shares)
  shares_at P numbers are listed a n (shares, (long, largest), is) = (shares, (long, each), is)
    where
      each : (z k : ℕ) → slice_get shares z ≡ Some k → IsLargest model tables (λ q. P q × (q.x ≡ z)) (weight_of points w) k
      each z k e =
          let within = slice_get_within shares z k e in
          largest_at P numbers are listed z k (subst (λ (j : ℕ). weight.IsLargest (λ j. (has numbers j ≡ true) × (group j ≡ z)) w j) (get_or_from_slice_get shares z k 0 e) (largest z (omega arith)))

-- the same where the property is said otherwise
largest_same : (model : Model) (tables : List Table) (P Q : Bond → Type 0) (w : Bond → ℕ) (n : ℕ) → ((q : Bond) → P q ↔ Q q) → IsLargest model tables P w n → IsLargest model tables Q w n
largest_same model tables P Q w n same (most, reached) = (
  (λ q ok. most q ((same q).1 ok)),
  elim reached [
    | inl none ↦ inl none
    | inr (q, ok, is) ↦ inr (q, (same q).0 ok, is)
  ],
)

module _ (model : Model) (tables : List Table) (points : List Bond) (size : ℕ) (next by_type : ℕ → List ℕ) (g : IsGraphOf model tables points size next) (w group groups : ℕ → ℕ)
    (sites : (j : ℕ) (q : Bond) → slice_get points j ≡ Some q → group j ≡ q.x)
    (counts : (j : ℕ) (q : Bond) → slice_get points j ≡ Some q → groups j ≡ length (state_counts model.sig q.b))
    (numbers : (a : ℕ) → a < length model.sig → AreNumbers points (λ q. q.a ≡ a) (by_type a)) where
  weighing_at : weight.IsWeighing next size group groups w → IsWeighing model tables (weight_of points w)
  weighing_at weighing p point =
      let place = (g.listed p).1 point in
      let within = slice_get_within points place.0 p place.1 in
      let whole = g.whole in
      let mine = subst (λ (k : ℕ). weight.IsWeight group w (next place.0) k (w place.0)) (counts place.0 p place.1) (weighing place.0 (omega arith)) in
      let shares = shares_at model tables points g.ascend w group sites (IsEdge model tables p) (next place.0) (AreNumbers-edges model tables points size next g place.0 p place.1) (λ q edge. (g.listed q).1 edge.to) p.b (w place.0) mine in
      (shares.0, shares.1, weight_at points w g.ascend place.0 p place.1 ∙ shares.2)

  type_points : (a : ℕ) → a < length model.sig → AreNumbers points (λ q. IsPoint model tables q × (q.a ≡ a)) (by_type a)
  type_points a known j = (
    λ h. let q = (numbers a known j).0 h in (q.0, q.1, ((g.listed q.0).0 (j, q.1), q.2)),
    λ (q, at, ok). (numbers a known j).1 (q, at, ok.1),
  )

  sum_at : (a n : ℕ) → a < length model.sig → IsSumOf model group w by_type a n → IsTypeSum model tables (weight_of points w) a n
  sum_at a n known sum_of =
      let s = shares_at model tables points g.ascend w group sites (λ q. IsPoint model tables q × (q.a ≡ a)) (by_type a) (type_points a known) (λ q ok. (g.listed q).1 ok.0) a n sum_of in
      (s.0, (s.1.0, λ x k e. largest_same model tables (λ q. (IsPoint model tables q × (q.a ≡ a)) × (q.x ≡ x)) (λ q. IsPoint model tables q × (q.a ≡ a) × (q.x ≡ x)) (weight_of points w) k (λ q. (λ h. (h.0.0, h.0.1, h.1), λ h. ((h.0, h.1), h.2))) (s.1.1 x k e)), s.2)

  -- the largest sum is the bound
  IsBound-at : weight.IsWeighing next size group groups w → (n : ℕ) (largest : IsLargestSum model tables group w by_type (length model.sig) n) → IsBound model tables largest.most
  IsBound-at weighing n l = record {
    weight = weight_of points w;
    weighing = weighing_at weighing;
    largest = λ a ok. let s = l.largest a ok.0 ok in (s.0, sum_at a s.0 ok.0 s.1, s.2);
    reached = elim l.reached [
      | inl none ↦ inl none
      | inr (a, ok, sum_of) ↦ inr (a, ok, sum_at a l.most ok.0 sum_of)
    ];
  }

  pub IsVerdict-within : weight.IsWeighing next size group groups w → (n : ℕ) → IsLargestSum model tables group w by_type (length model.sig) n → n < 2 ^ 64 → IsVerdict model tables (AtMost n)
  IsVerdict-within weighing n l h =
      let e = l.capped in
      let same : l.most ≡ n = omega arith in
      let P : ℕ → Type 0 = λ k. IsBound model tables k in
      (subst P same (IsBound-at weighing n l), h)

  pub IsVerdict-beyond : weight.IsWeighing next size group groups w → (n : ℕ) → IsLargestSum model tables group w by_type (length model.sig) n → 2 ^ 64 ≤ n → IsVerdict model tables Beyond
  IsVerdict-beyond weighing n l h = (l.most, IsBound-at weighing n l, let e = l.capped in omega arith)

-- ---- the lists that the calls on graphs read

module _ (points : List Bond) (f : Bond → ℕ) where
  -- what a list made of the points has at a number
  pub made_at : (values : List ℕ) → values ≡ map f points → (j : ℕ) (q : Bond) → slice_get points j ≡ Some q → slice_index values j ≡ f q
  made_at values is j q at = ap (λ (xs : List ℕ). slice_index xs j) is ∙ get_or_from_slice_get (map f points) j (f q) 0 (slice_get-map f points j ∙ ap (option_map f) at)

-- the sites of points are sites of their types
module _ (model : Model) (tables : List Table) (valid : IsModel model) (points : List Bond) (size : ℕ) (next : ℕ → List ℕ) (g : IsGraphOf model tables points size next) where
  pub site_of_point : (j : ℕ) (q : Bond) → slice_get points j ≡ Some q → HasSite model.sig q.a q.x
  site_of_point j q at = HasSite-contact model tables q valid ((g.listed q).0 (j, at)).0

  -- of a step
  pub site_of_step : (sites counts : List ℕ) → sites ≡ map (λ (p : Bond). p.x) points → counts ≡ map (λ (p : Bond). length (state_counts model.sig p.b)) points → (i j : ℕ) → i < length points → has (next i) j ≡ true → slice_index sites j < slice_index counts i
  site_of_step sites counts is_sites is_counts i j within edge =
      let p = some_at points i within in
      let step = (g.steps i p.0 p.1 j).0 edge in
      let ok = step.2 in
      let site = made_at points (λ (p : Bond). p.x) sites is_sites j step.0 step.1 in
      let count = made_at points (λ (p : Bond). length (state_counts model.sig p.b)) counts is_counts i p.0 p.1 in
      let there : HasSite model.sig p.0.b step.0.x = rw ok.goes_on (site_of_point j step.0 step.1) in
      omega arith

  -- of the points that lead from a type
  pub site_of_type : (sites : List ℕ) → sites ≡ map (λ (p : Bond). p.x) points → (a : ℕ) (numbers : List ℕ) → AreNumbers points (λ q. q.a ≡ a) numbers → (j : ℕ) → has numbers j ≡ true → slice_index sites j < length (state_counts model.sig a)
  site_of_type sites is_sites a numbers are j h =
      let q = (are j).0 h in
      let site = made_at points (λ (p : Bond). p.x) sites is_sites j q.0 q.1 in
      let there : HasSite model.sig a q.0.x = rw (← q.2) (site_of_point j q.0 q.1) in
      omega arith

pub number_within : (points : List Bond) (P : Bond → Type 0) (numbers : List ℕ) → AreNumbers points P numbers → (j : ℕ) → has numbers j ≡ true → j < length points
number_within points P numbers are j h = let q = (are j).0 h in slice_get_within points j q.0 q.1

-- ---- the sum of a type, as it is found

pub sum_found : (model : Model) (tables : List Table) (group : ℕ → ℕ) (values : List ℕ) (next : ℕ → List ℕ) (a count n : ℕ) (leaving : List ℕ) → leaving ≡ next a → count ≡ length (state_counts model.sig a) → ((q : ℕ) → has (next a) q ≡ true → q < length values) → IsAllowedType model tables a →
    ((w : ℕ → ℕ) → weight.AreCapped w leaving (slice_index values) → weight.IsCappedWeight group w leaving count n) → (w : ℕ → ℕ) → AreCappedBy w values → IsCappedSum model tables group w next a n
sum_found model tables group values next a count n leaving same same_count within allowed found w capped =
    let f = found w (λ q h. capped q (within q (subst (λ (xs : List ℕ). has xs q ≡ true) same h))) in
    inl (allowed, (f.0, subst (λ (k : ℕ). weight.IsWeight group w (next a) k f.0) same_count (subst (λ (xs : List ℕ). weight.IsWeight group w xs count f.0) same f.1), f.2))

-- ---- the verdict, as it is found

module _ (model : Model) (tables : List Table) (points : List Bond) (size : ℕ) (next by_type : ℕ → List ℕ) (g : IsGraphOf model tables points size next) (sites counts values : List ℕ)
    (is_sites : sites ≡ map (λ (p : Bond). p.x) points) (is_counts : counts ≡ map (λ (p : Bond). length (state_counts model.sig p.b)) points)
    (numbers : (a : ℕ) → a < length model.sig → AreNumbers points (λ q. q.a ≡ a) (by_type a))
    (found : weight.AreWeights next size (slice_index sites) (slice_index counts) values) (each : length values ≡ size) (n : ℕ)
    (largest : (w : ℕ → ℕ) → AreCappedBy w values → IsLargestSum model tables (slice_index sites) w by_type (length model.sig) n) where
  largest_found : IsLargestSum model tables (slice_index sites) found.weight by_type (length model.sig) n
  largest_found = largest found.weight (λ q h. found.capped q (omega arith))

  pub verdict_within : n < 2 ^ 64 → IsVerdict model tables (AtMost n)
  verdict_within h = IsVerdict-within model tables points size next by_type g found.weight (slice_index sites) (slice_index counts) (made_at points (λ (p : Bond). p.x) sites is_sites)
      (made_at points (λ (p : Bond). length (state_counts model.sig p.b)) counts is_counts) numbers found.weighing n largest_found h

  pub verdict_beyond : 2 ^ 64 ≤ n → IsVerdict model tables Beyond
  verdict_beyond h = IsVerdict-beyond model tables points size next by_type g found.weight (slice_index sites) (slice_index counts) (made_at points (λ (p : Bond). p.x) sites is_sites)
      (made_at points (λ (p : Bond). length (state_counts model.sig p.b)) counts is_counts) numbers found.weighing n largest_found h

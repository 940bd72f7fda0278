-- The contact map and the verdict of tables that hold the same.
use Rattle.std.proofs.Common.{◌≡◌, ℕ, ◌⊎◌, inl, inr, ◌↔◌, List, [], ◌∷◌, sym}
use Rattle.kasa_graph.specs.declared.pattern.Node.{Node}
use Rattle.kasa_rules.specs.declared.model.Model.{Model}
use Rattle.kasa_rules.specs.Rule.{RuleParts}
use Rattle.kasa_families.specs.Table.{Table, families_of, IsWithin}
use Rattle.kasa_pre.specs.Allowed.{IsAllowed, IsDead}
use Rattle.kasa_pre.proofs.AllowedLemmas.{IsAllowed-within}
use Rattle.kasa_polymers.specs.declared.map.Bond.{Bond}
use Rattle.kasa_polymers.specs.declared.map.StateSeen.{StateSeen}
use Rattle.kasa_polymers.specs.declared.map.Polymers.{Polymers}
use Rattle.kasa_polymers.specs.declared.map.Polymers.TheVariants.{AtMost, Beyond, Cycle}
use Rattle.kasa_polymers.specs.Contact.{IsContactBond, IsContactState}
use Rattle.kasa_polymers.specs.StepGraph.{IsPoint, IsEdge, IsLargest, AreShares, IsWeighing, IsTypeSum, IsAllowedType, IsBound, IsWalk, IsClosedWalk, IsFirstCycle}
use Rattle.kasa_polymers.specs.Verdict.{IsVerdict}

-- ---- from tables to larger ones

module _ (model : Model) (first second : List Table) (same : families_of second ≡ families_of first) (within : IsWithin first second) where
  allowed : (g : List Node) → IsAllowed model.sig first g → IsAllowed model.sig second g
  allowed g = IsAllowed-within model.sig first second g same within

  pub IsContactBond-within : (p : Bond) → IsContactBond model first p → IsContactBond model second p
  IsContactBond-within p (inl declared) = inl declared
  IsContactBond-within p (inr (r, has, live, writes)) = inr (r, has, allowed r.left live, writes)

  pub IsContactState-within : (q : StateSeen) → IsContactState model first q → IsContactState model second q
  IsContactState-within q (inl declared) = inl declared
  IsContactState-within q (inr (r, has, live, writes)) = inr (r, has, allowed r.left live, writes)

  pub IsDead-within : (r : RuleParts) → IsDead model.sig second r → IsDead model.sig first r
  IsDead-within r dead = λ live. dead (allowed r.left live)

  IsPoint-within : (p : Bond) → IsPoint model first p → IsPoint model second p
  IsPoint-within p point = (IsContactBond-within p point.0, allowed _ point.1)

  IsEdge-within : (p q : Bond) → IsEdge model first p q → IsEdge model second p q
  IsEdge-within p q edge = record {
    from = IsPoint-within p edge.from;
    to = IsPoint-within q edge.to;
    goes_on = edge.goes_on;
    other_site = edge.other_site;
    allowed = allowed _ edge.allowed;
  }

  IsWalk-within : (walk : List Bond) (q : Bond) → IsWalk model first walk q → IsWalk model second walk q
  IsWalk-within [] q w = absurd w
  IsWalk-within (p ∷ []) q w = IsEdge-within p q w
  IsWalk-within (p ∷ next ∷ points) q w = (IsEdge-within p next w.0, IsWalk-within (next ∷ points) q w.1)

  IsClosedWalk-within : (walk : List Bond) → IsClosedWalk model first walk → IsClosedWalk model second walk
  IsClosedWalk-within [] w = absurd w
  IsClosedWalk-within (p ∷ points) w = IsWalk-within (p ∷ points) p w

  IsAllowedType-within : (a : ℕ) → IsAllowedType model first a → IsAllowedType model second a
  IsAllowedType-within a is = (is.0, allowed _ is.1)

-- ---- between tables that are within each other

module _ (model : Model) (first second : List Table) (same : families_of second ≡ families_of first) (there : IsWithin first second) (back : IsWithin second first) where
  IsLargest-same : (P Q : Bond → Type 0) (weight : Bond → ℕ) (n : ℕ) → ((q : Bond) → P q ↔ Q q) → IsLargest model first P weight n → IsLargest model second Q weight n
  IsLargest-same P Q weight n e (most, inl none) = (λ q has. most q ((e q).1 has), inl none)
  IsLargest-same P Q weight n e (most, inr (q, has, is)) = (λ q has. most q ((e q).1 has), inr (q, (e q).0 has, is))

  AreShares-same : (a : ℕ) (P Q : ℕ → Bond → Type 0) (weight : Bond → ℕ) (shares : List ℕ) → ((z : ℕ) (q : Bond) → P z q ↔ Q z q) → AreShares model first a P weight shares → AreShares model second a Q weight shares
  AreShares-same a P Q weight shares e (size, largest) = (size, λ z n at. IsLargest-same (P z) (Q z) weight n (e z) (largest z n at))

  point : (p : Bond) → IsPoint model first p ↔ IsPoint model second p
  point p = (IsPoint-within model first second same there p, IsPoint-within model second first (sym same) back p)

  edge : (p q : Bond) → IsEdge model first p q ↔ IsEdge model second p q
  edge p q = (IsEdge-within model first second same there p q, IsEdge-within model second first (sym same) back p q)

  IsWeighing-same : (weight : Bond → ℕ) → IsWeighing model first weight → IsWeighing model second weight
  IsWeighing-same weight weighing p is =
      let w = weighing p ((point p).1 is) in
      (w.0, AreShares-same p.b _ _ weight w.0 (λ z q. (λ h. ((edge p q).0 h.0, h.1), λ h. ((edge p q).1 h.0, h.1))) w.1, w.2)

  IsTypeSum-same : (weight : Bond → ℕ) (a n : ℕ) → IsTypeSum model first weight a n → IsTypeSum model second weight a n
  IsTypeSum-same weight a n (shares, are, is) =
      (shares, AreShares-same a _ _ weight shares (λ z q. (λ h. ((point q).0 h.0, h.1, h.2), λ h. ((point q).1 h.0, h.1, h.2))) are, is)

  reached : (weight : Bond → ℕ) (n : ℕ) → (n ≡ 0) ⊎ ((a : ℕ) × IsAllowedType model first a × IsTypeSum model first weight a n) → (n ≡ 0) ⊎ ((a : ℕ) × IsAllowedType model second a × IsTypeSum model second weight a n)
  reached weight n (inl none) = inl none
  reached weight n (inr (a, is, s)) = inr (a, IsAllowedType-within model first second same there a is, IsTypeSum-same weight a n s)

  IsBound-same : (n : ℕ) → IsBound model first n → IsBound model second n
  IsBound-same n b = record {
    weight = b.weight;
    weighing = IsWeighing-same b.weight b.weighing;
    largest = λ a is. (let l = b.largest a (IsAllowedType-within model second first (sym same) back a is) in (l.0, IsTypeSum-same b.weight a l.0 l.1, l.2));
    reached = reached b.weight n b.reached;
  }

  IsFirstCycle-same : (walk : List Bond) → IsFirstCycle model first walk → IsFirstCycle model second walk
  IsFirstCycle-same walk c =
      let other_way = IsClosedWalk-within model second first (sym same) back in
      record {
        closed = IsClosedWalk-within model first second same there walk c.closed;
        least_start = λ other w. c.least_start other (other_way other w);
        shortest = λ other w. c.shortest other (other_way other w);
        first = λ other w. c.first other (other_way other w);
      }

  pub IsVerdict-same : (v : Polymers) → IsVerdict model first v → IsVerdict model second v
  IsVerdict-same (AtMost n) (is, fits) = (IsBound-same n is, fits)
  IsVerdict-same Beyond (n, is, more) = (n, IsBound-same n is, more)
  IsVerdict-same (Cycle walk) is = IsFirstCycle-same walk is

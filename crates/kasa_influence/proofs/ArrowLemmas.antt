-- Arrows, from what each rule may make and stop.
use Rattle.std.proofs.Common.{◌≡◌, ℕ, ◌+◌, ◌≤◌, ◌↔◌, List, [], ◌∷◌, ◌++◌, length, refl, sym, ap, ◌∙◌, arith}
use Rattle.std.specs.Prelude.{Some, slice_get}
use Rattle.std.proofs.lemmas.Option.{same_Some, slice_get_within}
use Rattle.kasa_graph.specs.Lists.{Has}
use Rattle.kasa_families.specs.Table.{Table}
use Rattle.kasa_rules.specs.declared.model.Model.{Model}
use Rattle.kasa_rules.specs.Rule.{RuleParts}
use Rattle.kasa_rules.specs.Reached.{IsModel}
use Rattle.kasa_pre.specs.Allowed.{IsAllowed}
use Rattle.kasa_influence.specs.declared.map.Arrow.{Arrow}
use Rattle.kasa_influence.specs.declared.lone.Lone.{Lone}
use Rattle.kasa_influence.specs.Alone.{alone}
use Rattle.kasa_influence.specs.Arrows.{IsGain, IsLoss}
use Rattle.kasa_influence.specs.inner.Ask.{Asked, IsOne}
use Rattle.kasa_influence.specs.inner.Makes.{MayMake}
use Rattle.kasa_influence.specs.inner.Stops.{IsTarget, MayStop}
use Rattle.kasa_influence.specs.inner.Search.{IsLone, Adds, IsGainFrom, IsLossFrom, IsGainOf, IsLossOf, IsLossTo, IsGainAmong, IsLossAmong, target_of}
use Rattle.kasa_influence.proofs.LoneLemmas.{IsOne-alone}
use Rattle.kasa_influence.proofs.AddsLemmas.{Below, Adds-none, Adds-push, Adds-there, Adds-more, Adds-same, Adds-all}

-- ---- one arrow

module _ (arrow : Arrow) (P : Type 0) (found : List Arrow) where
  pub arrow_there : Has found arrow → Adds (λ x. (x ≡ arrow) × P) found found
  arrow_there has = Adds-there (λ x. (x ≡ arrow) × P) found (λ x p. rw p.0 has)

  pub arrow_none : ¬ P → Adds (λ x. (x ≡ arrow) × P) found found
  arrow_none none = Adds-none (λ x. (x ≡ arrow) × P) found (λ x p. none p.1)

  pub arrow_new : P → Adds (λ x. (x ≡ arrow) × P) found (found ++ arrow ∷ [])
  arrow_new p = Adds-push (λ x. (x ≡ arrow) × P) found arrow (λ x. (λ q. sym q.0, λ e. (sym e, p)))

-- ---- nodes

module _ (model : Model) (valid : IsModel model) (l : Lone) (lone : IsLone model l) where
  pub IsOne-lone : IsOne model.sig l.pattern
  IsOne-lone =
      let over = (valid.rules l.rule lone.0 lone.1).left in
      rw lone.2.1.2 (IsOne-alone model.sig lone.0.left over l.node lone.2.1.0 lone.2.1.1)

  pub IsTarget-lone : (r : RuleParts) → slice_get model.rules l.rule ≡ Some r → IsTarget model.sig (target_of r.left l)
  IsTarget-lone r at =
      let same : lone.0 ≡ r = same_Some lone.0 r (sym lone.1 ∙ at) in
      record {
        valid = (valid.rules l.rule r at).left;
        there = lone.2.1.0;
        at_node = rw (← same) lone.2.1.1;
        by_itself = rw (← same) lone.2.1.2;
      }

-- ---- a loop over nodes

-- the arrow to the rule of the node of a number
abbrev pub GainAt : Asked → ℕ → List Lone → ℕ → Arrow → Type 0
GainAt a k ls n arrow = (l : Lone) × (slice_get ls n ≡ Some l) × IsGainOf a k l arrow

abbrev pub LossAt : Asked → Model → ℕ → List Lone → ℕ → Arrow → Type 0
LossAt a model k ls n arrow = (l : Lone) × (slice_get ls n ≡ Some l) × IsLossTo a model k l arrow

module _ (a : Asked) (k : ℕ) (ls : List Lone) (n : ℕ) where
  pub gain-more : (l : Lone) (first found new : List Arrow) → slice_get ls n ≡ Some l → Adds (Below (GainAt a k ls) n) first found → Adds (IsGainOf a k l) found new → Adds (Below (GainAt a k ls) (n + 1)) first new
  gain-more l first found new at before now =
      Adds-more (GainAt a k ls) n first found new before (Adds-same (IsGainOf a k l) (GainAt a k ls n) found new (λ x. (λ g. (l, at, g), λ g. back x g)) now)
    where
      back : (x : Arrow) → GainAt a k ls n x → IsGainOf a k l x
      back x (l', at', g) = let same : l' ≡ l = same_Some l' l (sym at' ∙ at) in rw same at g

  pub gain-all : (first found : List Arrow) → length ls ≤ n → Adds (Below (GainAt a k ls) n) first found → Adds (IsGainAmong a k ls) first found
  gain-all first found past added = Adds-same (Below (GainAt a k ls) n) (IsGainAmong a k ls) first found (λ x. (
    λ b. (b.2.0, (b.0, b.2.1), b.2.2),
    λ g. (g.1.0, (let within = slice_get_within ls g.1.0 g.0 g.1.1 in omega arith), (g.0, g.1.1, g.2)),
  )) added

  module _ (model : Model) where
    pub loss-more : (l : Lone) (r : RuleParts) (first found new : List Arrow) → slice_get ls n ≡ Some l → slice_get model.rules l.rule ≡ Some r → Adds (Below (LossAt a model k ls) n) first found → Adds (IsLossOf a r.left k l) found new → Adds (Below (LossAt a model k ls) (n + 1)) first new
    loss-more l r first found new at rule before now =
        Adds-more (LossAt a model k ls) n first found new before (Adds-same (IsLossOf a r.left k l) (LossAt a model k ls n) found new (λ x. (λ g. (l, at, (r, rule, g)), λ g. back x g)) now)
      where
        back : (x : Arrow) → LossAt a model k ls n x → IsLossOf a r.left k l x
        back x (l', at', (r', rule', g)) =
            let same : l' ≡ l = same_Some l' l (sym at' ∙ at) in
            let same' : r' ≡ r = same_Some r' r (sym (rw same at rule') ∙ rule) in
            rw (same, same') at g

    pub loss-all : (first found : List Arrow) → length ls ≤ n → Adds (Below (LossAt a model k ls) n) first found → Adds (IsLossAmong a model k ls) first found
    loss-all first found past added = Adds-same (Below (LossAt a model k ls) n) (IsLossAmong a model k ls) first found (λ x. (
      λ b. (b.2.0, (b.0, b.2.1), b.2.2),
      λ g. (g.1.0, (let within = slice_get_within ls g.1.0 g.0 g.1.1 in omega arith), (g.0, g.1.1, g.2)),
    )) added

-- ---- the arrows of a rule

module _ (model : Model) (tables : List Table) (k : ℕ) (r : RuleParts) (at : slice_get model.rules k ≡ Some r) where
  pub no_gains : ¬ IsAllowed model.sig tables r.left → (arrow : Arrow) → ¬ IsGainFrom model tables k arrow
  no_gains dead arrow (e, (r', r2, leads, gains)) =
      let same : r' ≡ r = same_Some r' r (sym (rw e at leads.0) ∙ at) in
      dead (rw (← same) gains.live)

  pub no_losses : ¬ IsAllowed model.sig tables r.left → (arrow : Arrow) → ¬ IsLossFrom model tables k arrow
  no_losses dead arrow (e, (r', r2, leads, loses)) =
      let same : r' ≡ r = same_Some r' r (sym (rw e at leads.0) ∙ at) in
      dead (rw (← same) loses.live)

  module _ (a : Asked) (sig : a.sig ≡ model.sig) (tabled : a.tables ≡ tables) (rule : a.rule ≡ r) (live : IsAllowed model.sig tables r.left) (ls : List Lone) where
    pub gains_found : ((l : Lone) → Has ls l → IsLone model l) → (arrow : Arrow) → IsGainAmong a k ls arrow → IsGainFrom model tables k arrow
    gains_found lones arrow (l, has, (is, (stand, (freed, makes)))) =
        let lone = lones l has in (
          ap (λ (x : Arrow). x.from) is,
          (
            r,
            lone.0,
            (rw (ap (λ (x : Arrow). x.from) is) at, rw (ap (λ (x : Arrow). x.to) is) lone.1),
            record {
              live = live;
              number = l.node;
              node = lone.2.1.0;
              «at» = lone.2.1.1;
              stand = stand;
              freed = freed;
              makes = rw (sig, tabled, rule, lone.2.1.2) at makes;
            },
          ),
        )

    pub losses_found : ((l : Lone) → Has ls l → IsLone model l) → (arrow : Arrow) → IsLossAmong a model k ls arrow → IsLossFrom model tables k arrow
    losses_found lones arrow (l, has, (r2, there, (is, (g, p, stops)))) =
        let lone = lones l has in
        let same : lone.0 ≡ r2 = same_Some lone.0 r2 (sym lone.1 ∙ there) in (
          ap (λ (x : Arrow). x.from) is,
          (
            r,
            r2,
            (rw (ap (λ (x : Arrow). x.from) is) at, rw (ap (λ (x : Arrow). x.to) is) there),
            record {
              live = live;
              number = l.node;
              node = lone.2.1.0;
              «at» = rw (← same) lone.2.1.1;
              pattern = g;
              place = p;
              stops = rw (sig, tabled, rule, lone.2.1.2, same) at stops;
            },
          ),
        )

    -- where the nodes are all that the rule may make or stop
    pub gains_all : ((l : Lone) → IsLone model l → MayMake a l.pattern → Has ls l) → (arrow : Arrow) → IsGainFrom model tables k arrow → IsGainAmong a k ls arrow
    gains_all lones arrow (e, (r', r2, (from, to), gains)) =
        let same : r' ≡ r = same_Some r' r (sym (rw e at from) ∙ at) in
        let l : Lone = record { rule = arrow.to; node = gains.number; pattern = alone r2.left gains.node } in
        let makes : MayMake a (alone r2.left gains.node) = rw (sig, tabled, rule, ← same) (gains.stand, (gains.freed, gains.makes)) in
        (l, lones l (r2, to, (refl, (gains.node, gains.«at», refl))) makes, ((λ i. record { from = e i; to = arrow.to }), makes))

    pub losses_all : ((l : Lone) (r2 : RuleParts) → IsLone model l → slice_get model.rules l.rule ≡ Some r2 → MayStop a (target_of r2.left l) → Has ls l) → (arrow : Arrow) → IsLossFrom model tables k arrow → IsLossAmong a model k ls arrow
    losses_all lones arrow (e, (r', r2, (from, to), loses)) =
        let same : r' ≡ r = same_Some r' r (sym (rw e at from) ∙ at) in
        let l : Lone = record { rule = arrow.to; node = loses.number; pattern = alone r2.left loses.node } in
        let stops : MayStop a (target_of r2.left l) = rw (sig, tabled, rule, ← same) (loses.pattern, loses.place, loses.stops) in
        (l, lones l r2 (r2, to, (refl, (loses.node, loses.«at», refl))) to stops, (r2, to, ((λ i. record { from = e i; to = arrow.to }), stops)))

-- ---- all arrows

module _ (model : Model) (tables : List Table) (k : ℕ) (found : List Arrow) (past : length model.rules ≤ k) where
  pub all_gains : Adds (Below (IsGainFrom model tables) k) [] found → (arrow : Arrow) → Has found arrow ↔ IsGain model tables arrow
  all_gains added = Adds-all (IsGain model tables) found (Adds-same (Below (IsGainFrom model tables) k) (IsGain model tables) [] found (λ x. (
    λ b. b.2.1,
    λ g. (x.from, (let within = slice_get_within model.rules x.from g.0 g.2.0 in omega arith), (refl, g)),
  )) added)

  pub all_losses : Adds (Below (IsLossFrom model tables) k) [] found → (arrow : Arrow) → Has found arrow ↔ IsLoss model tables arrow
  all_losses added = Adds-all (IsLoss model tables) found (Adds-same (Below (IsLossFrom model tables) k) (IsLoss model tables) [] found (λ x. (
    λ b. b.2.1,
    λ g. (x.from, (let within = slice_get_within model.rules x.from g.0 g.2.0 in omega arith), (refl, g)),
  )) added)

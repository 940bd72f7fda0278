-- Laws of implied and agreeing tests.
use Rattle.std.proofs.Common.{◌≡◌, ℕ, sym, ap, ◌∙◌, List}
use Rattle.std.specs.Prelude.{Option, Some}
use Rattle.kasa_graph.specs.declared.pattern.Node.{Node}
use Rattle.kasa_graph.specs.declared.pattern.StateTest.{StateTest}
use Rattle.kasa_graph.specs.declared.pattern.StateTest.TheVariants as state
use Rattle.kasa_graph.specs.declared.pattern.LinkTest.{LinkTest}
use Rattle.kasa_graph.specs.declared.pattern.LinkTest.TheVariants.{Any, Free, Bound, Partner, To}
use Rattle.kasa_graph.specs.Pattern.{agent_at, StateImplies, LinkImplies, StatesAgree, LinksAgree}
use Rattle.kasa_pre.specs.Place.{ImpliesAt}

pub StateImplies-trans : (a b c : StateTest) → StateImplies a b → StateImplies b c → StateImplies a c
StateImplies-trans a b state.Any p q = tt
StateImplies-trans (state.Is u) (state.Is w) (state.Is x) p q = p ∙ q
StateImplies-trans state.Any (state.Is w) (state.Is x) p q = absurd p
StateImplies-trans a state.Any (state.Is x) p q = absurd q

-- what agrees with a test agrees with a more general one
pub StatesAgree-general : (a b c : StateTest) → StateImplies a b → StatesAgree a c → StatesAgree b c
StatesAgree-general a state.Any c p q = tt
StatesAgree-general (state.Is u) (state.Is w) state.Any p q = tt
StatesAgree-general (state.Is u) (state.Is w) (state.Is x) p q = sym p ∙ q
StatesAgree-general state.Any (state.Is w) c p q = absurd p

-- only itself implies a bond to a node
pub To-implied : (h : List Node) (a : LinkTest) (k u : ℕ) → LinkImplies h a (To k u) → a ≡ To k u
To-implied h Any k u p = absurd p
To-implied h Free k u p = absurd p
To-implied h Bound k u p = absurd p
To-implied h (Partner b y) k u p = absurd p
To-implied h (To m v) k u p = cc

-- two patterns with the same types at their nodes
module _ (g h : List Node) (same : (n : ℕ) → agent_at h n ≡ agent_at g n) where
  pub LinkImplies-trans : (a b c : LinkTest) → LinkImplies h a b → LinkImplies g b c → LinkImplies h a c
  LinkImplies-trans a b Any p q = tt
  LinkImplies-trans Free Free Free p q = tt
  LinkImplies-trans Bound Bound Bound p q = tt
  LinkImplies-trans (Partner b y) Bound Bound p q = tt
  LinkImplies-trans (To m t) Bound Bound p q = tt
  LinkImplies-trans (Partner a x) (Partner b y) Bound p q = tt
  LinkImplies-trans (To m t) (Partner b y) Bound p q = tt
  LinkImplies-trans (To m t) (To k u) Bound p q = tt
  LinkImplies-trans (Partner a x) (Partner b y) (Partner c z) p q = (p.0 ∙ q.0, p.1 ∙ q.1)
  LinkImplies-trans (To m t) (Partner b y) (Partner c z) p q = (p.0 ∙ ap Some q.0, p.1 ∙ q.1)
  LinkImplies-trans (To m t) (To k u) (Partner c z) p q = (same m ∙ rw p.0 q.0, p.1 ∙ q.1)
  LinkImplies-trans (To m t) (To k u) (To j v) p q = (p.0 ∙ q.0, p.1 ∙ q.1)
  LinkImplies-trans a Free Free p q = absurd p
  LinkImplies-trans a b Free p q = absurd q
  LinkImplies-trans a Any Bound p q = absurd q
  LinkImplies-trans a Free Bound p q = absurd q
  LinkImplies-trans a b Bound p q = absurd p
  LinkImplies-trans a Any (Partner c z) p q = absurd q
  LinkImplies-trans a Free (Partner c z) p q = absurd q
  LinkImplies-trans a Bound (Partner c z) p q = absurd q
  LinkImplies-trans a b (Partner c z) p q = absurd p
  LinkImplies-trans a (To k u) (To j v) p q = absurd p
  LinkImplies-trans a b (To j v) p q = absurd q

  pub LinksAgree-general : (a b c : LinkTest) → LinkImplies h a b → LinksAgree h a c → LinksAgree g b c
  LinksAgree-general a Any c p q = tt
  LinksAgree-general Free Free Any p q = tt
  LinksAgree-general Free Free Free p q = tt
  LinksAgree-general Free Free c p q = absurd q
  LinksAgree-general Bound Bound Free p q = absurd q
  LinksAgree-general Bound Bound c p q = tt
  LinksAgree-general (Partner a x) Bound Free p q = absurd q
  LinksAgree-general (Partner a x) Bound c p q = tt
  LinksAgree-general (To m t) Bound Free p q = absurd q
  LinksAgree-general (To m t) Bound c p q = tt
  LinksAgree-general (Partner a x) (Partner b y) Any p q = tt
  LinksAgree-general (Partner a x) (Partner b y) Free p q = absurd q
  LinksAgree-general (Partner a x) (Partner b y) Bound p q = tt
  LinksAgree-general (Partner a x) (Partner b y) (Partner c z) p q = (sym p.0 ∙ q.0, sym p.1 ∙ q.1)
  LinksAgree-general (Partner a x) (Partner b y) (To k u) p q = (sym (same k) ∙ q.0 ∙ ap Some p.0, q.1 ∙ p.1)
  LinksAgree-general (To m t) (Partner b y) Any p q = tt
  LinksAgree-general (To m t) (Partner b y) Free p q = absurd q
  LinksAgree-general (To m t) (Partner b y) Bound p q = tt
  LinksAgree-general (To m t) (Partner b y) (Partner c z) p q = (let e : Some b ≡ Some c = sym p.0 ∙ q.0 in cc, sym p.1 ∙ q.1)
  LinksAgree-general (To m t) (Partner b y) (To k u) p q = (sym (same k) ∙ rw (← q.0) p.0, sym q.1 ∙ p.1)
  LinksAgree-general (To m t) (To k u) Any p q = tt
  LinksAgree-general (To m t) (To k u) Free p q = absurd q
  LinksAgree-general (To m t) (To k u) Bound p q = tt
  LinksAgree-general (To m t) (To k u) (Partner c z) p q = (sym (same k) ∙ rw (← p.0) q.0, sym p.1 ∙ q.1)
  LinksAgree-general (To m t) (To k u) (To j v) p q = (sym p.0 ∙ q.0, sym p.1 ∙ q.1)
  LinksAgree-general _ _ _ p q = absurd p

  -- through a place
  pub ImpliesAt-trans : (place : ℕ → Option ℕ) (a b c : LinkTest) → LinkImplies h a b → ImpliesAt g place b c → ImpliesAt h place a c
  ImpliesAt-trans place a b Any p q = LinkImplies-trans a b Any p q
  ImpliesAt-trans place a b Free p q = LinkImplies-trans a b Free p q
  ImpliesAt-trans place a b Bound p q = LinkImplies-trans a b Bound p q
  ImpliesAt-trans place a b (Partner c z) p q = LinkImplies-trans a b (Partner c z) p q
  ImpliesAt-trans place a b (To n t) p q = (q.0, q.1, To-implied h a q.0 t (rw q.2 at p))

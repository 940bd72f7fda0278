-- Laws of embeddings: tests that are implied are met, and tests that are met at one site agree.
use Rattle.std.proofs.Common.{◌≡◌, ℕ, ◌<◌, List, refl, sym, ap, ◌∙◌, length, map, get_or}
use Rattle.std.specs.Prelude.{Option, Some, None, slice_get, option_map}
use Rattle.std.proofs.lemmas.List.{length-map}
use Rattle.std.proofs.lemmas.Option.{slice_get-map, slice_get-get_or}
use Rattle.kasa_graph.specs.declared.pattern.Node.{Node}
use Rattle.kasa_graph.specs.declared.mixture.Agent.{Agent}
use Rattle.kasa_graph.specs.declared.pattern.StateTest.{StateTest}
use Rattle.kasa_graph.specs.declared.pattern.StateTest.TheVariants as state
use Rattle.kasa_graph.specs.declared.pattern.LinkTest.{LinkTest}
use Rattle.kasa_graph.specs.declared.pattern.LinkTest.TheVariants.{Any, Free, Bound, Partner, To}
use Rattle.kasa_graph.specs.Pattern.{agent_at, StateImplies, LinkImplies, StatesAgree, LinksAgree, Implies}
use Rattle.kasa_graph.specs.Mixture.{type_in}
use Rattle.kasa_graph.specs.Embedding.{IsEmbedding, MeetsState, MeetsLink}
use Rattle.kasa_families.specs.declared.row.LocalLink.{LocalLink}
use Rattle.kasa_families.specs.declared.row.LocalLink.TheVariants as local
use Rattle.kasa_families.specs.Local.{local_link_test}
use Rattle.kasa_pre.specs.Place.{ImpliesAt, IsPlace}
use Rattle.kasa_pre.proofs.Implied.{To-implied}
use Rattle.kasa_graph.proofs.TestLemmas.{agent_at-same}

pub MeetsState-implied : (at : Option ℕ) (a b : StateTest) → StateImplies a b → MeetsState at a → MeetsState at b
MeetsState-implied at a state.Any p q = tt
MeetsState-implied at (state.Is u) (state.Is w) p q = q ∙ ap Some p
MeetsState-implied at state.Any (state.Is w) p q = absurd p

-- two state tests that are met at one site agree
pub StatesAgree-met : (at : Option ℕ) (a b : StateTest) → MeetsState at a → MeetsState at b → StatesAgree a b
StatesAgree-met at state.Any b p q = tt
StatesAgree-met at (state.Is u) state.Any p q = tt
StatesAgree-met at (state.Is u) (state.Is w) p q = cc

pub same_partner : (at : Option (ℕ × ℕ)) (c s d t : ℕ) → at ≡ Some (c, s) → at ≡ Some (d, t) → (c ≡ d) × (s ≡ t)
same_partner at c s d t p q =
    let pair : ◌≡◌ {A = ℕ × ℕ} (c, s) (d, t) = cc in
    (ap (λ (x : ℕ × ℕ). x.0) pair, ap (λ (x : ℕ × ℕ). x.1) pair)

-- the nodes of g lie on cells of their types
abbrev AreTyped : List Node → List (Option Agent) → List ℕ → Type 0
AreTyped g m cells = (n c a : ℕ) → slice_get cells n ≡ Some c → agent_at g n ≡ Some a → type_in m c ≡ Some a

module _ (g : List Node) (m : List (Option Agent)) (cells : List ℕ) (typed : AreTyped g m cells) where
  pub MeetsLink-implied : (at : Option (ℕ × ℕ)) (a b : LinkTest) → LinkImplies g a b → MeetsLink m cells at a → MeetsLink m cells at b
  MeetsLink-implied at a Any p q = tt
  MeetsLink-implied at Free Free p q = q
  MeetsLink-implied at a Free p q = absurd p
  MeetsLink-implied at Any Bound p q = absurd p
  MeetsLink-implied at Free Bound p q = absurd p
  MeetsLink-implied at Bound Bound p q = q
  MeetsLink-implied at (Partner b y) Bound p q = (q.0, y, q.1)
  MeetsLink-implied at (To n t) Bound p q = (q.0, t, q.1)
  MeetsLink-implied at (Partner a x) (Partner b y) p q = (q.0, q.1 ∙ ap (λ (z : ℕ). let o : Option (ℕ × ℕ) = Some (q.0, z) in o) p.1, q.2 ∙ ap Some p.0)
  MeetsLink-implied at (To n t) (Partner b y) p q = (q.0, q.1 ∙ ap (λ (z : ℕ). let o : Option (ℕ × ℕ) = Some (q.0, z) in o) p.1, typed n q.0 b q.2 p.0)
  MeetsLink-implied at a (Partner b y) p q = absurd p
  MeetsLink-implied at a (To k u) p q = rw (To-implied g a k u p) at q

  -- a local link that is met agrees with g's test that is met
  pub LinksAgree-met : (at : Option (ℕ × ℕ)) (others : List ℕ) (a : LinkTest) (l : LocalLink) → ((n c : ℕ) → slice_get cells n ≡ Some c → (b : ℕ) × (agent_at g n ≡ Some b)) → MeetsLink m cells at a → MeetsLink m others at (local_link_test l) → LinksAgree g a (local_link_test l)
  LinksAgree-met at others Any l within p q = tt
  LinksAgree-met at others Free local.Free within p q = tt
  LinksAgree-met at others Free (local.Partner b y) within p q = absurd cc
  LinksAgree-met at others Bound local.Free within p q = absurd (let e = p.2 in cc)
  LinksAgree-met at others Bound (local.Partner b y) within p q = tt
  LinksAgree-met at others (Partner a x) local.Free within p q = absurd (let e = p.1 in cc)
  LinksAgree-met at others (Partner a x) (local.Partner b y) within p q =
      let e = same_partner at p.0 x q.0 y p.1 q.1 in
      (let typed' : Some a ≡ Some b = sym p.2 ∙ ap (type_in m) e.0 ∙ q.2 in cc, e.1)
  LinksAgree-met at others (To n t) local.Free within p q = absurd (let e = p.1 in cc)
  LinksAgree-met at others (To n t) (local.Partner b y) within p q =
      let e = same_partner at p.0 t q.0 y p.1 q.1 in
      let is = within n p.0 p.2 in
      (is.1 ∙ sym (typed n p.0 is.0 p.2 is.1) ∙ ap (type_in m) e.0 ∙ q.2, e.1)

-- an embedding of a pattern is one of each more general pattern on the same nodes
pub IsEmbedding-general : (g h : List Node) (m : List (Option Agent)) (cells : List ℕ) → Implies h g → IsEmbedding h m cells → IsEmbedding g m cells
IsEmbedding-general g h m cells general at = record {
  count = at.count ∙ sym (length-map h (λ (x : Node). x.agent)) ∙ ap length general.types ∙ length-map g (λ (x : Node). x.agent);
  different = at.different;
  types = λ n c a here is. at.types n c a here (agent_at-same g h general.types n ∙ is);
  states = λ n c s here. MeetsState-implied _ _ _ (general.states n s) (at.states n c s here);
  links = λ n c s here. MeetsLink-implied h m cells at.types _ _ _ (general.links n s) (at.links n c s here);
}

-- the cells on which the places of a root lie
unfoldable pub cells_at : List ℕ → List ℕ → List ℕ
cells_at cells place = map (λ p. get_or cells p 0) place

cells_at-place : (cells place : List ℕ) (n c : ℕ) → slice_get (cells_at cells place) n ≡ Some c → ((p : ℕ) → slice_get place n ≡ Some p → p < length cells) → (p : ℕ) × (slice_get place n ≡ Some p) × (slice_get cells p ≡ Some c)
unfolding cells_at
cells_at-place cells place n c e within = by_place (slice_get place n) refl (sym (slice_get-map (λ p. get_or cells p 0) place n) ∙ e)
  where
    by_place : (o : Option ℕ) → slice_get place n ≡ o → option_map (λ p. get_or cells p 0) o ≡ Some c → (p : ℕ) × (slice_get place n ≡ Some p) × (slice_get cells p ≡ Some c)
    by_place None f g = absurd cc
    by_place (Some p) f g = (p, f, slice_get-get_or cells p 0 (within p f) ∙ g)

-- where a root has a place in g, an embedding of g gives one of the root
module _ (root g : List Node) (m : List (Option Agent)) (cells place : List ℕ) (at : IsPlace root g place) (in_m : IsEmbedding g m cells) (within : (n p : ℕ) → slice_get place n ≡ Some p → p < length cells) where
  pub on_cell : (n p : ℕ) → slice_get place n ≡ Some p → slice_get (cells_at cells place) n ≡ Some (get_or cells p 0)
  unfolding cells_at
  on_cell n p e = slice_get-map (λ p. get_or cells p 0) place n ∙ ap (option_map (λ (p : ℕ). get_or cells p 0)) e

  met_at : (o : Option (ℕ × ℕ)) (a b : LinkTest) → ImpliesAt g (slice_get place) a b → MeetsLink m cells o a → MeetsLink m (cells_at cells place) o b
  met_at o a Any p q = tt
  met_at o a Free p q = MeetsLink-implied g m cells in_m.types o a Free p q
  met_at o a Bound p q = MeetsLink-implied g m cells in_m.types o a Bound p q
  met_at o a (Partner b y) p q = MeetsLink-implied g m cells in_m.types o a (Partner b y) p q
  met_at o a (To n t) p q =
      let bound : MeetsLink m cells o (To p.0 t) = rw p.2 at q in
      let cell : Some (get_or cells p.0 0) ≡ Some bound.0 = sym (slice_get-get_or cells p.0 0 (within n p.0 p.1)) ∙ bound.2 in
      (bound.0, bound.1, on_cell n p.0 p.1 ∙ cell)

  pub IsEmbedding-place : IsEmbedding root m (cells_at cells place)
  unfolding cells_at
  IsEmbedding-place = record {
    count = length-map place (λ p. get_or cells p 0) ∙ at.count;
    different = λ i j c e f.
        let p = cells_at-place cells place i c e (within i) in
        let q = cells_at-place cells place j c f (within j) in
        let same : p.0 ≡ q.0 = in_m.different p.0 q.0 c p.2 q.2 in
        at.different i j q.0 (p.1 ∙ ap Some same) q.1;
    types = λ n c a e is. let p = cells_at-place cells place n c e (within n) in in_m.types p.0 c a p.2 (at.types n p.0 a p.1 is);
    states = λ n c s e. let p = cells_at-place cells place n c e (within n) in MeetsState-implied _ _ _ (at.states n p.0 s p.1) (in_m.states p.0 c s p.2);
    links = λ n c s e. let p = cells_at-place cells place n c e (within n) in met_at _ _ _ (at.links n p.0 s p.1) (in_m.links p.0 c s p.2);
  }

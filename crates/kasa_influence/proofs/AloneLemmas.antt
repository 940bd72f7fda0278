-- One node of a pattern alone: its tests, and that it stands where the pattern stands.
use Rattle.std.proofs.Common.{◌≡◌, ◌≢◌, ℕ, zero, suc, List, [], ◌∷◌, refl, sym, ap, ◌∙◌, map}
use Rattle.std.specs.Prelude.{Option, Some, None, slice_get, option_map}
use Rattle.std.specs.Option.{option_map_or}
use Rattle.std.proofs.lemmas.Option.{slice_get-map}
use Rattle.kasa_graph.specs.declared.pattern.Node.{Node}
use Rattle.kasa_graph.specs.declared.pattern.SiteTests.{SiteTests}
use Rattle.kasa_graph.specs.declared.mixture.Agent.{Agent}
use Rattle.kasa_graph.specs.Signature.{TypeEntry}
use Rattle.kasa_graph.specs.declared.pattern.StateTest.TheVariants as state
use Rattle.kasa_graph.specs.declared.pattern.LinkTest.{LinkTest}
use Rattle.kasa_graph.specs.declared.pattern.LinkTest.TheVariants.{Any, Free, Bound, Partner, To}
use Rattle.kasa_graph.specs.Pattern.{agent_at, site_at, state_test, link_test}
use Rattle.kasa_graph.specs.Mixture.{type_in, state_in, partner_in}
use Rattle.kasa_graph.specs.Embedding.{IsEmbedding, MeetsState, MeetsLink}
use Rattle.kasa_graph.proofs.ShapeLemmas.{IsShaped}
use Rattle.kasa_graph.proofs.ShapeLemmas.{agent_at-node}
use Rattle.kasa_pre.proofs.LeftLemmas.{typed_node}
use Rattle.kasa_influence.specs.Alone.{unnamed, unnamed_site, alone}

module _ (g : List Node) (i : ℕ) (node : Node) (is : slice_get g i ≡ Some node) where
  pub state_test-alone : (s : ℕ) → state_test (alone g node) 0 s ≡ state_test g i s
  unfolding state_test site_at
  state_test-alone s = rw (is, slice_get-map (unnamed_site g) node.sites s) (by_site (slice_get node.sites s))
    where
      by_site : (o : Option SiteTests) → option_map_or (λ (x : SiteTests). x.state) (option_map (unnamed_site g) o) state.Any ≡ option_map_or (λ (x : SiteTests). x.state) o state.Any
      by_site None = refl
      by_site (Some x) = refl

  pub link_test-alone : (s : ℕ) → link_test (alone g node) 0 s ≡ unnamed g (link_test g i s)
  unfolding link_test site_at
  link_test-alone s = rw (is, slice_get-map (unnamed_site g) node.sites s) (by_site (slice_get node.sites s))
    where
      by_site : (o : Option SiteTests) → option_map_or (λ (x : SiteTests). x.link) (option_map (unnamed_site g) o) Any ≡ unnamed g (option_map_or (λ (x : SiteTests). x.link) o Any)
      by_site None = refl
      by_site (Some x) = refl

  pub agent_at-alone : agent_at (alone g node) 0 ≡ Some node.agent
  unfolding agent_at
  agent_at-alone = refl

  states-unnamed : (sites : List SiteTests) → map (λ (x : SiteTests). x.states) (map (unnamed_site g) sites) ≡ map (λ (x : SiteTests). x.states) sites
  states-unnamed [] = refl
  states-unnamed (x ∷ sites) = ap (λ (ks : List ℕ). x.states ∷ ks) (states-unnamed sites)

  pub IsShaped-alone : (sig : List TypeEntry) → IsShaped sig g → IsShaped sig (alone g node)
  IsShaped-alone sig shaped zero other e =
      let same : record { agent = node.agent; sites = map (unnamed_site g) node.sites } ≡ other = cc in
      rw (← same) (states-unnamed node.sites ∙ shaped i node is)
  IsShaped-alone sig shaped (suc n) other e = absurd cc

-- a test that asks for something asks for it without a name
pub unnamed_asks : (g : List Node) (b : LinkTest) → b ≢ Any → unnamed g b ≢ Any
unnamed_asks g Any ne = ne
unnamed_asks g Free ne = λ e. cc
unnamed_asks g Bound ne = λ e. cc
unnamed_asks g (Partner a x) ne = λ e. cc
unnamed_asks g (To n t) ne = by_type (agent_at g n)
  where
    by_type : (o : Option ℕ) → option_map_or (λ b. Partner b t) o Bound ≢ Any
    by_type None = λ e. cc
    by_type (Some a) = λ e. cc

module _ (g : List Node) (m : List (Option Agent)) (cells : List ℕ) (at : IsEmbedding g m cells) where
  pub met_unnamed : (others : List ℕ) (o : Option (ℕ × ℕ)) (b : LinkTest) → MeetsLink m cells o b → MeetsLink m others o (unnamed g b)
  met_unnamed others o Any met = tt
  met_unnamed others o Free met = met
  met_unnamed others o Bound met = met
  met_unnamed others o (Partner a x) met = met
  met_unnamed others o (To n t) met =
      let typed = typed_node g m cells at n met.0 met.2 in
      rw typed.1 (met.0, met.1, typed.2)

  -- the node alone stands on its cell
  pub IsEmbedding-alone : (i c : ℕ) (node : Node) → slice_get cells i ≡ Some c → slice_get g i ≡ Some node → IsEmbedding (alone g node) m (c ∷ [])
  IsEmbedding-alone i c node here is = record {
    count = refl;
    different = different;
    types = types;
    states = states;
    links = links;
  }
    where
      different : (n j x : ℕ) → slice_get (c ∷ []) n ≡ Some x → slice_get (c ∷ []) j ≡ Some x → n ≡ j
      different zero zero x e f = refl
      different zero (suc j) x e f = absurd cc
      different (suc n) j x e f = absurd cc

      types : (n d a : ℕ) → slice_get (c ∷ []) n ≡ Some d → agent_at (alone g node) n ≡ Some a → type_in m d ≡ Some a
      types zero d a e f = let same : c ≡ d = cc in rw (← same) (at.types i c node.agent here (agent_at-node g i node is) ∙ sym (agent_at-alone g i node is) ∙ f)
      types (suc n) d a e f = absurd cc

      states : (n d s : ℕ) → slice_get (c ∷ []) n ≡ Some d → MeetsState (state_in m d s) (state_test (alone g node) n s)
      states zero d s e = let same : c ≡ d = cc in rw (← same, state_test-alone g i node is s) (at.states i c s here)
      states (suc n) d s e = absurd cc

      links : (n d s : ℕ) → slice_get (c ∷ []) n ≡ Some d → MeetsLink m (c ∷ []) (partner_in m d s) (link_test (alone g node) n s)
      links zero d s e = let same : c ≡ d = cc in rw (← same, link_test-alone g i node is s) (met_unnamed (c ∷ []) (partner_in m c s) (link_test g i s) (at.links i c s here))
      links (suc n) d s e = absurd cc

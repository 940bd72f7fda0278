-- A node of a pattern by itself is a pattern over the signature.
use Rattle.std.proofs.Common.{◌≡◌, ◌≢◌, ℕ, zero, suc, ◌<◌, ◌≤◌, List, refl, sym, ◌∙◌, length, map}
use Rattle.std.proofs.lemmas.Option.{slice_get_past}
use Rattle.std.specs.Prelude.{Option, Some, None, slice_get}
use Rattle.std.specs.Option.{option_map_or}
use Rattle.kasa_graph.specs.declared.pattern.Node.{Node}
use Rattle.kasa_graph.specs.Signature.{TypeEntry, HasSite, HasState}
use Rattle.kasa_graph.specs.declared.pattern.StateTest.TheVariants as state
use Rattle.kasa_graph.specs.declared.pattern.LinkTest.{LinkTest}
use Rattle.kasa_graph.specs.declared.pattern.LinkTest.TheVariants.{Any, Free, Bound, Partner, To}
use Rattle.kasa_graph.specs.Pattern.{agent_at, site_at, state_test, link_test, IsNoBond, IsPatternOver}
use Rattle.kasa_graph.proofs.ShapeLemmas.{agent_at-node, node_of_agent}
use Rattle.kasa_graph.proofs.SiteLemmas.{HasSite-over}
use Rattle.kasa_pre.proofs.AskedSteps.{site_of_bond}
use Rattle.kasa_influence.specs.Alone.{unnamed, unnamed_site, alone}
use Rattle.kasa_influence.specs.inner.Ask.{IsOne}
use Rattle.kasa_influence.proofs.AloneLemmas.{state_test-alone, link_test-alone, agent_at-alone, IsShaped-alone}

unnamed_no_bond : (g : List Node) (b : LinkTest) → IsNoBond (unnamed g b)
unnamed_no_bond g Any = tt
unnamed_no_bond g Free = tt
unnamed_no_bond g Bound = tt
unnamed_no_bond g (Partner a x) = tt
unnamed_no_bond g (To n t) = by_type (agent_at g n)
  where
    by_type : (o : Option ℕ) → IsNoBond (option_map_or (λ b. Partner b t) o Bound)
    by_type None = tt
    by_type (Some a) = tt

not_to : (b : LinkTest) → IsNoBond b → (m t : ℕ) → b ≢ To m t
not_to b none m t e = rw e at none

module _ (sig : List TypeEntry) (g : List Node) (over : IsPatternOver sig g) (i : ℕ) (node : Node) (is : slice_get g i ≡ Some node) where
  no_bond : (n s : ℕ) → IsNoBond (link_test (alone g node) n s)
  unfolding link_test site_at
  no_bond zero s = rw (link_test-alone g i node is s) (unnamed_no_bond g (link_test g i s))
  no_bond (suc n) s = tt

  type_known : (n : ℕ) (other : Node) → slice_get (alone g node) n ≡ Some other → other.agent < length sig
  type_known zero other e =
      let same : record { agent = node.agent; sites = map (unnamed_site g) node.sites } ≡ other = cc in
      rw (← same) (over.types i node is)
  type_known (suc n) other e = absurd cc

  state_known : (n s u a : ℕ) → agent_at (alone g node) n ≡ Some a → state_test (alone g node) n s ≡ state.Is u → HasState sig a s u
  unfolding state_test site_at
  state_known zero s u a typed e = over.states i s u a (agent_at-node g i node is ∙ sym (agent_at-alone g i node is) ∙ typed) (sym (state_test-alone g i node is s) ∙ e)
  state_known (suc n) s u a typed e = absurd cc

  -- the partner that a bond to a node asks for is one of the signature
  to_known : (s m t : ℕ) → link_test g i s ≡ To m t → (o : Option ℕ) → agent_at g m ≡ o → (b y : ℕ) → option_map_or (λ a. Partner a t) o Bound ≡ Partner b y → HasSite sig b y
  to_known s m t bond None typed b y e = absurd cc
  to_known s m t bond (Some a) typed b y e =
      let same : a ≡ b = cc in
      let far : t ≡ y = cc in
      rw (← same, ← far) (HasSite-over sig g over m a t typed (site_of_bond g m t i s (over.linked.both_ways i s m t bond)))

  partner_known : (n s b y : ℕ) → link_test (alone g node) n s ≡ Partner b y → HasSite sig b y
  unfolding link_test site_at
  partner_known zero s b y e = by_test (link_test g i s) refl (sym (link_test-alone g i node is s) ∙ e)
    where
      by_test : (x : LinkTest) → link_test g i s ≡ x → unnamed g x ≡ Partner b y → HasSite sig b y
      by_test Any at f = absurd cc
      by_test Free at f = absurd cc
      by_test Bound at f = absurd cc
      by_test (Partner a x) at f = over.partners i s b y (at ∙ f)
      by_test (To m t) at f = to_known s m t at (agent_at g m) refl b y f
  partner_known (suc n) s b y e = absurd cc

  pub IsOne-alone : IsOne sig (alone g node)
  IsOne-alone = record {
    valid = record {
      linked = record {
        both_ways = λ n s m t e. absurd (not_to _ (no_bond n s) m t e);
        apart = λ n s e. not_to _ (no_bond n s) n s e;
      };
      types = type_known;
      sites = IsShaped-alone g i node is sig over.sites;
      states = state_known;
      partners = partner_known;
    };
    one = refl;
    unnamed = λ s. no_bond zero s;
  }

pub agent_at-past : (g : List Node) (n : ℕ) → length g ≤ n → agent_at g n ≡ None
unfolding agent_at
agent_at-past g n past = rw (slice_get_past g n past) refl

pub type_known-over : (sig : List TypeEntry) (g : List Node) → IsPatternOver sig g → (n a : ℕ) → agent_at g n ≡ Some a → a < length sig
type_known-over sig g over n a typed = let node = node_of_agent g n a typed in rw (← node.2) (over.types n node.0 node.1)

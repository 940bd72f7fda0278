-- How a left pattern comes to ask for what its agents say.
use Rattle.std.proofs.Common.{◌≡◌, ◌≢◌, ℕ, ◌<◌, inl, inr, List, length, map, refl, sym, ap, ◌∙◌}
use Rattle.std.specs.Prelude.{Option, Some, None, slice_get}
use Rattle.std.proofs.lemmas.List.{length-map}
use Rattle.std.proofs.lemmas.Option.{slice_get-map, slice_get_within}
use Rattle.kasa_graph.specs.declared.pattern.StateTest.{StateTest}
use Rattle.kasa_graph.specs.declared.pattern.StateTest.TheVariants as state
use Rattle.kasa_graph.specs.declared.pattern.LinkTest.{LinkTest}
use Rattle.kasa_graph.specs.declared.pattern.LinkTest.TheVariants as link
use Rattle.kasa_graph.specs.declared.pattern.LinkTest.TheVariants.{To}
use Rattle.kasa_graph.specs.declared.pattern.SiteTests.{SiteTests}
use Rattle.kasa_graph.specs.declared.pattern.Node.{Node}
use Rattle.kasa_graph.specs.Signature.{TypeEntry, state_counts, HasSite}
use Rattle.kasa_graph.specs.Pattern.{agent_at, site_at, state_test, link_test, blank_node, with_state, with_link, with_bond, HasNodeSite, IsNoBond, IsPattern, IsPatternOver}
use Rattle.kasa_graph.proofs.ListLemmas.{some_at, some_map}
use Rattle.kasa_graph.proofs.PatternLemmas.{same_site_or_not, link_test-with_state, link_test-with_link, link_test-with_link_same, link_test-with_bond, IsPattern-with_link, IsPattern-with_bond, IsPattern-same_links}
use Rattle.kasa_graph.proofs.TestLemmas.{agent_at-types, types_of-with_state, types_of-with_link, types_of-with_bond, types_of-blank, state_test-with_link, state_test-with_state_same, state_test-with_state_other, state_test-with_bond, link_test-with_bond_first, link_test-with_bond_second, state_test-blank, link_test-blank}
use Rattle.kasa_graph.proofs.ShapeLemmas.{agent_at-node, node_of_agent, IsShaped-with_state, IsShaped-with_link, IsShaped-with_bond, IsShaped-blank}
use Rattle.kasa_compile.specs.declared.said.LinkSaid.{LinkSaid}
use Rattle.kasa_compile.specs.declared.said.LinkSaid.TheVariants as said
use Rattle.kasa_compile.specs.declared.said.SiteSaid.{SiteSaid}
use Rattle.kasa_compile.specs.declared.said.AgentSaid.{AgentSaid}
use Rattle.kasa_compile.specs.Bonds.{said_at, joined_to}
use Rattle.kasa_compile.specs.Rule.{given_state, left_state_test, left_link_test, link_asked}
use Rattle.kasa_compile.specs.Valid.{AreSaid, AreJoined}
use Rattle.kasa_compile.specs.Building.{Says, state_asked_at, link_asked_at, with_state_asked, with_link_asked, bond_if, IsAsking, IsAsked, IsFurther, MayAsk}
use Rattle.kasa_compile.specs.Cells.{AreNamedOnce}
use Rattle.kasa_compile.proofs.SaidAtLemmas.{said_at-of, said_at-found}
use Rattle.kasa_compile.proofs.RuleBonds.{IsLabelled, IsJoined, is_joined}

-- ---- what is asked at the site that an agent names

module _ (agents : List AgentSaid) (once : AreNamedOnce agents) (n i : ℕ) (s : SiteSaid) (says : Says agents n i s) where
  said_there : said_at says.agent.sites s.site ≡ Some s
  said_there = said_at-of says.agent.sites i s (once n says.agent says.is_agent) says.is_site

  pub state_asked_at-says : state_asked_at agents n s.site ≡ given_state s.state
  unfolding state_asked_at
  state_asked_at-says = rw (says.is_agent, said_there) refl

  pub link_asked_at-says : link_asked_at agents n s.site ≡ link_asked agents (n, s.site) s.link
  unfolding link_asked_at
  link_asked_at-says = rw (says.is_agent, said_there) refl

pub once_said : (sig : List TypeEntry) (agents : List AgentSaid) → AreSaid sig agents → AreNamedOnce agents
once_said sig agents ok k a is = (ok k a is).differ

-- ---- bonds that are asked for are mutual

pub record IsMutual (agents : List AgentSaid) (n s m t : ℕ) : Type 0 where
  pub back : link_asked_at agents m t ≡ To n s
  pub differ : n ≡ m → s ≢ t
  pub index : ℕ
  pub site : SiteSaid
  pub says : Says agents m index site
  pub named : site.site ≡ t

module _ (sig : List TypeEntry) (agents : List AgentSaid) (ok : AreSaid sig agents) (joined : AreJoined agents) where
  mutual_of : (n i : ℕ) (s : SiteSaid) (m t : ℕ) → Says agents n i s → (o : Option LinkSaid) → s.link ≡ o → link_asked agents (n, s.site) o ≡ To m t → IsMutual agents n s.site m t
  mutual_of n i s m t says None is e = absurd cc
  mutual_of n i s m t says (Some said.Any) is e = absurd cc
  mutual_of n i s m t says (Some said.Free) is e = absurd cc
  mutual_of n i s m t says (Some said.Bound) is e = absurd cc
  mutual_of n i s m t says (Some (said.Partner b y)) is e = absurd cc
  mutual_of n i s m t says (Some (said.Label number)) is e =
      let here : IsLabelled agents number n s.site = record { agent = says.agent; index = i; site = s; is_agent = says.is_agent; is_site = says.is_site; named = refl; label = is } in
      let bond = is_joined agents number n s.site (once_said sig agents ok) (joined n i number says.agent s says.is_agent says.is_site is) here in
      let node : (joined_to agents number (n, s.site)).0 ≡ m = cc in
      let site : (joined_to agents number (n, s.site)).1 ≡ t = cc in
      by_place (joined_to agents number (n, s.site)) node site bond
    where
      by_place : (q : ℕ × ℕ) → q.0 ≡ m → q.1 ≡ t → IsJoined agents number (n, s.site) q → IsMutual agents n s.site m t
      by_place (k, u) node site bond =
          let there = bond.labelled in
          let other : Says agents k there.index there.site = record { agent = there.agent; is_agent = there.is_agent; is_site = there.is_site } in
          let asked : link_asked_at agents k there.site.site ≡ link_asked agents (k, there.site.site) there.site.link = link_asked_at-says agents (once_said sig agents ok) k there.index there.site other in
          rw (← node, ← site) (record {
            back = rw (← there.named) (asked ∙ rw (there.label, there.named, bond.back) refl);
            differ = λ e f. bond.apart (rw (e, f) refl);
            index = there.index;
            site = there.site;
            says = other;
            named = there.named;
          })

  pub asked_mutual : (n i : ℕ) (s : SiteSaid) (m t : ℕ) → Says agents n i s → link_asked_at agents n s.site ≡ To m t → IsMutual agents n s.site m t
  asked_mutual n i s m t says e = mutual_of n i s m t says s.link refl (sym (link_asked_at-says agents (once_said sig agents ok) n i s says) ∙ e)

-- ---- steps

pub IsFurther-refl : (agents : List AgentSaid) (g : List Node) → IsPattern g → IsFurther agents g g
IsFurther-refl agents g ok = record { linked = ok; types = refl; shaped = λ sig shape. shape; states = λ n s. inl refl; links = λ n s. inl refl }

pub IsFurther-trans : (agents : List AgentSaid) (g h k : List Node) → IsFurther agents g h → IsFurther agents h k → IsFurther agents g k
IsFurther-trans agents g h k first second = record {
  linked = second.linked;
  types = second.types ∙ first.types;
  shaped = λ sig shape. second.shaped sig (first.shaped sig shape);
  states = λ n s. elim (second.states n s) [
    | inl e ↦ elim (first.states n s) [ inl f ↦ inl (e ∙ f) | inr f ↦ inr (e ∙ f) ]
    | inr e ↦ inr e
  ];
  links = λ n s. elim (second.links n s) [
    | inl e ↦ elim (first.links n s) [ inl f ↦ inl (e ∙ f) | inr f ↦ inr (e ∙ f) ]
    | inr e ↦ inr e
  ];
}

pub IsAsking-further : (sig : List TypeEntry) (agents : List AgentSaid) (g h : List Node) → IsAsking sig agents g → IsFurther agents g h → IsAsking sig agents h
IsAsking-further sig agents g h ok step = record {
  linked = step.linked;
  types = step.types ∙ ok.types;
  shaped = step.shaped sig ok.shaped;
  states = λ n s. elim (step.states n s) [
    | inl e ↦ elim (ok.states n s) [ inl f ↦ inl (e ∙ f) | inr f ↦ inr (e ∙ f) ]
    | inr e ↦ inr e
  ];
  links = λ n s. elim (step.links n s) [
    | inl e ↦ elim (ok.links n s) [ inl f ↦ inl (e ∙ f) | inr f ↦ inr (e ∙ f) ]
    | inr e ↦ inr e
  ];
}

pub IsAsked-further : (agents : List AgentSaid) (g h : List Node) (n s : ℕ) → IsFurther agents g h → IsAsked agents g n s → IsAsked agents h n s
IsAsked-further agents g h n s step is = record {
  state = elim (step.states n s) [ inl e ↦ e ∙ is.state | inr e ↦ e ];
  link = elim (step.links n s) [ inl e ↦ e ∙ is.link | inr e ↦ e ];
}

-- ---- sites are there

HasNodeSite-says : (sig : List TypeEntry) (agents : List AgentSaid) (g : List Node) (n i : ℕ) (s : SiteSaid) → AreSaid sig agents → IsAsking sig agents g → Says agents n i s → HasNodeSite g n s.site
unfolding site_at
HasNodeSite-says sig agents g n i s ok asking says =
    let typed : agent_at g n ≡ Some says.agent.agent = agent_at-types g n ∙ rw asking.types (slice_get-map (λ (a : AgentSaid). a.agent) agents n ∙ rw says.is_agent refl) in
    let node = node_of_agent g n says.agent.agent typed in
    let count : length node.0.sites ≡ length (state_counts sig node.0.agent) = sym (length-map node.0.sites (λ (x : SiteTests). x.states)) ∙ ap length (asking.shaped n node.0 node.1) in
    let has : s.site < length (state_counts sig says.agent.agent) = ((ok n says.agent says.is_agent).sites i s says.is_site).known in
    let within : s.site < length node.0.sites = rw (count, node.2) has in
    let site = some_at node.0.sites s.site within in
    rw (node.1, site.1) refl

-- ---- a state test

pub IsFurther-state : (agents : List AgentSaid) (g : List Node) (n s : ℕ) (t : StateTest) → IsPattern g → HasNodeSite g n s → state_asked_at agents n s ≡ t → IsFurther agents g (with_state g n s t)
IsFurther-state agents g n s t ok has is = record {
  linked = IsPattern-same_links g (with_state g n s t) (link_test-with_state g n s t) ok;
  types = types_of-with_state g n s t;
  shaped = λ sig shape. IsShaped-with_state sig g n s t shape;
  states = λ k u. elim (same_site_or_not n s k u) [
    | inl e ↦ inr (rw (← e.0, ← e.1) (state_test-with_state_same g n s t has ∙ sym is))
    | inr ne ↦ inl (state_test-with_state_other g n s k u t ne)
  ];
  links = λ k u. inl (link_test-with_state g n s t k u);
}

-- ---- a link test

IsFurther-link : (agents : List AgentSaid) (g : List Node) (n s : ℕ) (t : LinkTest) → IsPattern g → HasNodeSite g n s → IsNoBond (link_test g n s) → IsNoBond t → link_asked_at agents n s ≡ t → IsFurther agents g (with_link g n s t)
IsFurther-link agents g n s t ok has old new is = record {
  linked = IsPattern-with_link g n s t ok has old new;
  types = types_of-with_link g n s t;
  shaped = λ sig shape. IsShaped-with_link sig g n s t shape;
  states = λ k u. inl (state_test-with_link g n s t k u);
  links = λ k u. elim (link_test-with_link g n s k u t has) [
    | inl e ↦ inr (e.2 ∙ rw (← e.0, ← e.1) (sym is))
    | inr ne ↦ inl ne.1
  ];
}

IsFurther-bond : (agents : List AgentSaid) (g : List Node) (n s m t : ℕ) → IsPattern g → HasNodeSite g n s → HasNodeSite g m t → (n ≡ m → s ≢ t) → IsNoBond (link_test g n s) → IsNoBond (link_test g m t) → link_asked_at agents n s ≡ To m t → link_asked_at agents m t ≡ To n s → IsFurther agents g (with_bond g n s m t)
IsFurther-bond agents g n s m t ok has has' differ old old' is back = record {
  linked = IsPattern-with_bond g n s m t has has' differ ok old old';
  types = types_of-with_bond g n s m t;
  shaped = λ sig shape. IsShaped-with_bond sig g n s m t shape;
  states = λ k u. inl (state_test-with_bond g n s m t k u);
  links = λ k u. elim (link_test-with_bond g n s m t has has' differ k u) [
    | inl e ↦ inr (rw (← e.0, ← e.1) (link_test-with_bond_first g n s m t has differ ∙ sym is))
    | inr rest ↦ elim rest [
      | inl e ↦ inr (rw (← e.0, ← e.1) (link_test-with_bond_second g n s m t has' ∙ sym back))
      | inr same ↦ inl same
    ]
  ];
}

module _ (sig : List TypeEntry) (agents : List AgentSaid) (g : List Node) (ok : AreSaid sig agents) (joined : AreJoined agents) (asking : IsAsking sig agents g) (n i : ℕ) (s : SiteSaid) (says : Says agents n i s) where
  -- the other end of a bond that isn't there yet has none either
  other_open : (m t : ℕ) → link_asked_at agents m t ≡ To n s.site → link_test g n s.site ≡ link.Any → IsNoBond (link_test g m t)
  other_open m t back any = elim (asking.links m t) [
    | inl e ↦ rw e tt
    | inr e ↦ let there = asking.linked.both_ways m t n s.site (e ∙ back) in absurd (let clash : link.Any ≡ To m t = sym any ∙ there in cc)
  ]

  no_bond : (t : LinkTest) → link_asked_at agents n s.site ≡ t → IsNoBond t → IsNoBond (link_test g n s.site)
  no_bond t is new = elim (asking.links n s.site) [ inl e ↦ rw e tt | inr e ↦ rw (e ∙ is) new ]

  pub MayAsk-says : (t : LinkTest) → t ≡ link_asked_at agents n s.site → MayAsk g n s.site t
  MayAsk-says link.Any is = no_bond link.Any (sym is) tt
  MayAsk-says link.Free is = no_bond link.Free (sym is) tt
  MayAsk-says link.Bound is = no_bond link.Bound (sym is) tt
  MayAsk-says (link.Partner b y) is = no_bond (link.Partner b y) (sym is) tt
  MayAsk-says (link.To m t) is =
      let bond = asked_mutual sig agents ok joined n i s m t says (sym is) in
      λ any. (rw (← bond.named) (HasNodeSite-says sig agents g m bond.index bond.site ok asking bond.says), (bond.differ, other_open m t bond.back any))

  here : HasNodeSite g n s.site
  here = HasNodeSite-says sig agents g n i s ok asking says

  plain : (t : LinkTest) → t ≡ link_asked_at agents n s.site → IsNoBond t → IsFurther agents g (with_link g n s.site t) × (link_test (with_link g n s.site t) n s.site ≡ t)
  plain t is new = (IsFurther-link agents g n s.site t asking.linked here (no_bond t (sym is) new) new (sym is), link_test-with_link_same g n s.site t here)

  module _ (m t : ℕ) (is : To m t ≡ link_asked_at agents n s.site) where
    bond : IsMutual agents n s.site m t
    bond = asked_mutual sig agents ok joined n i s m t says (sym is)

    there : HasNodeSite g m t
    there = let b = bond in rw (← b.named) (HasNodeSite-says sig agents g m b.index b.site ok asking b.says)

    stands : (o : LinkTest) → link_test g n s.site ≡ o → o ≢ link.Any → link_test g n s.site ≡ To m t
    stands o e some = elim (asking.links n s.site) [ inl any ↦ absurd (some (sym e ∙ any)) | inr is' ↦ is' ∙ sym is ]

    by_bond : (o : LinkTest) → link_test g n s.site ≡ o → IsFurther agents g (bond_if o g n s.site m t) × (link_test (bond_if o g n s.site m t) n s.site ≡ To m t)
    by_bond link.Any e =
        let b = bond in (
          IsFurther-bond agents g n s.site m t asking.linked here there b.differ (rw e tt) (other_open m t b.back e) (sym is) b.back,
          link_test-with_bond_first g n s.site m t here b.differ,
        )
    by_bond link.Free e = (IsFurther-refl agents g asking.linked, stands link.Free e (λ f. cc))
    by_bond link.Bound e = (IsFurther-refl agents g asking.linked, stands link.Bound e (λ f. cc))
    by_bond (link.Partner b y) e = (IsFurther-refl agents g asking.linked, stands (link.Partner b y) e (λ f. cc))
    by_bond (link.To k u) e = (IsFurther-refl agents g asking.linked, stands (link.To k u) e (λ f. cc))

  pub IsFurther-link_asked : (t : LinkTest) → t ≡ link_asked_at agents n s.site → IsFurther agents g (with_link_asked g n s.site t) × (link_test (with_link_asked g n s.site t) n s.site ≡ t)
  unfolding with_link_asked
  IsFurther-link_asked link.Any is = plain link.Any is tt
  IsFurther-link_asked link.Free is = plain link.Free is tt
  IsFurther-link_asked link.Bound is = plain link.Bound is tt
  IsFurther-link_asked (link.Partner b y) is = plain (link.Partner b y) is tt
  IsFurther-link_asked (link.To m t) is = by_bond m t is (link_test g n s.site) refl

-- the tests of one site
module _ (sig : List TypeEntry) (agents : List AgentSaid) (g : List Node) (ok : AreSaid sig agents) (joined : AreJoined agents) (asking : IsAsking sig agents g) (n i : ℕ) (s : SiteSaid) (says : Says agents n i s) where
  pub HasNodeSite-asked : HasNodeSite g n s.site
  HasNodeSite-asked = HasNodeSite-says sig agents g n i s ok asking says

  state_asked : (o : Option StateTest) → state_asked_at agents n s.site ≡ given_state o → IsFurther agents g (with_state_asked g n s.site o) × (state_test (with_state_asked g n s.site o) n s.site ≡ given_state o)
  state_asked None is = (IsFurther-refl agents g asking.linked, elim (asking.states n s.site) [ inl e ↦ e | inr e ↦ e ∙ is ])
  state_asked (Some t) is = (IsFurther-state agents g n s.site t asking.linked HasNodeSite-asked is, state_test-with_state_same g n s.site t HasNodeSite-asked)

  abbrev after_state : List Node
  after_state = with_state_asked g n s.site s.state

  state_is : state_asked_at agents n s.site ≡ given_state s.state
  state_is = state_asked_at-says agents (once_said sig agents ok) n i s says

  pub IsAsking-state_asked : IsAsking sig agents after_state
  IsAsking-state_asked = IsAsking-further sig agents g after_state asking (state_asked s.state state_is).0

  module _ (t : LinkTest) (is : t ≡ link_asked agents (n, s.site) s.link) where
    test_is : t ≡ link_asked_at agents n s.site
    test_is = is ∙ sym (link_asked_at-says agents (once_said sig agents ok) n i s says)

    linked : IsFurther agents after_state (with_link_asked after_state n s.site t) × (link_test (with_link_asked after_state n s.site t) n s.site ≡ t)
    linked = IsFurther-link_asked sig agents after_state ok joined IsAsking-state_asked n i s says t test_is

    pub MayAsk-asked : MayAsk after_state n s.site t
    MayAsk-asked = MayAsk-says sig agents after_state ok joined IsAsking-state_asked n i s says t test_is

    pub IsFurther-site_asked : IsFurther agents g (with_link_asked after_state n s.site t)
    IsFurther-site_asked = IsFurther-trans agents g after_state (with_link_asked after_state n s.site t) (state_asked s.state state_is).0 linked.0

    pub IsAsked-site_asked : IsAsked agents (with_link_asked after_state n s.site t) n s.site
    IsAsked-site_asked = record {
      state = elim (linked.0.states n s.site) [ inl e ↦ e ∙ (state_asked s.state state_is).1 ∙ sym state_is | inr e ↦ e ];
      link = linked.1 ∙ test_is;
    }

-- the agent of the site that a label joins
pub joined_within : (sig : List TypeEntry) (agents : List AgentSaid) (n i number : ℕ) (s : SiteSaid) → AreSaid sig agents → AreJoined agents → Says agents n i s → s.link ≡ Some (said.Label number) → (joined_to agents number (n, s.site)).0 < length agents
joined_within sig agents n i number s ok joined says is =
    let here : IsLabelled agents number n s.site = record { agent = says.agent; index = i; site = s; is_agent = says.is_agent; is_site = says.is_site; named = refl; label = is } in
    let bond = is_joined agents number n s.site (once_said sig agents ok) (joined n i number says.agent s says.is_agent says.is_site is) here in
    slice_get_within agents (joined_to agents number (n, s.site)).0 bond.labelled.agent bond.labelled.is_agent

pub one_site : {agents : List AgentSaid} {n i : ℕ} {s x : SiteSaid} → Says agents n i s → Says agents n i x → s ≡ x
one_site {agents} {n} {i} {s} {x} a b =
    let first = a.is_agent in
    let second = b.is_agent in
    let agent : a.agent ≡ b.agent = cc in
    let here : slice_get b.agent.sites i ≡ Some s = rw (← agent) a.is_site in
    let there = b.is_site in
    cc

-- ---- from no test to all

pub IsAsking-blank : (sig : List TypeEntry) (agents : List AgentSaid) → IsAsking sig agents (map (blank_node sig) (map (λ (a : AgentSaid). a.agent) agents))
IsAsking-blank sig agents =
    let types : List ℕ = map (λ (a : AgentSaid). a.agent) agents in
    record {
      linked = record {
        both_ways = λ n s m t e. absurd (let clash : link.Any ≡ To m t = sym (link_test-blank sig types n s) ∙ e in cc);
        apart = λ n s e. let clash : link.Any ≡ To n s = sym (link_test-blank sig types n s) ∙ e in cc;
      };
      types = types_of-blank sig types;
      shaped = IsShaped-blank sig types;
      states = λ n s. inl (state_test-blank sig types n s);
      links = λ n s. inl (link_test-blank sig types n s);
    }

pub further_asked : (agents : List AgentSaid) (g h : List Node) (n : ℕ) (s : SiteSaid) → IsFurther agents g h → IsAsked agents g n s.site → IsAsked agents h n s.site
further_asked agents g h n s step is = IsAsked-further agents g h n s.site step is

module _ (sig : List TypeEntry) (agents : List AgentSaid) (g : List Node) (ok : AreSaid sig agents) (asking : IsAsking sig agents g) (asked : (n i : ℕ) (s : SiteSaid) → Says agents n i s → IsAsked agents g n s.site) where
  by_said : (n s : ℕ) (a : AgentSaid) → slice_get agents n ≡ Some a → (o : Option SiteSaid) → said_at a.sites s ≡ o → (state_test g n s ≡ left_state_test o) × (link_test g n s ≡ left_link_test agents n o)
  unfolding state_asked_at link_asked_at
  by_said n s a is None e = (
    elim (asking.states n s) [ inl any ↦ any | inr there ↦ there ∙ rw (is, e) refl ],
    elim (asking.links n s) [ inl any ↦ any | inr there ↦ there ∙ rw (is, e) refl ],
  )
  by_said n s a is (Some x) e =
      let found = said_at-found a.sites s x e in
      let says : Says agents n found.0 x = record { agent = a; is_agent = is; is_site = found.1 } in
      let there = asked n found.0 x says in
      let state : state_test g n s ≡ state_asked_at agents n s = rw (found.2) at there.state in
      let link : link_test g n s ≡ link_asked_at agents n s = rw (found.2) at there.link in
      (state ∙ rw (is, e) refl, link ∙ rw (is, e) refl)

  pub states_said : (n s : ℕ) (a : AgentSaid) → slice_get agents n ≡ Some a → state_test g n s ≡ left_state_test (said_at a.sites s)
  states_said n s a is = (by_said n s a is (said_at a.sites s) refl).0

  pub links_said : (n s : ℕ) (a : AgentSaid) → slice_get agents n ≡ Some a → link_test g n s ≡ left_link_test agents n (said_at a.sites s)
  links_said n s a is = (by_said n s a is (said_at a.sites s) refl).1

  agent_of : (n a : ℕ) → agent_at g n ≡ Some a → (x : AgentSaid) × (slice_get agents n ≡ Some x) × (x.agent ≡ a)
  agent_of n a e = some_map (λ (x : AgentSaid). x.agent) (slice_get agents n) a (sym (slice_get-map (λ (x : AgentSaid). x.agent) agents n) ∙ rw (← asking.types) (sym (agent_at-types g n) ∙ e))

  -- what is asked comes from a site that is named
  state_of : (o : Option SiteSaid) (u : ℕ) → left_state_test o ≡ state.Is u → (x : SiteSaid) × (o ≡ Some x) × (x.state ≡ Some (state.Is u))
  state_of None u e = absurd cc
  state_of (Some x) u e = (x, refl, by_state x.state refl)
    where
      by_state : (o : Option StateTest) → x.state ≡ o → x.state ≡ Some (state.Is u)
      by_state None is = absurd (let clash : state.Any ≡ state.Is u = ap given_state (sym is) ∙ e in cc)
      by_state (Some t) is = let same : t ≡ state.Is u = ap given_state (sym is) ∙ e in is ∙ ap Some same

  partner_of : (n : ℕ) (o : Option SiteSaid) (b y : ℕ) → left_link_test agents n o ≡ link.Partner b y → (x : SiteSaid) × (o ≡ Some x) × (x.link ≡ Some (said.Partner b y))
  partner_of n None b y e = absurd cc
  partner_of n (Some x) b y e = (x, refl, by_link x.link refl)
    where
      by_link : (o : Option LinkSaid) → x.link ≡ o → x.link ≡ Some (said.Partner b y)
      by_link None is = absurd (let clash : link.Any ≡ link.Partner b y = ap (link_asked agents (n, x.site)) (sym is) ∙ e in cc)
      by_link (Some said.Any) is = absurd (let clash : link.Any ≡ link.Partner b y = ap (link_asked agents (n, x.site)) (sym is) ∙ e in cc)
      by_link (Some said.Free) is = absurd (let clash : link.Free ≡ link.Partner b y = ap (link_asked agents (n, x.site)) (sym is) ∙ e in cc)
      by_link (Some said.Bound) is = absurd (let clash : link.Bound ≡ link.Partner b y = ap (link_asked agents (n, x.site)) (sym is) ∙ e in cc)
      by_link (Some (said.Partner c z)) is = let same : link.Partner c z ≡ link.Partner b y = ap (link_asked agents (n, x.site)) (sym is) ∙ e in let first : c ≡ b = cc in let second : z ≡ y = cc in is ∙ rw (first, second) refl
      by_link (Some (said.Label number)) is = absurd (let clash : link_asked agents (n, x.site) (Some (said.Label number)) ≡ link.Partner b y = ap (link_asked agents (n, x.site)) (sym is) ∙ e in cc)

  no_agent : (n s : ℕ) → slice_get agents n ≡ None → link_asked_at agents n s ≡ link.Any
  unfolding link_asked_at
  no_agent n s none = rw none refl

  pub IsPatternOver-said : IsPatternOver sig g
  IsPatternOver-said = record {
    linked = asking.linked;
    types = λ n node is.
        let a = agent_of n node.agent (agent_at-node g n node is) in
        rw (← a.2) ((ok n a.0 a.1).known);
    sites = asking.shaped;
    states = λ n s u a typed is.
        let x = agent_of n a typed in
        let site = state_of (said_at x.0.sites s) u (sym (states_said n s x.0 x.1) ∙ is) in
        let found = said_at-found x.0.sites s site.0 site.1 in
        let known = ((ok n x.0 x.1).sites found.0 site.0 found.1).state u site.2 in
        rw (← x.2, ← found.2) known;
    partners = λ n s b y is. by_agent n s b y is (slice_get agents n) refl;
  }
    where
      by_agent : (n s b y : ℕ) → link_test g n s ≡ link.Partner b y → (o : Option AgentSaid) → slice_get agents n ≡ o → HasSite sig b y
      by_agent n s b y is None none = absurd (elim (asking.links n s) [
        | inl any ↦ let clash : link.Any ≡ link.Partner b y = sym any ∙ is in cc
        | inr there ↦ let nothing : link_asked_at agents n s ≡ link.Any = no_agent n s none in let clash : link.Any ≡ link.Partner b y = sym nothing ∙ sym there ∙ is in cc
      ])
      by_agent n s b y is (Some a) some =
          let site = partner_of n (said_at a.sites s) b y (sym (links_said n s a some) ∙ is) in
          let found = said_at-found a.sites s site.0 site.1 in
          ((ok n a some).sites found.0 site.0 found.1).link b y site.2

-- A rule stops a node where it does so at a left node, or where the node is none of them.
use Rattle.std.proofs.Common.{◌≡◌, ℕ, ◌≤◌, ◌⊎◌, inl, inr, Bool, true, List, [], ◌∷◌, ◌++◌, refl, sym, ◌∙◌, length, append-nil, eqb, arith}
use Rattle.std.specs.Prelude.{Some, slice_get}
use Rattle.kasa_graph.specs.declared.pattern.Node.{Node}
use Rattle.kasa_graph.specs.Signature.{TypeEntry}
use Rattle.kasa_graph.specs.Pattern.{agent_at, state_test, link_test, types_of, blank_node, HasNodeSite, IsPatternOver, Implies}
use Rattle.kasa_graph.proofs.TestLemmas.{agent_at-types, agent_at-same, length-types}
use Rattle.kasa_graph.proofs.ShapeLemmas.{agent_at-node, node_of_agent}
use Rattle.kasa_graph.proofs.SiteLemmas.{HasNodeSite-over, HasSite-over, type_of_node_site}
use Rattle.kasa_graph.proofs.OverLemmas.{IsPatternOver-add_node}
use Rattle.kasa_lists.proofs.Elements.{slice_get-append_left}
use Rattle.std.proofs.lemmas.Option.{slice_get_within}
use Rattle.std.proofs.lemmas.Bool.Decides.{Decides-eqb}
use Rattle.kasa_graph.proofs.PatternLemmas.{link_test-push_blank}
use Rattle.kasa_pre.proofs.OutsideLoops.{state_test-push_blank, types_of-push_blank}
use Rattle.kasa_influence.specs.Loss.{IsBroken, LosesPartner, Stops}
use Rattle.kasa_influence.specs.inner.Ask.{Asked, IsAsked, IsOne}
use Rattle.kasa_influence.specs.inner.Stops.{Aimed, IsTarget, Takes, StopsLeft, StopsOutside, MayStop, and_one}
use Rattle.kasa_influence.proofs.OneLemmas.{the_type, type_known}
use Rattle.kasa_influence.proofs.BrokenLemmas.{IsOne-target}
use Rattle.kasa_influence.proofs.TouchLemmas.{fate_at-past, written_state-past, written_link-past, IsOpen-partner}

type_behind : (g : List Node) (types : List ℕ) (v : List Node) → length v ≡ 1 → types_of g ≡ types ++ types_of v → agent_at g (length types) ≡ agent_at v 0
type_behind g types [] one e = absurd cc
type_behind g types (node ∷ v) one e = agent_at-types g (length types) ∙ rw e (behind types) ∙ sym (agent_at-node (node ∷ v) 0 node refl)
  where
    behind : (types : List ℕ) → slice_get (types ++ types_of (node ∷ v)) (length types) ≡ Some node.agent
    behind [] = refl
    behind (a ∷ types) = behind types

module _ (sig : List TypeEntry) (g : List Node) where
  -- one more node, of v's type
  pub types_of-and_one : (v : List Node) → length v ≡ 1 → types_of (and_one sig g v) ≡ types_of g ++ types_of v
  types_of-and_one [] one = absurd cc
  types_of-and_one (node ∷ []) one = types_of-push_blank sig node.agent g
  types_of-and_one (node ∷ other ∷ v) one = absurd cc

  pub state_test-and_one : (v : List Node) (n s : ℕ) → state_test (and_one sig g v) n s ≡ state_test g n s
  state_test-and_one [] n s = refl
  state_test-and_one (node ∷ v) n s = state_test-push_blank sig node.agent g n s

  pub link_test-and_one : (v : List Node) (n s : ℕ) → link_test (and_one sig g v) n s ≡ link_test g n s
  link_test-and_one [] n s = refl
  link_test-and_one (node ∷ v) n s = link_test-push_blank sig node.agent g n s

  pub and_one-is : (v : List Node) (a : ℕ) → length v ≡ 1 → agent_at v 0 ≡ Some a → g ++ blank_node sig a ∷ [] ≡ and_one sig g v
  unfolding agent_at
  and_one-is [] a one typed = absurd cc
  and_one-is (node ∷ v) a one typed = let same : node.agent ≡ a = cc in rw (← same) refl

  module _ (v : List Node) (one : IsOne sig v) (over : IsPatternOver sig g) where
    pub over-and_one : IsPatternOver sig (and_one sig g v)
    over-and_one =
        let a = the_type sig v one in
        rw (← and_one-is v a.0 one.one a.1) (IsPatternOver-add_node sig a.0 g over (type_known sig v one a.0 a.1))

    pub type-and_one : agent_at (and_one sig g v) (length g) ≡ agent_at v 0
    type-and_one = rw (length-types g) (type_behind (and_one sig g v) (types_of g) v one.one (types_of-and_one v one.one))

    pub site-and_one : (n s : ℕ) → HasNodeSite g n s → HasNodeSite (and_one sig g v) n s
    site-and_one n s has =
        let a = type_of_node_site g n s has in
        HasNodeSite-over sig (and_one sig g v) over-and_one n a.0 s (first n a.0 a.1) (HasSite-over sig g over n a.0 s a.1 has)
      where
        first : (n a : ℕ) → agent_at g n ≡ Some a → agent_at (and_one sig g v) n ≡ Some a
        first n a typed =
            let node = node_of_agent g n a typed in
            let within = slice_get_within g n node.0 node.1 in
            agent_at-types (and_one sig g v) n ∙ rw (types_of-and_one v one.one) (slice_get-append_left (types_of g) (types_of v) n (let count = length-types g in omega arith)) ∙ sym (agent_at-types g n) ∙ typed

pub none_listed : {X : Type 0} (xs : List X) (b : Bool) → b ≡ eqb (length xs) 0 → b ≡ true → xs ≡ []
none_listed [] b e f = refl
none_listed (x ∷ xs) b e f = let long : length (x ∷ xs) ≡ 0 = (Decides-eqb (length (x ∷ xs)) 0).0 (sym e ∙ f) in absurd (omega arith)

module _ (a : Asked) (ok : IsAsked a) (t : Aimed) (target : IsTarget a.sig t) where
  one : IsOne a.sig t.alone
  one = IsOne-target a.sig t target

  -- ---- found

  pub stops-left : (n : ℕ) → StopsLeft a t n → MayStop a t
  stops-left n (typed, inl (broken, (k, over, implies, stands, allowed))) = (
    k,
    n,
    record {
      valid = over;
      allowed = allowed;
      nodes = inl implies.types;
      left_states = implies.states;
      left_links = implies.links;
      of_type = agent_at-same a.rule.left k implies.types n ∙ typed;
      states = λ s. (stands s).0;
      links = λ s. (stands s).1;
      lost = inl broken;
    },
  )
  stops-left n (typed, inr (s, (asks, untouched, (x, (opened, (k, over, implies, both, allowed)))))) = (
    k,
    n,
    record {
      valid = over;
      allowed = allowed;
      nodes = inl implies.types;
      left_states = implies.states;
      left_links = implies.links;
      of_type = agent_at-same a.rule.left k implies.types n ∙ typed;
      states = λ s. (both.0 s).0;
      links = λ s. (both.0 s).1;
      lost = inr (s, x.node, x.site, asks, both.1, opened.1, untouched);
    },
  )

  pub stops-outside : StopsOutside a t.alone → MayStop a t
  stops-outside (s, (asks, untouched, (x, (opened, (k, over, implies, both, allowed))))) =
      let types : types_of k ≡ types_of a.rule.left ++ types_of t.alone = implies.types ∙ types_of-and_one a.sig a.rule.left t.alone one.one in (
        k,
        length a.rule.left,
        record {
          valid = over;
          allowed = allowed;
          nodes = inr (refl, types);
          left_states = λ n s. rw (state_test-and_one a.sig a.rule.left t.alone n s) at (implies.states n s);
          left_links = λ n s. rw (link_test-and_one a.sig a.rule.left t.alone n s) at (implies.links n s);
          of_type = rw (length-types a.rule.left) (type_behind k (types_of a.rule.left) t.alone one.one types);
          states = λ s. (both.0 s).0;
          links = λ s. (both.0 s).1;
          lost = inr (s, x.node, x.site, asks, both.1, opened.1, untouched);
        },
      )

  -- ---- nothing else is

  not_broken_past : (n : ℕ) → length a.rule.left ≤ n → ¬ IsBroken a.rule t.left t.node t.alone n
  not_broken_past n past broken =
      let past' : length a.rule.actions ≤ n = rw (ok.over.is_rule.actions) past in
      elim broken [
        | inl deleted ↦ let none = fate_at-past a.rule n past' in absurd cc
        | inr (inl (s, u, w, tested, written, other)) ↦ let none = written_state-past a.rule n past' s in absurd cc
        | inr (inr (s, w, asks, written, miss)) ↦ let none = written_link-past a.rule n past' s in absurd cc
      ]

  -- the partner that it loses, from a pattern that implies g
  takes : (g k : List Node) (p : ℕ) (more : List ℕ) → types_of k ≡ types_of a.rule.left ++ more → Implies k g → Stops a.rule t.left t.node t.alone a.sig a.tables k p → LosesPartner a.rule t.left t.node t.alone k p → Takes a t.alone g p
  takes g k p more types implies stops (s, m, u, asks, bond, touches, untouched) =
      let opened = IsOpen-partner a.sig a.rule ok.over k stops.valid more types p s m u (stops.left_links m u) bond touches untouched in
      (s, (asks, untouched, (record { node = m; site = u }, (opened, (k, stops.valid, implies, ((λ z. (stops.states z, stops.links z)), bond), stops.allowed)))))

  pub stopped : MayStop a t → ((n : ℕ) × StopsLeft a t n) ⊎ StopsOutside a t.alone
  stopped (k, p, stops) = by_nodes stops.nodes
    where
      by_nodes : (types_of k ≡ types_of a.rule.left) ⊎ ((p ≡ length a.rule.left) × (types_of k ≡ types_of a.rule.left ++ types_of t.alone)) → ((n : ℕ) × StopsLeft a t n) ⊎ StopsOutside a t.alone
      by_nodes (inl same) =
          let implies : Implies k a.rule.left = record { types = same; states = stops.left_states; links = stops.left_links } in
          let typed : agent_at a.rule.left p ≡ agent_at t.alone 0 = sym (agent_at-same a.rule.left k same p) ∙ stops.of_type in
          inl (
            p,
            (
              typed,
              elim stops.lost [
                | inl broken ↦ inl (broken, (k, stops.valid, implies, (λ z. (stops.states z, stops.links z)), stops.allowed))
                | inr loses ↦ inr (takes a.rule.left k p [] (same ∙ sym (append-nil (types_of a.rule.left))) implies stops loses)
              ],
            ),
          )
      by_nodes (inr (end, types)) =
          let implies : Implies k (and_one a.sig a.rule.left t.alone) = record {
            types = types ∙ sym (types_of-and_one a.sig a.rule.left t.alone one.one);
            states = λ n s. rw (state_test-and_one a.sig a.rule.left t.alone n s) (stops.left_states n s);
            links = λ n s. rw (link_test-and_one a.sig a.rule.left t.alone n s) (stops.left_links n s);
          } in
          inr (rw (← end) (elim stops.lost [
            | inl broken ↦ absurd (not_broken_past p (omega arith) broken)
            | inr loses ↦ takes (and_one a.sig a.rule.left t.alone) k p (types_of t.alone) types implies stops loses
          ]))

  pub takes_none : a.open_sites ≡ [] → ¬ StopsOutside a t.alone
  takes_none none (s, (asks, untouched, (x, (opened, some)))) =
      let has = (ok.listed x).1 opened in
      let e : slice_get [] has.0 ≡ Some x = rw none at has.1 in
      cc

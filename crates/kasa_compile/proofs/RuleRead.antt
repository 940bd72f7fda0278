-- A rule that is read as its sides say is theirs.
use Rattle.std.proofs.Common.{◌≡◌, ℕ, ◌<◌, List, length, map, refl, sym, ap, ◌∙◌, arith}
use Rattle.std.specs.Prelude.{Option, Some, None, slice_get, option_and_then}
use Rattle.std.proofs.lemmas.List.{length-map}
use Rattle.std.proofs.lemmas.Option.{slice_get_within, slice_get-map}
use Rattle.kasa_graph.specs.declared.pattern.SiteTests.{SiteTests}
use Rattle.kasa_graph.specs.declared.pattern.Node.{Node}
use Rattle.kasa_graph.specs.Signature.{TypeEntry, state_counts}
use Rattle.kasa_graph.specs.Lists.{map_from}
use Rattle.kasa_graph.specs.Pattern.{agent_at, site_at, types_of, state_test, link_test}
use Rattle.kasa_graph.proofs.ListLemmas.{some_at}
use Rattle.kasa_rules.specs.declared.rule.End.TheVariants.{Left, Made}
use Rattle.kasa_rules.specs.declared.rule.SiteAction.{SiteAction}
use Rattle.kasa_rules.specs.declared.rule.NodeAction.{NodeAction}
use Rattle.kasa_rules.specs.declared.rule.MadeSite.{MadeSite}
use Rattle.kasa_rules.specs.declared.rule.MadeAgent.{MadeAgent}
use Rattle.kasa_rules.specs.Rule.{RuleParts, fate_at, action_at, written_state, written_link, made_site, made_type, made_state, made_link, IsRuleOver}
use Rattle.kasa_rules.specs.Draft.{no_action}
use Rattle.kasa_compile.specs.declared.said.AgentSaid.{AgentSaid}
use Rattle.kasa_compile.specs.Bonds.{said_at}
use Rattle.kasa_compile.specs.Complex.{state_given}
use Rattle.kasa_compile.specs.Sides.{SidesParts}
use Rattle.kasa_compile.specs.Rule.{left_state_test, left_link_test, state_written_by, link_written_by, link_made_by, site_asked, node_of, nodes_of, said_on_right, type_on_right, site_written, fate_of, action_of, number_after, site_made, made_of, rule_of}
use Rattle.kasa_compile.specs.Valid.{AreNumbered}
use Rattle.kasa_compile.proofs.PlaceLemmas.{by_places, by_elements, number_at}

-- what is read of each node, each write and each created agent
pub record IsRuleOf (sig : List TypeEntry) (name : List ℕ) (x : SidesParts) (r : RuleParts) : Type 0 where
  pub named : r.name ≡ name
  pub over : IsRuleOver sig r
  pub types : types_of r.left ≡ map (λ a. a.agent) x.left
  pub states : (n s : ℕ) (a : AgentSaid) → slice_get x.left n ≡ Some a → state_test r.left n s ≡ left_state_test (said_at a.sites s)
  pub links : (n s : ℕ) (a : AgentSaid) → slice_get x.left n ≡ Some a → link_test r.left n s ≡ left_link_test x.left n (said_at a.sites s)
  pub fates : (n : ℕ) (k : Option ℕ) → slice_get x.after n ≡ Some k → fate_at r n ≡ Some (fate_of k)
  pub written_states : (n s k : ℕ) (b : AgentSaid) → slice_get x.after n ≡ Some (Some k) → slice_get x.right k ≡ Some b → written_state r n s ≡ state_written_by (state_test r.left n s) (said_at b.sites s)
  pub written_links : (n s k : ℕ) (b : AgentSaid) → slice_get x.after n ≡ Some (Some k) → slice_get x.right k ≡ Some b → written_link r n s ≡ link_written_by x k (link_test r.left n s) (said_at b.sites s)
  pub made : length r.made ≡ length x.made
  pub made_types : (j k : ℕ) (b : AgentSaid) → slice_get x.made j ≡ Some k → slice_get x.right k ≡ Some b → made_type r j ≡ Some b.agent
  pub made_states : (j k s : ℕ) (b : AgentSaid) → slice_get x.made j ≡ Some k → slice_get x.right k ≡ Some b → made_state r j s ≡ option_and_then (state_given (said_at b.sites s)) (slice_get (state_counts sig b.agent) s)
  pub made_links : (j k s : ℕ) (b : AgentSaid) → slice_get x.made j ≡ Some k → slice_get x.right k ≡ Some b → made_link r j s ≡ link_made_by x k (said_at b.sites s)

module _ (sig : List TypeEntry) (name : List ℕ) (x : SidesParts) (r : RuleParts) (is : IsRuleOf sig name x r) (numbered : AreNumbered x) where
  -- ---- the left pattern

  left_count : length r.left ≡ length x.left
  left_count = sym (length-map r.left (λ (n : Node). n.agent)) ∙ ap length is.types ∙ length-map x.left (λ (a : AgentSaid). a.agent)

  module _ (n : ℕ) (a : AgentSaid) (node : Node) (at : slice_get x.left n ≡ Some a) (there : slice_get r.left n ≡ Some node) where
    typed : node.agent ≡ a.agent
    typed = number_at (λ (m : Node). m.agent) r.left (map (λ (b : AgentSaid). b.agent) x.left) n a.agent node is.types there (slice_get-map (λ (b : AgentSaid). b.agent) x.left n ∙ rw at refl)

    counted : map (λ (t : SiteTests). t.states) node.sites ≡ state_counts sig a.agent
    counted = is.over.left.sites n node there ∙ ap (state_counts sig) typed

    tests_are : (s k : ℕ) (t : SiteTests) → slice_get (state_counts sig a.agent) s ≡ Some k → slice_get node.sites s ≡ Some t → t ≡ site_asked x.left n a s k
    unfolding state_test link_test site_at
    tests_are s k t known here =
        let states : t.states ≡ k = number_at (λ (z : SiteTests). z.states) node.sites (state_counts sig a.agent) s k t counted here known in
        let state : t.state ≡ left_state_test (said_at a.sites s) = (let read : state_test r.left n s ≡ t.state = rw (there, here) refl in sym read ∙ is.states n s a at) in
        let link : t.link ≡ left_link_test x.left n (said_at a.sites s) = (let read : link_test r.left n s ≡ t.link = rw (there, here) refl in sym read ∙ is.links n s a at) in
        λ i. record { states = states i; state = state i; link = link i }

    node_is : node ≡ node_of sig x.left n a
    node_is =
        let long : length node.sites ≡ length (state_counts sig a.agent) = sym (length-map node.sites (λ (t : SiteTests). t.states)) ∙ ap length counted in
        let sites = by_places (site_asked x.left n a) (state_counts sig a.agent) node.sites long tests_are in
        λ i. record { agent = typed i; sites = sites i }

  left_is : r.left ≡ nodes_of sig x.left
  unfolding nodes_of
  left_is = by_places (node_of sig x.left) x.left r.left left_count node_is

  -- ---- what becomes of its nodes

  right_at : (k : ℕ) → k < length x.ends → (b : AgentSaid) × (slice_get x.right k ≡ Some b)
  right_at k within = let e = numbered.ends_count in some_at x.right k (omega (arith, within, e))

  module _ (n : ℕ) (node : Node) (act : NodeAction) (at : slice_get r.left n ≡ Some node) (there : slice_get r.actions n ≡ Some act) where
    as_many : length act.sites ≡ length node.sites
    unfolding agent_at
    as_many =
        let typed : agent_at r.left n ≡ Some node.agent = rw at refl in
        let shaped = ap length (is.over.left.sites n node at) in
        is.over.action_sites n node.agent act there typed ∙ sym shaped ∙ length-map node.sites (λ (t : SiteTests). t.states)

    fate_is : (k : Option ℕ) → slice_get x.after n ≡ Some k → act.fate ≡ fate_of k
    unfolding fate_at
    fate_is k stays = let read : fate_at r n ≡ Some act.fate = rw there refl in let e = sym read ∙ is.fates n k stays in cc

    module _ (s : ℕ) (y : SiteAction) (here : slice_get act.sites s ≡ Some y) where
      state_read : written_state r n s ≡ y.state
      unfolding written_state action_at
      state_read = rw (there, here) refl

      link_read : written_link r n s ≡ y.link
      unfolding written_link action_at
      link_read = rw (there, here) refl

      nothing : slice_get x.after n ≡ Some None → y ≡ no_action
      nothing gone =
          let fate = is.fates n None gone in
          let state : y.state ≡ None = sym state_read ∙ is.over.is_rule.deleted_state n s fate in
          let link : y.link ≡ None = sym link_read ∙ is.over.is_rule.deleted_link n s fate in
          λ i. record { state = state i; link = link i }

      written : (k : ℕ) (t : SiteTests) → slice_get x.after n ≡ Some (Some k) → slice_get node.sites s ≡ Some t → y ≡ site_written x k s t
      unfolding state_test link_test site_at
      written k t stays tested =
          let b = right_at k (slice_get_within x.ends k (Left n) ((numbered.stays n k).0 stays)) in
          let said : said_on_right x k s ≡ said_at b.0.sites s = rw b.1 refl in
          let test : state_test r.left n s ≡ t.state = rw (at, tested) refl in
          let link_asked : link_test r.left n s ≡ t.link = rw (at, tested) refl in
          let state : y.state ≡ state_written_by t.state (said_on_right x k s) = sym state_read ∙ is.written_states n s k b.0 stays b.1 ∙ rw (test, said) refl in
          let link : y.link ≡ link_written_by x k t.link (said_on_right x k s) = sym link_read ∙ is.written_links n s k b.0 stays b.1 ∙ rw (link_asked, said) refl in
          λ i. record { state = state i; link = link i }

    action_by : (k : Option ℕ) → slice_get x.after n ≡ Some k → act ≡ action_of x node k
    action_by None gone =
        let fate = fate_is None gone in
        let sites = by_elements (λ _. no_action) node.sites act.sites as_many (λ s t y tested here. nothing s y here gone) in
        λ i. record { fate = fate i; sites = sites i }
    action_by (Some k) stays =
        let fate = fate_is (Some k) stays in
        let sites = by_places (site_written x k) node.sites act.sites as_many (λ s t y tested here. written s y here k t stays tested) in
        λ i. record { fate = fate i; sites = sites i }

    action_is : act ≡ action_of x node (number_after x n)
    action_is =
        let within = slice_get_within r.left n node at in
        let e = numbered.after_count in
        let f = left_count in
        let k = some_at x.after n (omega (arith, within, e, f)) in
        let number : number_after x n ≡ k.0 = rw k.1 refl in
        action_by k.0 k.1 ∙ ap (action_of x node) (sym number)

  actions_are : r.actions ≡ map_from 0 (λ n node. action_of x node (number_after x n)) r.left
  actions_are = by_places (λ n node. action_of x node (number_after x n)) r.left r.actions is.over.is_rule.actions action_is

  -- ---- the agents that are created

  module _ (j k : ℕ) (y : MadeAgent) (at : slice_get x.made j ≡ Some k) (there : slice_get r.made j ≡ Some y) (b : AgentSaid) (right : slice_get x.right k ≡ Some b) where
    type_is : y.agent ≡ type_on_right x k
    unfolding made_type
    type_is =
        let read : made_type r j ≡ Some y.agent = rw there refl in
        let named : type_on_right x k ≡ b.agent = rw right refl in
        let e = sym read ∙ is.made_types j k b at right in
        let f : y.agent ≡ b.agent = cc in
        f ∙ sym named

    made_counts : map (λ (z : MadeSite). z.states) y.sites ≡ state_counts sig (type_on_right x k)
    made_counts = is.over.made_sites j y there ∙ ap (state_counts sig) type_is

    site_is : (s n : ℕ) (z : MadeSite) → slice_get (state_counts sig (type_on_right x k)) s ≡ Some n → slice_get y.sites s ≡ Some z → z ≡ site_made x k s n
    unfolding made_state made_link made_site
    site_is s n z known here =
        let said : said_on_right x k s ≡ said_at b.sites s = rw right refl in
        let named : type_on_right x k ≡ b.agent = rw right refl in
        let count : slice_get (state_counts sig b.agent) s ≡ Some n = rw named at known in
        let states : z.states ≡ n = number_at (λ (w : MadeSite). w.states) y.sites (state_counts sig (type_on_right x k)) s n z made_counts here known in
        let state : z.state ≡ state_given (said_on_right x k s) n =
        (let read : made_state r j s ≡ z.state = rw (there, here) refl in sym read ∙ is.made_states j k s b at right ∙ rw (count, said) refl) in
        let link : z.link ≡ link_made_by x k (said_on_right x k s) =
        (let read : made_link r j s ≡ z.link = rw (there, here) refl in sym read ∙ is.made_links j k s b at right ∙ rw said refl) in
        λ i. record { states = states i; state = state i; link = link i }

    agent_is : y ≡ made_of sig x k
    agent_is =
        let long : length y.sites ≡ length (state_counts sig (type_on_right x k)) = sym (length-map y.sites (λ (z : MadeSite). z.states)) ∙ ap length made_counts in
        let sites = by_places (site_made x k) (state_counts sig (type_on_right x k)) y.sites long site_is in
        λ i. record { agent = type_is i; sites = sites i }

  made_are : r.made ≡ map (made_of sig x) x.made
  made_are = by_elements (made_of sig x) x.made r.made is.made (λ j k y at there.
      let b = right_at k (slice_get_within x.ends k (Made j) ((numbered.is_made j k).0 at)) in
      agent_is j k y at there b.0 b.1)

  pub rule_is : r ≡ rule_of sig name x
  unfolding rule_of
  rule_is =
      let named = is.named in
      let left = left_is in
      let actions = actions_are ∙ ap (map_from 0 (λ n node. action_of x node (number_after x n))) left_is in
      let made = made_are in
      λ i. record { name = named i; left = left i; actions = actions i; made = made i }

-- What the right side gives to a site that it names.
use Rattle.std.proofs.Common.{◌≡◌, ◌≢◌, ℕ, ◌<◌, List, length, map, refl, sym, ap, ◌∙◌}
use Rattle.std.specs.Prelude.{Bool, true, false, ◌&&◌, Option, Some, None, slice_get, option_and_then, nat_eq, if◌then◌else◌}
use Rattle.std.proofs.lemmas.Bool.{eqb-true, eq-eqb}
use Rattle.std.proofs.lemmas.List.{length-map}
use Rattle.std.proofs.lemmas.Option.{slice_get_within, slice_get-map}
use Rattle.kasa_graph.specs.declared.pattern.StateTest.TheVariants as state
use Rattle.kasa_graph.specs.declared.pattern.LinkTest.{LinkTest}
use Rattle.kasa_graph.specs.declared.pattern.LinkTest.TheVariants as link
use Rattle.kasa_graph.specs.declared.pattern.Node.{Node}
use Rattle.kasa_graph.specs.Signature.{TypeEntry, state_counts}
use Rattle.kasa_graph.specs.Pattern.{agent_at, types_of, link_test, HasNodeSite, IsPattern}
use Rattle.kasa_graph.proofs.ListLemmas.{some_at, some_map}
use Rattle.kasa_graph.proofs.SiteLemmas.{HasNodeSite-over}
use Rattle.kasa_graph.proofs.TestLemmas.{agent_at-types}
use Rattle.kasa_rules.specs.declared.rule.End.{End}
use Rattle.kasa_rules.specs.declared.rule.End.TheVariants.{Left, Made}
use Rattle.kasa_rules.specs.declared.rule.Written.TheVariants.{Free, To}
use Rattle.kasa_rules.specs.declared.rule.MadeSite.{MadeSite}
use Rattle.kasa_rules.specs.declared.rule.MadeAgent.{MadeAgent}
use Rattle.kasa_rules.specs.Rule.{RuleParts, made_type, made_site}
use Rattle.kasa_rules.specs.Draft.{HasEndSite, HasEndState}
use Rattle.kasa_rules.proofs.ReadyLemmas.{HasEndState-left}
use Rattle.kasa_compile.specs.declared.said.LinkSaid.{LinkSaid}
use Rattle.kasa_compile.specs.declared.said.LinkSaid.TheVariants as said
use Rattle.kasa_compile.specs.declared.said.SiteSaid.{SiteSaid}
use Rattle.kasa_compile.specs.declared.said.AgentSaid.{AgentSaid}
use Rattle.kasa_compile.specs.Sides.{SidesParts}
use Rattle.kasa_compile.specs.Bonds.{said_at, joined_to}
use Rattle.kasa_compile.specs.Rule.{leads_to, end_at, is_free, link_to_write, link_to_make}
use Rattle.kasa_compile.specs.Valid.{IsSiteSaid, AreSides}
use Rattle.kasa_compile.specs.Building.{Says, right_of, link_due, link_to_put, IsLinked, CanWrite}
use Rattle.kasa_compile.specs.Cells.{AreNamedOnce}
use Rattle.kasa_compile.proofs.RuleBonds.{IsJoined, is_joined}
use Rattle.kasa_compile.proofs.SaidAtLemmas.{said_at-of}
use Rattle.kasa_compile.proofs.AskedLemmas.{once_said}

-- ---- tests that lead to an end

pub leads-true : (test : LinkTest) (e : End) (u : ℕ) → leads_to test e u ≡ true → (n : ℕ) × (e ≡ Left n) × (test ≡ link.To n u)
leads-true (link.To m t) (Left n) u is =
    let both = and_both (nat_eq m n) (nat_eq t u) is in
    let node = eqb-true m n both.0 in
    let site = eqb-true t u both.1 in
    (n, refl, rw (node, site) refl)
  where
    and_both : (a b : Bool) → (a && b) ≡ true → (a ≡ true) × (b ≡ true)
    and_both true true e = (refl, refl)
    and_both true false e = absurd cc
    and_both false b e = absurd cc
leads-true (link.To m t) (Made j) u is = absurd cc
leads-true link.Any e u is = absurd cc
leads-true link.Free e u is = absurd cc
leads-true link.Bound e u is = absurd cc
leads-true (link.Partner b y) e u is = absurd cc

leads-same : (test : LinkTest) (n u : ℕ) → test ≡ link.To n u → leads_to test (Left n) u ≡ true
leads-same test n u is = rw (is, eq-eqb n n refl, eq-eqb u u refl) refl

module _ (sig : List TypeEntry) (x : SidesParts) (sides : AreSides sig x) where
  -- ---- ends and numbers on the right

  pub end_there : (k : ℕ) (b : AgentSaid) → slice_get x.right k ≡ Some b → slice_get x.ends k ≡ Some (end_at x.ends k)
  end_there k b is =
      let within : k < length x.ends = rw sides.numbered.ends_count (slice_get_within x.right k b is) in
      let found = some_at x.ends k within in
      found.1 ∙ rw found.1 refl

  pub right_of-there : (k : ℕ) (e : End) → slice_get x.ends k ≡ Some e → right_of x e ≡ Some k
  right_of-there k (Left n) is = rw ((sides.numbered.stays n k).1 is) refl
  right_of-there k (Made j) is = (sides.numbered.is_made j k).1 is

  pub right_of-end : (k : ℕ) (b : AgentSaid) → slice_get x.right k ≡ Some b → right_of x (end_at x.ends k) ≡ Some k
  right_of-end k b is = right_of-there k (end_at x.ends k) (end_there k b is)

  -- ---- the site that an agent on the right names
  module _ (k i : ℕ) (s : SiteSaid) (says : Says x.right k i s) where
    once : AreNamedOnce x.right
    once = once_said sig x.right sides.right

    there : said_at says.agent.sites s.site ≡ Some s
    there = said_at-of says.agent.sites i s (once k says.agent says.is_agent) says.is_site

    abbrev the_end : End
    the_end = end_at x.ends k

    known : IsSiteSaid sig says.agent.agent s
    known = (sides.right k says.agent says.is_agent).sites i s says.is_site

    pub link_due-at : (g : List Node) (e : End) → right_of x e ≡ Some k → link_due x g e s.site ≡ link_to_put x g e k s
    unfolding link_due
    link_due-at g (Left n) is = rw (is, says.is_agent, there) refl
    link_due-at g (Made j) is = rw (is, says.is_agent, there) refl

    pub link_due-says : (g : List Node) → link_due x g (end_at x.ends k) s.site ≡ link_to_put x g (end_at x.ends k) k s
    link_due-says g = link_due-at g (end_at x.ends k) (right_of-end k says.agent says.is_agent)

    pub labelled_says : (number : ℕ) → s.link ≡ Some (said.Label number) → IsJoined x.right number (k, s.site) (joined_to x.right number (k, s.site))
    labelled_says number is =
        is_joined x.right number k s.site once (sides.right_joined k i number says.agent s says.is_agent says.is_site is)
        (record { agent = says.agent; index = i; site = s; is_agent = says.is_agent; is_site = says.is_site; named = refl; label = is })

    pub IsLinked-says : (number : ℕ) → s.link ≡ Some (said.Label number) → IsLinked x (k, s.site) number
    IsLinked-says number is =
        let bond = labelled_says number is in
        record {
          two = sides.right_joined k i number says.agent s says.is_agent says.is_site is;
          within = rw sides.numbered.ends_count (slice_get_within x.right (joined_to x.right number (k, s.site)).0 bond.labelled.agent bond.labelled.is_agent);
        }

-- ---- sites exist in the draft

module _ (sig : List TypeEntry) (x : SidesParts) (g : List Node) (r : RuleParts) (can : CanWrite sig x g r) (k i : ℕ) (s : SiteSaid) (says : Says x.right k i s) where
  site_known : IsSiteSaid sig says.agent.agent s
  site_known = (can.sides.right k says.agent says.is_agent).sites i s says.is_site

  -- a kept node has the type of its agent on the right
  kept_type : (n : ℕ) → slice_get x.after n ≡ Some (Some k) → agent_at r.left n ≡ Some says.agent.agent
  kept_type n is =
      let within : n < length x.left = rw (← can.sides.numbered.after_count) (slice_get_within x.after n (Some k) is) in
      let a = some_at x.left n within in
      let same : a.0.agent ≡ says.agent.agent = can.sides.same_types n k a.0 says.agent is a.1 says.is_agent in
      let typed : slice_get (types_of r.left) n ≡ Some says.agent.agent = rw (can.left, can.types) (slice_get-map (λ (y : AgentSaid). y.agent) x.left n ∙ rw (a.1, same) refl) in
      agent_at-types r.left n ∙ typed

  kept_site : (n : ℕ) → slice_get x.after n ≡ Some (Some k) → HasNodeSite r.left n s.site
  kept_site n is = HasNodeSite-over sig r.left can.over.left n says.agent.agent s.site (kept_type n is) site_known.known

  made_agent : (j : ℕ) → slice_get x.made j ≡ Some k → (m : MadeAgent) × (slice_get r.made j ≡ Some m) × (map (λ (y : MadeSite). y.states) m.sites ≡ state_counts sig says.agent.agent)
  unfolding made_type
  made_agent j is =
      let m = some_map (λ (y : MadeAgent). y.agent) (slice_get r.made j) says.agent.agent (can.made j k says.agent is says.is_agent) in
      (m.0, m.1, can.over.made_sites j m.0 m.1 ∙ rw m.2 refl)

  made_there : (j : ℕ) → slice_get x.made j ≡ Some k → (y : MadeSite) × (made_site r j s.site ≡ Some y) × (slice_get (state_counts sig says.agent.agent) s.site ≡ Some y.states)
  unfolding made_site
  made_there j is =
      let m = made_agent j is in
      let count : length m.0.sites ≡ length (state_counts sig says.agent.agent) = sym (length-map m.0.sites (λ (y : MadeSite). y.states)) ∙ ap length m.2 in
      let has : s.site < length (state_counts sig says.agent.agent) = site_known.known in
      let y = some_at m.0.sites s.site (rw count has) in
      (y.0, rw (m.1, y.1) refl, rw (← m.2) (slice_get-map (λ (y : MadeSite). y.states) m.0.sites s.site ∙ rw y.1 refl))

  has_end_site : (e : End) → right_of x e ≡ Some k → HasEndSite r e s.site
  has_end_site (Left n) is = let at = kept_at (slice_get x.after n) is in (can.kept n k at, kept_site n at)
    where
      kept_at : (o : Option (Option ℕ)) → option_and_then (λ (o : Option ℕ). o) o ≡ Some k → o ≡ Some (Some k)
      kept_at None e = absurd cc
      kept_at (Some p) e = ap Some e
  has_end_site (Made j) is = let y = made_there j is in rw y.1 refl

  has_end_state : (e : End) (u : ℕ) → right_of x e ≡ Some k → s.state ≡ Some (state.Is u) → HasEndState r e s.site u
  has_end_state (Left n) u is given =
      let at = kept_at (slice_get x.after n) is in
      HasEndState-left sig r n s.site u says.agent.agent can.over.left (kept_type n at) (kept_site n at) (site_known.state u given)
    where
      kept_at : (o : Option (Option ℕ)) → option_and_then (λ (o : Option ℕ). o) o ≡ Some k → o ≡ Some (Some k)
      kept_at None e = absurd cc
      kept_at (Some p) e = ap Some e
  has_end_state (Made j) u is given =
      let y = made_there j is in
      let state = site_known.state u given in
      let same : Some state.0 ≡ Some y.0.states = sym state.1 ∙ y.2 in
      let count : state.0 ≡ y.0.states = cc in
      (y.0.states, rw y.1 refl, rw (← count) state.2)

  pub HasEndSite-says : HasEndSite r (end_at x.ends k) s.site
  HasEndSite-says = has_end_site (end_at x.ends k) (right_of-end sig x can.sides k says.agent says.is_agent)

  pub HasEndState-says : (u : ℕ) → s.state ≡ Some (state.Is u) → HasEndState r (end_at x.ends k) s.site u
  HasEndState-says u given = has_end_state (end_at x.ends k) u (right_of-end sig x can.sides k says.agent says.is_agent) given

-- ---- bonds that are due are mutual

pub record IsMutualDue (x : SidesParts) (g : List Node) (e : End) (u : ℕ) (f : End) (t : ℕ) : Type 0 where
  pub agent : ℕ
  pub index : ℕ
  pub site : SiteSaid
  pub says : Says x.right agent index site
  pub is_end : end_at x.ends agent ≡ f
  pub named : site.site ≡ t
  pub back : link_due x g f t ≡ Some (To e u)
  pub differ : e ≡ f → u ≢ t

-- a bond that an agent on the right gives comes from a label, and the left pattern doesn't have it
record IsLabelDue (x : SidesParts) (g : List Node) (e : End) (k : ℕ) (s : SiteSaid) (f : End) (t : ℕ) : Type 0 where
  number : ℕ
  label : s.link ≡ Some (said.Label number)
  is_end : end_at x.ends (joined_to x.right number (k, s.site)).0 ≡ f
  is_site : (joined_to x.right number (k, s.site)).1 ≡ t
  is_new : (n : ℕ) → e ≡ Left n → leads_to (link_test g n s.site) f t ≡ false

kept_label : (x : SidesParts) (g : List Node) (n k : ℕ) (s : SiteSaid) (f : End) (t : ℕ) (test : LinkTest) → test ≡ link_test g n s.site → (o : Option LinkSaid) → s.link ≡ o → link_to_write x (k, s.site) test o ≡ Some (To f t) → IsLabelDue x g (Left n) k s f t
kept_label x g n k s f t test is None said e = absurd cc
kept_label x g n k s f t test is (Some said.Any) said' e = absurd cc
kept_label x g n k s f t test is (Some said.Bound) said' e = absurd cc
kept_label x g n k s f t test is (Some (said.Partner b y)) said' e = absurd cc
kept_label x g n k s f t test is (Some said.Free) said' e = absurd (by_answer (is_free test) e)
  where
    by_answer : (b : Bool) → (if b then None else Some Free) ≡ Some (To f t) → ⊥
    by_answer true e = cc
    by_answer false e = cc
kept_label x g n k s f t test is (Some (said.Label number)) said' e =
    by_answer (joined_to x.right number (k, s.site)) refl (leads_to test (end_at x.ends (joined_to x.right number (k, s.site)).0) (joined_to x.right number (k, s.site)).1) refl e
  where
    by_answer : (q : ℕ × ℕ) → joined_to x.right number (k, s.site) ≡ q → (b : Bool) → leads_to test (end_at x.ends q.0) q.1 ≡ b → (if b then None else Some (To (end_at x.ends q.0) q.1)) ≡ Some (To f t) → IsLabelDue x g (Left n) k s f t
    by_answer q at true led e = absurd cc
    by_answer q at false led e =
        let is_end : end_at x.ends q.0 ≡ f = cc in
        let is_site : q.1 ≡ t = cc in
        record {
          number = number;
          label = said';
          is_end = rw at is_end;
          is_site = rw at is_site;
          is_new = λ m same. let node : n ≡ m = cc in rw (← node, ← is, ← is_end, ← is_site) led;
        }

made_label : (x : SidesParts) (g : List Node) (j k : ℕ) (s : SiteSaid) (f : End) (t : ℕ) → (o : Option LinkSaid) → s.link ≡ o → link_to_make x (k, s.site) o ≡ To f t → IsLabelDue x g (Made j) k s f t
made_label x g j k s f t None said' e = absurd cc
made_label x g j k s f t (Some said.Any) said' e = absurd cc
made_label x g j k s f t (Some said.Free) said' e = absurd cc
made_label x g j k s f t (Some said.Bound) said' e = absurd cc
made_label x g j k s f t (Some (said.Partner b y)) said' e = absurd cc
made_label x g j k s f t (Some (said.Label number)) said' e = record {
  number = number;
  label = said';
  is_end = cc;
  is_site = cc;
  is_new = λ m same. absurd cc;
}

label_due : (x : SidesParts) (g : List Node) (e : End) (k : ℕ) (s : SiteSaid) (f : End) (t : ℕ) → link_to_put x g e k s ≡ Some (To f t) → IsLabelDue x g e k s f t
label_due x g (Left n) k s f t is = kept_label x g n k s f t (link_test g n s.site) refl s.link refl is
label_due x g (Made j) k s f t is = let same : link_to_make x (k, s.site) s.link ≡ To f t = cc in made_label x g j k s f t s.link refl same

-- a label gives a bond where the left pattern doesn't have it
put_of_label : (x : SidesParts) (g : List Node) (e f : End) (k number : ℕ) (s : SiteSaid) (q : ℕ × ℕ) → s.link ≡ Some (said.Label number) → joined_to x.right number (k, s.site) ≡ q → end_at x.ends q.0 ≡ f → ((n : ℕ) → e ≡ Left n → leads_to (link_test g n s.site) f q.1 ≡ false) → link_to_put x g e k s ≡ Some (To f q.1)
put_of_label x g (Left n) f k number s q label at is new = rw (label, at, is, new n refl) refl
put_of_label x g (Made j) f k number s q label at is new = rw (label, at, is) refl

move_leads : (test : LinkTest) (f h : End) (t u : ℕ) → f ≡ h → u ≡ t → leads_to test f t ≡ false → leads_to test h u ≡ false
move_leads test f h t u e r is = rw (← e, r) is

module _ (sig : List TypeEntry) (x : SidesParts) (sides : AreSides sig x) (g : List Node) (linked : IsPattern g) where
  mutual_labels : (k i : ℕ) (s : SiteSaid) (says : Says x.right k i s) (f : End) (t : ℕ) (due : IsLabelDue x g (end_at x.ends k) k s f t) (q : ℕ × ℕ) → joined_to x.right due.number (k, s.site) ≡ q → IsJoined x.right due.number (k, s.site) q → IsMutualDue x g (end_at x.ends k) s.site f t
  mutual_labels k i s says f t due q at bond =
      let is_end : end_at x.ends q.0 ≡ f = rw at at due.is_end in
      let is_site : q.1 ≡ t = rw at at due.is_site in
      let there = bond.labelled in
      let other : Says x.right q.0 there.index there.site = record { agent = there.agent; is_agent = there.is_agent; is_site = there.is_site } in
      let back : joined_to x.right due.number (q.0, there.site.site) ≡ (k, s.site) = rw there.named bond.back in
      let new : (m : ℕ) → end_at x.ends q.0 ≡ Left m → leads_to (link_test g m there.site.site) (end_at x.ends k) s.site ≡ false = λ m same. not_led m (sym is_end ∙ same) there.site.site (there.named ∙ is_site) (leads_to (link_test g m there.site.site) (end_at x.ends k) s.site) refl in
      let put : link_to_put x g (end_at x.ends q.0) q.0 there.site ≡ Some (To (end_at x.ends k) s.site) = put_of_label x g (end_at x.ends q.0) (end_at x.ends k) q.0 due.number there.site (k, s.site) there.label back refl new in
      record {
        agent = q.0;
        index = there.index;
        site = there.site;
        says = other;
        is_end = is_end;
        named = there.named ∙ is_site;
        back = rw (← is_end, ← is_site, ← there.named) (link_due-says sig x sides q.0 there.index there.site other g ∙ put);
        differ = λ e same.
            let first = right_of-end sig x sides k says.agent says.is_agent in
            let second = right_of-end sig x sides q.0 there.agent there.is_agent in
            let ends : end_at x.ends k ≡ end_at x.ends q.0 = e ∙ sym is_end in
            let numbers : k ≡ q.0 = one_number k q.0 (right_of x (end_at x.ends k)) (right_of x (end_at x.ends q.0)) (ap (right_of x) ends) first second in
            bond.apart (pair_is k s.site q numbers (same ∙ sym is_site));
      }
    where
      one_number : (k l : ℕ) (o p : Option ℕ) → o ≡ p → o ≡ Some k → p ≡ Some l → k ≡ l
      one_number k l o p e f h = cc

      pair_is : (k u : ℕ) (q : ℕ × ℕ) → k ≡ q.0 → u ≡ q.1 → (k, u) ≡ q
      pair_is k u (a, b) e f = cc

      not_led : (m : ℕ) → f ≡ Left m → (u : ℕ) → u ≡ t → (b : Bool) → leads_to (link_test g m u) (end_at x.ends k) s.site ≡ b → leads_to (link_test g m u) (end_at x.ends k) s.site ≡ false
      not_led m is u named false e = e
      not_led m is u named true e =
          let led = leads-true (link_test g m u) (end_at x.ends k) s.site e in
          let back = linked.both_ways m u led.0 s.site led.2 in
          let yes : leads_to (link_test g led.0 s.site) (Left m) u ≡ true = leads-same (link_test g led.0 s.site) m u back in
          let no : leads_to (link_test g led.0 s.site) f t ≡ false = due.is_new led.0 led.1 in
          absurd (let clash : true ≡ false = sym yes ∙ move_leads (link_test g led.0 s.site) f (Left m) t u is named no in cc)

  pub due_mutual : (k i : ℕ) (s : SiteSaid) (f : End) (t : ℕ) → Says x.right k i s → link_due x g (end_at x.ends k) s.site ≡ Some (To f t) → IsMutualDue x g (end_at x.ends k) s.site f t
  due_mutual k i s f t says is =
      let due = label_due x g (end_at x.ends k) k s f t (sym (link_due-says sig x sides k i s says g) ∙ is) in
      mutual_labels k i s says f t due (joined_to x.right due.number (k, s.site)) refl (labelled_says sig x sides k i s says due.number due.label)

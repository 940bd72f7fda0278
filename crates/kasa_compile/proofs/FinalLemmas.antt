-- When all sites are written, the draft is the rule that is said.
use Rattle.std.proofs.Common.{◌≡◌, ℕ, zero, suc, ◌<◌, inl, inr, List, [], ◌∷◌, ◌++◌, length, refl, sym, ap, ◌∙◌, arith}
use Rattle.std.specs.Prelude.{Bool, true, false, ◌&&◌, not, Option, Some, None, slice_get, option_map, option_and_then, if◌then◌else◌}
use Rattle.std.specs.Option.{option_map_or}
use Rattle.std.specs.List.{flat_map}
use Rattle.std.proofs.lemmas.List.{length-map}
use Rattle.std.proofs.lemmas.Option.{slice_get_within}
use Rattle.kasa_graph.specs.declared.pattern.LinkTest.TheVariants as link
use Rattle.kasa_graph.specs.declared.pattern.Node.{Node}
use Rattle.kasa_graph.specs.Lists.{map_from}
use Rattle.kasa_graph.specs.Signature.{TypeEntry, state_counts}
use Rattle.kasa_graph.specs.Mixture.{first_state}
use Rattle.kasa_graph.specs.Pattern.{state_test, link_test, IsPattern}
use Rattle.kasa_graph.proofs.ListLemmas.{some_at}
use Rattle.kasa_graph.proofs.PatternLemmas.{node_bound}
use Rattle.kasa_graph.proofs.ShapeLemmas.{site_or_any}
use Rattle.kasa_graph.proofs.TestLemmas.{length-types}
use Rattle.kasa_rules.proofs.FiringLemmas.{slice_get-map_from}
use Rattle.kasa_compile.specs.declared.said.LinkSaid.{LinkSaid}
use Rattle.kasa_compile.specs.declared.said.LinkSaid.TheVariants as said
use Rattle.kasa_compile.specs.Causes.{half_bonds, half_bonds_of, half_bond_at, is_touched}
use Rattle.kasa_rules.specs.declared.rule.End.{End}
use Rattle.kasa_rules.specs.declared.rule.End.TheVariants.{Left, Made}
use Rattle.kasa_rules.specs.declared.rule.Written.{Written}
use Rattle.kasa_rules.specs.declared.rule.Written.TheVariants.{Free, To}
use Rattle.kasa_rules.specs.declared.rule.MadeSite.{MadeSite}
use Rattle.kasa_rules.specs.Rule.{RuleParts, written_link, made_site, made_link, end_link, touched, IsRuleOver, HasWholeBonds}
use Rattle.kasa_rules.specs.Draft.{IsOpen}
use Rattle.kasa_compile.specs.declared.said.SiteSaid.{SiteSaid}
use Rattle.kasa_compile.specs.declared.said.AgentSaid.{AgentSaid}
use Rattle.kasa_compile.specs.Sides.{SidesParts}
use Rattle.kasa_compile.specs.Bonds.{said_at, joined_to}
use Rattle.kasa_compile.specs.Complex.{state_given}
use Rattle.kasa_compile.specs.Rule.{link_asked, left_state_test, left_link_test, state_written_by, link_written_by, link_made_by, end_at}
use Rattle.kasa_compile.specs.Building.{Says, right_of, state_now, state_open, state_due, link_due, IsBare, CanWrite, IsLater, HasLink, IsDone}
use Rattle.kasa_compile.proofs.SaidAtLemmas.{said_at-found}
use Rattle.kasa_compile.proofs.DueLemmas.{right_of-there, due_mutual}
use Rattle.kasa_compile.proofs.StepLemmas.{end_before-or}
use Rattle.kasa_compile.proofs.RuleRead.{IsRuleOf}

made_of_end : (r : RuleParts) (j s : ℕ) (w : Written) → end_link r (Made j) s ≡ Some w → made_link r j s ≡ w
unfolding made_link
made_of_end r j s w = by_site (made_site r j s)
  where
    by_site : (o : Option MadeSite) → option_map (λ (y : MadeSite). y.link) o ≡ Some w → option_map_or (λ (y : MadeSite). y.link) o Free ≡ w
    by_site None e = absurd cc
    by_site (Some y) e = cc

-- the link that an end has: of a created site free, if none stands there
abbrev link_of : RuleParts → End → ℕ → Option Written
link_of r (Left n) s = written_link r n s
link_of r (Made j) s = Some (made_link r j s)

link_of-end : (r : RuleParts) (e : End) (s : ℕ) (w : Written) → end_link r e s ≡ Some w → link_of r e s ≡ Some w
link_of-end r (Left n) s w is = is
link_of-end r (Made j) s w is = ap Some (made_of_end r j s w is)

both_empty : {Y : Type 0} (xs ys : List Y) → xs ++ ys ≡ [] → (xs ≡ []) × (ys ≡ [])
both_empty [] ys e = (refl, e)
both_empty (y ∷ xs) ys e = absurd cc

module _ (sig : List TypeEntry) (x : SidesParts) (name : List ℕ) (g : List Node) (r0 r : RuleParts) (bare : IsBare sig x name g x.made r0) (can : CanWrite sig x g r) (later : IsLater sig x g r0 r) (done : (k i : ℕ) (s : SiteSaid) → Says x.right k i s → IsDone sig x g r (end_at x.ends k) s.site) where
  linked : IsPattern g
  linked = rw can.left at can.over.left.linked

  -- ---- each site has the link that is due

  settled : (k i : ℕ) (s : SiteSaid) → Says x.right k i s → (o : Option Written) → link_due x g (end_at x.ends k) s.site ≡ o → HasLink x g r (end_at x.ends k) s.site o → end_link r (end_at x.ends k) s.site ≡ link_due x g (end_at x.ends k) s.site
  settled k i s says None is has = has
  settled k i s says (Some Free) is has = has
  settled k i s says (Some (To f t)) is has =
      let m = due_mutual sig x can.sides g linked k i s f t says is in
      elim (end_before-or (end_at x.ends k) f s.site t m.differ) [
        | inl first ↦ (has first).0
        | inr second ↦
            let there = (done m.agent m.index m.site m.says).link in
            let at : HasLink x g r f t (link_due x g f t) = move_link (end_at x.ends m.agent) f m.site.site t m.is_end m.named there in
            let both : HasLink x g r f t (Some (To (end_at x.ends k) s.site)) = rw m.back at at in
            (both second).1
      ]
    where
      move_link : (e f : End) (u t : ℕ) → e ≡ f → u ≡ t → HasLink x g r e u (link_due x g e u) → HasLink x g r f t (link_due x g f t)
      move_link e f u t a b has = rw (← a, ← b) has

  end_is : (k : ℕ) (e : End) → slice_get x.ends k ≡ Some e → end_at x.ends k ≡ e
  end_is k e is = rw is refl

  says_at : (k : ℕ) (b : AgentSaid) (s : ℕ) (y : SiteSaid) → slice_get x.right k ≡ Some b → said_at b.sites s ≡ Some y → (i : ℕ) × Says x.right k i y × (y.site ≡ s)
  says_at k b s y at e =
      let found = said_at-found b.sites s y e in
      (found.0, record { agent = b; is_agent = at; is_site = found.1 }, found.2)

  module _ (k : ℕ) (b : AgentSaid) (at : slice_get x.right k ≡ Some b) where
    right_is : (e : End) → slice_get x.ends k ≡ Some e → right_of x e ≡ Some k
    right_is e is = right_of-there sig x can.sides k e is

    due_left : (n s : ℕ) → slice_get x.ends k ≡ Some (Left n) → link_due x g (Left n) s ≡ link_written_by x k (link_test g n s) (said_at b.sites s)
    unfolding link_due
    due_left n s is = rw (right_is (Left n) is, at) refl

    due_made : (j s : ℕ) → slice_get x.ends k ≡ Some (Made j) → link_due x g (Made j) s ≡ Some (link_made_by x k (said_at b.sites s))
    unfolding link_due
    due_made j s is = rw (right_is (Made j) is, at) refl

    state_left : (n s : ℕ) → slice_get x.ends k ≡ Some (Left n) → state_due sig x g (Left n) s ≡ state_written_by (state_test g n s) (said_at b.sites s)
    unfolding state_due
    state_left n s is = rw (right_is (Left n) is, at) refl

    state_made : (j s : ℕ) → slice_get x.ends k ≡ Some (Made j) → state_due sig x g (Made j) s ≡ option_and_then (state_given (said_at b.sites s)) (slice_get (state_counts sig b.agent) s)
    unfolding state_due
    state_made j s is = rw (right_is (Made j) is, at) refl

    first_same : (o : Option ℕ) → option_and_then first_state o ≡ option_and_then (state_given None) o
    first_same None = refl
    first_same (Some n) = refl

    open_left : (n s : ℕ) → state_open sig x (Left n) s ≡ None
    unfolding state_open
    open_left n s = refl

    open_made : (j s : ℕ) → slice_get x.ends k ≡ Some (Made j) → state_open sig x (Made j) s ≡ option_and_then first_state (slice_get (state_counts sig b.agent) s)
    unfolding state_open
    open_made j s is = rw (right_is (Made j) is, at) refl

    -- a site that isn't named keeps its state
    unsaid_state : (e : End) (s : ℕ) → slice_get x.ends k ≡ Some e → said_at b.sites s ≡ None → state_open sig x e s ≡ state_due sig x g e s
    unsaid_state (Left n) s is none = open_left n s ∙ sym (state_left n s is ∙ rw none refl)
    unsaid_state (Made j) s is none = open_made j s is ∙ first_same (slice_get (state_counts sig b.agent) s) ∙ sym (state_made j s is ∙ rw none refl)

    state_is : (e : End) (s : ℕ) → slice_get x.ends k ≡ Some e → (o : Option SiteSaid) → said_at b.sites s ≡ o → state_now r e s ≡ state_due sig x g e s
    state_is e s is None none = elim (can.states e s) [ inl a ↦ a ∙ unsaid_state e s is none | inr a ↦ a ]
    state_is e s is (Some y) some =
        let found = says_at k b s y at some in
        rw (← end_is k e is, ← found.2) ((done k found.0 y found.1).state)

    unsaid_link : (e : End) (s : ℕ) → slice_get x.ends k ≡ Some e → said_at b.sites s ≡ None → IsOpen r e s → link_of r e s ≡ link_due x g e s
    unsaid_link (Left n) s is none open' = open' ∙ sym (due_left n s is ∙ rw none refl)
    unsaid_link (Made j) s is none open' = ap Some open' ∙ sym (due_made j s is ∙ rw none refl)

    from_end : (e : End) (s : ℕ) → slice_get x.ends k ≡ Some e → end_link r e s ≡ link_due x g e s → link_of r e s ≡ link_due x g e s
    from_end (Left n) s is same = same
    from_end (Made j) s is same = ap Some (made_of_end r j s _ (same ∙ due_made j s is)) ∙ sym (due_made j s is)

    link_is : (e : End) (s : ℕ) → slice_get x.ends k ≡ Some e → (o : Option SiteSaid) → said_at b.sites s ≡ o → link_of r e s ≡ link_due x g e s
    link_is e s is None none = elim (can.links e s) [ inl open' ↦ unsaid_link e s is none open' | inr same ↦ from_end e s is same ]
    link_is e s is (Some y) some =
        let found = says_at k b s y at some in
        let there = settled k found.0 y found.1 (link_due x g (end_at x.ends k) y.site) refl ((done k found.0 y found.1).link) in
        from_end e s is (rw (← end_is k e is, ← found.2) there)

  pub IsRuleOf-done : IsRuleOver sig r → ((n s : ℕ) (a : AgentSaid) → slice_get x.left n ≡ Some a → state_test g n s ≡ left_state_test (said_at a.sites s)) → ((n s : ℕ) (a : AgentSaid) → slice_get x.left n ≡ Some a → link_test g n s ≡ left_link_test x.left n (said_at a.sites s)) → IsRuleOf sig name x r
  IsRuleOf-done over states links = record {
    named = later.name ∙ bare.named;
    over = over;
    types = rw can.left can.types;
    states = rw can.left states;
    links = rw can.left links;
    fates = λ n k is. later.fates n ∙ bare.fates n k is;
    written_states = λ n s k b is at. let there = (can.sides.numbered.stays n k).0 is in state_is k b at (Left n) s there (said_at b.sites s) refl ∙ state_left k b at n s there ∙ ap (λ (h : List Node). state_written_by (state_test h n s) (said_at b.sites s)) (sym can.left);
    written_links = λ n s k b is at. let there = (can.sides.numbered.stays n k).0 is in link_is k b at (Left n) s there (said_at b.sites s) refl ∙ due_left k b at n s there ∙ ap (λ (h : List Node). link_written_by x k (link_test h n s) (said_at b.sites s)) (sym can.left);
    made = later.count ∙ ap length bare.made ∙ length-map x.made _;
    made_types = λ j k b is at. can.made j k b is at;
    made_states = λ j k s b is at. let there = (can.sides.numbered.is_made j k).0 is in state_is k b at (Made j) s there (said_at b.sites s) refl ∙ state_made k b at j s there;
    made_links = λ j k s b is at. let there = (can.sides.numbered.is_made j k).0 is in one_link (link_is k b at (Made j) s there (said_at b.sites s) refl ∙ due_made k b at j s there);
  }
    where
      one_link : {w v : Written} → Some w ≡ Some v → w ≡ v
      one_link e = cc

  -- ---- whole bonds

  flat_none : {X Y : Type 0} (f : X → List Y) (xs : List X) (i : ℕ) (v : X) → flat_map f xs ≡ [] → slice_get xs i ≡ Some v → f v ≡ []
  flat_none f [] i v none at = absurd cc
  flat_none f (y ∷ xs) zero v none at = let same : y ≡ v = cc in rw (← same) ((both_empty (f y) (flat_map f xs) none).0)
  flat_none f (y ∷ xs) (suc i) v none at = flat_none f xs i v ((both_empty (f y) (flat_map f xs) none).1) at

  module _ (links : (n s : ℕ) (a : AgentSaid) → slice_get x.left n ≡ Some a → link_test g n s ≡ left_link_test x.left n (said_at a.sites s)) (none : half_bonds x ≡ []) where
    none_half : (n i : ℕ) (a : AgentSaid) (y : SiteSaid) → slice_get x.left n ≡ Some a → slice_get a.sites i ≡ Some y → half_bond_at x n y y.link ≡ []
    unfolding half_bonds
    none_half n i a y is at =
        let listed : slice_get (map_from 0 (half_bonds_of x) x.left) n ≡ Some (half_bonds_of x n a) = slice_get-map_from (half_bonds_of x) x.left 0 n n (omega arith) ∙ rw is refl in
        let agent = flat_none (λ (offsets : List ℕ). offsets) (map_from 0 (half_bonds_of x) x.left) n (half_bonds_of x n a) none listed in
        flat_none (λ (z : SiteSaid). half_bond_at x n z z.link) a.sites i y agent at

    written_is : (n s k : ℕ) (b : AgentSaid) → slice_get x.after n ≡ Some (Some k) → slice_get x.right k ≡ Some b → written_link r n s ≡ link_written_by x k (link_test g n s) (said_at b.sites s)
    written_is n s k b is at = let there = (can.sides.numbered.stays n k).0 is in link_is k b at (Left n) s there (said_at b.sites s) refl ∙ due_left k b at n s there

    touched_by : (n s : ℕ) (a : AgentSaid) → slice_get x.left n ≡ Some a → (o : Option ℕ) → slice_get x.after n ≡ Some o → touched r n s ≡ is_touched x n s
    unfolding touched is_touched
    touched_by n s a is None gone = rw (later.fates n ∙ bare.fates n None gone, is, gone) refl
    touched_by n s a is (Some k) stays =
        let ends = (can.sides.numbered.stays n k).0 stays in
        let within : k < length x.right = rw (← can.sides.numbered.ends_count) (slice_get_within x.ends k (Left n) ends) in
        let b = some_at x.right k within in
        rw (can.kept n k stays, is, stays, b.1, written_is n s k b.0 stays b.1, links n s a is) refl

    touched_is : (n s : ℕ) (a : AgentSaid) → slice_get x.left n ≡ Some a → touched r n s ≡ is_touched x n s
    touched_is n s a is =
        let within : n < length x.after = rw can.sides.numbered.after_count (slice_get_within x.left n a is) in
        let o = some_at x.after n within in
        touched_by n s a is o.0 o.1

    agent_there : (n s m t : ℕ) → link_test g n s ≡ link.To m t → (a : AgentSaid) × (slice_get x.left n ≡ Some a)
    agent_there n s m t is =
        let long : length g ≡ length x.left = length-types g ∙ ap length can.types ∙ length-map x.left (λ (a : AgentSaid). a.agent) in
        let within : n < length g = elim (site_or_any g n s) [
          | inl site ↦ node_bound g n s (rw site.1 refl)
          | inr any ↦ absurd (let clash : link.Any ≡ link.To m t = sym any.1 ∙ is in cc)
        ] in
        some_at x.left n (omega arith)

    by_answer : (p q : Bool) (v : ℕ) → (if not p && q then v ∷ [] else []) ≡ [] → p ≡ false → q ≡ false
    by_answer false true v e f = absurd cc
    by_answer false false v e f = refl
    by_answer true q v e f = absurd cc

    half_at : (n s m t i : ℕ) (y : SiteSaid) → y.site ≡ s → (o : Option LinkSaid) → half_bond_at x n y o ≡ [] → link_asked x.left (n, y.site) o ≡ link.To m t → is_touched x n s ≡ false → is_touched x m t ≡ false
    half_at n s m t i y named None e is free = absurd cc
    half_at n s m t i y named (Some said.Any) e is free = absurd cc
    half_at n s m t i y named (Some said.Free) e is free = absurd cc
    half_at n s m t i y named (Some said.Bound) e is free = absurd cc
    half_at n s m t i y named (Some (said.Partner c z)) e is free = absurd cc
    half_at n s m t i y named (Some (said.Label number)) e is free =
        let node : (joined_to x.left number (n, y.site)).0 ≡ m = cc in
        let site : (joined_to x.left number (n, y.site)).1 ≡ t = cc in
        let free' : is_touched x n y.site ≡ false = rw named free in
        rw (← node, ← site) (by_answer (is_touched x n y.site) (is_touched x (joined_to x.left number (n, y.site)).0 (joined_to x.left number (n, y.site)).1) y.«at» e free')

    half_said : (n s m t : ℕ) (a : AgentSaid) → slice_get x.left n ≡ Some a → (o : Option SiteSaid) → said_at a.sites s ≡ o → left_link_test x.left n o ≡ link.To m t → is_touched x n s ≡ false → is_touched x m t ≡ false
    half_said n s m t a at None e is free = absurd cc
    half_said n s m t a at (Some y) e is free =
        let found = said_at-found a.sites s y e in
        half_at n s m t found.0 y found.2 y.link (none_half n found.0 a y at found.1) is free

    half : (n s m t : ℕ) → link_test g n s ≡ link.To m t → is_touched x n s ≡ false → is_touched x m t ≡ false
    half n s m t is free =
        let a = agent_there n s m t is in
        half_said n s m t a.0 a.1 (said_at a.0.sites s) refl (sym (links n s a.0 a.1) ∙ is) free

    same_bool : (p q : Bool) → (p ≡ false → q ≡ false) → (q ≡ false → p ≡ false) → p ≡ q
    same_bool true true a b = refl
    same_bool false false a b = refl
    same_bool true false a b = b refl
    same_bool false true a b = sym (a refl)

    pub HasWholeBonds-done : HasWholeBonds r
    HasWholeBonds-done n s m t is =
        let is' : link_test g n s ≡ link.To m t = rw can.left at is in
        let back = linked.both_ways n s m t is' in
        let first = agent_there n s m t is' in
        let second = agent_there m t n s back in
        touched_is n s first.0 first.1 ∙ same_bool (is_touched x n s) (is_touched x m t) (half n s m t is') (half m t n s back) ∙ sym (touched_is m t second.0 second.1)

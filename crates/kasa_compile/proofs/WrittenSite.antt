-- One site on the right is written: its state, and then its link.
use Rattle.std.proofs.Common.{◌≡◌, ℕ, ◌+◌, ◌<◌, inl, inr, List, length, refl, sym, ◌∙◌}
use Rattle.std.specs.Prelude.{Bool, true, false, Option, Some, None, if◌then◌else◌}
use Rattle.std.proofs.lemmas.Option.{slice_get_within}
use Rattle.kasa_graph.specs.declared.pattern.StateTest.{StateTest}
use Rattle.kasa_graph.specs.declared.pattern.StateTest.TheVariants as state
use Rattle.kasa_graph.specs.declared.pattern.Node.{Node}
use Rattle.kasa_graph.specs.Signature.{TypeEntry}
use Rattle.kasa_graph.specs.Pattern.{HasNodeSite}
use Rattle.kasa_rules.specs.declared.rule.End.{End}
use Rattle.kasa_rules.specs.declared.rule.End.TheVariants.{Left}
use Rattle.kasa_rules.specs.declared.rule.Written.{Written}
use Rattle.kasa_rules.specs.Rule.{RuleParts, IsDraftOver}
use Rattle.kasa_rules.specs.Draft.{HasEndSite, HasEndState}
use Rattle.kasa_compile.specs.declared.said.SiteSaid.{SiteSaid}
use Rattle.kasa_compile.specs.Sides.{SidesParts}
use Rattle.kasa_compile.specs.Rule.{end_at}
use Rattle.kasa_compile.specs.Building.{Says, state_now, link_due, state_due, has_state, state_to_put, link_to_put, with_state_due, with_link_due, MayWrite, CanWrite, IsLater, IsDone, AreAwaiting, AwaitsLink}
use Rattle.kasa_compile.proofs.DueLemmas.{link_due-says, HasEndSite-says, HasEndState-says}
use Rattle.kasa_compile.proofs.StepLemmas.{IsLater-trans, CanWrite-later, state_step, link_step, MayWrite-says, awaiting_next, awaiting_here, awaiting_state, node_site}

given_state : (g : List Node) (e : End) (s u : ℕ) (o : Option StateTest) → state_to_put g e s o ≡ Some u → o ≡ Some (state.Is u)
given_state g e s u None is = absurd cc
given_state g e s u (Some state.Any) is = absurd cc
given_state g e s u (Some (state.Is n)) is = by_answer (has_state g e s n) is
  where
    by_answer : (b : Bool) → (if b then None else Some n) ≡ Some u → Some (state.Is n) ≡ Some (state.Is u)
    by_answer true f = absurd cc
    by_answer false f = let same : n ≡ u = cc in rw same refl

module _ (sig : List TypeEntry) (x : SidesParts) (g : List Node) (r : RuleParts) (can : CanWrite sig x g r) (k i : ℕ) (s : SiteSaid) (says : Says x.right k i s) where
  pub end_within : k < length x.ends
  end_within = rw can.sides.numbered.ends_count (slice_get_within x.right k says.agent says.is_agent)

  module _ (e : End) (at : e ≡ end_at x.ends k) where
    pub site_exists : HasEndSite r e s.site
    site_exists = rw at (HasEndSite-says sig x g r can k i s says)

    pub node_exists : (n : ℕ) → e ≡ Left n → HasNodeSite g n s.site
    node_exists n is = node_site sig x g r can k i s says n (sym at ∙ is)

    pub state_known : (o : Option ℕ) → o ≡ state_to_put g e s.site s.state → (u : ℕ) → o ≡ Some u → HasEndState r e s.site u
    state_known o is u some = rw at (HasEndState-says sig x g r can k i s says u (given_state g e s.site u s.state (sym is ∙ some)))

    module _ (o : Option ℕ) (o_is : o ≡ state_to_put g e s.site s.state) (h : RuleParts) (h_is : h ≡ with_state_due r e s.site o) (over : IsDraftOver sig h) where
      h_here : h ≡ with_state_due r (end_at x.ends k) s.site o
      h_here = rw at at h_is

      o_here : o ≡ state_to_put g (end_at x.ends k) s.site s.state
      o_here = rw at at o_is

      h_later : IsLater sig x g r h
      h_later = rw h_here ((state_step sig x g r can k i s says o o_here).0)

      pub can_after : CanWrite sig x g h
      can_after = CanWrite-later sig x g r h can h_later over

      pub site_exists_after : HasEndSite h e s.site
      site_exists_after = rw at (HasEndSite-says sig x g h can_after k i s says)

      module _ (w : Option Written) (w_is : w ≡ link_to_put x g e k s) (waits : AreAwaiting x g r k i) where
        w_here : w ≡ link_due x g (end_at x.ends k) s.site
        w_here = (rw at at w_is) ∙ sym (link_due-says sig x can.sides k i s says g)

        waits_h : AreAwaiting x g h k i
        waits_h = rw h_here (awaiting_state sig x g r can k i s says o waits)

        waits_w : AwaitsLink h (end_at x.ends k) s.site w
        waits_w = rw w_here (awaiting_here sig x g h can_after k i s says waits_h)

        pub may_write : MayWrite h e s.site w
        may_write = rw at (MayWrite-says sig x g h can_after k i s says w w_here waits_w)

        module _ (q : RuleParts) (q_is : q ≡ with_link_due h e s.site w) where
          q_here : q ≡ with_link_due h (end_at x.ends k) s.site w
          q_here = rw at at q_is

          step : IsLater sig x g h q
          step = rw q_here ((link_step sig x g h can_after k i s says w w_here waits_w).0)

          pub later_site : IsLater sig x g r q
          later_site = IsLater-trans sig x g r h q h_later step

          pub waits_site : AreAwaiting x g q k (i + 1)
          waits_site = rw q_here (awaiting_next sig x g h can_after k i s says w w_here waits_h)

          pub done_site : IsDone sig x g q (end_at x.ends k) s.site
          done_site = record {
            state =
                let there = (state_step sig x g r can k i s says o o_here).1 in
                let before : state_now h (end_at x.ends k) s.site ≡ state_due sig x g (end_at x.ends k) s.site = rw h_here there in
                elim (step.states (end_at x.ends k) s.site) [ inl same ↦ same ∙ before | inr is ↦ is ];
            link = rw (← w_here, q_here) ((link_step sig x g h can_after k i s says w w_here waits_w).1);
          }

-- Which sites a rule mentions: they are sites of the node's type, and listed.
use Rattle.std.proofs.Common.{◌≡◌, ℕ, ◌<◌, ◌⊎◌, inl, inr, ◌↔◌, Bool, true, ◌||◌, is_some, List, length, refl, arith}
use Rattle.std.specs.Prelude.{Option, Some, None, IsSome, slice_get, option_and_then}
use Rattle.std.specs.List.{filter}
use Rattle.std.proofs.lemmas.Option.{slice_get_within}
use Rattle.kasa_graph.specs.declared.pattern.StateTest.{StateTest}
use Rattle.kasa_graph.specs.declared.pattern.StateTest.TheVariants as state
use Rattle.kasa_graph.specs.declared.pattern.LinkTest.{LinkTest}
use Rattle.kasa_graph.specs.declared.pattern.LinkTest.TheVariants as link
use Rattle.kasa_graph.specs.declared.pattern.SiteTests.{SiteTests}
use Rattle.kasa_graph.specs.Signature.{TypeEntry, state_counts, HasSite}
use Rattle.kasa_graph.specs.Pattern.{site_at, state_test, link_test}
use Rattle.kasa_graph.proofs.ListLemmas.{some_then}
use Rattle.kasa_graph.proofs.ShapeLemmas.{site_or_any}
use Rattle.kasa_graph.proofs.SiteLemmas.{HasSite-over}
use Rattle.kasa_rules.specs.declared.rule.NodeAction.{NodeAction}
use Rattle.kasa_rules.specs.declared.rule.SiteAction.{SiteAction}
use Rattle.kasa_rules.specs.Rule.{RuleParts, IsRuleOver, action_at, written_state, written_link}
use Rattle.kasa_choose.specs.ViewPlan.{AsksState, AsksLink, Mentions, IsLeftNode, IsListOf}
use Rattle.kasa_choose.specs.Views.{numbers, asks_state, asks_link, mentions}
use Rattle.kasa_choose.proofs.TestLemmas.{or_told, filter_has, numbers_has, Ascends-range}

-- ---- sites of the type

asked_within : (sig : List TypeEntry) (r : RuleParts) (n a s : ℕ) → IsRuleOver sig r → IsLeftNode r n a → AsksState (state_test r.left n s) ⊎ AsksLink (link_test r.left n s) → HasSite sig a s
asked_within sig r n a s is node asks = by (site_or_any r.left n s) asks
  where
    by : ((x : SiteTests) × (site_at r.left n s ≡ Some x)) ⊎ ((state_test r.left n s ≡ state.Any) × (link_test r.left n s ≡ link.Any)) → AsksState (state_test r.left n s) ⊎ AsksLink (link_test r.left n s) → HasSite sig a s
    by (inl site) asks = HasSite-over sig r.left is.over.left n a s node (rw site.1 refl)
    by (inr none) (inl asks) = absurd (rw none.0 at asks)
    by (inr none) (inr asks) = absurd (rw none.1 at asks)

action_within : (sig : List TypeEntry) (r : RuleParts) (n a s : ℕ) (x : SiteAction) → IsRuleOver sig r → IsLeftNode r n a → action_at r n s ≡ Some x → HasSite sig a s
unfolding action_at
action_within sig r n a s x is node e =
    let action = some_then (λ (y : NodeAction). slice_get y.sites s) (slice_get r.actions n) x e in
    let within : s < length action.0.sites = slice_get_within action.0.sites s x action.2 in
    let long : length action.0.sites ≡ length (state_counts sig a) = is.over.action_sites n a action.0 action.1 node in
    omega arith

-- a value that is read there has an action
some_action : {Y : Type 0} (f : SiteAction → Option Y) (o : Option SiteAction) → IsSome (option_and_then f o) → (x : SiteAction) × (o ≡ Some x)
some_action f None some = absurd cc
some_action f (Some x) some = (x, refl)

pub mentions_within : (sig : List TypeEntry) (r : RuleParts) (n a s : ℕ) → IsRuleOver sig r → IsLeftNode r n a → Mentions r n s → HasSite sig a s
unfolding written_state written_link
mentions_within sig r n a s is node (inl tests) = asked_within sig r n a s is node (inl tests)
mentions_within sig r n a s is node (inr (inl links)) = asked_within sig r n a s is node (inr links)
mentions_within sig r n a s is node (inr (inr (inl writes))) = let x = some_action (λ x. x.state) (action_at r n s) writes in action_within sig r n a s x.0 is node x.1
mentions_within sig r n a s is node (inr (inr (inr binds))) = let x = some_action (λ x. x.link) (action_at r n s) binds in action_within sig r n a s x.0 is node x.1

-- ---- their list

state_told : (t : StateTest) → asks_state t ≡ true ↔ AsksState t
state_told state.Any = (λ h. absurd cc, λ asks. absurd asks)
state_told (state.Is u) = (λ h. tt, λ asks. refl)

link_told : (t : LinkTest) → asks_link t ≡ true ↔ AsksLink t
link_told link.Any = (λ h. absurd cc, λ asks. absurd asks)
link_told link.Free = (λ h. tt, λ asks. refl)
link_told link.Bound = (λ h. tt, λ asks. refl)
link_told (link.Partner a x) = (λ h. tt, λ asks. refl)
link_told (link.To m t) = (λ h. tt, λ asks. refl)

either_told : (b c : Bool) (P Q : Type 0) → b ≡ true ↔ P → c ≡ true ↔ Q → (b || c) ≡ true ↔ (P ⊎ Q)
either_told b c P Q p q =
    let told = or_told b c in (
      λ h. elim (told.0 h) [ inl one ↦ inl (p.0 one) | inr two ↦ inr (q.0 two) ],
      λ h. told.1 (elim h [ inl one ↦ inl (p.1 one) | inr two ↦ inr (q.1 two) ]),
    )

pub mentions_told : (r : RuleParts) (n s : ℕ) → mentions r n s ≡ true ↔ Mentions r n s
mentions_told r n s =
    let one = state_told (state_test r.left n s) in
    let two = either_told _ (asks_link (link_test r.left n s)) _ _ one (link_told (link_test r.left n s)) in
    let three = either_told _ (is_some (written_state r n s)) _ (IsSome (written_state r n s)) two (λ h. h, λ h. h) in
    let four = either_told _ (is_some (written_link r n s)) _ (IsSome (written_link r n s)) three (λ h. h, λ h. h) in (
      λ h. elim (four.0 h) [
        | inr last ↦ inr (inr (inr last))
        | inl (inr third) ↦ inr (inr (inl third))
        | inl (inl (inr second)) ↦ inr (inl second)
        | inl (inl (inl first)) ↦ inl first
      ],
      λ m. four.1 (elim m [
        | inl first ↦ inl (inl (inl first))
        | inr (inl second) ↦ inl (inl (inr second))
        | inr (inr (inl third)) ↦ inl (inr third)
        | inr (inr (inr last)) ↦ inr last
      ]),
    )

pub mentioned_listed : (sig : List TypeEntry) (r : RuleParts) (n a : ℕ) → IsRuleOver sig r → IsLeftNode r n a → IsListOf (Mentions r n) (filter (mentions r n) (numbers (length (state_counts sig a))))
mentioned_listed sig r n a is node = record {
  ascends = Ascends-range (mentions r n) 0 (length (state_counts sig a));
  exact = λ s.
      let told = filter_has (mentions r n) (numbers (length (state_counts sig a))) s in (
        λ h. (mentions_told r n s).0 (told.0 h).1,
        λ m. told.1 ((numbers_has (length (state_counts sig a)) s).1 (mentions_within sig r n a s is node m), (mentions_told r n s).1 m),
      );
}

pub mentioned_list : (sig : List TypeEntry) (r : RuleParts) (n a : ℕ) → IsRuleOver sig r → IsLeftNode r n a → (whole : List ℕ) × IsListOf (Mentions r n) whole
mentioned_list sig r n a is node = (filter (mentions r n) (numbers (length (state_counts sig a))), mentioned_listed sig r n a is node)

-- Laws of drafts: what each change leaves of the words on rules, and that the result is a draft.
use Rattle.std.proofs.Common.{◌≡◌, ◌≢◌, ℕ, zero, suc, ◌+◌, ◌<◌, ◌≤◌, ◌⊎◌, ◌↔◌, inl, inr, List, [], ◌∷◌, ◌++◌, length, map, take, add-one, refl, ap, sym, ◌∙◌, arith, length-append, Bool, true, false}
use Rattle.std.specs.Prelude.{Option, Some, None, IsSome, replicate, slice_get, option_map, option_and_then}
use Rattle.std.specs.Option.{option_map_or}
use Rattle.std.proofs.lemmas.Option.{slice_get-map}
use Rattle.std.proofs.lemmas.List.{length-map, length-replicate}
use Rattle.kasa_graph.specs.declared.pattern.Node.{Node}
use Rattle.kasa_graph.specs.declared.pattern.SiteTests.{SiteTests}
use Rattle.kasa_graph.specs.declared.pattern.LinkTest.TheVariants.{Any, To}
use Rattle.kasa_graph.specs.Signature.{SiteEntry, TypeEntry, sites_of, state_counts}
use Rattle.kasa_graph.specs.Pattern.{agent_at, site_at, link_test, HasNodeSite, IsPattern, IsPatternOver}
use Rattle.kasa_lists.proofs.Numbers.{same_or_not}
use Rattle.kasa_lists.proofs.Options.{some_map, some_then, some_same}
use Rattle.kasa_lists.proofs.Elements.{some_below, pushed_or, slice_get-pushed, take-next, some_beside}
use Rattle.kasa_lists.proofs.Updates.{slice_get-update_other, length-update, map-update, option_map-update, option_then-update, all-update}
use Rattle.kasa_lists.proofs.Maps.{map-push}
use Rattle.kasa_lists.proofs.Grid.{at_both-change_same, at_both-change_other, lengths-change, then-change, map-change}
use Rattle.kasa_graph.proofs.PatternLemmas.{node_bound}
use Rattle.kasa_rules.specs.declared.rule.Fate.TheVariants.{Deleted, Kept}
use Rattle.kasa_rules.specs.declared.rule.End.{End}
use Rattle.kasa_rules.specs.declared.rule.End.TheVariants.{Left, Made}
use Rattle.kasa_rules.specs.declared.rule.Written.{Written}
use Rattle.kasa_rules.specs.declared.rule.Written.TheVariants.{Free, To}
use Rattle.kasa_rules.specs.declared.rule.SiteAction.{SiteAction}
use Rattle.kasa_rules.specs.declared.rule.NodeAction.{NodeAction}
use Rattle.kasa_rules.specs.declared.rule.MadeSite.{MadeSite}
use Rattle.kasa_rules.specs.declared.rule.MadeAgent.{MadeAgent}
use Rattle.kasa_rules.specs.Rule.{RuleParts, fate_at, action_at, written_state, written_link, made_type, made_site, made_link, touched, end_link, IsDraft, IsDraftOver, HasWholeBonds, HasFewAgents}
use Rattle.kasa_graph.specs.Mixture.{first_state}
use Rattle.kasa_rules.specs.Draft.{no_action, keep_node, new_draft, new_site, new_agent, with_made, delete_node, with_deleted, change_made, with_written_state, with_written_link, with_written_bond, HasEndSite, end_states, HasEndState, IsOpen, IsUnwritten, IsHalfBond, HasActions, HasListed}

-- two ends are the same site, or not
pub same_end_or_not : (e f : End) (s t : ℕ) → ((e ≡ f) × (s ≡ t)) ⊎ (e ≡ f → s ≢ t)
same_end_or_not (Left n) (Left k) s t =
    elim (same_or_not n k) [
      | inl e ↦ elim (same_or_not s t) [ inl f ↦ inl (ap Left e, f) | inr ne ↦ inr (λ _. ne) ]
      | inr ne ↦ inr (λ e. absurd (ne cc))
    ]
same_end_or_not (Made n) (Made k) s t =
    elim (same_or_not n k) [
      | inl e ↦ elim (same_or_not s t) [ inl f ↦ inl (ap Made e, f) | inr ne ↦ inr (λ _. ne) ]
      | inr ne ↦ inr (λ e. absurd (ne cc))
    ]
same_end_or_not (Left n) (Made k) s t = inr (λ e. absurd cc)
same_end_or_not (Made n) (Left k) s t = inr (λ e. absurd cc)

-- a word at one site is the word at the same site
move_link : (q : RuleParts) (e f : End) (s t : ℕ) (o : Option Written) → e ≡ f → s ≡ t → end_link q f t ≡ o → end_link q e s ≡ o
move_link q e f s t o p r is = rw (p, r) is

move_state : (q : RuleParts) (n k s t : ℕ) (o : Option ℕ) → n ≡ k → s ≡ t → written_state q k t ≡ o → written_state q n s ≡ o
move_state q n k s t o p r is = rw (p, r) is

move_made : (q : RuleParts) (n k s t : ℕ) (o : Option MadeSite) → n ≡ k → s ≡ t → made_site q k t ≡ o → made_site q n s ≡ o
move_made q n k s t o p r is = rw (p, r) is

-- one link leads to one end
one_end : (f h : End) (t v : ℕ) (o : Option Written) → o ≡ Some (To f t) → o ≡ Some (To h v) → (f ≡ h) × (t ≡ v)
one_end f h t v o p r = (cc, cc)

-- ---- what is listed

listed : (actions : List NodeAction) (g : List Node) (n s : ℕ) → map (λ (x : NodeAction). length x.sites) actions ≡ map (λ (x : Node). length x.sites) g → IsSome (option_and_then (λ (x : Node). slice_get x.sites s) (slice_get g n)) → IsSome (option_and_then (λ (x : NodeAction). slice_get x.sites s) (slice_get actions n))
listed actions [] n s e some = absurd cc
listed [] (y ∷ g) n s e some = absurd cc
listed (x ∷ actions) (y ∷ g) zero s e some = let long : length x.sites ≡ length y.sites = cc in some_beside x.sites y.sites s long some
listed (x ∷ actions) (y ∷ g) (suc n) s e some =
    let rest : map (λ (z : NodeAction). length z.sites) actions ≡ map (λ (z : Node). length z.sites) g = cc in
    listed actions g n s rest some

pub HasListed-end : (r : RuleParts) (e : End) (s : ℕ) → HasActions r → HasEndSite r e s → HasListed r.actions r.made e s
unfolding site_at made_site
HasListed-end r (Left n) s shape has = listed r.actions r.left n s shape.sites has.1
HasListed-end r (Made k) s shape has = has

-- ---- a written link

pub fate_at-link : (r : RuleParts) (e : End) (s : ℕ) (w : Written) (n : ℕ) → fate_at (with_written_link r e s w) n ≡ fate_at r n
unfolding fate_at with_written_link
fate_at-link r (Left m) s w n = option_map-update _ (λ (x : NodeAction). x.fate) (λ _. refl) r.actions m n
fate_at-link r (Made k) s w n = refl

pub written_state-link : (r : RuleParts) (e : End) (s : ℕ) (w : Written) (n t : ℕ) → written_state (with_written_link r e s w) n t ≡ written_state r n t
unfolding written_state action_at with_written_link
written_state-link r (Left m) s w n t = then-change (λ (x : NodeAction). x.sites) (λ x ys. record x { sites = ys }) (λ _ _ _. refl) (λ (x : SiteAction). x.state) (λ x. record x { link = Some w }) (λ _. refl) r.actions m s n t
written_state-link r (Made k) s w n t = refl

link_now : (o : Option SiteAction) (w : Written) → IsSome o → option_and_then (λ (x : SiteAction). x.link) (option_map (λ (x : SiteAction). record x { link = Some w }) o) ≡ Some w
link_now None w some = absurd cc
link_now (Some x) w some = refl

made_now : (o : Option MadeSite) (w : Written) → IsSome o → option_map (λ (x : MadeSite). x.link) (option_map (λ (x : MadeSite). record x { link = w }) o) ≡ Some w
made_now None w some = absurd cc
made_now (Some x) w some = refl

pub end_link-link_same : (r : RuleParts) (e : End) (s : ℕ) (w : Written) → HasListed r.actions r.made e s → end_link (with_written_link r e s w) e s ≡ Some w
unfolding written_link action_at made_site with_written_link
end_link-link_same r (Left n) s w has = rw (at_both-change_same (λ (x : NodeAction). x.sites) (λ x ys. record x { sites = ys }) (λ _ _ _. refl) r.actions n s (λ x. record x { link = Some w })) (link_now _ w has)
end_link-link_same r (Made k) s w has = rw (at_both-change_same (λ (x : MadeAgent). x.sites) (λ x ys. record x { sites = ys }) (λ _ _ _. refl) r.made k s (λ x. record x { link = w })) (made_now _ w has)

pub end_link-link_other : (r : RuleParts) (e f : End) (s t : ℕ) (w : Written) → (e ≡ f → s ≢ t) → end_link (with_written_link r e s w) f t ≡ end_link r f t
unfolding written_link action_at made_site with_written_link
end_link-link_other r (Left n) (Left k) s t w ne = ap (option_and_then (λ (x : SiteAction). x.link)) (at_both-change_other (λ (x : NodeAction). x.sites) (λ x ys. record x { sites = ys }) (λ _ _ _. refl) r.actions n s k t (λ x. record x { link = Some w }) (λ e. ne (ap Left e)))
end_link-link_other r (Left n) (Made k) s t w ne = refl
end_link-link_other r (Made n) (Left k) s t w ne = refl
end_link-link_other r (Made n) (Made k) s t w ne = ap (option_map (λ (x : MadeSite). x.link)) (at_both-change_other (λ (x : MadeAgent). x.sites) (λ x ys. record x { sites = ys }) (λ _ _ _. refl) r.made n s k t (λ x. record x { link = w }) (λ e. ne (ap Made e)))

pub HasListed-link : (r : RuleParts) (e f : End) (s t : ℕ) (w : Written) → HasListed r.actions r.made f t → HasListed (with_written_link r e s w).actions (with_written_link r e s w).made f t
unfolding with_written_link
HasListed-link r (Left n) (Left k) s t w has = some_same (λ (_ : SiteAction). zero) _ _ (map-change (λ (x : NodeAction). x.sites) (λ x ys. record x { sites = ys }) (λ _ _ _. refl) (λ (_ : SiteAction). zero) (λ x. record x { link = Some w }) (λ _. refl) r.actions n s k t) has
HasListed-link r (Left n) (Made k) s t w has = has
HasListed-link r (Made n) (Left k) s t w has = has
HasListed-link r (Made n) (Made k) s t w has = some_same (λ (_ : MadeSite). zero) _ _ (map-change (λ (x : MadeAgent). x.sites) (λ x ys. record x { sites = ys }) (λ _ _ _. refl) (λ (_ : MadeSite). zero) (λ x. record x { link = w }) (λ _. refl) r.made n s k t) has

-- all but the links of two drafts is the same
record SameButLinks (r q : RuleParts) : Type 0 where
  left : q.left ≡ r.left
  sites : map (λ (x : NodeAction). length x.sites) q.actions ≡ map (λ (x : NodeAction). length x.sites) r.actions
  actions : length q.actions ≡ length r.actions
  made : length q.made ≡ length r.made
  fates : (n : ℕ) → fate_at q n ≡ fate_at r n
  states : (n s : ℕ) → written_state q n s ≡ written_state r n s
  made_types : (k : ℕ) → made_type q k ≡ made_type r k
  made_states : (k s : ℕ) (x : MadeSite) → made_site q k s ≡ Some x → (y : MadeSite) × (made_site r k s ≡ Some y) × (y.states ≡ x.states) × (y.state ≡ x.state)
  made_shapes : (sig : List TypeEntry) → ((k : ℕ) (x : MadeAgent) → slice_get r.made k ≡ Some x → map (λ (s : MadeSite). s.states) x.sites ≡ state_counts sig x.agent) → (k : ℕ) (x : MadeAgent) → slice_get q.made k ≡ Some x → map (λ (s : MadeSite). s.states) x.sites ≡ state_counts sig x.agent

states_of : MadeSite → ℕ × Option ℕ
states_of x = (x.states, x.state)

SameButLinks-link : (r : RuleParts) (e : End) (s : ℕ) (w : Written) → SameButLinks r (with_written_link r e s w)
unfolding with_written_link made_type made_site states_of fate_at written_state action_at
SameButLinks-link r (Left n) s w = record {
  left = refl;
  sites = lengths-change (λ (x : NodeAction). x.sites) (λ x ys. record x { sites = ys }) (λ _ _ _. refl) r.actions n s (λ x. record x { link = Some w });
  actions = length-update r.actions n _;
  made = refl;
  fates = fate_at-link r (Left n) s w;
  states = written_state-link r (Left n) s w;
  made_types = λ k. refl;
  made_states = λ k t x at. (x, at, refl, refl);
  made_shapes = λ sig all. all;
}
SameButLinks-link r (Made n) s w = record {
  left = refl;
  sites = refl;
  actions = refl;
  made = length-update r.made n _;
  fates = λ k. refl;
  states = λ k t. refl;
  made_types = λ k. option_map-update _ (λ (x : MadeAgent). x.agent) (λ _. refl) r.made n k;
  made_states = λ k t x at.
      let same = map-change (λ (x : MadeAgent). x.sites) (λ x ys. record x { sites = ys }) (λ _ _ _. refl) states_of (λ x. record x { link = w }) (λ _. refl) r.made n s k t in
      let old = some_map states_of (made_site r k t) (states_of x) (sym same ∙ ap (option_map states_of) at) in
      (old.0, old.1, ap (λ (p : ℕ × Option ℕ). p.0) old.2, ap (λ (p : ℕ × Option ℕ). p.1) old.2);
  made_shapes = λ sig all. all-update (λ (x : MadeAgent). map (λ (s : MadeSite). s.states) x.sites ≡ state_counts sig x.agent) _ (λ x e. map-update (λ (y : MadeSite). record y { link = w }) (λ (y : MadeSite). y.states) (λ _. refl) x.sites s ∙ e) r.made n all;
}

SameButLinks-then : (r q p : RuleParts) → SameButLinks r q → SameButLinks q p → SameButLinks r p
SameButLinks-then r q p a b = record {
  left = b.left ∙ a.left;
  sites = b.sites ∙ a.sites;
  actions = b.actions ∙ a.actions;
  made = b.made ∙ a.made;
  fates = λ n. b.fates n ∙ a.fates n;
  states = λ n s. b.states n s ∙ a.states n s;
  made_types = λ k. b.made_types k ∙ a.made_types k;
  made_states = λ k s x at.
      let mid = b.made_states k s x at in
      let old = a.made_states k s mid.0 mid.1 in
      (old.0, old.1, old.2 ∙ mid.2, old.3 ∙ mid.3);
  made_shapes = λ sig all. b.made_shapes sig (a.made_shapes sig all);
}

-- the links of a draft
record AreLinks (r : RuleParts) : Type 0 where
  deleted_link : (n s : ℕ) → fate_at r n ≡ Some Deleted → written_link r n s ≡ None
  both_ways : (e f : End) (s t : ℕ) → end_link r e s ≡ Some (To f t) → end_link r f t ≡ Some (To e s)
  apart : (e : End) (s : ℕ) → end_link r e s ≢ Some (To e s)

IsDraft-links : (r q : RuleParts) → IsDraft r → SameButLinks r q → AreLinks q → IsDraft q
IsDraft-links r q ok same links = record {
  left = rw same.left ok.left;
  actions = rw (same.actions, same.left) ok.actions;
  deleted_state = λ n s gone. same.states n s ∙ ok.deleted_state n s (sym (same.fates n) ∙ gone);
  deleted_link = links.deleted_link;
  both_ways = links.both_ways;
  apart = links.apart;
  made_within = λ k s u x at is.
      let old = same.made_states k s x at in
      rw (← old.2) (ok.made_within k s u old.0 old.1 (old.3 ∙ is));
  made_given = λ k s x at some.
      let old = same.made_states k s x at in
      let given = ok.made_given k s old.0 old.1 (rw old.2 some) in
      (given.0, sym old.3 ∙ given.1);
}

HasActions-same : (r q : RuleParts) → HasActions r → q.left ≡ r.left → map (λ (x : NodeAction). length x.sites) q.actions ≡ map (λ (x : NodeAction). length x.sites) r.actions → HasActions q
HasActions-same r q shape left sites = record { sites = sites ∙ shape.sites ∙ ap (map (λ (x : Node). length x.sites)) (sym left); few_sites = λ n x at. shape.few_sites n x (ap (λ (g : List Node). slice_get g n) (sym left) ∙ at) }

HasFewAgents-same : (r q : RuleParts) → HasFewAgents r → length q.left ≡ length r.left → length q.made ≡ length r.made → HasFewAgents q
HasFewAgents-same r q few left made = record { few_left = rw left few.few_left; few_made = rw made few.few_made }

-- ---- drafts over a signature

-- as many actions as the type of a node has sites
pub action_sites : (sig : List TypeEntry) (r : RuleParts) → HasActions r → IsPatternOver sig r.left → (n a : ℕ) (x : NodeAction) → slice_get r.actions n ≡ Some x → agent_at r.left n ≡ Some a → length x.sites ≡ length (state_counts sig a)
unfolding agent_at
action_sites sig r shape over n a x at typed =
    let node = some_map (λ (y : Node). y.agent) (slice_get r.left n) a typed in
    let long : Some (length x.sites) ≡ Some (length node.0.sites) =
    ap (option_map (λ (y : NodeAction). length y.sites)) (sym at) ∙ sym (slice_get-map (λ (y : NodeAction). length y.sites) r.actions n)
    ∙ ap (λ (ks : List ℕ). slice_get ks n) shape.sites ∙ slice_get-map (λ (y : Node). length y.sites) r.left n ∙ ap (option_map (λ (y : Node). length y.sites)) node.1 in
    let same : length x.sites ≡ length node.0.sites = cc in
    same ∙ sym (length-map node.0.sites (λ (y : SiteTests). y.states)) ∙ ap length (over.sites n node.0 node.1) ∙ ap (λ (b : ℕ). length (state_counts sig b)) node.2

-- the count of a site's states
pub site_count : (sig : List TypeEntry) (g : List Node) (n s a : ℕ) (x : SiteTests) → IsPatternOver sig g → agent_at g n ≡ Some a → site_at g n s ≡ Some x → slice_get (state_counts sig a) s ≡ Some x.states
unfolding agent_at site_at
site_count sig g n s a x over typed at =
    let node = some_then (λ (y : Node). slice_get y.sites s) (slice_get g n) x at in
    let same : Some node.0.agent ≡ Some a = ap (option_map (λ (y : Node). y.agent)) (sym node.1) ∙ typed in
    let agent : node.0.agent ≡ a = cc in
    ap (λ (b : ℕ). slice_get (state_counts sig b) s) (sym agent) ∙ ap (λ (ks : List ℕ). slice_get ks s) (sym (over.sites n node.0 node.1)) ∙ slice_get-map (λ (y : SiteTests). y.states) node.0.sites s ∙ ap (option_map (λ (y : SiteTests). y.states)) node.2

IsDraftOver-links : (sig : List TypeEntry) (r q : RuleParts) → HasActions q → SameButLinks r q → IsDraftOver sig r → IsDraftOver sig q
IsDraftOver-links sig r q shape same over = record {
  left = left;
  action_sites = action_sites sig q shape left;
  written_states = λ n s u a typed is. over.written_states n s u a (ap (λ (g : List Node). agent_at g n) (sym same.left) ∙ typed) (sym (same.states n s) ∙ is);
  made_types = λ k a typed. over.made_types k a (sym (same.made_types k) ∙ typed);
  made_sites = same.made_shapes sig over.made_sites;
}
  where
    left : IsPatternOver sig q.left
    left = rw same.left over.left

-- ---- what every draft keeps

abbrev pub IsKept : RuleParts → Type 0
IsKept r = IsDraft r × HasFewAgents r × HasActions r

pub IsKept-of : (r q : RuleParts) → q ≡ r → IsKept r → IsKept q
IsKept-of r q e kept = rw e kept

pub IsDraftOver-of : (sig : List TypeEntry) (r q : RuleParts) → q ≡ r → IsDraftOver sig r → IsDraftOver sig q
IsDraftOver-of sig r q e over = rw e over

IsKept-links : (r q : RuleParts) → IsKept r → SameButLinks r q → AreLinks q → IsKept q
IsKept-links r q kept same links = (IsDraft-links r q kept.0 same links, HasFewAgents-same r q kept.1 (ap length same.left) same.made, HasActions-same r q kept.2 same.left same.sites)

-- ---- a site is made free, or two sites are bound

open_unbound : (r : RuleParts) (e f : End) (s t : ℕ) → IsOpen r e s → end_link r e s ≢ Some (To f t)
unfolding made_link
open_unbound r (Left n) f s t none is = let here : written_link r n s ≡ Some (To f t) = is in cc
open_unbound r (Made k) f s t free is = by (made_site r k s) free is
  where
    by : (o : Option MadeSite) → option_map_or (λ (x : MadeSite). x.link) o Free ≡ Free → option_map (λ (x : MadeSite). x.link) o ≢ Some (To f t)
    by None free' is' = cc
    by (Some x) free' is' = cc

-- no link is written on a deleted node, as its site would be one of a kept node
deleted_link-link : (r : RuleParts) (e : End) (s : ℕ) (w : Written) → HasEndSite r e s → ((n t : ℕ) → fate_at r n ≡ Some Deleted → written_link r n t ≡ None) → (n t : ℕ) → fate_at (with_written_link r e s w) n ≡ Some Deleted → written_link (with_written_link r e s w) n t ≡ None
deleted_link-link r e s w has old n t gone =
    let was : fate_at r n ≡ Some Deleted = sym (fate_at-link r e s w n) ∙ gone in
    elim (same_end_or_not e (Left n) s t) [
      | inl same ↦ absurd (not_kept e same.0 has was)
      | inr ne ↦ end_link-link_other r e (Left n) s t w ne ∙ old n t was
    ]
  where
    not_kept : (f : End) → f ≡ Left n → HasEndSite r f s → fate_at r n ≡ Some Deleted → ⊥
    not_kept (Left k) same kept was = let node : k ≡ n = cc in let here : fate_at r n ≡ Some Kept = rw (← node) kept.0 in cc
    not_kept (Made k) same kept was = cc

HasEndSite-link : (r : RuleParts) (e f : End) (s t : ℕ) (w : Written) → HasEndSite r f t → HasEndSite (with_written_link r e s w) f t
unfolding made_site
HasEndSite-link r e (Left n) s t w has = (fate_at-link r e s w n ∙ has.0, rw ((SameButLinks-link r e s w).left) has.1)
HasEndSite-link r e (Made k) s t w has = HasListed-link r e (Made k) s t w has

AreLinks-free : (r : RuleParts) (e : End) (s : ℕ) → IsKept r → HasEndSite r e s → IsOpen r e s → AreLinks (with_written_link r e s Free)
AreLinks-free r e s kept has unbound = record { deleted_link = deleted_link-link r e s Free has kept.0.deleted_link; both_ways = both; apart = never }
  where
    written : end_link (with_written_link r e s Free) e s ≡ Some Free
    written = end_link-link_same r e s Free (HasListed-end r e s kept.2 has)

    both : (f g : End) (t u : ℕ) → end_link (with_written_link r e s Free) f t ≡ Some (To g u) → end_link (with_written_link r e s Free) g u ≡ Some (To f t)
    both f g t u is =
        elim (same_end_or_not e f s t) [
          | inl same ↦ let free : Some Free ≡ Some (To g u) = sym written ∙ move_link _ e f s t _ same.0 same.1 is in absurd cc
          | inr ne ↦
              let back = kept.0.both_ways f g t u (sym (end_link-link_other r e f s t Free ne) ∙ is) in
              elim (same_end_or_not e g s u) [
                | inl same ↦ absurd (open_unbound r e f s t unbound (rw (same.0, same.1) back))
                | inr other ↦ end_link-link_other r e g s u Free other ∙ back
              ]
        ]

    never : (f : End) (t : ℕ) → end_link (with_written_link r e s Free) f t ≢ Some (To f t)
    never f t is =
        elim (same_end_or_not e f s t) [
          | inl same ↦ let free : Some Free ≡ Some (To f t) = sym written ∙ move_link _ e f s t _ same.0 same.1 is in cc
          | inr ne ↦ kept.0.apart f t (sym (end_link-link_other r e f s t Free ne) ∙ is)
        ]

pub IsKept-free : (r : RuleParts) (e : End) (s : ℕ) → IsKept r → HasEndSite r e s → IsOpen r e s → IsKept (with_written_link r e s Free)
IsKept-free r e s kept has unbound = IsKept-links r _ kept (SameButLinks-link r e s Free) (AreLinks-free r e s kept has unbound)

pub IsDraftOver-free : (sig : List TypeEntry) (r : RuleParts) (e : End) (s : ℕ) → IsKept r → HasEndSite r e s → IsOpen r e s → IsDraftOver sig r → IsDraftOver sig (with_written_link r e s Free)
IsDraftOver-free sig r e s kept has unbound = IsDraftOver-links sig r _ (IsKept-free r e s kept has unbound).2 (SameButLinks-link r e s Free)

module _ (r : RuleParts) (e f : End) (s t : ℕ) (kept : IsKept r) (first : HasEndSite r e s) (second : HasEndSite r f t) (differ : e ≡ f → s ≢ t) (first_open : IsOpen r e s) (second_open : IsOpen r f t) where
  same_but : SameButLinks r (with_written_bond r e s f t)
  same_but = SameButLinks-then r (with_written_link r e s (To f t)) _ (SameButLinks-link r e s (To f t)) (SameButLinks-link (with_written_link r e s (To f t)) f t (To e s))

  link_first : end_link (with_written_bond r e s f t) e s ≡ Some (To f t)
  link_first = end_link-link_other (with_written_link r e s (To f t)) f e t s (To e s) (λ p q. differ (sym p) (sym q)) ∙ end_link-link_same r e s (To f t) (HasListed-end r e s kept.2 first)

  link_second : end_link (with_written_bond r e s f t) f t ≡ Some (To e s)
  link_second = end_link-link_same (with_written_link r e s (To f t)) f t (To e s) (HasListed-link r e f s t (To f t) (HasListed-end r f t kept.2 second))

  link_elsewhere : (g : End) (u : ℕ) → ((e ≡ g) × (s ≡ u)) ⊎ (((f ≡ g) × (t ≡ u)) ⊎ (end_link (with_written_bond r e s f t) g u ≡ end_link r g u))
  link_elsewhere g u =
      elim (same_end_or_not e g s u) [
        | inl same ↦ inl same
        | inr ne ↦ elim (same_end_or_not f g t u) [
          | inl same ↦ inr (inl same)
          | inr ne' ↦ inr (inr (end_link-link_other (with_written_link r e s (To f t)) f g t u (To e s) ne' ∙ end_link-link_other r e g s u (To f t) ne))
        ]
      ]

  AreLinks-bond : AreLinks (with_written_bond r e s f t)
  AreLinks-bond = record {
    deleted_link = deleted_link-link (with_written_link r e s (To f t)) f t (To e s) (HasEndSite-link r e f s t (To f t) second) (deleted_link-link r e s (To f t) first kept.0.deleted_link);
    both_ways = both;
    apart = never;
  }
    where
      back_to : (g h : End) (u v : ℕ) (i : End) (w : ℕ) (j : End) (x : ℕ) → i ≡ h → w ≡ v → j ≡ g → x ≡ u → end_link (with_written_bond r e s f t) i w ≡ Some (To j x) → end_link (with_written_bond r e s f t) h v ≡ Some (To g u)
      back_to g h u v i w j x p q a b is = rw (← p, ← q, ← a, ← b) is

      both : (g h : End) (u v : ℕ) → end_link (with_written_bond r e s f t) g u ≡ Some (To h v) → end_link (with_written_bond r e s f t) h v ≡ Some (To g u)
      both g h u v is =
          elim (link_elsewhere g u) [
            | inl p ↦ let there = one_end f h t v _ link_first (move_link (with_written_bond r e s f t) e g s u _ p.0 p.1 is) in
                back_to g h u v f t e s there.0 there.1 p.0 p.1 link_second
            | inr rest ↦ elim rest [
              | inl p ↦ let there = one_end e h s v _ link_second (move_link (with_written_bond r e s f t) f g t u _ p.0 p.1 is) in
                  back_to g h u v e s f t there.0 there.1 p.0 p.1 link_first
              | inr same ↦
                  let back = kept.0.both_ways g h u v (sym same ∙ is) in
                  elim (link_elsewhere h v) [
                    | inl p ↦ absurd (open_unbound r e g s u first_open (rw (p.0, p.1) back))
                    | inr rest' ↦ elim rest' [
                      | inl p ↦ absurd (open_unbound r f g t u second_open (rw (p.0, p.1) back))
                      | inr same' ↦ same' ∙ back
                    ]
                  ]
            ]
          ]

      never : (g : End) (u : ℕ) → end_link (with_written_bond r e s f t) g u ≢ Some (To g u)
      never g u is =
          elim (link_elsewhere g u) [
            | inl p ↦ let there = one_end f g t u _ link_first (move_link (with_written_bond r e s f t) e g s u _ p.0 p.1 is) in
                differ (p.0 ∙ sym there.0) (p.1 ∙ sym there.1)
            | inr rest ↦ elim rest [
              | inl p ↦ let there = one_end e g s u _ link_second (move_link (with_written_bond r e s f t) f g t u _ p.0 p.1 is) in
                  differ (there.0 ∙ sym p.0) (there.1 ∙ sym p.1)
              | inr same ↦ kept.0.apart g u (sym same ∙ is)
            ]
          ]

  pub IsKept-bond : IsKept (with_written_bond r e s f t)
  IsKept-bond = IsKept-links r _ kept same_but AreLinks-bond

  pub IsDraftOver-bond : (sig : List TypeEntry) → IsDraftOver sig r → IsDraftOver sig (with_written_bond r e s f t)
  IsDraftOver-bond sig = IsDraftOver-links sig r _ IsKept-bond.2 same_but

pub HasListed-second : (r : RuleParts) (e f : End) (s t : ℕ) (w : Written) → HasActions r → HasEndSite r f t → HasListed (with_written_link r e s w).actions (with_written_link r e s w).made f t
HasListed-second r e f s t w shape has = HasListed-link r e f s t w (HasListed-end r f t shape has)

-- ---- a written state

pub fate_at-state : (r : RuleParts) (e : End) (s u n : ℕ) → fate_at (with_written_state r e s u) n ≡ fate_at r n
unfolding fate_at with_written_state
fate_at-state r (Left m) s u n = option_map-update _ (λ (x : NodeAction). x.fate) (λ _. refl) r.actions m n
fate_at-state r (Made k) s u n = refl

pub end_link-state : (r : RuleParts) (e : End) (s u : ℕ) (f : End) (t : ℕ) → end_link (with_written_state r e s u) f t ≡ end_link r f t
unfolding written_link action_at made_site with_written_state
end_link-state r (Left n) s u (Left k) t = then-change (λ (x : NodeAction). x.sites) (λ x ys. record x { sites = ys }) (λ _ _ _. refl) (λ (x : SiteAction). x.link) (λ x. record x { state = Some u }) (λ _. refl) r.actions n s k t
end_link-state r (Left n) s u (Made k) t = refl
end_link-state r (Made n) s u (Left k) t = refl
end_link-state r (Made n) s u (Made k) t = map-change (λ (x : MadeAgent). x.sites) (λ x ys. record x { sites = ys }) (λ _ _ _. refl) (λ (x : MadeSite). x.link) (λ x. record x { state = Some u }) (λ _. refl) r.made n s k t

-- the state that is written at a site now was written there before, or is the new one
written_state-state : (r : RuleParts) (e : End) (s u n t : ℕ) → ((e ≡ Left n) × (s ≡ t)) ⊎ (written_state (with_written_state r e s u) n t ≡ written_state r n t)
unfolding written_state action_at with_written_state
written_state-state r (Left k) s u n t =
    elim (same_end_or_not (Left k) (Left n) s t) [
      | inl same ↦ inl same
      | inr ne ↦ inr (ap (option_and_then (λ (x : SiteAction). x.state)) (at_both-change_other (λ (x : NodeAction). x.sites) (λ x ys. record x { sites = ys }) (λ _ _ _. refl) r.actions k s n t (λ x. record x { state = Some u }) (λ e. ne (ap Left e))))
    ]
written_state-state r (Made k) s u n t = inr refl

written_state-state_same : (r : RuleParts) (n s u v : ℕ) → written_state (with_written_state r (Left n) s u) n s ≡ Some v → u ≡ v
unfolding written_state action_at with_written_state
written_state-state_same r n s u v is = now _ (ap (option_and_then (λ (x : SiteAction). x.state)) (sym (at_both-change_same (λ (x : NodeAction). x.sites) (λ x ys. record x { sites = ys }) (λ _ _ _. refl) r.actions n s (λ x. record x { state = Some u }))) ∙ is)
  where
    now : (o : Option SiteAction) → option_and_then (λ (x : SiteAction). x.state) (option_map (λ (x : SiteAction). record x { state = Some u }) o) ≡ Some v → u ≡ v
    now None e = absurd cc
    now (Some x) e = cc

-- a created site was there before, with the same states, and with the same state but where the new one is
made_site-state : (r : RuleParts) (e : End) (s u k t : ℕ) (x : MadeSite) → made_site (with_written_state r e s u) k t ≡ Some x → (y : MadeSite) × (made_site r k t ≡ Some y) × (y.states ≡ x.states) × ((y.state ≡ x.state) ⊎ ((e ≡ Made k) × (s ≡ t) × (x.state ≡ Some u)))
unfolding made_site with_written_state
made_site-state r (Left n) s u k t x at = (x, at, refl, inl refl)
made_site-state r (Made n) s u k t x at =
    elim (same_end_or_not (Made n) (Made k) s t) [
      | inl same ↦
          let agent : n ≡ k = cc in
          let here : option_and_then (λ (a : MadeAgent). slice_get a.sites s) (slice_get (change_made r.made n s (λ y. record y { state = Some u })) n) ≡ Some x = move_made (with_written_state r (Made n) s u) n k s t (Some x) agent same.1 at in
          let old = some_map (λ (y : MadeSite). record y { state = Some u }) (option_and_then (λ (a : MadeAgent). slice_get a.sites s) (slice_get r.made n)) x
          (sym (at_both-change_same (λ (a : MadeAgent). a.sites) (λ a ys. record a { sites = ys }) (λ _ _ _. refl) r.made n s (λ y. record y { state = Some u })) ∙ here) in
          (old.0, move_made r k n t s (Some old.0) (sym agent) (sym same.1) old.1, ap (λ (y : MadeSite). y.states) old.2, inr (same.0, same.1, ap (λ (y : MadeSite). y.state) (sym old.2)))
      | inr ne ↦
          (x, sym (at_both-change_other (λ (a : MadeAgent). a.sites) (λ a ys. record a { sites = ys }) (λ _ _ _. refl) r.made n s k t (λ y. record y { state = Some u }) (λ e. ne (ap Made e))) ∙ at, refl, inl refl)
    ]

pub left-state : (r : RuleParts) (e : End) (s u : ℕ) → (with_written_state r e s u).left ≡ r.left
unfolding with_written_state
left-state r e s u = refl

length_actions-state : (r : RuleParts) (e : End) (s u : ℕ) → length (with_written_state r e s u).actions ≡ length r.actions
unfolding with_written_state
length_actions-state r (Left n) s u = length-update r.actions n _
length_actions-state r (Made n) s u = refl

length_made-state : (r : RuleParts) (e : End) (s u : ℕ) → length (with_written_state r e s u).made ≡ length r.made
unfolding with_written_state
length_made-state r (Left n) s u = refl
length_made-state r (Made n) s u = length-update r.made n _

sites-state : (r : RuleParts) (e : End) (s u : ℕ) → map (λ (x : NodeAction). length x.sites) (with_written_state r e s u).actions ≡ map (λ (x : NodeAction). length x.sites) r.actions
unfolding with_written_state
sites-state r (Left n) s u = lengths-change (λ (x : NodeAction). x.sites) (λ x ys. record x { sites = ys }) (λ _ _ _. refl) r.actions n s (λ x. record x { state = Some u })
sites-state r (Made n) s u = refl

pub IsKept-state : (r : RuleParts) (e : End) (s u : ℕ) → IsKept r → HasEndSite r e s → HasEndState r e s u → IsKept (with_written_state r e s u)
IsKept-state r e s u kept has state = (
  record {
    left = rw (left-state r e s u) kept.0.left;
    actions = rw (length_actions-state r e s u, left-state r e s u) kept.0.actions;
    deleted_state = deleted;
    deleted_link = λ n t gone. end_link-state r e s u (Left n) t ∙ kept.0.deleted_link n t (sym (fate_at-state r e s u n) ∙ gone);
    both_ways = λ f g t v is. end_link-state r e s u g v ∙ kept.0.both_ways f g t v (sym (end_link-state r e s u f t) ∙ is);
    apart = λ f t is. kept.0.apart f t (sym (end_link-state r e s u f t) ∙ is);
    made_within = within;
    made_given = given;
  },
  HasFewAgents-same r _ kept.1 (ap length (left-state r e s u)) (length_made-state r e s u),
  HasActions-same r _ kept.2 (left-state r e s u) (sites-state r e s u),
)
  where
    not_kept : (f : End) (n : ℕ) → f ≡ Left n → HasEndSite r f s → fate_at r n ≡ Some Deleted → ⊥
    not_kept (Left k) n same alive was = let node : k ≡ n = cc in let here : fate_at r n ≡ Some Kept = rw (← node) alive.0 in cc
    not_kept (Made k) n same alive was = cc

    deleted : (n t : ℕ) → fate_at (with_written_state r e s u) n ≡ Some Deleted → written_state (with_written_state r e s u) n t ≡ None
    deleted n t gone =
        let was : fate_at r n ≡ Some Deleted = sym (fate_at-state r e s u n) ∙ gone in
        elim (written_state-state r e s u n t) [
          | inl same ↦ absurd (not_kept e n same.0 has was)
          | inr same ↦ same ∙ kept.0.deleted_state n t was
        ]

    counted : (k t c : ℕ) (y : MadeSite) → e ≡ Made k → s ≡ t → made_site r k t ≡ Some y → end_states r e s ≡ Some c → y.states ≡ c
    counted k t c y same site at is =
        let here : option_map (λ (x : MadeSite). x.states) (made_site r k t) ≡ Some c = rw (same, site) at is in
        let there : Some y.states ≡ Some c = sym (ap (option_map (λ (x : MadeSite). x.states)) at) ∙ here in cc

    within : (k t v : ℕ) (x : MadeSite) → made_site (with_written_state r e s u) k t ≡ Some x → x.state ≡ Some v → v < x.states
    within k t v x at is =
        let old = made_site-state r e s u k t x at in
        elim old.3 [
          | inl same ↦ rw (← old.2) (kept.0.made_within k t v old.0 old.1 (same ∙ is))
          | inr new ↦
              let value : u ≡ v = cc in
              let count = counted k t state.0 old.0 new.0 new.1 old.1 state.1 in
              rw (← old.2, count, ← value) state.2
        ]

    given : (k t : ℕ) (x : MadeSite) → made_site (with_written_state r e s u) k t ≡ Some x → 0 < x.states → (v : ℕ) × (x.state ≡ Some v)
    given k t x at some =
        let old = made_site-state r e s u k t x at in
        elim old.3 [
          | inl same ↦ let was = kept.0.made_given k t old.0 old.1 (rw old.2 some) in (was.0, sym same ∙ was.1)
          | inr new ↦ (u, new.2)
        ]

pub IsDraftOver-state : (sig : List TypeEntry) (r : RuleParts) (e : End) (s u : ℕ) → IsKept r → HasEndSite r e s → HasEndState r e s u → IsDraftOver sig r → IsDraftOver sig (with_written_state r e s u)
unfolding with_written_state made_type written_state action_at
IsDraftOver-state sig r (Left n) s u kept has state over = record {
  left = over.left;
  action_sites = action_sites sig _ (IsKept-state r (Left n) s u kept has state).2 over.left;
  written_states = λ k t v a typed is.
      elim (written_state-state r (Left n) s u k t) [
        | inl same ↦
            let node : n ≡ k = cc in
            let here : written_state (with_written_state r (Left n) s u) n s ≡ Some v = move_state (with_written_state r (Left n) s u) n k s t (Some v) node same.1 is in
            let value : u ≡ v = written_state-state_same r n s u v here in
            let site = some_map (λ (x : SiteTests). x.states) (site_at r.left n s) state.0 state.1 in
            (state.0, rw (← same.1) (site_count sig r.left n s a site.0 over.left (rw node typed) site.1 ∙ ap Some site.2), rw (← value) state.2)
        | inr same ↦ over.written_states k t v a typed (sym same ∙ is)
      ];
  made_types = over.made_types;
  made_sites = over.made_sites;
}
IsDraftOver-state sig r (Made n) s u kept has state over = record {
  left = over.left;
  action_sites = over.action_sites;
  written_states = λ k t v a typed is. over.written_states k t v a typed is;
  made_types = λ k a typed. over.made_types k a (sym (option_map-update _ (λ (x : MadeAgent). x.agent) (λ _. refl) r.made n k) ∙ typed);
  made_sites = all-update (λ (x : MadeAgent). map (λ (y : MadeSite). y.states) x.sites ≡ state_counts sig x.agent) _ (λ x e. map-update (λ (y : MadeSite). record y { state = Some u }) (λ (y : MadeSite). y.states) (λ _. refl) x.sites s ∙ e) r.made n over.made_sites;
}

-- ---- a deleted node

pub fate_at-deleted : (r : RuleParts) (n k : ℕ) → fate_at (with_deleted r n) k ≡ Some Deleted → (n ≡ k) ⊎ (fate_at r k ≡ Some Deleted)
unfolding fate_at with_deleted
fate_at-deleted r n k gone =
    elim (same_or_not n k) [
      | inl same ↦ inl same
      | inr ne ↦ inr (ap (option_map (λ (x : NodeAction). x.fate)) (sym (slice_get-update_other r.actions n k delete_node ne)) ∙ gone)
    ]

action_at-deleted : (r : RuleParts) (n k s : ℕ) → action_at (with_deleted r n) k s ≡ action_at r k s
unfolding action_at with_deleted
action_at-deleted r n k s = option_then-update delete_node (λ (x : NodeAction). slice_get x.sites s) (λ _. refl) r.actions n k

pub written_state-deleted : (r : RuleParts) (n k s : ℕ) → written_state (with_deleted r n) k s ≡ written_state r k s
unfolding written_state
written_state-deleted r n k s = ap (option_and_then (λ (x : SiteAction). x.state)) (action_at-deleted r n k s)

pub written_link-deleted : (r : RuleParts) (n k s : ℕ) → written_link (with_deleted r n) k s ≡ written_link r k s
unfolding written_link
written_link-deleted r n k s = ap (option_and_then (λ (x : SiteAction). x.link)) (action_at-deleted r n k s)

end_link-deleted : (r : RuleParts) (n : ℕ) (e : End) (s : ℕ) → end_link (with_deleted r n) e s ≡ end_link r e s
unfolding made_site with_deleted
end_link-deleted r n (Left k) s = written_link-deleted r n k s
end_link-deleted r n (Made k) s = refl

unwritten_at : (r : RuleParts) (n k s : ℕ) → IsUnwritten r n → n ≡ k → (written_state r k s ≡ None) × (written_link r k s ≡ None)
unwritten_at r n k s none same = rw (← same) (none s)

pub IsKept-deleted : (r : RuleParts) (n : ℕ) → IsKept r → IsUnwritten r n → IsKept (with_deleted r n)
unfolding with_deleted made_site
IsKept-deleted r n kept none = (
  record {
    left = kept.0.left;
    actions = length-update r.actions n delete_node ∙ kept.0.actions;
    deleted_state = λ k s gone. written_state-deleted r n k s ∙ elim (fate_at-deleted r n k gone) [
      | inl same ↦ (unwritten_at r n k s none same).0
      | inr was ↦ kept.0.deleted_state k s was
    ];
    deleted_link = λ k s gone. written_link-deleted r n k s ∙ elim (fate_at-deleted r n k gone) [
      | inl same ↦ (unwritten_at r n k s none same).1
      | inr was ↦ kept.0.deleted_link k s was
    ];
    both_ways = λ e f s t is. end_link-deleted r n f t ∙ kept.0.both_ways e f s t (sym (end_link-deleted r n e s) ∙ is);
    apart = λ e s is. kept.0.apart e s (sym (end_link-deleted r n e s) ∙ is);
    made_within = kept.0.made_within;
    made_given = kept.0.made_given;
  },
  HasFewAgents-same r _ kept.1 refl refl,
  HasActions-same r _ kept.2 refl (map-update delete_node (λ (x : NodeAction). length x.sites) (λ _. refl) r.actions n),
)

pub IsDraftOver-deleted : (sig : List TypeEntry) (r : RuleParts) (n : ℕ) → IsKept r → IsUnwritten r n → IsDraftOver sig r → IsDraftOver sig (with_deleted r n)
unfolding with_deleted made_type
IsDraftOver-deleted sig r n kept none over = record {
  left = over.left;
  action_sites = action_sites sig _ (IsKept-deleted r n kept none).2 over.left;
  written_states = λ k s u a typed is. over.written_states k s u a typed (sym (written_state-deleted r n k s) ∙ is);
  made_types = over.made_types;
  made_sites = over.made_sites;
}

-- ---- one more created agent

made_site-made : (r : RuleParts) (x : MadeAgent) (k s : ℕ) (y : MadeSite) → made_site (with_made r x) k s ≡ Some y → (made_site r k s ≡ Some y) ⊎ (slice_get x.sites s ≡ Some y)
unfolding made_site with_made
made_site-made r x k s y at =
    let agent = some_then (λ (a : MadeAgent). slice_get a.sites s) (slice_get (r.made ++ x ∷ []) k) y at in
    elim (pushed_or r.made x agent.0 k agent.1) [
      | inl old ↦ inl (ap (option_and_then (λ (a : MadeAgent). slice_get a.sites s)) old ∙ agent.2)
      | inr new ↦ inr (ap (λ (a : MadeAgent). slice_get a.sites s) (sym new) ∙ agent.2)
    ]

made_site-made_old : (r : RuleParts) (x : MadeAgent) (k s : ℕ) (y : MadeSite) → made_site r k s ≡ Some y → made_site (with_made r x) k s ≡ Some y
unfolding made_site with_made
made_site-made_old r x k s y at =
    let agent = some_then (λ (a : MadeAgent). slice_get a.sites s) (slice_get r.made k) y at in
    ap (option_and_then (λ (a : MadeAgent). slice_get a.sites s)) (slice_get-pushed r.made x agent.0 k agent.1) ∙ agent.2

-- a new site is free, in one of its states
new_site-within : (k u : ℕ) → first_state k ≡ Some u → u < k
new_site-within zero u e = absurd cc
new_site-within (suc k) u e = let first : u ≡ zero = cc in omega arith

new_site-given : (k : ℕ) → 0 < k → (u : ℕ) × (first_state k ≡ Some u)
new_site-given zero some = absurd (omega arith)
new_site-given (suc k) some = (zero, refl)

new_sites : (sig : List TypeEntry) (a s : ℕ) (y : MadeSite) → slice_get (new_agent sig a).sites s ≡ Some y → (k : ℕ) × (new_site k ≡ y)
new_sites sig a s y at =
    let count = some_map new_site (slice_get (state_counts sig a) s) y (sym (slice_get-map new_site (state_counts sig a) s) ∙ at) in
    (count.0, count.2)

new_shape : (counts : List ℕ) → map (λ (x : MadeSite). x.states) (map new_site counts) ≡ counts
new_shape [] = refl
new_shape (k ∷ counts) = ap (λ ks. k ∷ ks) (new_shape counts)

module _ (sig : List TypeEntry) (r : RuleParts) (a : ℕ) where
  -- a bond at an end after the new agent was there before
  bond_before : (e f : End) (s t : ℕ) → end_link (with_made r (new_agent sig a)) e s ≡ Some (To f t) → end_link r e s ≡ Some (To f t)
  unfolding written_link action_at with_made
  bond_before (Left n) f s t is = is
  bond_before (Made k) f s t is =
      let site = some_map (λ (x : MadeSite). x.link) (made_site (with_made r (new_agent sig a)) k s) (To f t) is in
      elim (made_site-made r (new_agent sig a) k s site.0 site.1) [
        | inl old ↦ ap (option_map (λ (x : MadeSite). x.link)) old ∙ ap Some site.2
        | inr new ↦ let count = new_sites sig a s site.0 new in
            let free : Free ≡ To f t = ap (λ (x : MadeSite). x.link) count.1 ∙ site.2 in absurd cc
      ]

  bond_after : (e f : End) (s t : ℕ) → end_link r e s ≡ Some (To f t) → end_link (with_made r (new_agent sig a)) e s ≡ Some (To f t)
  unfolding written_link action_at with_made
  bond_after (Left n) f s t is = is
  bond_after (Made k) f s t is =
      let site = some_map (λ (x : MadeSite). x.link) (made_site r k s) (To f t) is in
      ap (option_map (λ (x : MadeSite). x.link)) (made_site-made_old r (new_agent sig a) k s site.0 site.1) ∙ ap Some site.2

  fate_at-made : (n : ℕ) → fate_at (with_made r (new_agent sig a)) n ≡ fate_at r n
  unfolding fate_at with_made
  fate_at-made n = refl

  written_state-made : (n s : ℕ) → written_state (with_made r (new_agent sig a)) n s ≡ written_state r n s
  unfolding written_state action_at with_made
  written_state-made n s = refl

  written_link-made : (n s : ℕ) → written_link (with_made r (new_agent sig a)) n s ≡ written_link r n s
  unfolding written_link action_at with_made
  written_link-made n s = refl

  made_within-made : IsDraft r → (k s u : ℕ) (x : MadeSite) → made_site (with_made r (new_agent sig a)) k s ≡ Some x → x.state ≡ Some u → u < x.states
  made_within-made ok k s u x at is =
      elim (made_site-made r (new_agent sig a) k s x at) [
        | inl old ↦ ok.made_within k s u x old is
        | inr new ↦ let count = new_sites sig a s x new in
            let states : count.0 ≡ x.states = ap (λ (y : MadeSite). y.states) count.1 in
            rw (← states) (new_site-within count.0 u (ap (λ (y : MadeSite). y.state) count.1 ∙ is))
      ]

  made_given-made : IsDraft r → (k s : ℕ) (x : MadeSite) → made_site (with_made r (new_agent sig a)) k s ≡ Some x → 0 < x.states → (u : ℕ) × (x.state ≡ Some u)
  made_given-made ok k s x at some =
      elim (made_site-made r (new_agent sig a) k s x at) [
        | inl old ↦ ok.made_given k s x old some
        | inr new ↦ let count = new_sites sig a s x new in
            let states : count.0 ≡ x.states = ap (λ (y : MadeSite). y.states) count.1 in
            let given = new_site-given count.0 (rw states some) in
            (given.0, ap (λ (y : MadeSite). y.state) (sym count.1) ∙ given.1)
      ]

  pub IsKept-made : IsKept r → length r.made < 12 → IsKept (with_made r (new_agent sig a))
  unfolding with_made
  IsKept-made kept room = (
    record {
      left = kept.0.left;
      actions = kept.0.actions;
      deleted_state = λ n s gone. written_state-made n s ∙ kept.0.deleted_state n s (sym (fate_at-made n) ∙ gone);
      deleted_link = λ n s gone. written_link-made n s ∙ kept.0.deleted_link n s (sym (fate_at-made n) ∙ gone);
      both_ways = λ e f s t is. bond_after f e t s (kept.0.both_ways e f s t (bond_before e f s t is));
      apart = λ e s is. kept.0.apart e s (bond_before e e s s is);
      made_within = made_within-made kept.0;
      made_given = made_given-made kept.0;
    },
    record { few_left = kept.1.few_left; few_made = rw (length-append r.made (new_agent sig a ∷ [])) (omega arith) },
    HasActions-same r _ kept.2 refl refl,
  )

  pub IsDraftOver-made : a < length sig → IsDraftOver sig r → IsDraftOver sig (with_made r (new_agent sig a))
  unfolding with_made made_type
  IsDraftOver-made known over = record {
    left = over.left;
    action_sites = over.action_sites;
    written_states = λ n s u b typed is. over.written_states n s u b typed (sym (written_state-made n s) ∙ is);
    made_types = λ k b typed.
        let agent = some_map (λ (x : MadeAgent). x.agent) (slice_get (r.made ++ new_agent sig a ∷ []) k) b typed in
        elim (pushed_or r.made (new_agent sig a) agent.0 k agent.1) [
          | inl old ↦ over.made_types k b (ap (option_map (λ (x : MadeAgent). x.agent)) old ∙ ap Some agent.2)
          | inr new ↦ let type : a ≡ b = ap (λ (x : MadeAgent). x.agent) (sym new) ∙ agent.2 in rw (← type) known
        ];
    made_sites = λ k x at.
        elim (pushed_or r.made (new_agent sig a) x k at) [
          | inl old ↦ over.made_sites k x old
          | inr new ↦ rw new (new_shape (state_counts sig a))
        ];
  }

-- ---- the draft that writes nothing

none_written : (k s : ℕ) → (option_and_then (λ (x : SiteAction). x.state) (slice_get (replicate k no_action) s) ≡ None) × (option_and_then (λ (x : SiteAction). x.link) (slice_get (replicate k no_action) s) ≡ None)
none_written zero s = (refl, refl)
none_written (suc k) zero = (refl, refl)
none_written (suc k) (suc s) = none_written k s

pub new_written : (left : List Node) (n s : ℕ) → (option_and_then (λ (x : SiteAction). x.state) (option_and_then (λ (x : NodeAction). slice_get x.sites s) (slice_get (map keep_node left) n)) ≡ None) × (option_and_then (λ (x : SiteAction). x.link) (option_and_then (λ (x : NodeAction). slice_get x.sites s) (slice_get (map keep_node left) n)) ≡ None)
new_written [] n s = (refl, refl)
new_written (x ∷ left) zero s = none_written (length x.sites) s
new_written (x ∷ left) (suc n) s = new_written left n s

new_lengths : (left : List Node) → map (λ (x : NodeAction). length x.sites) (map keep_node left) ≡ map (λ (x : Node). length x.sites) left
new_lengths [] = refl
new_lengths (x ∷ left) = rw (length-replicate (length x.sites) no_action, new_lengths left)

pub IsKept-new : (name : List ℕ) (left : List Node) → IsPattern left → length left ≤ 12 → ((n : ℕ) (x : Node) → slice_get left n ≡ Some x → length x.sites ≤ 32) → IsKept (new_draft name left)
unfolding new_draft written_state written_link action_at made_site
IsKept-new name left pattern few sites = (
  record {
    left = pattern;
    actions = length-map left keep_node;
    deleted_state = λ n s gone. (new_written left n s).0;
    deleted_link = λ n s gone. (new_written left n s).1;
    both_ways = λ e f s t is. absurd (no_link e f s t is);
    apart = λ e s is. no_link e e s s is;
    made_within = λ k s u x at is. absurd cc;
    made_given = λ k s x at some. absurd cc;
  },
  record { few_left = few; few_made = omega arith },
  record { sites = new_lengths left; few_sites = sites },
)
  where
    no_link : (e f : End) (s t : ℕ) → end_link (record { name = name; left = left; actions = map keep_node left; made = [] }) e s ≢ Some (To f t)
    no_link (Left n) f s t is = let none = (new_written left n s).1 in cc
    no_link (Made k) f s t is = cc

pub IsDraftOver-new : (sig : List TypeEntry) (name : List ℕ) (left : List Node) → IsPatternOver sig left → IsKept (new_draft name left) → IsDraftOver sig (new_draft name left)
unfolding new_draft written_state action_at made_type
IsDraftOver-new sig name left over kept = record {
  left = over;
  action_sites = action_sites sig _ kept.2 over;
  written_states = λ n s u a typed is. let none = (new_written left n s).0 in absurd cc;
  made_types = λ k a typed. absurd cc;
  made_sites = λ k x at. absurd cc;
}

-- a left node, and how many sites it has
pub node_sites : (sig : List TypeEntry) (left : List Node) (n a count : ℕ) → IsPatternOver sig left → agent_at left n ≡ Some a → count ≡ length (sites_of sig a) → (x : Node) × (slice_get left n ≡ Some x) × (length x.sites ≡ count)
unfolding agent_at state_counts
node_sites sig left n a count over typed is =
    let node = some_map (λ (x : Node). x.agent) (slice_get left n) a typed in
    (node.0, node.1, sym (length-map node.0.sites (λ (x : SiteTests). x.states)) ∙ ap length (over.sites n node.0 node.1) ∙ length-map (sites_of sig node.0.agent) (λ (x : SiteEntry). length x.states) ∙ ap (λ (b : ℕ). length (sites_of sig b)) node.2 ∙ sym is)

pub kept_next : (left : List Node) (n count : ℕ) (x : Node) (actions : List NodeAction) (sites : List SiteAction) → actions ≡ map keep_node (take n left) → slice_get left n ≡ Some x → length x.sites ≡ count → sites ≡ replicate count no_action → actions ++ record { fate = Kept; sites = sites } ∷ [] ≡ map keep_node (take (n + 1) left)
kept_next left n count x actions sites so_far at long is = rw (add-one, take-next left n x at, map-push keep_node, so_far, is, long)

pub few_next : (left : List Node) (n count : ℕ) (x : Node) → ((k : ℕ) (y : Node) → k < n → slice_get left k ≡ Some y → length y.sites ≤ 32) → slice_get left n ≡ Some x → length x.sites ≡ count → count ≤ 32 → (k : ℕ) (y : Node) → k < n + 1 → slice_get left k ≡ Some y → length y.sites ≤ 32
few_next left n count x so_far at long few k y below here =
    elim (same_or_not k n) [
      | inl same ↦ let node : Some x ≡ Some y = sym at ∙ (rw (← same) here) in let e : x ≡ y = cc in rw (← e, long) few
      | inr ne ↦ so_far k y (omega arith) here
    ]

-- ---- half bonds

both_or_neither : (a b : Bool) → (a ≡ false → b ≡ true → ⊥) → (b ≡ false → a ≡ true → ⊥) → a ≡ b
both_or_neither true true not not' = refl
both_or_neither false false not not' = refl
both_or_neither false true not not' = absurd (not refl refl)
both_or_neither true false not not' = absurd (not' refl refl)

pub HasWholeBonds-none : (r : RuleParts) → IsPattern r.left → ((n s : ℕ) → ¬ IsHalfBond r n s) → HasWholeBonds r
HasWholeBonds-none r pattern none n s m t bond = both_or_neither (touched r n s) (touched r m t) (λ a b. none n s (m, t, bond, a, b)) (λ b a. none m t (n, s, pattern.both_ways n s m t bond, b, a))

-- a site with a half bond is there
pub half_site : (r : RuleParts) (n s : ℕ) → IsHalfBond r n s → HasNodeSite r.left n s
unfolding link_test
half_site r n s half = by (site_at r.left n s) half.2
  where
    by : (o : Option SiteTests) → option_map_or (λ (x : SiteTests). x.link) o Any ≡ To half.0 half.1 → IsSome o
    by None bond = absurd cc
    by (Some x) bond = refl

pub half_within : (r : RuleParts) (n s : ℕ) → IsHalfBond r n s → n < length r.left
half_within r n s half = node_bound r.left n s (half_site r n s half)

-- a left node of a draft has so many sites
sites_of_node : (g : List Node) (n : ℕ) (y : Node) (k : ℕ) → slice_get g n ≡ Some y → length y.sites ≡ k → (s : ℕ) → ((s < k) ↔ HasNodeSite g n s)
unfolding site_at
sites_of_node g n y k at long s = rw (at, ← long) (some_below y.sites s)

pub sites_listed : (r : RuleParts) (n : ℕ) (x : NodeAction) → HasActions r → slice_get r.actions n ≡ Some x → ((s : ℕ) → ((s < length x.sites) ↔ HasNodeSite r.left n s)) × (length x.sites ≤ 32)
sites_listed r n x shape at =
    let long : option_map (λ (y : Node). length y.sites) (slice_get r.left n) ≡ Some (length x.sites) =
    sym (slice_get-map (λ (y : Node). length y.sites) r.left n) ∙ ap (λ (ks : List ℕ). slice_get ks n) (sym shape.sites)
    ∙ slice_get-map (λ (y : NodeAction). length y.sites) r.actions n ∙ ap (option_map (λ (y : NodeAction). length y.sites)) at in
    let node = some_map (λ (y : Node). length y.sites) (slice_get r.left n) (length x.sites) long in
    (sites_of_node r.left n node.0 (length x.sites) node.1 node.2, (let few = shape.few_sites n node.0 node.1 in let same = node.2 in omega arith))

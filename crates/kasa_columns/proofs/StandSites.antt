-- Which sites an agent with a stand has, and what a rule writes there.
use Rattle.std.proofs.Common.{◌≡◌, ℕ, ◌+◌, ◌<◌, ◌≤◌, ◌↔◌, inl, inr, List, [], ◌∷◌, ◌++◌, refl, sym, ap, ◌∙◌, length, arith, Option, Some, None}
use Rattle.std.specs.Prelude.{slice_get, IsSome, option_map, option_and_then}
use Rattle.std.specs.Option.{option_map_or}
use Rattle.std.proofs.lemmas.List.{length-map}
use Rattle.std.proofs.lemmas.Option.{slice_get_within, slice_get_past}
use Rattle.kasa_graph.specs.declared.pattern.Node.{Node}
use Rattle.kasa_graph.specs.Lists.{Has}
use Rattle.kasa_graph.specs.Signature.{TypeEntry, state_counts, HasSite}
use Rattle.kasa_graph.specs.Pattern.{agent_at, HasNodeSite}
use Rattle.kasa_graph.proofs.ListLemmas.{some_at, some_map, some_then, pushed_or, Has-left, Has-right}
use Rattle.kasa_graph.proofs.ShapeLemmas.{agent_at-node}
use Rattle.kasa_graph.proofs.SiteLemmas.{HasNodeSite-over}
use Rattle.kasa_graph.proofs.PatternLemmas.{node_bound}
use Rattle.kasa_families.specs.declared.row.LocalLink.TheVariants.{Partner}
use Rattle.kasa_families.specs.declared.row.Local.{Local}
use Rattle.kasa_rules.specs.declared.rule.SiteAction.{SiteAction}
use Rattle.kasa_rules.specs.declared.rule.NodeAction.{NodeAction}
use Rattle.kasa_rules.specs.declared.rule.MadeSite.{MadeSite}
use Rattle.kasa_rules.specs.declared.rule.MadeAgent.{MadeAgent}
use Rattle.kasa_rules.specs.declared.rule.Written.TheVariants as written
use Rattle.kasa_rules.specs.Rule.{RuleParts, IsRuleOver, action_at, written_state, written_link, made_type, made_site, made_state, made_link}
use Rattle.kasa_pre.specs.declared.Stand.{Stand}
use Rattle.kasa_pre.specs.declared.Stand.TheVariants.{Left, Made, Outside}
use Rattle.kasa_pre.specs.declared.FreedBy.{FreedBy}
use Rattle.kasa_pre.specs.Before.{state_written, link_written}
use Rattle.kasa_pre.specs.Asked.{HasStandSite}
use Rattle.kasa_pre.proofs.AskedLemmas.{made_site_exists}
use Rattle.kasa_families.specs.declared.shape.NodeSite.{NodeSite}
use Rattle.kasa_columns.specs.Comes.{IsSource}
use Rattle.kasa_columns.proofs.Pushing.{last_or}
use Rattle.kasa_columns.specs.Outcomes.{IsTouchedPartner, IsTouchedFor, link_of_no_site}

-- ---- types

pub agent_at-past : (g : List Node) (n : ℕ) → length g ≤ n → agent_at g n ≡ None
unfolding agent_at
agent_at-past g n past = ap (option_map (λ (node : Node). node.agent)) (slice_get_past g n past)

pub made_type-past : (r : RuleParts) (k : ℕ) → length r.made ≤ k → made_type r k ≡ None
unfolding made_type
made_type-past r k past = ap (option_map (λ (x : MadeAgent). x.agent)) (slice_get_past r.made k past)

-- ---- sites

module _ (sig : List TypeEntry) (r : RuleParts) (over : IsRuleOver sig r) where
  action_site : (n s : ℕ) (x : SiteAction) → action_at r n s ≡ Some x → HasNodeSite r.left n s
  unfolding action_at
  action_site n s x e =
      let a = some_then (λ (a : NodeAction). slice_get a.sites s) (slice_get r.actions n) x e in
      let within : n < length r.left = rw (← over.is_rule.draft.actions) (slice_get_within r.actions n a.0 a.1) in
      let node = some_at r.left n within in
      let typed = agent_at-node r.left n node.0 node.1 in
      HasNodeSite-over sig r.left over.left n node.0.agent s typed (rw (← over.action_sites n node.0.agent a.0 a.1 typed) (slice_get_within a.0.sites s x a.2))

  no_action : (n s : ℕ) → ¬ HasNodeSite r.left n s → action_at r n s ≡ None
  no_action n s missing = by (action_at r n s) refl
    where
      by : (o : Option SiteAction) → action_at r n s ≡ o → action_at r n s ≡ None
      by None e = e
      by (Some x) e = absurd (missing (action_site n s x e))

  -- a created agent has the sites of its type, and no others
  made_site_of_type : (k a s : ℕ) → made_type r k ≡ Some a → IsSome (made_site r k s) → HasSite sig a s
  unfolding made_type made_site
  made_site_of_type k a s typed has =
      let x = some_map (λ (x : MadeAgent). x.agent) (slice_get r.made k) a typed in
      let count : length x.0.sites ≡ length (state_counts sig a) = sym (length-map x.0.sites (λ (y : MadeSite). y.states)) ∙ ap length (over.made_sites k x.0 x.1) ∙ ap (λ (b : ℕ). length (state_counts sig b)) x.2 in
      rw (← count) (within x.0.sites (rw x.1 at has))
    where
      within : (sites : List MadeSite) → IsSome (slice_get sites s) → s < length sites
      within sites some = by (slice_get sites s) refl some
        where
          by : (o : Option MadeSite) → slice_get sites s ≡ o → IsSome o → s < length sites
          by None e some = absurd cc
          by (Some y) e some = slice_get_within sites s y e

  pub made_sites_of_type : (k a s : ℕ) → made_type r k ≡ Some a → HasSite sig a s ↔ IsSome (made_site r k s)
  made_sites_of_type k a s typed = (made_site_exists sig r over k a s typed, made_site_of_type k a s typed)

  no_made_site : (k s : ℕ) → ¬ IsSome (made_site r k s) → made_site r k s ≡ None
  no_made_site k s missing = by (made_site r k s) missing
    where
      by : (o : Option MadeSite) → ¬ IsSome o → o ≡ None
      by None missing = refl
      by (Some x) missing = absurd (missing refl)

  -- at no site nothing is written
  pub state_of_no_site : (stand : Stand) (s : ℕ) → ¬ HasStandSite r stand s → state_written r stand s ≡ None
  unfolding written_state made_state
  state_of_no_site (Left n) s missing = ap (option_and_then (λ (x : SiteAction). x.state)) (no_action n s missing)
  state_of_no_site (Made k) s missing = ap (option_and_then (λ (x : MadeSite). x.state)) (no_made_site k s missing)
  state_of_no_site Outside s missing = refl

  pub link_of_missing : (stand : Stand) (s : ℕ) → ¬ HasStandSite r stand s → link_written r stand s ≡ link_of_no_site stand
  unfolding written_link made_link
  link_of_missing (Left n) s missing = ap (option_and_then (λ (x : SiteAction). x.link)) (no_action n s missing)
  link_of_missing (Made k) s missing = ap (λ (o : Option MadeSite). Some (option_map_or (λ (x : MadeSite). x.link) o written.Free)) (no_made_site k s missing)
  link_of_missing Outside s missing = refl

-- ---- sources

-- where nothing is written, the touched sites that the partner may be are the sources
sources-touched : (r : RuleParts) (stand : Stand) (c : NodeSite) (a y : ℕ) (l : Local) → link_written r stand c.site ≡ None → l.link ≡ Partner a y → (f : FreedBy) → IsTouchedFor r c a y f ↔ IsSource r stand c l f
sources-touched r stand c a y l unwritten partner f = (there, back)
  where
    there : IsTouchedFor r c a y f → IsSource r stand c l f
    there (node, site, at, (typed, exists, touch)) = record { node = node; site = site; unwritten = unwritten; exists = rw at exists; by_touched = rw at touch; agent = a; typed = typed; partner = rw at partner }

    back : IsSource r stand c l f → IsTouchedFor r c a y f
    back source =
        let same : Partner a y ≡ Partner source.agent f.«at» = sym partner ∙ source.partner in
        let agent : source.agent ≡ a = cc in
        let at : f.«at» ≡ y = cc in
        (source.node, source.site, at, (source.typed ∙ ap Some agent, rw at at source.exists, rw at at source.by_touched))

pub sources_are : (r : RuleParts) (stand : Stand) (c : NodeSite) (a y : ℕ) (l : Local) → link_written r stand c.site ≡ None → l.link ≡ Partner a y → (found : List FreedBy) → ((f : FreedBy) → Has found f ↔ IsTouchedFor r c a y f) → (f : FreedBy) → Has found f ↔ IsSource r stand c l f
sources_are r stand c a y l unwritten partner found each f =
    let same = sources-touched r stand c a y l unwritten partner f in
    (λ has. same.0 ((each f).0 has), λ source. (each f).1 (same.1 source))

same_freed : (f : FreedBy) (m s n y : ℕ) → f.node ≡ m → f.site ≡ s → f.from ≡ n → f.«at» ≡ y → f ≡ record { node = m; site = s; from = n; «at» = y }
same_freed f m s n y a b c d = λ i. record { node = a i; site = b i; from = c i; «at» = d i }

module _ (r : RuleParts) (c : NodeSite) (a y : ℕ) (found : List FreedBy) (n : ℕ) (so_far : (f : FreedBy) → Has found f ↔ ((f.from < n) × IsTouchedFor r c a y f)) where
  abbrev here : FreedBy
  here = record { node = c.node; site = c.site; from = n; «at» = y }

  pub one_partner : IsTouchedPartner r a y n → (f : FreedBy) → Has (found ++ here ∷ []) f ↔ ((f.from < n + 1) × IsTouchedFor r c a y f)
  one_partner touch f = (there, back)
    where
      there : Has (found ++ here ∷ []) f → (f.from < n + 1) × IsTouchedFor r c a y f
      there has = elim (pushed_or found _ f has.0 has.1) [
        | inl old ↦ let was = (so_far f).0 (has.0, old) in (let l = was.0 in omega arith, was.1)
        | inr new ↦ rw new (omega arith, (refl, refl, refl, touch))
      ]

      back : (f.from < n + 1) × IsTouchedFor r c a y f → Has (found ++ here ∷ []) f
      back h = elim (last_or f.from n h.0) [
        | inl l ↦ Has-left found _ f ((so_far f).1 (l, h.1))
        | inr e ↦ Has-right found (here ∷ []) f (0, ap Some (sym (same_freed f c.node c.site n y h.1.0 h.1.1 e h.1.2)))
      ]

  pub no_partner : ¬ IsTouchedPartner r a y n → (f : FreedBy) → Has found f ↔ ((f.from < n + 1) × IsTouchedFor r c a y f)
  no_partner other f = (
    λ has. let was = (so_far f).0 has in (let l = was.0 in omega arith, was.1),
    λ h. elim (last_or f.from n h.0) [
      | inl l ↦ (so_far f).1 (l, h.1)
      | inr e ↦ absurd (other (rw e at (h.1.3)))
    ],
  )

  pub all_partners : length r.left ≤ n → (f : FreedBy) → Has found f ↔ IsTouchedFor r c a y f
  all_partners past f = (
    λ has. ((so_far f).0 has).1,
    λ t. (so_far f).1 (let l = node_bound r.left f.from y t.3.1 in omega arith, t),
  )

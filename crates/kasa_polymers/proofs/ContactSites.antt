-- The sites of a bond of the contact map are sites of their types.
use Rattle.std.proofs.Common.{◌≡◌, ℕ, inl, inr, List, sym, ap, ◌∙◌, length}
use Rattle.std.specs.Prelude.{Option, Some, slice_get, option_map}
use Rattle.std.proofs.lemmas.List.{length-map}
use Rattle.std.proofs.lemmas.Option.{slice_get_within}
use Rattle.kasa_graph.specs.Signature.{TypeEntry}
use Rattle.kasa_graph.specs.Signature.{state_counts, HasSite}
use Rattle.kasa_graph.proofs.ListLemmas.{some_map, some_then}
use Rattle.kasa_graph.proofs.MixtureLemmas.{type_of_partner}
use Rattle.kasa_rules.specs.declared.model.Model.{Model}
use Rattle.kasa_rules.specs.declared.rule.End.{End}
use Rattle.kasa_rules.specs.declared.rule.End.TheVariants.{Left, Made}
use Rattle.kasa_rules.specs.declared.rule.Written.{Written}
use Rattle.kasa_rules.specs.declared.rule.SiteAction.{SiteAction}
use Rattle.kasa_rules.specs.declared.rule.NodeAction.{NodeAction}
use Rattle.kasa_rules.specs.declared.rule.MadeSite.{MadeSite}
use Rattle.kasa_rules.specs.declared.rule.MadeAgent.{MadeAgent}
use Rattle.kasa_rules.specs.Rule.{RuleParts, IsRuleOver, action_at, written_state, written_link, made_type, made_site, made_state, end_type, end_link}
use Rattle.kasa_rules.specs.Reached.{IsModel}
use Rattle.kasa_families.specs.Table.{Table}
use Rattle.kasa_polymers.specs.declared.map.Bond.{Bond}
use Rattle.kasa_polymers.specs.Contact.{end_state, IsContactBond}

module _ (sig : List TypeEntry) (r : RuleParts) (over : IsRuleOver sig r) where
  made_site_there : (k a s : ℕ) (x : MadeSite) → made_type r k ≡ Some a → made_site r k s ≡ Some x → HasSite sig a s
  unfolding made_type made_site
  made_site_there k a s x typed is =
      let agent = some_then (λ (y : MadeAgent). slice_get y.sites s) (slice_get r.made k) x is in
      let same : Some agent.0.agent ≡ Some a = sym (ap (λ (o : Option MadeAgent). let t : Option ℕ = option_map (λ (x : MadeAgent). x.agent) o in t) agent.1) ∙ typed in
      let type : agent.0.agent ≡ a = cc in
      let long : length agent.0.sites ≡ length (state_counts sig a) = sym (length-map agent.0.sites (λ (x : MadeSite). x.states)) ∙ ap length (over.made_sites k agent.0 agent.1) ∙ ap (λ (t : ℕ). length (state_counts sig t)) type in
      rw long at (slice_get_within agent.0.sites s x agent.2)

  pub site_of_end : (e : End) (a s : ℕ) (w : Written) → end_type r e ≡ Some a → end_link r e s ≡ Some w → HasSite sig a s
  unfolding written_link action_at
  site_of_end (Left n) a s w typed is =
      let site = some_then (λ (x : SiteAction). x.link) (action_at r n s) w is in
      let node = some_then (λ (x : NodeAction). slice_get x.sites s) (slice_get r.actions n) site.0 site.1 in
      rw (over.action_sites n a node.0 node.1 typed) at (slice_get_within node.0.sites s site.0 node.2)
  site_of_end (Made k) a s w typed is =
      let site = some_map (λ (x : MadeSite). x.link) (made_site r k s) w is in
      made_site_there k a s site.0 typed site.1

  pub state_of_end : (e : End) (a s u : ℕ) → end_type r e ≡ Some a → end_state r e s ≡ Some u → HasSite sig a s
  unfolding written_state action_at made_state
  state_of_end (Left n) a s u typed is =
      let site = some_then (λ (x : SiteAction). x.state) (action_at r n s) u is in
      let node = some_then (λ (x : NodeAction). slice_get x.sites s) (slice_get r.actions n) site.0 site.1 in
      rw (over.action_sites n a node.0 node.1 typed) at (slice_get_within node.0.sites s site.0 node.2)
  state_of_end (Made k) a s u typed is =
      let site = some_then (λ (x : MadeSite). x.state) (made_site r k s) u is in
      made_site_there k a s site.0 typed site.1

pub HasSite-contact : (model : Model) (tables : List Table) (bond : Bond) → IsModel model → IsContactBond model tables bond → HasSite model.sig bond.a bond.x
HasSite-contact model tables bond valid (inl (m, (i, is), has)) =
    let over = valid.inits i m is in
    let found = type_of_partner model.sig m over has.second bond.y has.first bond.x (over.linked.both_ways has.first bond.x has.second bond.y has.partner) in
    let same : Some found.0 ≡ Some bond.a = sym found.1 ∙ has.first_type in
    let type : found.0 ≡ bond.a = cc in
    rw type at found.2
HasSite-contact model tables bond valid (inr (r, (k, is), allowed, writes)) = site_of_end model.sig r (valid.rules k r is) writes.first bond.a bond.x _ writes.first_type writes.link

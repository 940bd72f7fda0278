use Rattle.std.proofs.Common.{◌≡◌, ◌↔◌, ap, sym, subst, ◌∙◌, length, List, ℕ}
use Rattle.std.proofs.lemmas.Result.{IfOk-weaker}
use Rattle.kasa_graph.specs.Lists.{Has}
use Rattle.kasa_graph.specs.Signature.{state_counts}
use Rattle.kasa_rules.specs.Reached.{IsModel}
use Rattle.kasa_choose.specs.ViewPlan.{IsUnmentionedSet, IsSiteSet}
use Rattle.kasa_choose.specs.ViewSets.{site_lists}
use Rattle.kasa_choose.proofs.SiteSetLemmas.{unmentioned_list, site_sets_all}
use Rattle.kasa_choose.proofs.views.site_sets.Goals as goal

pub returns : goal.returns
returns c =
    let count : c.sites.result ≡ length (state_counts c.args.model.now.sig c.args.agent) = c.sites.ensures.counts ∙ ap (λ m. length (state_counts m.sig c.args.agent)) c.model.view_is in
    let is : IsModel c.args.model.now = subst IsModel c.model.view_is c.model.invariant.0 in
    let free : IsUnmentionedSet c.args.model.now c.args.agent c.in_ok-others.others.items =
    unmentioned_list c.args.model.now c.args.agent c.sites.result (site_lists c.in_ok-sets.sets.keys) c.in_ok-others.others.items is c.in_ok-sets.ensures count c.in_ok-others.ensures in
    IfOk-weaker c.list_of.result _ _
    (λ lists same sites. subst (λ (sets : List (List ℕ)). Has sets sites ↔ IsSiteSet c.args.model.now c.args.agent sites) (sym same)
    (site_sets_all c.args.model.now c.args.agent (site_lists c.in_ok-sets.sets.keys) (site_lists c.add_parts.new.sets.keys) c.in_ok-others.others.items c.in_ok-sets.ensures free
    (rw c.deref.ensures.value at c.in_ok-add_parts.ensures) sites)) c.list_of.ensures

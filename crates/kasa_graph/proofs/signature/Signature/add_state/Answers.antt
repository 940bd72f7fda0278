use Rattle.std.proofs.Common.{◌≡◌, ◌<◌, map, ◌∙◌, length, arith}
use Rattle.std.proofs.lemmas.Result.{err_from_is_err_and}
use Rattle.indexmap.specs.IndexMap.{set_value_at}
use Rattle.kasa_graph.specs.Signature.{TypeEntry, state_names, with_state_name, with_new_state, IsSignature}
use Rattle.kasa_graph.specs.SignatureView.{site_entry, type_entry}
use Rattle.kasa_lists.proofs.Maps.{length-map}
use Rattle.kasa_graph.proofs.SignatureLemmas.{sites_in, type_of_site, site_within, map-set_value, map-same_value}
use Rattle.kasa_graph.proofs.NewNameLemmas.{state_names-in, IsSignature-new_state}
use Rattle.kasa_graph.proofs.signature.Signature.add_state.Goals.{After-from_residual-in_err-number, In_ok-number}
use Rattle.kasa_graph.proofs.signature.Signature.add_state.Goals as goal

unchanged : (c : After-from_residual-in_err-number) → map type_entry (set_value_at c.self.inside.types.entries c.agent.inside.0 c.insert_state.new.sites) ≡ map type_entry c.self.inside.types.entries
unchanged c =
    let old = c.pair_mut-sites.result in
    let kept : type_entry (old.0.now, c.insert_state.new.sites) ≡ type_entry (old.0.now, old.1.now) = rw c.in_err-number.ensures.unchanged in
    map-same_value type_entry c.self.inside.types.entries c.agent.inside.0 (old.0.now, old.1.now) c.insert_state.new.sites c.pair_mut-sites.ensures.value kept

added : (c : In_ok-number) → map type_entry (set_value_at c.self.inside.types.entries c.agent.inside.0 c.insert_state.new.sites) ≡ with_new_state (map type_entry c.self.inside.types.entries) c.agent.inside.0 c.site.inside.0 c.args.name.now
added c =
    let old = c.pair_mut-sites.result in
    let grown : map site_entry c.insert_state.new.sites.entries ≡ with_state_name (map site_entry old.1.now.entries) c.site.inside.0 c.args.name.now =
    rw (← c.in_ok-key.ensures.items) c.in_ok-number.ensures.added in
    map-set_value type_entry (λ (t : TypeEntry). record t { sites = with_state_name t.sites c.site.inside.0 c.args.name.now }) c.self.inside.types.entries c.agent.inside.0 (old.0.now, old.1.now) c.insert_state.new.sites c.pair_mut-sites.ensures.value (rw grown)

numbered : (c : In_ok-number) → c.in_ok-number.number ≡ length (state_names c.args.self.now c.args.agent c.args.site)
numbered c =
    let old = c.pair_mut-sites.result in
    let sites = sites_in c.self.inside.types.entries c.agent.inside.0 c.args.agent c.args.self.now (old.0.now, old.1.now) c.self.view_is c.agent.view_is c.pair_mut-sites.ensures.value in
    rw (state_names-in c.args.self.now c.args.agent c.args.site, sites, ← c.site.view_is) c.in_ok-number.ensures.number

pub pair_mut-sites-requires : goal.pair_mut-sites-requires
pair_mut-sites-requires c =
    let owner = type_of_site c.args.self.now c.args.agent c.args.site c.requires.owner in
    let within : c.agent.inside.0 < length (map type_entry c.self.inside.types.entries) = rw (c.self.view_is, c.agent.view_is) owner in
    rw (length-map type_entry c.self.inside.types.entries) at within

pub insert_state-requires-clause-owner : goal.insert_state-requires-clause-owner
insert_state-requires-clause-owner c =
    let old = c.pair_mut-sites.result in
    let owner = site_within c.args.self.now c.args.agent c.args.site c.requires.owner in
    let within = rw (sites_in c.self.inside.types.entries c.agent.inside.0 c.args.agent c.args.self.now (old.0.now, old.1.now) c.self.view_is c.agent.view_is c.pair_mut-sites.ensures.value) at owner in
    rw (c.site.view_is, ← length-map site_entry old.1.now.entries) within

pub insert_state-requires-clause-is_new : goal.insert_state-requires-clause-is_new
insert_state-requires-clause-is_new c =
    let old = c.pair_mut-sites.result in
    let sites = sites_in c.self.inside.types.entries c.agent.inside.0 c.args.agent c.args.self.now (old.0.now, old.1.now) c.self.view_is c.agent.view_is c.pair_mut-sites.ensures.value in
    rw (c.in_ok-key.ensures.items, c.site.view_is, ← sites, ← state_names-in c.args.self.now c.args.agent c.args.site) c.requires.is_new

pub invariant_of-self : goal.invariant_of-self
invariant_of-self c = rw (unchanged c) c.self.invariant

pub returns-in_err-number-clause-unchanged : goal.returns-in_err-number-clause-unchanged
returns-in_err-number-clause-unchanged c =
    let p = err_from_is_err_and c.from_residual-in_err-number.result c.from_residual-in_err-number.ensures.1 in
    rw p.1 (unchanged c ∙ c.self.view_is)

pub overflow_cast-result : goal.overflow_cast-result
overflow_cast-result c =
    let number = numbered c in
    omega (arith, number, c.requires.room)

pub invariant_of-self-2 : goal.invariant_of-self-2
invariant_of-self-2 c =
    let r = c.requires in
    let sig = c.args.self.now in
    let is : IsSignature (with_new_state sig c.args.agent c.args.site c.args.name.now) =
    IsSignature-new_state sig c.args.agent c.args.site c.args.name.now (rw (← c.self.view_is) c.self.invariant) (type_of_site sig c.args.agent c.args.site r.owner) (site_within sig c.args.agent c.args.site r.owner) r.is_new r.is_name r.room in
    rw (added c, c.self.view_is, c.agent.view_is, c.site.view_is) is

pub returns-clause-number : goal.returns-clause-number
returns-clause-number c = numbered c

pub returns-clause-added : goal.returns-clause-added
returns-clause-added c = added c ∙ (λ i. with_new_state (c.self.view_is i) (c.agent.view_is i) (c.site.view_is i) c.args.name.now)

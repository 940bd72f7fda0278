use Rattle.std.proofs.Common.{◌≡◌, ◌++◌, ◌∷◌, [], map, ◌∙◌, sym, arith}
use Rattle.std.specs.Map.{keys_of}
use Rattle.std.proofs.lemmas.Result.{err_from_is_err_and}
use Rattle.indexmap.specs.IndexMap.{set_value_at}
use Rattle.kasa_lists.specs.Lists.{Has}
use Rattle.kasa_graph.specs.Signature.{TypeEntry, with_new_site}
use Rattle.kasa_graph.specs.SignatureView.{name_bytes, site_entry, type_entry}
use Rattle.kasa_lists.proofs.Maps.{length-map, map-push}
use Rattle.kasa_graph.proofs.SignatureLemmas.{sites_in, few_sites, map-set_value, map-same_value}
use Rattle.kasa_graph.proofs.NameLemmas.{insert-new, site_names-keys}
use Rattle.kasa_graph.proofs.NewNameLemmas.{IsSignature-new_site}
use Rattle.kasa_graph.proofs.signature.Signature.add_site.Goals.{After-from_residual-in_err-insert, Joined-branch-3}
use Rattle.kasa_graph.proofs.signature.Signature.add_site.Goals as goal

unchanged : (c : After-from_residual-in_err-insert) → map type_entry (set_value_at c.self.inside.types.entries c.agent.inside.0 c.insert.new.self) ≡ map type_entry c.self.inside.types.entries
unchanged c =
    let old = c.pair_mut-sites.result in
    let kept : type_entry (old.0.now, c.insert.new.self) ≡ type_entry (old.0.now, old.1.now) = rw c.in_err-insert.ensures.err in
    map-same_value type_entry c.self.inside.types.entries c.agent.inside.0 (old.0.now, old.1.now) c.insert.new.self c.pair_mut-sites.ensures.value kept

added : (c : Joined-branch-3) → map type_entry (set_value_at c.self.inside.types.entries c.agent.inside.0 c.insert.new.self) ≡ with_new_site (map type_entry c.self.inside.types.entries) c.agent.inside.0 c.args.name.now
added c =
    let old = c.pair_mut-sites.result in
    let key = c.in_ok-key.key in
    let absent : ¬ Has (map name_bytes (keys_of old.1.now.entries)) key.items =
    rw (c.in_ok-key.ensures.items, ← site_names-keys old.1.now.entries, ← sites_in c.self.inside.types.entries c.agent.inside.0 c.args.agent c.args.self.now (old.0.now, old.1.now) c.self.view_is c.agent.view_is c.pair_mut-sites.ensures.value) c.requires.is_new in
    let entries : c.insert.new.self.entries ≡ old.1.now.entries ++ (key, c.new.result) ∷ [] = c.in_ok-insert.ensures.entries ∙ insert-new old.1.now.entries key c.new.result absent in
    let grown : map site_entry c.insert.new.self.entries ≡ map site_entry old.1.now.entries ++ record { name = c.args.name.now; states = [] } ∷ [] =
    rw (entries, map-push, c.in_ok-key.ensures.items, c.new.ensures.empty) in
    map-set_value type_entry (λ (t : TypeEntry). record t { sites = t.sites ++ record { name = c.args.name.now; states = [] } ∷ [] }) c.self.inside.types.entries c.agent.inside.0 (old.0.now, old.1.now) c.insert.new.self c.pair_mut-sites.ensures.value (rw grown)

pub invariant_of-self : goal.invariant_of-self
invariant_of-self c = rw (unchanged c) c.self.invariant

pub returns-in_err-insert-clause-unchanged : goal.returns-in_err-insert-clause-unchanged
returns-in_err-insert-clause-unchanged c =
    let p = err_from_is_err_and c.from_residual-in_err-insert.result c.from_residual-in_err-insert.ensures.1 in
    rw p.1 (unchanged c ∙ c.self.view_is)

pub overflow_cast-result : goal.overflow_cast-result
overflow_cast-result c =
    let few = few_sites _ _ (c.pair_mut-sites.result.0.now, c.pair_mut-sites.result.1.now) c.self.invariant (sym c.pair_mut-sites.ensures.value) in
    omega (arith, few, c.len-number.ensures.len)

pub invariant_of-self-2 : goal.invariant_of-self-2
invariant_of-self-2 c =
    let r = c.requires in
    rw (added c) (IsSignature-new_site (map type_entry c.self.inside.types.entries) c.agent.inside.0 c.args.name.now c.self.invariant (rw (c.self.view_is, c.agent.view_is) r.owner) (rw (c.self.view_is, c.agent.view_is) r.is_new) r.is_name (rw (c.self.view_is, c.agent.view_is) r.room))

pub returns-clause-number : goal.returns-clause-number
returns-clause-number c =
    let old = c.pair_mut-sites.result in
    rw (sites_in c.self.inside.types.entries c.agent.inside.0 c.args.agent c.args.self.now (old.0.now, old.1.now) c.self.view_is c.agent.view_is c.pair_mut-sites.ensures.value)
    (c.len-number.ensures.len ∙ sym (length-map site_entry c.pair_mut-sites.result.1.now.entries))

pub returns-clause-added : goal.returns-clause-added
returns-clause-added c = added c ∙ (λ i. with_new_site (c.self.view_is i) (c.agent.view_is i) c.args.name.now)

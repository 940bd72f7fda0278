use Rattle.std.proofs.Common.{◌≡◌, ◌++◌, ◌∷◌, [], map, ◌∙◌, sym, ap}
use Rattle.std.proofs.lemmas.Result.{err_from_is_err_and}
use Rattle.kasa_lists.specs.Lists.{Has}
use Rattle.kasa_graph.specs.SignatureView.{name_bytes, site_entry}
use Rattle.kasa_lists.proofs.Maps.{length-map, map-push}
use Rattle.kasa_graph.proofs.SignatureLemmas.{states_of, map-set_value, map-same_value}
use Rattle.kasa_graph.proofs.NameLemmas.{insert_key-new}
use Rattle.kasa_graph.proofs.signature.insert_state.Goals as goal

pub returns-in_err-insert-clause-unchanged : goal.returns-in_err-insert-clause-unchanged
returns-in_err-insert-clause-unchanged c =
    let old = c.pair_mut-states.result in
    let kept : site_entry (old.0.now, c.insert.new.self) ≡ site_entry (old.0.now, old.1.now) = rw c.in_err-insert.ensures.err in
    let p = err_from_is_err_and c.from_residual.result c.from_residual.ensures.1 in
    rw p.1
    (map-same_value site_entry c.args.sites.now.entries c.args.site (old.0.now, old.1.now) c.insert.new.self c.pair_mut-states.ensures.value kept)

pub returns-clause-number : goal.returns-clause-number
returns-clause-number c =
    rw (c.len-number.ensures.len, states_of c.args.sites.now.entries c.args.site _ _ c.pair_mut-states.ensures.value)
    (sym (length-map name_bytes c.pair_mut-states.result.1.now.keys))

pub returns-clause-added : goal.returns-clause-added
returns-clause-added c =
    let old = c.pair_mut-states.result in
    let absent : ¬ Has (map name_bytes old.1.now.keys) c.args.name.items = rw (states_of c.args.sites.now.entries c.args.site old.0.now old.1.now c.pair_mut-states.ensures.value) at c.requires.is_new in
    let keys : c.insert.new.self.keys ≡ old.1.now.keys ++ c.args.name ∷ [] = c.in_ok-insert.ensures.keys ∙ insert_key-new old.1.now.keys c.args.name absent in
    let names : map name_bytes c.insert.new.self.keys ≡ map name_bytes old.1.now.keys ++ c.args.name.items ∷ [] = ap (map name_bytes) keys ∙ map-push name_bytes old.1.now.keys c.args.name in
    map-set_value site_entry (λ s. record s { states = s.states ++ c.args.name.items ∷ [] }) c.args.sites.now.entries c.args.site (old.0.now, old.1.now) c.insert.new.self c.pair_mut-states.ensures.value (rw names)

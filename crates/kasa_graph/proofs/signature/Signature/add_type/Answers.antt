use Rattle.std.proofs.Common.{◌≡◌, ◌++◌, ◌∷◌, [], map, ◌∙◌, ap, length, ◌<◌}
use Rattle.std.specs.Map.{keys_of}
use Rattle.kasa_lists.specs.Lists.{Has}
use Rattle.kasa_graph.specs.Signature.{type_names, with_new_type}
use Rattle.kasa_graph.specs.SignatureView.{name_bytes, type_entry}
use Rattle.kasa_lists.proofs.Maps.{map-push}
use Rattle.kasa_graph.proofs.NameLemmas.{insert-new, type_names-keys}
use Rattle.kasa_graph.proofs.NewNameLemmas.{IsSignature-new_type}
use Rattle.kasa_graph.proofs.signature.Signature.add_type.Goals.{Joined-branch-3}
use Rattle.kasa_graph.proofs.signature.Signature.add_type.Goals as goal

absent : (c : Joined-branch-3) → ¬ Has (type_names (map type_entry c.self.inside.types.entries)) c.args.name.now
absent c = rw c.self.view_is c.requires.is_new

added : (c : Joined-branch-3) → map type_entry c.insert.new.self.entries ≡ with_new_type (map type_entry c.self.inside.types.entries) c.args.name.now
added c =
    let es = c.self.inside.types.entries in
    let key = c.in_ok-key.key in
    let other : ¬ Has (map name_bytes (keys_of es)) key.items = rw (c.in_ok-key.ensures.items, ← type_names-keys es) (absent c) in
    let entries : c.insert.new.self.entries ≡ es ++ (key, c.new.result) ∷ [] = c.in_ok-insert.ensures.entries ∙ insert-new es key c.new.result other in
    rw (entries, map-push, c.in_ok-key.ensures.items, c.new.ensures.empty)

pub invariant_of-self-2 : goal.invariant_of-self-2
invariant_of-self-2 c =
    let room : length (map type_entry c.self.inside.types.entries) < 500 = rw c.self.view_is c.requires.room in
    rw (added c) (IsSignature-new_type _ _ c.self.invariant (absent c) c.requires.is_name room)

pub returns-clause-added : goal.returns-clause-added
returns-clause-added c = added c ∙ ap (λ sig. with_new_type sig c.args.name.now) c.self.view_is

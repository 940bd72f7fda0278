use Rattle.std.proofs.Common.{◌∙◌, sym, refl, length}
use Rattle.std.proofs.lemmas.Option.{slice_get_read, slice_get_past}
use Rattle.kasa_tables.proofs.RootLemmas.{listed_in-some, listed_in-none}
use Rattle.kasa_tables.proofs.roots.list_in.Goals as goal

pub returns-in-Some : goal.returns-in-Some
returns-in-Some c =
    let lists = c.args.lists.now in
    let there = slice_get_read lists (length lists) c.args.i c.in-Some.list.now refl c.in-Some.ensures.lookup.3.0 c.in-Some.ensures.lookup.1 in
    c.as_slice.ensures.value ∙ sym (listed_in-some lists c.args.i c.in-Some.list.now there)

pub returns-in-None : goal.returns-in-None
returns-in-None c = sym (listed_in-none c.args.lists.now c.args.i (slice_get_past c.args.lists.now c.args.i c.in-None.ensures.lookup.3))

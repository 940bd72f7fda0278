use Rattle.std.proofs.lemmas.Option.{slice_get-map}
use Rattle.kasa_graph.proofs.signature.Signature.site_name.Goals as goal

pub returns : goal.returns
returns c =
    let entry = c.in_ok-name.ensures.entry in
    rw (c.as_slice.ensures.value, c.in_ok-sites_by_name.ensures.sites, ← c.site.view_is, slice_get-map, slice_get-map, ← entry)

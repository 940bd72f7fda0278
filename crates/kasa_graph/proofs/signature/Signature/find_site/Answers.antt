use Rattle.std.proofs.Common.{None, Some}
use Rattle.std.specs.Map.{keys_of}
use Rattle.kasa_graph.proofs.NameLemmas.{find_key, site_names-keys}
use Rattle.kasa_graph.proofs.signature.Signature.find_site.Goals as goal

pub returns-in_err-number : goal.returns-in_err-number
returns-in_err-number c =
    rw (c.from_residual-in_err-number.ensures, c.in_ok-sites_by_name.ensures.sites, site_names-keys)
    (find_key c.args.name.now (keys_of c.in_ok-sites_by_name.field-0.now.entries) None c.in_err-number.ensures.index)

pub returns : goal.returns
returns c =
    rw (c.in_ok-sites_by_name.ensures.sites, site_names-keys)
    (find_key c.args.name.now (keys_of c.in_ok-sites_by_name.field-0.now.entries) (Some c.in_ok-number.number) c.in_ok-number.ensures.index)

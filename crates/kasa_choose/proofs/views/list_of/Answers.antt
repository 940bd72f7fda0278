use Rattle.std.proofs.Common.{ap, sym, ◌∙◌}
use Rattle.std.proofs.lemmas.Map.Iter.{iter_end}
use Rattle.kasa_graph.proofs.SignatureLemmas.{map-push}
use Rattle.kasa_choose.specs.ViewSets.{site_list, site_lists}
use Rattle.kasa_choose.proofs.InsertedKeys.{map-given}
use Rattle.kasa_choose.proofs.views.list_of.Goals as goal

pub loop-sites-preserved : goal.loop-sites-preserved
loop-sites-preserved c =
    c.in_ok-push.ensures.items ∙ rw (c.new.ensures, c.loop-sites.invariant) (sym (map-push site_list c.loop-sites.yielded c.in-Some.sites))

pub returns : goal.returns
returns c =
    let all = iter_end _ _ _ _ _ _ _ c.into_iter-sites-iterator.ensures.into_iter_gives.0 c.loop-sites.yielded_by c.in-None.is c.next.ensures.steps in
    c.loop-sites.invariant ∙ sym (map-given site_list c.loop-sites.yielded) ∙ ap site_lists all.0

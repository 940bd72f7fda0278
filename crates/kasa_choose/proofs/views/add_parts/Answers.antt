use Rattle.std.proofs.Common.{◌≡◌, min, ap, ◌∙◌, length, take, drop, arith}
use Rattle.std.proofs.lemmas.List.{take_min, drop_min}
use Rattle.std.proofs.lemmas.Result.{on_ok_weaker}
use Rattle.kasa_choose.specs.ViewSets.{site_lists}
use Rattle.kasa_choose.proofs.SiteSetLemmas.{adds_parts}
use Rattle.kasa_choose.proofs.views.add_parts.Goals as goal

pub returns : goal.returns
returns c =
    let least : c.min.result ≡ min 16 (length c.args.sites.now) = omega (arith, c.min.ensures) in
    on_ok_weaker c.add_set-2.result (λ then. adds_parts c.args.sites.now c.split_at.result.0.now c.split_at.result.1.now (site_lists c.args.sets.now.keys) (site_lists c.add_set.new.sets.keys) (site_lists c.add_set-2.new.sets.keys)
    (c.split_at.ensures.front ∙ ap (λ k. take k c.args.sites.now) least ∙ take_min 16 c.args.sites.now)
    (c.split_at.ensures.back ∙ ap (λ k. drop k c.args.sites.now) least ∙ drop_min 16 c.args.sites.now)
    c.in_ok-add_set.ensures then) c.add_set-2.ensures

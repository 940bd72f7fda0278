use Rattle.std.proofs.Common.{refl, arith}
use Rattle.kasa_graph.specs.Signature.{HasSite}
use Rattle.kasa_families.specs.declared.row.LocalLink.TheVariants.{Partner}
use Rattle.kasa_columns.specs.Chosen.{IsPartnerOf}
use Rattle.kasa_columns.proofs.Pushing.{upto_next, upto_all, adds_one}
use Rattle.kasa_columns.proofs.chosen.push_partners.Goals as goal

pub loop-y-preserved : goal.loop-y-preserved
loop-y-preserved c =
    let has : HasSite c.args.sig.now c.args.agent c.loop-y.y = let counts = c.sites-y-end.ensures.counts in let less = c.loop-y-test.true in omega arith in
    rw c.in_ok-push.ensures.items
    (upto_next (IsPartnerOf c.args.sig.now c.args.agent) _ c.loop-y.y c.loop-y.links.items c.loop-y.invariant _ (adds_one (IsPartnerOf c.args.sig.now c.args.agent) c.loop-y.links.items c.loop-y.y (Partner c.args.agent c.loop-y.y) (refl, has) (λ link q. q.0)))

pub returns : goal.returns
returns c =
    upto_all (IsPartnerOf c.args.sig.now c.args.agent) _ c.loop-y.y c.loop-y.links.items
    (λ y link q. let has = q.1 in let counts = c.sites-y-end.ensures.counts in let past = c.loop-y-test.false in omega arith)
    c.loop-y.invariant

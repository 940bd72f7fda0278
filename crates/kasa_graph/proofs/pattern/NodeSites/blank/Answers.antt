use Rattle.std.proofs.Common.{◌≤◌, ◌<◌, length, map, ap, ◌∙◌, arith}
use Rattle.kasa_graph.specs.Pattern.{blank_site}
use Rattle.kasa_graph.specs.Signature.{sites_of}
use Rattle.kasa_lists.proofs.Maps.{map-push}
use Rattle.kasa_graph.proofs.SignatureLemmas.{counts_more, counts_all}
use Rattle.kasa_graph.proofs.pattern.NodeSites.blank.Goals as goal

pub loop-site-preserved : goal.loop-site-preserved
loop-site-preserved c =
    let within : c.loop-site.site < length (sites_of c.args.sig.now c.args.agent) = omega arith in
    c.in_ok-push.ensures.ok ∙ rw (c.loop-site.invariant, counts_more c.args.sig.now c.args.agent c.loop-site.site c.states.result within c.states.ensures.count)
    (rw (map-push blank_site))

pub returns : goal.returns
returns c =
    let all : length (sites_of c.args.sig.now c.args.agent) ≤ c.loop-site.site = omega arith in
    c.loop-site.invariant ∙ ap (λ xs. map blank_site xs) (counts_all c.args.sig.now c.args.agent c.loop-site.site all)

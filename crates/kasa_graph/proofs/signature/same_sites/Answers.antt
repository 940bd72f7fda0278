use Rattle.std.proofs.Common.{◌≡◌, length, map, List, arith, sym, ◌∙◌, Vec, ℕ}
use Rattle.std.specs.Global.{Global}
use Rattle.kasa_graph.specs.SignatureView.{StateSet, site_entry}
use Rattle.kasa_graph.specs.SameNames.{same_site}
use Rattle.kasa_lists.proofs.Maps.{length-map}
use Rattle.kasa_graph.proofs.SameLemmas.{SameBelow-suc, pointwise-same, pointwise-differ}
use Rattle.kasa_graph.proofs.signature.same_sites.Goals as goal

-- lists of one length stay so under a function
same_long : (es fs : List (Vec ℕ Global × StateSet)) → length es ≡ length fs → length (map site_entry es) ≡ length (map site_entry fs)
same_long es fs e = length-map site_entry es ∙ e ∙ sym (length-map site_entry fs)

pub loop-site-init : goal.loop-site-init
loop-site-init c = λ k h. absurd (omega (arith, h))

pub returns-then-not-same_site_at : goal.returns-then-not-same_site_at
returns-then-not-same_site_at c =
    pointwise-differ same_site _ _ c.loop-site.site c.same_site_at.result (same_long c.args.sites.now.entries c.args.others.now.entries (sym c.len.ensures.len ∙ c.if-len.false ∙ c.len-2.ensures.len)) (let long = length-map site_entry c.args.sites.now.entries in omega (arith, c.loop-site-test.true, c.len-site-end.ensures.len, long)) c.same_site_at.ensures c.if-not-same_site_at.true

pub loop-site-preserved : goal.loop-site-preserved
loop-site-preserved c = SameBelow-suc same_site _ _ c.loop-site.site c.same_site_at.result c.loop-site.invariant c.same_site_at.ensures c.if-not-same_site_at.false

pub returns : goal.returns
returns c =
    pointwise-same same_site _ _ c.loop-site.site (same_long c.args.sites.now.entries c.args.others.now.entries (sym c.len.ensures.len ∙ c.if-len.false ∙ c.len-2.ensures.len)) (let long = length-map site_entry c.args.sites.now.entries in omega (arith, c.loop-site-test.false, c.len-site-end.ensures.len, long)) c.loop-site.invariant

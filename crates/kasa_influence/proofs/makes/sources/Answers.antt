use Rattle.std.proofs.Common.{◌≡◌, ◌↔◌, sym, ◌∙◌}
use Rattle.std.proofs.lemmas.Result.{IfOk-weaker}
use Rattle.kasa_graph.proofs.SiteLemmas.{HasSite-over}
use Rattle.kasa_graph.specs.Lists.{Has}
use Rattle.kasa_pre.specs.declared.FreedBy.{FreedBy}
use Rattle.kasa_influence.specs.inner.Ask.{IsAsked}
use Rattle.kasa_influence.specs.inner.Makes.{AreFrom, source_of, IsSource}
use Rattle.kasa_influence.proofs.OneLemmas.{the_type}
use Rattle.kasa_influence.proofs.MeetsLemmas.{HasStandSite-fits}
use Rattle.kasa_influence.proofs.SourceLemmas.{sources-all, no_source, not_written, was_written}
use Rattle.kasa_influence.proofs.makes.sources.Goals as goal

pub writes_link-requires : goal.writes_link-requires
writes_link-requires g c =
    let asked : IsAsked c.args.ask.now = rw (← c.ask.view_is) c.ask.invariant in
    let a = the_type c.args.ask.now.sig c.args.v.now c.requires.one in
    rw (← c.ask.view_is) at
    (HasStandSite-fits c.args.ask.now.sig c.args.ask.now.rule asked.over c.args.v.now a.0 a.1 c.args.stand.now c.args.site c.requires.fits (HasSite-over c.args.ask.now.sig c.args.v.now c.requires.one.valid 0 a.0 c.args.site a.1 c.requires.site))

pub returns-then-not-is_free : goal.returns-then-not-is_free
returns-then-not-is_free g c = rw c.new.ensures.items (no_source (λ f is. let yes = c.is_free.ensures.1 (c.link.ensures ∙ is.test) in let no = c.if-not-is_free.true in cc))

pub returns-then-writes_link : goal.returns-then-writes_link
returns-then-writes_link g c = rw c.new-then-writes_link.ensures.items (no_source (rw (← c.ask.view_is) (λ f is. was_written _ (sym c.writes_link.ensures ∙ c.if-writes_link.true) is.unwritten)))

pub returns : goal.returns
returns g c =
    let asked : IsAsked c.args.ask.now = rw (← c.ask.view_is) c.ask.invariant in
    let test = sym c.link.ensures ∙ c.is_free.ensures.0 c.if-not-is_free.false in
    let unwritten = not_written _ (sym c.writes_link.ensures ∙ c.if-writes_link.false) in
    IfOk-weaker c.all_sources.result (λ found. (f : FreedBy) → Has found.items f ↔ AreFrom (λ x f. f ≡ source_of c.args.site x) c.args.ask.now.open_sites f) (λ found. (f : FreedBy) → Has found.items f ↔ IsSource c.args.ask.now.rule c.args.v.now c.args.stand.now c.args.site f)
    (λ found from f.
    let all = sources-all c.args.ask.now asked c.args.v.now c.args.stand.now c.args.site test (rw (← c.ask.view_is) unwritten) f in
    (λ has. all.0 ((from f).0 has), λ is. (from f).1 (all.1 is)))
    (rw (← c.ask.view_is) c.all_sources.ensures)

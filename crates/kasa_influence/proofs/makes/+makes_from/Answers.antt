use Rattle.std.proofs.lemmas.Option.{slice_get_read, slice_get_within, same_Some}
use Rattle.std.proofs.Common.{rules, ◌∙◌, ◌≡◌, ◌+◌, ◌++◌, ◌∷◌, [], sym, inl, inr, below_more, ◌↔◌, arith, refl}
use Rattle.std.specs.Prelude.{Some, slice_get, IsTrue}
use Rattle.kasa_pre.specs.declared.FreedBy.{FreedBy}
use Rattle.std.proofs.lemmas.Result.{IfOk-weaker}
use Rattle.kasa_influence.specs.Gain.{Makes}
use Rattle.kasa_influence.specs.inner.Ask.{IsAsked}
use Rattle.kasa_influence.specs.inner.Makes.{MakesFrom}
use Rattle.kasa_influence.proofs.OneLemmas.{HasNodeSite-below}
use Rattle.kasa_influence.proofs.FromLemmas.{from_end, from_kept, from_freed, from_all, AreFreed-more, below-more}
use Rattle.kasa_influence.proofs.makes.+makes_from.Goals as goal

pub returns-then-site-sites : goal.returns-then-site-sites
returns-then-site-sites g t c =
    let asked : IsAsked c.args.ask.now = rw (← c.ask.view_is) c.ask.invariant in
    let same = from_end c.args.ask.now asked c.args.v.now c.requires.one c.args.stand.now c.args.site c.args.freed.now c.requires.free c.requires.below c.agent.result c.agent.ensures (rw (← c.ask.view_is) (let count = c.sites.ensures.counts in let past = c.if-site-sites.true in omega arith)) in
    IfOk-weaker c.makes_with.result (λ b. IsTrue b ↔ Makes c.args.ask.now.sig c.args.ask.now.tables c.args.ask.now.rule c.args.v.now c.args.stand.now c.args.freed.now) (λ b. IsTrue b ↔ MakesFrom c.args.ask.now c.args.v.now c.args.stand.now c.args.site c.args.freed.now)
    (λ b tells. (λ yes. same.0 (tells.0 yes), λ from. tells.1 (same.1 from)))
    c.makes_with.ensures

pub returns-then-branch : goal.returns-then-branch
returns-then-branch g t c =
    let asked : IsAsked c.args.ask.now = rw (← c.ask.view_is) c.ask.invariant in
    (λ yes. from_kept c.args.ask.now asked c.args.v.now c.requires.one c.args.stand.now c.args.site c.args.freed.now c.requires.free c.requires.below (c.in_ok-makes_from.ensures.0 c.if-branch.true), λ from. refl)

pub sources-requires-clause-site : goal.sources-requires-clause-site
sources-requires-clause-site g t c = HasNodeSite-below c.args.ask.now.sig c.args.v.now c.requires.one c.agent.result c.args.site c.agent.ensures (rw (← c.ask.view_is) (let count = c.sites.ensures.counts in let within = c.if-site-sites.false in omega arith))

pub makes_from-requires-in-loop-source : goal.makes_from-requires-in-loop-source
makes_from-requires-in-loop-source g t c κs within =
    let asked : IsAsked c.args.ask.now = rw (← c.ask.view_is) c.ask.invariant in
    let has = slice_get_read c.deref-source-items.result.now _ c.loop-source.source-index c.source-item.result refl c.loop-source-test.true c.source-item.is in
    let source = (c.in_ok-sources.ensures c.source-item.result).0 (c.loop-source.source-index, (rw c.deref-source-items.ensures.value at has)) in
    let longer : c.as_slice.result.now ≡ c.args.freed.now ++ c.source-item.result ∷ [] = rw c.as_slice.ensures.value c.in_ok-longer.ensures in (
      search rules,
      (
        within,
        (
          c.requires.one,
          (
            c.requires.fits,
            (
              rw longer (AreFreed-more c.args.ask.now asked c.args.v.now c.requires.one c.args.stand.now c.args.site c.args.freed.now c.requires.free c.requires.below c.source-item.result source),
              rw longer (below-more c.args.ask.now asked c.args.v.now c.requires.one c.args.stand.now c.args.site c.args.freed.now c.requires.free c.requires.below c.source-item.result source),
            ),
          ),
        ),
      ),
    )

pub returns-then-branch-2 : goal.returns-then-branch-2
returns-then-branch-2 g t c =
    let asked : IsAsked c.args.ask.now = rw (← c.ask.view_is) c.ask.invariant in
    let has = slice_get_read c.deref-source-items.result.now _ c.loop-source.source-index c.source-item.result refl c.loop-source-test.true c.source-item.is in
    let source = (c.in_ok-sources.ensures c.source-item.result).0 (c.loop-source.source-index, (rw c.deref-source-items.ensures.value at has)) in
    let longer : c.as_slice.result.now ≡ c.args.freed.now ++ c.source-item.result ∷ [] = rw c.as_slice.ensures.value c.in_ok-longer.ensures in (
      λ yes. from_freed c.args.ask.now asked c.args.v.now c.requires.one c.args.stand.now c.args.site c.args.freed.now c.requires.free c.requires.below c.source-item.result source (rw longer at (c.in_ok-makes_from-2.ensures.0 c.if-branch-2.true)),
      λ from. refl,
    )

pub loop-source-preserved : goal.loop-source-preserved
loop-source-preserved g t c =
    let has = slice_get_read c.deref-source-items.result.now _ c.loop-source.source-index c.source-item.result refl c.loop-source-test.true c.source-item.is in
    let longer : c.as_slice.result.now ≡ c.args.freed.now ++ c.source-item.result ∷ [] = rw c.as_slice.ensures.value c.in_ok-longer.ensures in
    below_more (λ k. (f : FreedBy) → slice_get c.deref-source-items.result.now k ≡ Some f → ¬ MakesFrom c.args.ask.now c.args.v.now c.args.stand.now (c.args.site + 1) (c.args.freed.now ++ f ∷ [])) c.loop-source.source-index c.loop-source.invariant
    (λ f at from.
    let same : c.source-item.result ≡ f = same_Some c.source-item.result f (sym has ∙ at) in
    let from' : MakesFrom c.args.ask.now c.args.v.now c.args.stand.now (c.args.site + 1) c.as_slice.result.now = rw (longer, same) from in
    let yes = c.in_ok-makes_from-2.ensures.1 from' in
    let no = c.if-branch-2.false in
    cc)

pub returns : goal.returns
returns g t c =
    let asked : IsAsked c.args.ask.now = rw (← c.ask.view_is) c.ask.invariant in (
      λ yes. absurd cc,
      λ from. absurd (elim (from_all c.args.ask.now asked c.args.v.now c.requires.one c.args.stand.now c.args.site c.args.freed.now c.requires.free c.requires.below from) [
        | inl kept ↦ let yes = c.in_ok-makes_from.ensures.1 kept in let no = c.if-branch.false in cc
        | inr (f, source, more) ↦
            let has = (c.in_ok-sources.ensures f).1 source in
            let at : slice_get c.deref-source-items.result.now has.0 ≡ Some f = rw c.deref-source-items.ensures.value has.1 in
            c.loop-source.invariant has.0 (let within = slice_get_within c.deref-source-items.result.now has.0 f at in let past = c.loop-source-test.false in omega arith) f at more
      ]),
    )

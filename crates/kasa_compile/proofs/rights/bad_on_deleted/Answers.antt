use Rattle.std.proofs.Common.{◌≡◌, ◌∷◌, [], true}
use Rattle.std.specs.Prelude.{if◌then◌else◌}
use Rattle.kasa_compile.specs.declared.said.SiteSaid.{SiteSaid}
use Rattle.kasa_compile.proofs.PairLemmas.{first_here}
use Rattle.kasa_compile.proofs.rights.bad_on_deleted.Goals as goal

pub returns-then-site : goal.returns-then-site
returns-then-site c =
    let bad : (let s = c.site-item.result in s.slash) ≡ true = c.if-site.true in
    first_here (λ (s : SiteSaid). if s.slash then s.«at» ∷ [] else []) c.args.sites.now c.loop-site.site-index c.site-item.result c.site-item.result c.site-item.result.«at» c.loop-site.invariant c.loop-site-test.true c.site-item.is (rw bad)

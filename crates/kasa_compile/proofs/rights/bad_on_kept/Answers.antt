use Rattle.std.proofs.Common.{◌≡◌, ◌∷◌, [], true, sym, ◌∙◌}
use Rattle.std.specs.Prelude.{if◌then◌else◌}
use Rattle.kasa_compile.specs.declared.said.SiteSaid.{SiteSaid}
use Rattle.kasa_compile.specs.Causes.{is_bad_link}
use Rattle.kasa_compile.proofs.PairLemmas.{first_here}
use Rattle.kasa_compile.proofs.rights.bad_on_kept.Goals as goal

pub returns-then-is_bad_link : goal.returns-then-is_bad_link
returns-then-is_bad_link c =
    let bad : (let s = c.site-item.result in is_bad_link c.args.left.now s.site s.link) ≡ true = sym c.is_bad_link.ensures ∙ c.if-is_bad_link.true in
    first_here (λ (s : SiteSaid). if is_bad_link c.args.left.now s.site s.link then s.«at» ∷ [] else []) c.args.right.now c.loop-site.site-index c.site-item.result c.site-item.result c.site-item.result.«at» c.loop-site.invariant c.loop-site-test.true c.site-item.is (rw bad)

use Rattle.std.proofs.Common.{◌≡◌, ◌∷◌, [], true, sym, ◌∙◌}
use Rattle.std.specs.Prelude.{◌||◌, if◌then◌else◌}
use Rattle.kasa_compile.specs.declared.said.SiteSaid.{SiteSaid}
use Rattle.kasa_compile.specs.Causes.{leaves_state_open, leaves_link_open}
use Rattle.kasa_compile.proofs.PairLemmas.{first_here}
use Rattle.kasa_compile.proofs.rights.bad_on_created.Goals as goal

pub returns-then-is_bad_created : goal.returns-then-is_bad_created
returns-then-is_bad_created c =
    let bad : (let s = c.site-item.result in s.slash || (leaves_state_open s.state || leaves_link_open s.link)) ≡ true = sym c.is_bad_created.ensures ∙ c.if-is_bad_created.true in
    first_here (λ (s : SiteSaid). if s.slash || (leaves_state_open s.state || leaves_link_open s.link) then s.«at» ∷ [] else []) c.args.sites.now c.loop-site.site-index c.site-item.result c.site-item.result c.site-item.result.«at» c.loop-site.invariant c.loop-site-test.true c.site-item.is (rw bad)

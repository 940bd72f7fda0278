use Rattle.kasa_compile.proofs.IndexLemmas.{IsContinued-none, IsContinued-site, IsContinued-sites}
use Rattle.kasa_compile.proofs.bonds.Bonds.note_agent.Goals.{in-Some+in_ok-note, in_default}
use Rattle.kasa_compile.proofs.bonds.Bonds.note_agent.Goals as goal

pub loop-site-init : goal.loop-site-init
loop-site-init c = IsContinued-none _

pub loop-site-preserved : goal.loop-site-preserved
loop-site-preserved c =
    IsContinued-site _ c.loop-site.self c.match-label_of.self c.args.agent c.loop-site.site-index c.args.sites.now c.site-item.result c.label_of.result c.loop-site.invariant c.loop-site-test.true c.site-item.is c.label_of.ensures
    (elim c.match-label_of.branch [ in-Some+in_ok-note w ↦ rw (w.self-is, w.in-Some.is) w.in_ok-note.ensures | in_default w ↦ rw (w.self-is, w.in_default.is) (IsContinued-none c.loop-site.self) ])

pub returns : goal.returns
returns c = IsContinued-sites _ _ _ c.loop-site.site-index c.args.sites.now c.loop-site.invariant c.loop-site-test.false

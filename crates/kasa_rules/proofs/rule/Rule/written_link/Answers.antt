use Rattle.std.proofs.Common.{◌≡◌, ◌∙◌, ap, sym}
use Rattle.std.specs.Prelude.{option_and_then}
use Rattle.kasa_rules.specs.declared.rule.SiteAction.{SiteAction}
use Rattle.kasa_rules.specs.Rule.{written_link}
use Rattle.kasa_rules.proofs.RuleLemmas.{action_at-is, written_link-of}
use Rattle.kasa_rules.proofs.rule.Rule.written_link.Goals as goal
use Rattle.kasa_rules.proofs.rule.Rule.written_link.Goals.{After-find_action}

found : (c : After-find_action) → option_and_then (λ (x : SiteAction). x.link) c.find_action.result ≡ written_link c.args.self.now c.args.node c.args.site
found c = written_link-of c.args.self.now c.args.node c.args.site c.find_action.result (rw (action_at-is, ← c.self.view_is, ← c.deref.ensures.value) c.find_action.ensures)

pub returns-in-None : goal.returns-in-None
returns-in-None c = let d = (goal.at.returns-in-None c).After-find_action in ap (option_and_then (λ (x : SiteAction). x.link)) (sym c.in-None.is) ∙ found d

pub returns-in-Some : goal.returns-in-Some
returns-in-Some c = let d = (goal.at.returns-in-Some c).After-find_action in ap (option_and_then (λ (x : SiteAction). x.link)) (sym c.in-Some.is) ∙ found d

use Rattle.std.proofs.Common.{rules}
use Rattle.kasa_rules.proofs.RuleLemmas.{made_bound, made_site_bound, made_link-of}
use Rattle.kasa_rules.proofs.rule.Rule.made_link.Goals as goal

pub index-requires : goal.index-requires
index-requires c = let within = made_bound _ _ _ (rw (← c.self.view_is) at c.requires) in search rules

pub get-requires : goal.get-requires
get-requires c = made_site_bound _ _ _ _ c.index.ensures (rw (← c.self.view_is, ← c.site.view_is) at c.requires)

pub returns : goal.returns
returns c = rw (← c.self.view_is, ← c.site.view_is) (made_link-of _ _ _ _ _ c.index.ensures (rw (← c.self.view_is, ← c.site.view_is) at c.requires) c.get.ensures)

use Rattle.std.proofs.Common.{◌↔◌, ◌⊎◌}
use Rattle.kasa_graph.specs.Lists.{Has}
use Rattle.kasa_families.specs.declared.row.LocalLink.{LocalLink}
use Rattle.kasa_columns.specs.Chosen.{IsPartnerOf}
use Rattle.kasa_columns.proofs.Pushing.{FromUpto}
use Rattle.kasa_columns.proofs.chosen.push_partners.Given as goal

abbrev pub invariant-loop-y : goal.invariant-loop-y
invariant-loop-y l = (link : LocalLink) → Has l.links.items link ↔ (Has l.initial.links.items link ⊎ FromUpto (IsPartnerOf l.sig l.agent) l.y link)

use Rattle.std.proofs.Common.{◌↔◌, ◌⊎◌, ℕ}
use Rattle.kasa_graph.specs.Lists.{Has}
use Rattle.kasa_families.specs.declared.row.LocalLink.{LocalLink}
use Rattle.kasa_columns.specs.Chosen.{IsPartnerOf}
use Rattle.kasa_columns.proofs.Pushing.{FromUpto}
use Rattle.kasa_columns.proofs.chosen.all_links.Given as goal

abbrev pub invariant-loop-b : goal.invariant-loop-b
invariant-loop-b l = (link : LocalLink) → Has l.links.items link ↔ (Has l.initial.links.items link ⊎ FromUpto (λ b x. (y : ℕ) × IsPartnerOf l.sig b y x) l.b link)

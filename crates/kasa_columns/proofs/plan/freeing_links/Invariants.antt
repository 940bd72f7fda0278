use Rattle.std.proofs.Common.{ℕ, ◌<◌}
use Rattle.kasa_graph.specs.Lists.{Has}
use Rattle.kasa_graph.specs.Pattern.{link_test}
use Rattle.kasa_families.specs.declared.row.LocalLink.TheVariants.{Partner}
use Rattle.kasa_pre.specs.Acts.{LeavesOpen}
use Rattle.kasa_columns.specs.Outcomes.{IsTouchedPartner}
use Rattle.kasa_columns.proofs.plan.freeing_links.Given as goal

abbrev pub invariant-loop-n : goal.invariant-loop-n
invariant-loop-n l = (n : ℕ) → n < l.n → (a y : ℕ) → IsTouchedPartner l.rule a y n → LeavesOpen (link_test l.rule.left n y) → Has l.links.items (Partner a y)

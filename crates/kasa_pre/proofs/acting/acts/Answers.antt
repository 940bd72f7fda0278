use Rattle.std.proofs.Common.{inl, inr}
use Rattle.kasa_pre.proofs.ActsLemmas.{nothing_new, on_false}
use Rattle.kasa_pre.proofs.acting.acts.Goals as goal

pub returns-else-names_type_of-clause-nothing_new : goal.returns-else-names_type_of-clause-nothing_new
returns-else-names_type_of-clause-nothing_new c =
    on_false _ _ c.acts_on_all.result c.acts_on_all.ensures (λ not. nothing_new c.args.rule.now c.args.family.now (λ acts. elim acts [
      | inl names ↦ absurd (let yes = c.names_type_of.ensures.1 names in let no = c.if-names_type_of.false in cc)
      | inr open_sites ↦ not open_sites
    ]))

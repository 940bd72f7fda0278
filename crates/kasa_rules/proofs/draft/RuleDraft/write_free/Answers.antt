use Rattle.std.proofs.Common.{arith}
use Rattle.std.proofs.lemmas.Grind.{common_steps}
use Rattle.kasa_rules.specs.declared.rule.End.TheVariants.{Left}
use Rattle.kasa_rules.specs.declared.rule.Written.TheVariants.{Free}
use Rattle.kasa_rules.specs.Draft.{with_written_link}
use Rattle.kasa_rules.proofs.DraftLemmas.{HasListed-end, IsKept-of, IsKept-free, IsDraftOver-of, IsDraftOver-free}
use Rattle.kasa_rules.proofs.draft.RuleDraft.write_free.Goals as goal

pub put_link-requires : goal.put_link-requires
put_link-requires c = rw (c.deref_mut.ensures.value) (HasListed-end _ (Left c.args.node) c.args.site c.self.invariant.2 (rw (← c.self.view_is) at c.requires.exists))

pub invariant_of-self : goal.invariant_of-self
unfolding with_written_link
invariant_of-self c = IsKept-of (with_written_link c.args.self.now (Left c.args.node) c.args.site Free) _ (grind (arith, common_steps)) (IsKept-free c.args.self.now (Left c.args.node) c.args.site (rw c.self.view_is at c.self.invariant) c.requires.exists c.requires.unwritten)

pub returns-clause-draft : goal.returns-clause-draft
unfolding with_written_link
returns-clause-draft c = grind (arith, common_steps)

pub returns-clause-over : goal.returns-clause-over
unfolding with_written_link
returns-clause-over c = λ sig over. IsDraftOver-of sig (with_written_link c.args.self.now (Left c.args.node) c.args.site Free) _ (grind (arith, common_steps)) (IsDraftOver-free sig c.args.self.now (Left c.args.node) c.args.site (rw c.self.view_is at c.self.invariant) c.requires.exists c.requires.unwritten over)

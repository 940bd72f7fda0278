use Rattle.std.proofs.Common.{◌∙◌}
use Rattle.kasa_compile.specs.Building.{IsFresh}
use Rattle.kasa_compile.proofs.BareLemmas.{IsFresh-new, IsBare-fresh, new_made}
use Rattle.kasa_compile.proofs.rule.bare_draft.Goals as goal

pub delete_agents-requires-clause-fresh : goal.delete_agents-requires-clause-fresh
delete_agents-requires-clause-fresh c =
    let numbered = (c.requires.sides).numbered in
    (c.args.name.now, c.args.left.now, rw (c.in_ok-draft.ensures.draft, c.in_ok-copy.ensures) (IsFresh-new c.args.sides.now c.args.name.now c.args.left.now numbered.after_count c.requires.types))

pub make_agents-requires-clause-none : goal.make_agents-requires-clause-none
make_agents-requires-clause-none c = c.delete_agents.ensures.made ∙ rw c.in_ok-draft.ensures.draft (new_made _ _)

pub returns-clause-over : goal.returns-clause-over
returns-clause-over c = c.in_ok-make_agents.ensures.over (c.delete_agents.ensures.over c.args.sig.now c.in_ok-draft.ensures.over)

pub returns-clause-bare : goal.returns-clause-bare
returns-clause-bare c =
    let numbered = (c.requires.sides).numbered in
    let fresh : IsFresh c.args.sides.now c.args.name.now c.args.left.now 0 c.in_ok-draft.draft = rw (c.in_ok-draft.ensures.draft, c.in_ok-copy.ensures) (IsFresh-new c.args.sides.now c.args.name.now c.args.left.now numbered.after_count c.requires.types) in
    let none = c.delete_agents.ensures.made ∙ rw c.in_ok-draft.ensures.draft (new_made _ _) in
    c.in_ok-make_agents.ensures.bare c.args.name.now c.args.left.now (IsBare-fresh c.args.sides.now c.args.name.now c.args.left.now c.args.sig.now c.delete_agents.new.draft none (c.delete_agents.ensures.fresh c.args.name.now c.args.left.now fresh))

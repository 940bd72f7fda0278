use Rattle.std.proofs.Common.{◌≡◌, ℕ, ◌+◌, List, sym, ◌∙◌}
use Rattle.std.specs.Prelude.{true, false, Option, Some, None, is_none, slice_get}
use Rattle.kasa_graph.specs.declared.pattern.Node.{Node}
use Rattle.kasa_graph.proofs.ListLemmas.{some_at}
use Rattle.kasa_rules.specs.Rule.{RuleParts}
use Rattle.kasa_rules.specs.Draft.{with_deleted}
use Rattle.kasa_compile.specs.Sides.{SidesParts}
use Rattle.kasa_compile.specs.Building.{IsFresh}
use Rattle.kasa_compile.proofs.BareLemmas.{IsFresh-deleted, IsFresh-kept, made_deleted}
use Rattle.kasa_compile.proofs.rule.delete_agent.Goals as goal

deleted : (x : SidesParts) (name : List ℕ) (g : List Node) (n : ℕ) (r h : RuleParts) (o : Option ℕ) → slice_get x.after n ≡ Some o → is_none o ≡ true → h ≡ with_deleted r n → IsFresh x name g n r → IsFresh x name g (n + 1) h
deleted x name g n r h None at none is fresh = rw is (IsFresh-deleted x name g r n at fresh)
deleted x name g n r h (Some k) at none is fresh = absurd cc

stays : (x : SidesParts) (name : List ℕ) (g : List Node) (n : ℕ) (r : RuleParts) (o : Option ℕ) → slice_get x.after n ≡ Some o → is_none o ≡ false → IsFresh x name g n r → IsFresh x name g (n + 1) r
stays x name g n r None at some fresh = absurd cc
stays x name g n r (Some k) at some fresh = IsFresh-kept x name g r n k at fresh

pub returns-then-is_deleted-clause-made : goal.returns-then-is_deleted-clause-made
returns-then-is_deleted-clause-made c = rw c.delete.ensures.draft (made_deleted c.args.draft.now c.args.n)

pub returns-then-is_deleted-clause-fresh : goal.returns-then-is_deleted-clause-fresh
returns-then-is_deleted-clause-fresh c = λ name g fresh.
    let o = some_at c.args.sides.now.after c.args.n c.requires.within in
    deleted c.args.sides.now name g c.args.n c.args.draft.now c.delete.new.self o.0 o.1 (sym (c.is_deleted.ensures o.0 o.1) ∙ c.if-is_deleted.true) c.delete.ensures.draft fresh

pub returns-else-is_deleted-clause-fresh : goal.returns-else-is_deleted-clause-fresh
returns-else-is_deleted-clause-fresh c = λ name g fresh.
    let o = some_at c.args.sides.now.after c.args.n c.requires.within in
    stays c.args.sides.now name g c.args.n c.args.draft.now o.0 o.1 (sym (c.is_deleted.ensures o.0 o.1) ∙ c.if-is_deleted.false) fresh

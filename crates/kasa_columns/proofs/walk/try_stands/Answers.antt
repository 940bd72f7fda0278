use Rattle.std.proofs.Common.{◌≡◌, inl, inr, ℕ, [], ◌∷◌}
use Rattle.std.proofs.lemmas.Result.{IfOk-weaker}
use Rattle.kasa_families.specs.Family.{shape_of}
use Rattle.kasa_pre.specs.declared.Stand.TheVariants.{Made}
use Rattle.kasa_columns.specs.Ask.{IsAsk}
use Rattle.kasa_columns.specs.Forward.{LeavesBonds}
use Rattle.kasa_columns.proofs.StandLemmas.{StandsExist-fit}
use Rattle.kasa_columns.proofs.WalkLemmas.{stored_settled, created_settled, chosen_settled}
use Rattle.kasa_columns.proofs.walk.try_stands.Goals as goal

pub leaves_bonds-requires-clause-exist : goal.leaves_bonds-requires-clause-exist
leaves_bonds-requires-clause-exist g c = StandsExist-fit c.search.inside.rule.now c.args.stands.now (shape_of c.search.inside.family.now).types (rw (← c.search.view_is) at c.requires.fit)

pub try_chosen-requires-clause-choices : goal.try_chosen-requires-clause-choices
try_chosen-requires-clause-choices g c =
    let writes : ¬ LeavesBonds c.args.search.now.rule (shape_of c.args.search.now.family).bonds c.args.stands.now = rw (← c.search.view_is) (λ leaves. let yes = c.leaves_bonds.ensures.1 leaves in let no = c.if-not-leaves_bonds.true in absurd cc) in
    elim c.requires.choices [ inl are ↦ are | inr leaves ↦ absurd (writes leaves) ]

pub returns-then-not-leaves_bonds-clause-settled : goal.returns-then-not-leaves_bonds-clause-settled
returns-then-not-leaves_bonds-clause-settled g c =
    let writes : ¬ LeavesBonds c.args.search.now.rule (shape_of c.args.search.now.family).bonds c.args.stands.now = rw (← c.search.view_is) (λ leaves. let yes = c.leaves_bonds.ensures.1 leaves in let no = c.if-not-leaves_bonds.true in absurd cc) in
    let ok : IsAsk c.args.search.now = rw (← c.search.view_is) c.search.invariant in
    IfOk-weaker c.try_chosen.result _ _ (λ done. chosen_settled c.args.search.now ok c.args.stands.now c.args.choices.now _ writes) c.try_chosen.ensures.settled

pub returns-then-is_created-clause-settled : goal.returns-then-is_created-clause-settled
returns-then-is_created-clause-settled g c =
    let leaves : LeavesBonds c.args.search.now.rule (shape_of c.args.search.now.family).bonds c.args.stands.now = rw (← c.search.view_is) (c.leaves_bonds.ensures.0 c.if-not-leaves_bonds.false) in
    let ok : IsAsk c.args.search.now = rw (← c.search.view_is) c.search.invariant in
    let created : (k : ℕ) × (c.args.stands.now ≡ Made k ∷ []) = rw c.if-is_created.true at c.is_created.ensures.created in
    IfOk-weaker c.try_created.result _ _ (λ done. created_settled c.args.search.now ok c.args.stands.now c.args.choices.now _ leaves created.0 created.1) c.try_created.ensures.settled

pub returns-clause-settled : goal.returns-clause-settled
returns-clause-settled g c =
    let leaves : LeavesBonds c.args.search.now.rule (shape_of c.args.search.now.family).bonds c.args.stands.now = rw (← c.search.view_is) (c.leaves_bonds.ensures.0 c.if-not-leaves_bonds.false) in
    let ok : IsAsk c.args.search.now = rw (← c.search.view_is) c.search.invariant in
    let other : (k : ℕ) → c.args.stands.now ≡ Made k ∷ [] → ⊥ = rw c.if-is_created.false at c.is_created.ensures.other in
    IfOk-weaker c.try_stored.result _ _ (λ done. stored_settled c.args.search.now ok c.args.stands.now c.args.choices.now _ leaves other) c.try_stored.ensures.settled

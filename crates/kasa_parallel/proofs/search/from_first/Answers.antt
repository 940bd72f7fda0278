use Rattle.std.proofs.Common.{◌≡◌, ◌∙◌, sym, inl, inr}
use Rattle.kasa_families.specs.declared.row.Row.TheVariants.{Locals, Same, Different}
use Rattle.kasa_parallel.proofs.search.from_first.Goals as goal

pub unreachable-requires : goal.unreachable-requires
unreachable-requires g c = elim c.requires.row [
  | inl e ↦ (let clash : Same ≡ Locals c.in-Locals.field-0 = sym e ∙ c.in-Locals.is in absurd cc)
  | inr e ↦ (let clash : Different ≡ Locals c.in-Locals.field-0 = sym e ∙ c.in-Locals.is in absurd cc)
]

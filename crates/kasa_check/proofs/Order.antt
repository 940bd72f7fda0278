-- The order of lacked rows is strict.
use Rattle.std.proofs.Common.{inl, inr, subst, arith}
use Rattle.kasa_families.specs.declared.row.Row.{Row}
use Rattle.kasa_families.specs.declared.rows.Origin.{Origin}
use Rattle.kasa_families.specs.declared.rows.Origin.TheVariants.{Init, Rule}
use Rattle.kasa_families.specs.declared.rows.Missing.{Missing}
use Rattle.kasa_families.specs.Row.{IsRowBelow}
use Rattle.kasa_families.proofs.RowOrder.{IsRowBelow-trans, IsRowBelow-strict}
use Rattle.kasa_check.specs.Lacked.{IsOriginBelow, IsBelowWithin, IsMissingBelow}

origins_asym : (o p : Origin) → IsOriginBelow o p → IsOriginBelow p o → ⊥
origins_asym (Init i) (Init j) h g = omega arith
origins_asym (Init i) (Rule k) h g = absurd g
origins_asym (Rule k) (Init i) h g = absurd h
origins_asym (Rule k) (Rule l) h g = omega arith

origin_strict : (o : Origin) → IsOriginBelow o o → ⊥
origin_strict o h = origins_asym o o h h

rows_asym : (row next : Row) → IsRowBelow row next → IsRowBelow next row → ⊥
rows_asym row next h g = IsRowBelow-strict row (IsRowBelow-trans row next row h g)

-- within an origin
within_asym : (m n : Missing) → IsBelowWithin m n → IsBelowWithin n m → ⊥
within_asym m n (inl h) (inl g) = omega arith
within_asym m n (inl h) (inr g) = let e = g.0 in omega arith
within_asym m n (inr h) (inl g) = let e = h.0 in omega arith
within_asym m n (inr h) (inr g) = rows_asym m.row n.row h.1 g.1

pub missing_asym : (m n : Missing) → IsMissingBelow m n → IsMissingBelow n m → ⊥
missing_asym m n (inl h) (inl g) = origins_asym m.origin n.origin h g
missing_asym m n (inl h) (inr g) = origin_strict m.origin (subst (λ (o : Origin). IsOriginBelow m.origin o) g.0 h)
missing_asym m n (inr h) (inl g) = origin_strict n.origin (subst (λ (o : Origin). IsOriginBelow n.origin o) h.0 g)
missing_asym m n (inr h) (inr g) = within_asym m n h.1 g.1

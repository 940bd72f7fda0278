-- There is one verdict at most.
use Rattle.std.proofs.Common.{◌≡◌, zero, suc, ◌⊎◌, inl, inr, List, refl, ap, sym}
use Rattle.kasa_families.specs.declared.family.Family.{Family}
use Rattle.kasa_families.specs.declared.row.Row.{Row}
use Rattle.kasa_families.specs.declared.rows.Origin.{Origin}
use Rattle.kasa_families.specs.declared.rows.Origin.TheVariants.{Init, Rule}
use Rattle.kasa_families.specs.declared.rows.Missing.{Missing}
use Rattle.kasa_families.specs.declared.rows.Verdict.{Verdict}
use Rattle.kasa_families.specs.declared.rows.Verdict.TheVariants as verdict
use Rattle.kasa_families.specs.Table.{Table}
use Rattle.kasa_rules.specs.declared.model.Model.{Model}
use Rattle.kasa_pre.specs.Closed.{IsInitial, IsYielded, IsClosed}
use Rattle.kasa_check.specs.Lacked.{Gives, IsLacked}
use Rattle.kasa_check.specs.Verdict.{IsFirstLacked, IsVerdict}
use Rattle.kasa_check.proofs.Order.{missing_asym}

module _ (model : Model) (tables : List Table) where
  -- what an origin gives is initial or yielded
  pub given_due : (origin : Origin) (family : Family) (row : Row) → Gives model tables origin family row → IsInitial model family row ⊎ IsYielded model tables family row
  given_due (Init zero) family row (k, e, occurs) = absurd cc
  given_due (Init (suc i)) family row (k, e, occurs) = inl (i, k, e, occurs)
  given_due (Rule zero) family row (r, e, yields) = absurd cc
  given_due (Rule (suc k)) family row (r, e, yields) = inr (k, r, e, yields)

  -- so closed tables lack no row
  pub none_lacked : IsClosed model tables → (m : Missing) → ¬ IsLacked model tables m
  none_lacked closed m lacked =
      lacked.not_held (closed lacked.of_family (m.family, lacked.numbered) m.row lacked.valid (given_due m.origin lacked.of_family m.row lacked.given))

  one_first : (m n : Missing) → IsFirstLacked model tables m → IsFirstLacked model tables n → m ≡ n
  one_first m n first second = elim (first.1 n second.0) [
    | inl same ↦ same
    | inr below ↦ elim (second.1 m first.0) [
      | inl same ↦ sym same
      | inr above ↦ absurd (missing_asym m n below above)
    ]
  ]

  pub one_verdict : (v w : Verdict) → IsVerdict model tables v → IsVerdict model tables w → v ≡ w
  one_verdict verdict.Closed verdict.Closed one two = refl
  one_verdict verdict.Closed (verdict.Missing n) one two = absurd (none_lacked one n two.0)
  one_verdict (verdict.Missing m) verdict.Closed one two = absurd (none_lacked two m one.0)
  one_verdict (verdict.Missing m) (verdict.Missing n) one two = ap (λ (x : Missing). verdict.Missing x) (one_first m n one two)

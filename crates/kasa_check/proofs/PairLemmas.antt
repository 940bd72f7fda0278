-- The first lacked row of one family that a declared complex or a rule gives.
use Rattle.std.proofs.Common.{◌≡◌, ℕ, ◌⊎◌, ◌↔◌, inl, inr, List, refl, sym, ◌∙◌, subst}
use Rattle.std.specs.Prelude.{Option, Some, None, slice_get}
use Rattle.std.proofs.lemmas.Option.{same_Some}
use Rattle.kasa_graph.specs.declared.mixture.Agent.{Agent}
use Rattle.kasa_graph.specs.Lists.{Has}
use Rattle.kasa_families.specs.declared.family.Family.{Family}
use Rattle.kasa_families.specs.declared.row.Row.{Row}
use Rattle.kasa_families.specs.declared.rows.Origin.{Origin}
use Rattle.kasa_families.specs.declared.rows.Origin.TheVariants.{Init, Rule}
use Rattle.kasa_families.specs.declared.rows.Missing.{Missing}
use Rattle.kasa_families.specs.Row.{IsRow, IsRowBelow}
use Rattle.kasa_families.specs.Pattern.{Occurs}
use Rattle.kasa_families.specs.Table.{Table, AreTables, families_of, rows_of, Holds}
use Rattle.kasa_rules.specs.declared.model.Model.{Model}
use Rattle.kasa_rules.specs.Rule.{RuleParts, IsRuleOver}
use Rattle.kasa_rules.specs.Reached.{declared_complex}
use Rattle.kasa_pre.specs.Acts.{ActsOn}
use Rattle.kasa_pre.specs.Yields.{Yields}
use Rattle.kasa_pre.proofs.ActsLemmas.{nothing_new}
use Rattle.kasa_columns.specs.Results.{IsMissing, IsFirstMissing}
use Rattle.kasa_columns.proofs.Held.{Has-held, Holds-stored}
use Rattle.kasa_check.specs.Lacked.{rule_of, Gives, AreGiven, IsLacked}
use Rattle.kasa_check.specs.Search.{IsFirstOf, IsOf, IsLeastNew}

-- a row of a family, from an origin
abbrev pub from : Origin → ℕ → Row → Missing
from made f row = record { origin = made; family = f; row = row }

module _ (model : Model) (tables : List Table) (ok : AreTables model.sig tables) (f : ℕ) where
  -- no row of a family that isn't there is lacked
  pub unknown_family : (origin : Origin) → None ≡ slice_get (families_of tables) f → IsFirstOf model tables (IsOf origin f) None
  unknown_family origin none m (at, same) lacked =
      let here : slice_get (families_of tables) f ≡ Some lacked.of_family = subst (λ (g : ℕ). slice_get (families_of tables) g ≡ Some lacked.of_family) same lacked.numbered in
      absurd (let both : None ≡ Some lacked.of_family = none ∙ here in cc)

  module _ (family : Family) (named : slice_get (families_of tables) f ≡ Some family) where
    -- a valid row of the family that is given and not stored
    abbrev pub IsNew : Origin → Row → Type 0
    IsNew origin row = IsRow model.sig family row × Gives model tables origin family row × (¬ Has (rows_of tables f) row)

    lacked_new : (origin : Origin) (row : Row) → IsNew origin row → IsLacked model tables (from origin f row)
    lacked_new origin row new = record {
      of_family = family;
      numbered = named;
      valid = new.0;
      given = new.1;
      not_held = λ held. new.2 (Has-held model.sig tables ok f family named row held);
    }

    new_lacked : (m : Missing) → m.family ≡ f → IsLacked model tables m → IsNew m.origin m.row
    new_lacked m same lacked =
        let here : slice_get (families_of tables) f ≡ Some lacked.of_family = subst (λ (g : ℕ). slice_get (families_of tables) g ≡ Some lacked.of_family) same lacked.numbered in
        let is : lacked.of_family ≡ family = same_Some lacked.of_family family (sym here ∙ named) in (
          subst (λ (x : Family). IsRow model.sig x m.row) is lacked.valid,
          subst (λ (x : Family). Gives model tables m.origin x m.row) is lacked.given,
          λ has. lacked.not_held (subst (λ (x : Family). Holds tables x m.row) (sym is) (Holds-stored model.sig tables ok f family named m.row has)),
        )

    pub none_new : (origin : Origin) → ((row : Row) → IsNew origin row → ⊥) → IsFirstOf model tables (IsOf origin f) None
    none_new origin none m (at, same) lacked = none m.row (subst (λ (o : Origin). IsNew o m.row) at (new_lacked m same lacked))

    pub least_new : (origin : Origin) (row : Row) → IsNew origin row → ((other : Row) → IsNew origin other → (row ≡ other) ⊎ IsRowBelow row other) → IsFirstOf model tables (IsOf origin f) (Some (from origin f row))
    least_new origin row new least = (
      (refl, refl),
      lacked_new origin row new,
      λ other (at, same) lacked.
          elim (least other.row (subst (λ (o : Origin). IsNew o other.row) at (new_lacked other same lacked))) [
            | inl is ↦ inl (λ i. record { origin = sym at i; family = sym same i; row = is i })
            | inr below ↦ inr (inr (sym at, inr (sym same, below)))
          ],
    )

    -- ---- where the rows that the origin gives are listed

    module _ (origin : Origin) (given : List Row) (are : AreGiven model tables origin family given) where
      pub no_given : IsLeastNew (rows_of tables f) given None → IsFirstOf model tables (IsOf origin f) None
      no_given all = none_new origin (λ row new. new.2 (all row ((are row).1 (new.0, new.1))))

      pub first_given : (row : Row) → IsLeastNew (rows_of tables f) given (Some row) → IsFirstOf model tables (IsOf origin f) (Some (from origin f row))
      first_given row least =
          let is = (are row).0 least.0 in
          least_new origin row (is.0, is.1, least.1) (λ other new. least.2 other ((are other).1 (new.0, new.1)) new.2)

    -- those that occur in a declared complex are
    pub given_occur : (n : ℕ) (k : List (Option Agent)) → declared_complex model n ≡ Some k → (given : List Row) → ((row : Row) → Has given row ↔ (IsRow model.sig family row × Occurs model.sig family row k)) → AreGiven model tables (Init n) family given
    given_occur n k declared given occur row = (
      λ has. let is = (occur row).0 has in (is.0, (k, declared, is.1)),
      λ (valid, (j, at, occurs)). (occur row).1 (valid, subst (λ (x : List (Option Agent)). Occurs model.sig family row x) (same_Some j k (sym at ∙ declared)) occurs),
    )

    -- ---- of a rule

    module _ (n : ℕ) (r : RuleParts) (ruled : rule_of model n ≡ Some r) where
      missing_new : (row : Row) → IsNew (Rule n) row → IsMissing model.sig tables r f row
      missing_new row (valid, (q, at, yields), new) = (
        record { family = family; numbered = named; valid = valid; yielded = subst (λ (x : RuleParts). Yields model.sig tables x family row) (same_Some q r (sym at ∙ ruled)) yields },
        new,
      )

      new_missing : (row : Row) → IsMissing model.sig tables r f row → IsNew (Rule n) row
      new_missing row (result, new) =
          let is : result.family ≡ family = same_Some result.family family (sym result.numbered ∙ named) in (
            subst (λ (x : Family). IsRow model.sig x row) is result.valid,
            (r, ruled, subst (λ (x : Family). Yields model.sig tables r x row) is result.yielded),
            new,
          )

      pub no_yielded : ((row : Row) → ¬ IsMissing model.sig tables r f row) → IsFirstOf model tables (IsOf (Rule n) f) None
      no_yielded none = none_new (Rule n) (λ row new. none row (missing_new row new))

      pub first_yielded : (row : Row) → IsFirstMissing model.sig tables r f row → IsFirstOf model tables (IsOf (Rule n) f) (Some (from (Rule n) f row))
      first_yielded row first = least_new (Rule n) row (new_missing row first.0) (λ other new. first.1 other (missing_new other new))

      -- a rule that doesn't act on the family yields nothing new of it
      pub not_acting : IsRuleOver model.sig r → ¬ ActsOn r family → IsFirstOf model tables (IsOf (Rule n) f) None
      not_acting over not = none_new (Rule n) (λ row new.
          let missing = missing_new row new in
          new.2 (Has-held model.sig tables ok f family named row (nothing_new r family not model.sig tables row ok over (f, named) new.0 (subst (λ (x : Family). Yields model.sig tables r x row) (same_Some missing.0.family family (sym missing.0.numbered ∙ named)) missing.0.yielded))))

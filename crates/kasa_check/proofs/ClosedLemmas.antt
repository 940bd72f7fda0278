-- Tables that lack no row are closed.
use Rattle.std.proofs.Common.{◌≡◌, ◌≢◌, ℕ, suc, ◌⊎◌, inl, inr, List, [], ◌∷◌, refl}
use Rattle.std.specs.Prelude.{Option, Some, None, slice_get}
use Rattle.std.specs.declared.cmp.Ordering.{Ordering}
use Rattle.std.specs.declared.cmp.Ordering.TheVariants.{Less, Equal, Greater}
use Rattle.std.specs.Ordering.{MatchOrdering}
use Rattle.kasa_graph.specs.Lists.{Has}
use Rattle.kasa_lists.proofs.Having.{Has-[], Has-later, Has-cons}
use Rattle.kasa_families.specs.declared.family.Family.{Family}
use Rattle.kasa_families.specs.declared.row.Row.{Row}
use Rattle.kasa_families.specs.declared.rows.Origin.{Origin}
use Rattle.kasa_families.specs.declared.rows.Origin.TheVariants.{Init, Rule}
use Rattle.kasa_families.specs.declared.rows.Missing.{Missing}
use Rattle.kasa_families.specs.Row.{IsRow, IsRowBelow}
use Rattle.kasa_families.specs.Table.{Table, AreTables, families_of, rows_of, Holds}
use Rattle.kasa_families.specs.contracts.row.RowOrd.TheImpl as order
use Rattle.kasa_families.proofs.RowOrder.{by_row, IsRowBelow-strict}
use Rattle.kasa_rules.specs.declared.model.Model.{Model}
use Rattle.kasa_rules.specs.Rule.{RuleParts}
use Rattle.kasa_rules.specs.Reached.{IsModel}
use Rattle.kasa_rules.proofs.ReachedLemmas.{IsMixtureOver-reached}
use Rattle.kasa_pre.specs.Allowed.{IsDead}
use Rattle.kasa_pre.specs.Closed.{IsClosed}
use Rattle.kasa_pre.specs.Sound.{AlwaysHolds, NeverFires}
use Rattle.kasa_pre.proofs.StepLemmas.{never-dead, LemmaHolds-cover}
use Rattle.kasa_pre.proofs.SoundLemmas.{Cover-reached}
use Rattle.kasa_columns.proofs.Held.{Has-held, Holds-stored}
use Rattle.kasa_check.specs.Lacked.{Gives, IsLacked}
use Rattle.kasa_check.specs.Verdict.{IsFirstLacked}
use Rattle.kasa_check.specs.Search.{IsFirstOf, IsFromInit, IsFromRule}

-- two rows are equal, or not
same_row : (row other : Row) (o : Ordering) → MatchOrdering o (IsRowBelow row other) (row ≡ other) (IsRowBelow other row) → (row ≡ other) ⊎ (row ≢ other)
same_row row other Less h = inr (λ e. IsRowBelow-strict other (rw e at h))
same_row row other Equal h = inl h
same_row row other Greater h = inr (λ e. IsRowBelow-strict other (rw e at h))

-- a list has a row, or not
pub has_or_not : (rows : List Row) (row : Row) → Has rows row ⊎ (Has rows row → ⊥)
has_or_not [] row = inr (Has-[] row)
has_or_not (other ∷ rows) row = elim (same_row row other ((order.ghosts).cmp row other) (by_row row other)) [
  | inl same ↦ inl (0, rw same refl)
  | inr apart ↦ elim (has_or_not rows row) [
    | inl has ↦ inl (Has-later other rows row has)
    | inr not ↦ inr (λ has. elim (Has-cons other rows row has) [ inl is ↦ apart is | inr later ↦ not later ])
  ]
]

-- what isn't some is none
pub none_left : (o : Option Missing) → ((m : Missing) → o ≡ Some m → ⊥) → None ≡ o
none_left None not = refl
none_left (Some m) not = absurd (not m refl)

module _ (model : Model) (tables : List Table) (ok : AreTables model.sig tables) where
  -- a valid row that is given and not lacked is held
  held_given : (origin : Origin) (f : ℕ) (family : Family) (row : Row) → slice_get (families_of tables) f ≡ Some family → IsRow model.sig family row → Gives model tables origin family row → ¬ IsLacked model tables (record { origin = origin; family = f; row = row }) → Holds tables family row
  held_given origin f family row named valid given not = elim (has_or_not (rows_of tables f) row) [
    | inl has ↦ Holds-stored model.sig tables ok f family named row has
    | inr new ↦ absurd (not (record { of_family = family; numbered = named; valid = valid; given = given; not_held = λ held. new (Has-held model.sig tables ok f family named row held) }))
  ]

  pub closed : ((m : Missing) → ¬ IsLacked model tables m) → IsClosed model tables
  closed none family has row valid (inl (i, k, at, occurs)) = held_given (Init (suc i)) has.0 family row has.1 valid (k, at, occurs) (none _)
  closed none family has row valid (inr (k, r, at, yields)) = held_given (Rule (suc k)) has.0 family row has.1 valid (r, at, yields) (none _)

  -- ---- the verdict, from the first lacked rows of declared complexes and of rules

  origin_is : (origin : Origin) → ((n : ℕ) × (origin ≡ Init n)) ⊎ ((n : ℕ) × (origin ≡ Rule n))
  origin_is (Init n) = inl (n, refl)
  origin_is (Rule n) = inr (n, refl)

  pub first_initial : (m : Missing) → IsFirstOf model tables IsFromInit (Some m) → IsFirstLacked model tables m
  first_initial m first = (
    first.1,
    λ other lacked. elim (origin_is other.origin) [
      | inl init ↦ first.2 other init lacked
      | inr (k, is) ↦ inr (inl (rw (first.0.1, is) tt))
    ],
  )

  pub first_yielded : (m : Missing) → IsFirstOf model tables IsFromInit None → IsFirstOf model tables IsFromRule (Some m) → IsFirstLacked model tables m
  first_yielded m none first = (
    first.1,
    λ other lacked. elim (origin_is other.origin) [
      | inl init ↦ absurd (none other init lacked)
      | inr rule ↦ first.2 other rule lacked
    ],
  )

  pub all_held : IsFirstOf model tables IsFromInit None → IsFirstOf model tables IsFromRule None → IsClosed model tables
  all_held inits rules = closed (λ m lacked. elim (origin_is m.origin) [
    | inl init ↦ inits m init lacked
    | inr rule ↦ rules m rule lacked
  ])

  -- ---- closed tables are sound

  module _ (is : IsModel model) (all_there : IsClosed model tables) where
    pub always_holds : (family : Family) → Has (families_of tables) family → AlwaysHolds model tables family
    always_holds family has m reached =
        LemmaHolds-cover model.sig tables m ok (IsMixtureOver-reached model is m reached) (Cover-reached model is tables ok all_there m reached) family has

    pub never_fires : (r : RuleParts) → IsDead model.sig tables r → NeverFires model r
    never_fires r gone m reached cells =
        never-dead model.sig tables m ok (IsMixtureOver-reached model is m reached) (Cover-reached model is tables ok all_there m reached) r cells gone

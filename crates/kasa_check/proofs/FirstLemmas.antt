-- The first lacked row, as far as a search went.
use Rattle.std.proofs.Common.{◌≡◌, ℕ, suc, ◌+◌, ◌<◌, ◌⊎◌, inl, inr, List, length, zero, subst, sym, ◌∙◌, arith}
use Rattle.std.specs.Prelude.{Option, Some, None, IsSome}
use Rattle.std.proofs.lemmas.Option.{slice_get_within}
use Rattle.kasa_graph.specs.declared.mixture.Agent.{Agent}
use Rattle.kasa_lists.proofs.Numbers.{below_or}
use Rattle.kasa_graph.specs.Mixture.{IsMixtureOver}
use Rattle.kasa_families.specs.declared.rows.Origin.{Origin}
use Rattle.kasa_families.specs.declared.rows.Origin.TheVariants.{Init, Rule}
use Rattle.kasa_families.specs.declared.rows.Missing.{Missing}
use Rattle.kasa_families.specs.Table.{Table}
use Rattle.kasa_families.proofs.TableLemmas.{table_of}
use Rattle.kasa_rules.specs.declared.model.Model.{Model}
use Rattle.kasa_rules.specs.Rule.{RuleParts, IsRuleOver}
use Rattle.kasa_rules.specs.Reached.{declared_complex, IsModel}
use Rattle.kasa_check.specs.Lacked.{rule_of, Gives, IsLacked, IsOriginBelow, IsMissingBelow}
use Rattle.kasa_check.specs.Search.{IsFirstOf, IsFrom, IsOf}

-- below a number, equal, or above
pub compare : (i j : ℕ) → (i < j) ⊎ ((i ≡ j) ⊎ (j < i))
compare i j = elim (below_or i j) [
  | inl less ↦ inl less
  | inr (zero, e) ↦ inr (inl (omega arith))
  | inr (suc k, e) ↦ inr (inr (omega arith))
]

module _ (model : Model) (tables : List Table) where
  -- the first of some rows is the first of others too, if those others that aren't among the first come behind it or aren't lacked
  pub first_among : (P Q : Missing → Type 0) (m : Missing) → IsFirstOf model tables P (Some m) → Q m → ((other : Missing) → Q other → IsLacked model tables other → P other ⊎ IsMissingBelow m other) → IsFirstOf model tables Q (Some m)
  first_among P Q m first is rest = (
    is,
    first.1,
    λ other has lacked. elim (rest other has lacked) [
      | inl among ↦ first.2 other among lacked
      | inr below ↦ inr below
    ],
  )

  -- ---- over families

  NoneBefore : Origin → ℕ → Type 0
  NoneBefore origin f = (other : Missing) → other.origin ≡ origin → other.family < f → ¬ IsLacked model tables other

  module _ (origin : Origin) (f : ℕ) where
    pub family_found : (found : Option Missing) → IsSome found → IsFirstOf model tables (IsOf origin f) found → ((other : Missing) → other.origin ≡ origin → other.family < f → ¬ IsLacked model tables other) → IsFirstOf model tables (IsFrom origin) found
    family_found None some first before = absurd cc
    family_found (Some m) some first before = first_among (IsOf origin f) (IsFrom origin) m first first.0.0 (λ other from lacked.
        elim (compare other.family f) [
          | inl less ↦ absurd (before other from less lacked)
          | inr (inl same) ↦ inl (from, same)
          | inr (inr more) ↦ inr (inr (first.0.0 ∙ sym from, inl (let e = first.0.1 in omega arith)))
        ])

    pub family_none : (found : Option Missing) → (IsSome found → ⊥) → IsFirstOf model tables (IsOf origin f) found → ((other : Missing) → other.origin ≡ origin → other.family < f → ¬ IsLacked model tables other) → (other : Missing) → other.origin ≡ origin → other.family < f + 1 → ¬ IsLacked model tables other
    family_none (Some m) none first before = absurd (none cc)
    family_none None none first before = λ other from less lacked. elim (compare other.family f) [
      | inl below ↦ before other from below lacked
      | inr (inl same) ↦ first other (from, same) lacked
      | inr (inr more) ↦ absurd (omega arith)
    ]

  -- ---- over declared complexes, and over rules

  module _ (make : ℕ → Origin) (ordered : (i j : ℕ) → i < j → IsOriginBelow (make i) (make j)) (k : ℕ) where
    pub origin_found : (found : Option Missing) → IsSome found → IsFirstOf model tables (IsFrom (make (k + 1))) found → ((other : Missing) (n : ℕ) → other.origin ≡ make n → n < k + 1 → ¬ IsLacked model tables other) → IsFirstOf model tables (λ m. (n : ℕ) × (m.origin ≡ make n)) found
    origin_found None some first before = absurd cc
    origin_found (Some m) some first before = first_among (IsFrom (make (k + 1))) (λ x. (n : ℕ) × (x.origin ≡ make n)) m first (k + 1, first.0) (λ other (n, from) lacked.
        elim (compare n (k + 1)) [
          | inl less ↦ absurd (before other n from less lacked)
          | inr (inl same) ↦ inl (rw (← same) from)
          | inr (inr more) ↦ inr (inl (rw (first.0, from) (ordered (k + 1) n more)))
        ])

    pub origin_none : (found : Option Missing) → (IsSome found → ⊥) → IsFirstOf model tables (IsFrom (make (k + 1))) found → ((other : Missing) (n : ℕ) → other.origin ≡ make n → n < k + 1 → ¬ IsLacked model tables other) → (other : Missing) (n : ℕ) → other.origin ≡ make n → n < k + 1 + 1 → ¬ IsLacked model tables other
    origin_none (Some m) none first before = absurd (none cc)
    origin_none None none first before = λ other n from less lacked. elim (compare n (k + 1)) [
      | inl below ↦ before other n from below lacked
      | inr (inl same) ↦ first other (rw (← same) from) lacked
      | inr (inr more) ↦ absurd (omega arith)
    ]

  -- ---- numbers that give rows

  complex_there : (n : ℕ) (k : List (Option Agent)) → declared_complex model n ≡ Some k → (0 < n) × (n < length model.inits + 1)
  complex_there zero k e = absurd cc
  complex_there (suc i) k e = let within = slice_get_within model.inits i k e in (omega arith, omega arith)

  rule_there : (n : ℕ) (r : RuleParts) → rule_of model n ≡ Some r → (0 < n) × (n < length model.rules + 1)
  rule_there zero r e = absurd cc
  rule_there (suc k) r e = let within = slice_get_within model.rules k r e in (omega arith, omega arith)

  pub init_there : (m : Missing) (n : ℕ) → m.origin ≡ Init n → IsLacked model tables m → (0 < n) × (n < length model.inits + 1)
  init_there m n from lacked =
      let given = subst (λ (o : Origin). Gives model tables o lacked.of_family m.row) from lacked.given in
      complex_there n given.0 given.1

  pub yield_there : (m : Missing) (n : ℕ) → m.origin ≡ Rule n → IsLacked model tables m → (0 < n) × (n < length model.rules + 1)
  yield_there m n from lacked =
      let given = subst (λ (o : Origin). Gives model tables o lacked.of_family m.row) from lacked.given in
      rule_there n given.0 given.1

  pub family_there : (m : Missing) → IsLacked model tables m → m.family < length tables
  family_there m lacked = let t = table_of tables m.family lacked.of_family lacked.numbered in slice_get_within tables m.family t.0 t.1

-- what stands under a number is valid
pub complex_over : (model : Model) → IsModel model → (n : ℕ) (k : List (Option Agent)) → declared_complex model n ≡ Some k → IsMixtureOver model.sig k
complex_over model is zero k e = absurd cc
complex_over model is (suc i) k e = is.inits i k e

pub rule_over : (model : Model) → IsModel model → (n : ℕ) (r : RuleParts) → rule_of model n ≡ Some r → IsRuleOver model.sig r
rule_over model is zero r e = absurd cc
rule_over model is (suc k) r e = is.rules k r e

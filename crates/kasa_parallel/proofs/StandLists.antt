-- Lists that a loop filters, and loops that stop at the first element with a property.
use Rattle.std.proofs.Common.{◌≡◌, ℕ, ◌+◌, ◌<◌, ◌≤◌, ◌↔◌, List, refl, sym, ◌∙◌, length, arith, get_or, below_more, subst, Some}
use Rattle.std.specs.Prelude.{slice_get}
use Rattle.std.proofs.lemmas.Option.{same_Some, slice_get_read, slice_get_within}
use Rattle.kasa_graph.specs.Lists.{Has}
use Rattle.kasa_columns.specs.Stands.{AreFrom}

-- what a loop takes of a list: the elements with a property
abbrev pub Takes : {X : Type 0} → (X → Type 0) → X → X → Type 0
Takes P x z = (z ≡ x) × P z

pub taken : {X : Type 0} (P : X → Type 0) (xs ys : List X) → ((z : X) → Has ys z ↔ AreFrom (Takes P) xs z) → (z : X) → Has ys z ↔ (Has xs z × P z)
taken P xs ys all z = (
  λ has. let from = (all z).0 has in (subst (Has xs) (sym from.2.0) from.1, from.2.1),
  λ h. (all z).1 (z, h.0, (refl, h.1)),
)

-- the first elements don't have the property
abbrev pub NoneOfFirst : {X : Type 0} → (X → Type 0) → List X → ℕ → Type 0
NoneOfFirst {X} P xs n = (k : ℕ) → k < n → (x : X) → slice_get xs k ≡ Some x → ¬ P x

module _ {X : Type 0} (P : X → Type 0) (xs : List X) where
  pub none_yet : NoneOfFirst P xs 0
  none_yet k less = absurd (omega arith)

  pub none_more : (n : ℕ) (x : X) → n < length xs → x ≡ get_or xs n x → NoneOfFirst P xs n → ¬ P x → NoneOfFirst P xs (n + 1)
  none_more n x within is none not =
      let here = slice_get_read xs (length xs) n x refl within is in
      below_more _ n none (λ other there. subst (λ (z : X). ¬ P z) (same_Some x other (sym here ∙ there)) not)

  pub none_at_all : (n : ℕ) → length xs ≤ n → NoneOfFirst P xs n → (x : X) → Has xs x → ¬ P x
  none_at_all n end none x has = let within = slice_get_within xs has.0 x has.1 in none has.0 (omega arith) x has.1

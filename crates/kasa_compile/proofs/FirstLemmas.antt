-- The first of what two lists give, and of what the agents among items give.
use Rattle.std.proofs.Common.{◌≡◌, ℕ, List, [], ◌∷◌, ◌++◌, Option, Some, None, refl, ap, sym, ◌∙◌}
use Rattle.std.specs.Prelude.{slice_get}
use Rattle.std.specs.List.{flat_map}
use Rattle.std.proofs.lemmas.Grind.{flat_map-append}
use Rattle.kasa_syntax.specs.declared.agents.AgentText.{AgentText}
use Rattle.kasa_syntax.specs.declared.decls.Item.{Item}
use Rattle.kasa_compile.specs.Labels.{agents_in, agents_of}

-- ---- of two lists

pub first_of_left : (xs ys : List ℕ) (o : ℕ) → Some o ≡ slice_get xs 0 → Some o ≡ slice_get (xs ++ ys) 0
first_of_left [] ys o e = absurd cc
first_of_left (x ∷ xs) ys o e = e

pub first_of_right : (xs ys : List ℕ) (o : Option ℕ) → None ≡ slice_get xs 0 → o ≡ slice_get ys 0 → o ≡ slice_get (xs ++ ys) 0
first_of_right [] ys o e f = f
first_of_right (x ∷ xs) ys o e f = absurd cc

-- ---- of items

module _ (f : AgentText → List ℕ) where
  abbrev pub of_item : Item → List ℕ
  of_item i = flat_map f (agents_in i)

  pub of_items : (items : List Item) → flat_map of_item items ≡ flat_map f (agents_of items)
  of_items [] = refl
  of_items (i ∷ items) = ap (λ os. of_item i ++ os) (of_items items) ∙ sym (flat_map-append f (agents_in i) (agents_of items))

  -- of two sides
  pub first_on_left : (xs ys : List AgentText) (o : ℕ) → Some o ≡ slice_get (flat_map f xs) 0 → Some o ≡ slice_get (flat_map f (xs ++ ys)) 0
  first_on_left xs ys o e = rw (flat_map-append f xs ys) (first_of_left (flat_map f xs) (flat_map f ys) o e)

  pub first_on_right : (xs ys : List AgentText) (o : Option ℕ) → None ≡ slice_get (flat_map f xs) 0 → o ≡ slice_get (flat_map f ys) 0 → o ≡ slice_get (flat_map f (xs ++ ys)) 0
  first_on_right xs ys o none e = rw (flat_map-append f xs ys) (first_of_right (flat_map f xs) (flat_map f ys) o none e)

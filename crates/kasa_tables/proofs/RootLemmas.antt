-- Laws of the lists of families by type.
use Rattle.std.proofs.Common.{◌≡◌, ◌≢◌, ℕ, zero, suc, ◌+◌, ◌<◌, ◌↔◌, inl, inr, Bool, true, false, nat_eq, List, [], ◌∷◌, ◌++◌, length, refl, sym, ap, ◌∙◌, Option, Some, None, Vec, Global, zero-add, get_or}
use Rattle.std.specs.Prelude.{slice_get, slice_set, option_map}
use Rattle.std.specs.Option.{option_map_or, unwrap_or}
use Rattle.std.proofs.lemmas.Bool.Decides.{Decides-eqb}
use Rattle.std.proofs.lemmas.Option.{slice_get_read, slice_get-map}
use Rattle.kasa_graph.specs.Lists.{Has, update}
use Rattle.kasa_graph.proofs.ListLemmas.{same_or_not, slice_set-update, length-update, slice_get-update_same, slice_get-update_other}
use Rattle.kasa_families.specs.declared.family.Family.{Family}
use Rattle.kasa_families.specs.declared.row.Row.{Row}
use Rattle.kasa_families.specs.Family.{family_types}
use Rattle.kasa_families.specs.First.{IsRooted, IsLeastFrom}
use Rattle.kasa_families.specs.Table.{Table}
use Rattle.kasa_families.proofs.TableLemmas.{family_at, table_of}
use Rattle.kasa_tables.specs.Insert.{empty_table, with_last, with_row}
use Rattle.kasa_tables.specs.Post.{number_if}
use Rattle.kasa_tables.specs.Index.{numbers, listed_at, listed_in, is_rooted, AreRoots, IsRising}
use Rattle.kasa_tables.proofs.NumberLemmas.{numbers-push, numbers-at, numbers-there, numbers-rising, numbers-map, IsLeastFrom-same}

-- ---- lists by number

append_none : {X : Type 0} (xs : List X) → xs ++ [] ≡ xs
append_none [] = refl
append_none (x ∷ xs) = ap (λ r. x ∷ r) (append_none xs)

-- an empty list more, behind the others
pub listed_in-more : (lists : List (Vec ℕ Global)) (v : Vec ℕ Global) → v.items ≡ [] → (a : ℕ) → listed_in (lists ++ v ∷ []) a ≡ listed_in lists a
listed_in-more [] v none zero = none
listed_in-more [] v none (suc a) = refl
listed_in-more (list ∷ lists) v none zero = refl
listed_in-more (list ∷ lists) v none (suc a) = listed_in-more lists v none a

listed_in-is : (lists : List (Vec ℕ Global)) (a : ℕ) → listed_in lists a ≡ unwrap_or (option_map (λ list. list.items) (slice_get lists a)) []
listed_in-is lists a = ap (λ (o : Option (List ℕ)). unwrap_or o []) (slice_get-map (λ (list : Vec ℕ Global). list.items) lists a)

-- a list by number
pub listed_in-some : (lists : List (Vec ℕ Global)) (a : ℕ) (v : Vec ℕ Global) → slice_get lists a ≡ Some v → listed_in lists a ≡ v.items
listed_in-some lists a v there = listed_in-is lists a ∙ ap (λ (o : Option (Vec ℕ Global)). unwrap_or (option_map (λ list. list.items) o) []) there

pub listed_in-none : (lists : List (Vec ℕ Global)) (a : ℕ) → slice_get lists a ≡ None → listed_in lists a ≡ []
listed_in-none lists a there = listed_in-is lists a ∙ ap (λ (o : Option (Vec ℕ Global)). unwrap_or (option_map (λ list. list.items) o) []) there

same_list : (lists others : List (Vec ℕ Global)) (a : ℕ) → slice_get lists a ≡ slice_get others a → listed_in lists a ≡ listed_in others a
same_list lists others a same = listed_in-is lists a ∙ ap (λ (o : Option (Vec ℕ Global)). unwrap_or (option_map (λ list. list.items) o) []) same ∙ sym (listed_in-is others a)

number_if-same : (i n : ℕ) → number_if (nat_eq i i) n ≡ n ∷ []
number_if-same i n = ap (λ b. number_if b n) ((Decides-eqb i i).1 refl)

number_if-other : (i a n : ℕ) → i ≢ a → number_if (nat_eq i a) n ≡ []
number_if-other i a n ne = by (nat_eq i a) refl
  where
    by : (b : Bool) → b ≡ nat_eq i a → number_if b n ≡ []
    by true e = absurd (ne ((Decides-eqb i a).0 (sym e)))
    by false e = refl

-- one of them written anew, as it was or with a number more
module _ (lists : List (Vec ℕ Global)) (i : ℕ) (v w : Vec ℕ Global) (within : i < length lists) (is_v : v ≡ get_or lists i v) where
  there : slice_get lists i ≡ Some v
  there = slice_get_read lists (length lists) i v refl within is_v

  here : slice_get (update lists i (λ _. w)) i ≡ Some w
  here = slice_get-update_same lists i (λ _. w) ∙ ap (λ (o : Option (Vec ℕ Global)). option_map (λ _. w) o) there

  elsewhere : (a : ℕ) → i ≢ a → listed_in (update lists i (λ _. w)) a ≡ listed_in lists a
  elsewhere a ne = same_list (update lists i (λ _. w)) lists a (slice_get-update_other lists i a (λ _. w) ne)

  is_update : (a : ℕ) → listed_in (slice_set lists i w) a ≡ listed_in (update lists i (λ _. w)) a
  is_update a = ap (λ (l : List (Vec ℕ Global)). listed_in l a) (slice_set-update lists i v w (λ _. w) there refl)

  pub listed_in-kept : w.items ≡ v.items → (a : ℕ) → listed_in (slice_set lists i w) a ≡ listed_in lists a
  listed_in-kept same a = elim (same_or_not i a) [
    | inl e ↦ let kept : listed_in (update lists i (λ _. w)) a ≡ listed_in lists a = rw (← e) (listed_in-some (update lists i (λ _. w)) i w here ∙ same ∙ sym (listed_in-some lists i v there)) in is_update a ∙ kept
    | inr ne ↦ is_update a ∙ elsewhere a ne
  ]

  pub listed_in-pushed : (n : ℕ) → w.items ≡ v.items ++ n ∷ [] → (a : ℕ) → listed_in (slice_set lists i w) a ≡ listed_in lists a ++ number_if (nat_eq i a) n
  listed_in-pushed n more a = elim (same_or_not i a) [
    | inl e ↦
        let before : listed_in lists i ++ n ∷ [] ≡ listed_in lists i ++ number_if (nat_eq i i) n = ap (λ (l : List ℕ). listed_in lists i ++ l) (sym (number_if-same i n)) in
        let pushed : listed_in (update lists i (λ _. w)) i ≡ listed_in lists i ++ n ∷ [] = listed_in-some (update lists i (λ _. w)) i w here ∙ more ∙ ap (λ (l : List ℕ). l ++ n ∷ []) (sym (listed_in-some lists i v there)) in
        let both : listed_in (update lists i (λ _. w)) a ≡ listed_in lists a ++ number_if (nat_eq i a) n = rw (← e) (pushed ∙ before) in
        is_update a ∙ both
    | inr ne ↦ is_update a ∙ elsewhere a ne ∙ sym (append_none (listed_in lists a)) ∙ ap (λ (l : List ℕ). listed_in lists a ++ l) (sym (number_if-other i a n ne))
  ]

-- ---- families by type

is_rooted-some : (t : Table) (a : ℕ) → is_rooted a t ≡ true → slice_get (family_types t.family) 0 ≡ Some a
is_rooted-some t a passes = by (slice_get (family_types t.family) 0) refl passes
  where
    by : (o : Option ℕ) → o ≡ slice_get (family_types t.family) 0 → option_map_or (λ b. nat_eq b a) o false ≡ true → slice_get (family_types t.family) 0 ≡ Some a
    by None e passes = absurd cc
    by (Some b) e passes = sym e ∙ ap Some ((Decides-eqb b a).0 passes)

some-is_rooted : (t : Table) (a b : ℕ) → slice_get (family_types t.family) 0 ≡ Some b → is_rooted a t ≡ nat_eq b a
some-is_rooted t a b at = ap (λ (o : Option ℕ). option_map_or (λ b. nat_eq b a) o false) at

module _ (tables : List Table) (lists : List (List ℕ)) (were : AreRoots tables lists) where
  -- one family more
  pub AreRoots-push : (new : List (List ℕ)) (family : Family) (b : ℕ) → slice_get (family_types family) 0 ≡ Some b → ((a : ℕ) → listed_at new a ≡ listed_at lists a ++ number_if (nat_eq b a) (length tables)) → AreRoots (tables ++ empty_table family ∷ []) new
  AreRoots-push new family b first pushed a =
      pushed a ∙ ap (λ (l : List ℕ). l ++ number_if (nat_eq b a) (length tables)) (were a)
      ∙ sym (numbers-push (is_rooted a) 0 tables (empty_table family) ∙ ap (λ (l : List ℕ). numbers (is_rooted a) 0 tables ++ l) (ap (λ t. number_if t (0 + length tables)) (some-is_rooted (empty_table family) a b first) ∙ ap (λ n. number_if (nat_eq b a) n) (zero-add (length tables))))

  pub AreRoots-same : (new : List (List ℕ)) → ((a : ℕ) → listed_at new a ≡ listed_at lists a) → AreRoots tables new
  AreRoots-same new same a = same a ∙ were a

  same_type : (f : ℕ) (row : Row) (a i : ℕ) (t u : Table) → slice_get tables i ≡ Some t → slice_get (with_row tables f row) i ≡ Some u → is_rooted a t ≡ is_rooted a u
  same_type f row a i t u at_t at_u = elim (same_or_not f i) [
    | inl e ↦
        let there : slice_get (with_row tables i row) i ≡ Some (with_last row t) = slice_get-update_same tables i (with_last row) ∙ ap (λ (o : Option Table). option_map (with_last row) o) at_t in
        let other : slice_get (with_row tables i row) i ≡ Some u = rw e at at_u in
        let same : with_last row t ≡ u = cc in
        ap (is_rooted a) same
    | inr ne ↦
        let there = slice_get-update_other tables f i (with_last row) ne in
        let same : t ≡ u = cc in
        ap (is_rooted a) same
  ]

  -- one row more
  pub AreRoots-with_row : (f : ℕ) (row : Row) → AreRoots (with_row tables f row) lists
  AreRoots-with_row f row a = were a ∙ numbers-map (is_rooted a) (is_rooted a) 0 tables (with_row tables f row) (sym (length-update tables f (with_last row))) (same_type f row a)

  rooted_there : (a f : ℕ) → Has (listed_at lists a) f ↔ IsRooted tables a f
  rooted_there a f = (
    λ has. let t = numbers-at (is_rooted a) tables f (rw (were a) at has) in (t.0.family, family_at tables f t.0 (sym t.1), is_rooted-some t.0 a t.2),
    λ (family, named, first).
        let t = table_of tables f family named in
        rw (were a) (numbers-there (is_rooted a) tables f t.0 t.1 (some-is_rooted t.0 a a (rw t.2 first) ∙ (Decides-eqb a a).1 refl)),
  )

  -- the least number of a list is that of the first family of the type
  pub IsLeastFrom-rooted : (a from : ℕ) (o : Option ℕ) → IsLeastFrom (Has (listed_at lists a)) from o → IsLeastFrom (IsRooted tables a) from o
  IsLeastFrom-rooted a from o least = IsLeastFrom-same (Has (listed_at lists a)) (IsRooted tables a) from o (rooted_there a) least

  pub IsRising-listed : (a : ℕ) → IsRising (listed_at lists a)
  IsRising-listed a = rw (were a) (numbers-rising (is_rooted a) 0 tables)

pub AreRoots-[] : (lists : List (List ℕ)) → ((a : ℕ) → listed_at lists a ≡ []) → AreRoots [] lists
AreRoots-[] lists none a = none a

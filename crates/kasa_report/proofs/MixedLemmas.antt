-- The states and the links of rows at each position, and the rows that can be mixed of them.
use Rattle.std.proofs.Common.{◌≡◌, ◌≢◌, ℕ, zero, suc, ◌+◌, ◌*◌, ◌≤◌, ◌⊎◌, inl, inr, List, [], ◌∷◌, ◌++◌, length, map, drop, refl, sym, ap, subst, ◌∙◌, arith}
use Rattle.std.specs.Prelude.{Option, Some, slice_get, ◌↔◌}
use Rattle.std.proofs.lemmas.Bool.{cases_Bool}
use Rattle.std.proofs.lemmas.List.{length-append, length-drop}
use Rattle.std.proofs.lemmas.Option.{slice_get_within}
use Rattle.kasa_lists.specs.Lists.{Has, AllDifferent}
use Rattle.kasa_lists.proofs.Elements.{some_at, in_append, at_push}
use Rattle.kasa_lists.proofs.Having.{Has-[], Has-later, Has-cons, Has-append, Has-left, Has-right, Has-map, Has-of_map}
use Rattle.kasa_lists.proofs.Different.{AllDifferent-[], AllDifferent-tail, AllDifferent-head, length-within}
use Rattle.kasa_lists.proofs.Maps.{length-map}
use Rattle.kasa_families.specs.declared.row.Local.{Local}
use Rattle.kasa_families.specs.declared.row.LocalLink.{LocalLink}
use Rattle.kasa_families.specs.declared.row.Row.{Row}
use Rattle.kasa_families.specs.declared.row.Row.TheVariants.{Locals, Same, Different}
use Rattle.kasa_families.specs.contracts.row.RowPartialEq.TheImpl as rows_eq
use Rattle.kasa_families.proofs.SameValue.{same_row}
use Rattle.kasa_report.specs.Product.{SomeLocal, IsMixed, IsProductOf}
use Rattle.kasa_report.specs.inner.Mixed.{AreWide, AreStatesAt, AreLinksAt}
use Rattle.kasa_report.proofs.Grids.{AllDifferent-append, AllDifferent-map, has_all, has_or_not, AreAmong, grid, sizes, length-grid, sizes-push, has_grid, of_grid, different_grid, length-among, among_at, among_all, different_all}

-- ---- the local states of a state and a link each

abbrev with_state : Option ℕ → List LocalLink → List Local
with_state s links = map (λ t. record { state = s; link = t }) links

abbrev pub cells : List (Option ℕ) → List LocalLink → List Local
cells [] links = []
cells (s ∷ states) links = with_state s links ++ cells states links

pub length-cells : (states : List (Option ℕ)) (links : List LocalLink) → length (cells states links) ≡ length states * length links
length-cells [] links = omega arith
length-cells (s ∷ states) links =
    let first = length-append (with_state s links) (cells states links) in
    let same = length-map (λ (t : LocalLink). let l : Local = record { state = s; link = t } in l) links in
    let rest = length-cells states links in
    first ∙ omega arith

of_with : (s : Option ℕ) (links : List LocalLink) (l : Local) → Has (with_state s links) l → (l.state ≡ s) × Has links l.link
of_with s links l h =
    let t = Has-of_map (λ (t : LocalLink). let l : Local = record { state = s; link = t } in l) links l h in
    (sym (ap (λ (k : Local). k.state) t.2), subst (Has links) (ap (λ (k : Local). k.link) t.2) t.1)

pub of_cells : (states : List (Option ℕ)) (links : List LocalLink) (l : Local) → Has (cells states links) l → Has states l.state × Has links l.link
of_cells [] links l h = absurd (Has-[] l h)
of_cells (s ∷ states) links l h = elim (Has-append (with_state s links) (cells states links) l h) [
  | inl here ↦ (let t = of_with s links l here in ((0, ap Some (sym t.0)), t.1))
  | inr later ↦ (let r = of_cells states links l later in (Has-later s states l.state r.0, r.1))
]

pub has_cells : (states : List (Option ℕ)) (links : List LocalLink) (l : Local) → Has states l.state → Has links l.link → Has (cells states links) l
has_cells [] links l h k = absurd (Has-[] l.state h)
has_cells (s ∷ states) links l h k = elim (Has-cons s states l.state h) [
  | inl is ↦ Has-left (with_state s links) (cells states links) l
      (let made = Has-map (λ (t : LocalLink). let l : Local = record { state = s; link = t } in l) links l.link k in
      subst (λ (o : Option ℕ). let one : Local = record { state = o; link = l.link } in Has (with_state s links) one) (sym is) made)
  | inr later ↦ Has-right (with_state s links) (cells states links) l (has_cells states links l later k)
]

pub different_cells : (states : List (Option ℕ)) (links : List LocalLink) → AllDifferent states → AllDifferent links → AllDifferent (cells states links)
different_cells [] links first second = AllDifferent-[]
different_cells (s ∷ states) links first second = AllDifferent-append (with_state s links) (cells states links)
    (AllDifferent-map (λ (t : LocalLink). let l : Local = record { state = s; link = t } in l) links (λ t u h k e. ap (λ (l : Local). l.link) e) second)
    (different_cells states links (AllDifferent-tail s states first) second)
    (λ l here later.
    let h = of_with s links l here in
    let k = of_cells states links l later in
    let there = subst (Has states) h.0 k.0 in
    AllDifferent-head s states there.0 first there.1)

-- ---- columns

-- what can stand at a position of a mixed row
record AreCellsAt (rows : List Row) (k : ℕ) (c : List Local) : Type 0 where
  different : AllDifferent c
  each : (l : Local) → Has c l ↔ (SomeLocal rows k (λ o. o.state ≡ l.state) × SomeLocal rows k (λ o. o.link ≡ l.link))

cells_at : (rows : List Row) (k : ℕ) (states : List (Option ℕ)) (links : List LocalLink) → AreStatesAt rows k states → AreLinksAt rows k links → AreCellsAt rows k (cells states links)
cells_at rows k states links s t = record {
  different = different_cells states links s.different t.different;
  each = λ l. (
    λ h. let o = of_cells states links l h in ((s.each l.state).0 o.0, (t.each l.link).0 o.1),
    λ (h, g). has_cells states links l ((s.each l.state).1 h) ((t.each l.link).1 g),
  );
}

-- so many can be mixed at the first k positions
pub record AreMixed (rows : List Row) (k mixed : ℕ) : Type 0 where
  columns : List (List Local)
  many : length columns ≡ k
  each : (j : ℕ) (c : List Local) → slice_get columns j ≡ Some c → AreCellsAt rows j c
  count : mixed ≡ sizes columns

pub mixed_none : (rows : List Row) → AreMixed rows 0 1
mixed_none rows = record { columns = []; many = refl; each = λ j c at. absurd cc; count = refl }

pub mixed_more : (rows : List Row) (k mixed n m : ℕ) → AreMixed rows k mixed → ((states : List (Option ℕ)) × AreStatesAt rows k states × (n ≡ length states)) → ((links : List LocalLink) × AreLinksAt rows k links × (m ≡ length links)) → AreMixed rows (k + 1) (mixed * (n * m))
mixed_more rows k mixed n m before (states, are_states, n_is) (links, are_links, m_is) = record {
  columns = before.columns ++ cells states links ∷ [];
  many = let e = length-append before.columns (cells states links ∷ []) in let many = before.many in e ∙ omega arith;
  each = λ j c at. elim (at_push before.columns (cells states links) c j at) [
    | inl old ↦ before.each j c old
    | inr (last, is) ↦ (
        let here : j ≡ k = last ∙ before.many in
        let P : ℕ → Type 0 = λ i. AreCellsAt rows i c in
        subst P (sym here) (subst (AreCellsAt rows k) is (cells_at rows k states links are_states are_links)))
  ];
  count =
      let size : n * m ≡ length (cells states links) = rw (n_is, m_is) (sym (length-cells states links)) in
      ap (λ (i : ℕ). i * (n * m)) before.count ∙ ap (λ (i : ℕ). sizes before.columns * i) size ∙ sym (sizes-push before.columns (cells states links));
}

-- two rows are the same or not
pub same_or_not : (x y : Row) → (x ≡ y) ⊎ (x ≢ y)
same_or_not x y = elim (cases_Bool ((rows_eq.ghosts).eq x y)) [
  | inl e ↦ inl ((same_row x y).0 e)
  | inr e ↦ inr (λ same. let yes = (same_row x y).1 same in cc)
]

-- ---- mixed rows stand in the columns, and the other way round

module _ (rows : List Row) (n mixed : ℕ) (wide : AreWide rows n) where
  of_row : (ls : List Local) → Has rows (Locals ls) → length ls ≡ n
  of_row ls has = wide (Locals ls) has

  module _ (k : ℕ) (m : AreMixed rows k mixed) where
    different_columns : AllDifferent (grid m.columns)
    different_columns = different_grid m.columns (different_all m.columns (λ j c at. (m.each j c at).different))

    count_grid : length (grid m.columns) ≡ mixed
    count_grid = length-grid m.columns ∙ sym m.count

    cell_at : (j : ℕ) (p : List Local) (l : Local) → AreAmong m.columns p → slice_get p j ≡ Some l → SomeLocal rows j (λ o. o.state ≡ l.state) × SomeLocal rows j (λ o. o.link ≡ l.link)
    cell_at j p l among at =
        let long = length-among m.columns p among in
        let within = slice_get_within p j l at in
        let c = some_at m.columns j (omega arith) in
        ((m.each j c.0 c.1).each l).0 (among_at m.columns p j c.0 l among c.1 at)

    -- a mixed beginning goes on as some row does
    module _ (base : List Local) (has : Has rows (Locals base)) (short : k ≤ n) where
      gone_on : List Local → List Local
      gone_on p = p ++ drop k base

      drop_at : (xs : List Local) (a i j : ℕ) → a + i ≡ j → slice_get (drop a xs) i ≡ slice_get xs j
      drop_at [] zero i j e = refl
      drop_at [] (suc a) i j e = refl
      drop_at (x ∷ xs) zero i j e = let same : i ≡ j = omega arith in ap (slice_get (x ∷ xs)) same
      drop_at (x ∷ xs) (suc a) i zero e = absurd (omega arith)
      drop_at (x ∷ xs) (suc a) i (suc j) e = drop_at xs a i j (omega arith)

      mixed_at : (p : List Local) → AreAmong m.columns p → (j : ℕ) (l : Local) → slice_get (gone_on p) j ≡ Some l → SomeLocal rows j (λ o. o.state ≡ l.state) × SomeLocal rows j (λ o. o.link ≡ l.link)
      unfolding gone_on
      mixed_at p among j l at = elim (in_append p (drop k base) j l at) [
        | inl first ↦ cell_at j p l among first
        | inr (i, e, later) ↦ (
            let long = length-among m.columns p among in
            let many = m.many in
            let there : slice_get base j ≡ Some l = sym (drop_at base k i j (omega arith)) ∙ later in
            ((base, has, (l, there, refl)), (base, has, (l, there, refl))))
      ]

      IsMixed-gone_on : (p : List Local) → AreAmong m.columns p → IsMixed rows n (gone_on p)
      unfolding gone_on
      IsMixed-gone_on p among = record {
        size =
            let whole = length-append p (drop k base) in
            let rest = length-drop k base in
            let long = length-among m.columns p among in
            let many = m.many in
            let width = of_row base has in whole ∙ omega arith;
        states = λ j l at. (mixed_at p among j l at).0;
        links = λ j l at. (mixed_at p among j l at).1;
      }

      cut : (p q rest : List Local) → length p ≡ length q → p ++ rest ≡ q ++ rest → p ≡ q
      cut [] [] rest e same = refl
      cut [] (y ∷ q) rest e same = absurd (omega arith)
      cut (x ∷ p) [] rest e same = absurd (omega arith)
      cut (x ∷ p) (y ∷ q) rest e same =
          let head : x ≡ y = cc in
          let tail : p ++ rest ≡ q ++ rest = cc in
          let r = cut p q rest (omega arith) tail in cc

      apart : (p q : List Local) → Has (grid m.columns) p → Has (grid m.columns) q → Locals (gone_on p) ≡ Locals (gone_on q) → p ≡ q
      unfolding gone_on
      apart p q h g e =
          let first = length-among m.columns p (of_grid m.columns p h) in
          let second = length-among m.columns q (of_grid m.columns q g) in
          let same : p ++ drop k base ≡ q ++ drop k base = cc in
          cut p q (drop k base) (first ∙ sym second) same

      -- all that can be mixed stand in a product
      few_in_product : IsProductOf n rows → mixed ≤ length rows
      few_in_product product =
          let f : List Local → Row = λ p. Locals (gone_on p) in
          let less = length-within (map f (grid m.columns)) rows (AllDifferent-map f (grid m.columns) apart different_columns)
          (λ row h. let p = Has-of_map f (grid m.columns) row h in subst (Has rows) p.2 (product.every (gone_on p.0) (IsMixed-gone_on p.0 (of_grid m.columns p.0 p.1)))) in
          let size = length-map f (grid m.columns) in
          let count = count_grid in omega arith

    bounded_by : k ≤ n → IsProductOf n rows → (row : Row) → Has rows row → mixed ≤ length rows
    bounded_by short product (Locals base) has = few_in_product base has short product
    bounded_by short product Same has = absurd (wide Same has)
    bounded_by short product Different has = absurd (wide Different has)

    pub product_bounds : k ≤ n → IsProductOf n rows → mixed ≤ length rows
    product_bounds short product = bounded_by short product product.row product.some

  -- ---- all columns

  module _ (m : AreMixed rows n mixed) (differ : AllDifferent rows) where
    all_mixed : List Row
    all_mixed = map Locals (grid m.columns)

    length-all_mixed : length all_mixed ≡ mixed
    unfolding all_mixed
    length-all_mixed = length-map Locals (grid m.columns) ∙ count_grid n m

    stands : (row : Row) → Has rows row → Has all_mixed row
    unfolding all_mixed
    stands (Locals ls) has = Has-map Locals (grid m.columns) ls (has_grid m.columns ls (among_all m.columns ls (of_row ls has ∙ sym m.many)
        (λ k c l at there. ((m.each k c at).each l).1 ((ls, has, (l, there, refl)), (ls, has, (l, there, refl))))))
    stands Same has = absurd (wide Same has)
    stands Different has = absurd (wide Different has)

    pub rows_bound : length rows ≤ mixed
    rows_bound = let less = length-within rows all_mixed differ stands in let size = length-all_mixed in omega arith

    -- as many rows as can be mixed are all of them
    pub is_product : (row : Row) → Has rows row → mixed ≤ length rows → IsProductOf n rows
    unfolding all_mixed
    is_product row has full = record {
      row = row;
      some = has;
      every = λ ls is.
          let among = among_all m.columns ls (is.size ∙ sym m.many) (λ k c l at there. ((m.each k c at).each l).1 (is.states k l there, is.links k l there)) in
          let size = length-all_mixed in
          has_all rows all_mixed differ stands (omega arith) (has_or_not same_or_not rows) (Locals ls) (Has-map Locals (grid m.columns) ls (has_grid m.columns ls among));
    }

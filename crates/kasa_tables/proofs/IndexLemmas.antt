-- Laws of the index of a family's rows.
use Rattle.std.proofs.Common.{◌≡◌, ℕ, zero, suc, ◌+◌, ◌<◌, ◌≤◌, ◌↔◌, ◌⊎◌, inl, inr, Bool, true, false, cond, List, [], ◌∷◌, ◌++◌, length, refl, sym, ap, ◌∙◌, Option, Some, None, arith, zero-add, take, ◌≢◌}
use Rattle.std.specs.Prelude.{slice_get, slice_set, option_map}
use Rattle.std.specs.List.{AllZip}
use Rattle.std.specs.Option.{option_map_or, unwrap_or}
use Rattle.std.specs.Map.{lookup}
use Rattle.std.proofs.lemmas.List.{length-map, length-take-le}
use Rattle.std.proofs.lemmas.Option.{slice_get_within}
use Rattle.std.proofs.lemmas.Slice.Zip.{AllZip-long}
use Rattle.kasa_graph.specs.declared.pattern.Node.{Node}
use Rattle.kasa_graph.specs.Lists.{Has, update}
use Rattle.kasa_graph.specs.Signature.{TypeEntry}
use Rattle.kasa_graph.proofs.ListLemmas.{some_at, pushed_or, same_or_not, slice_set-update, slice_get-update_same, slice_get-update_other}
use Rattle.kasa_graph.proofs.NewNameLemmas.{AllDifferent-push}
use Rattle.kasa_families.specs.declared.family.Family.{Family}
use Rattle.kasa_families.specs.declared.family.Family.TheVariants.{View, Across, Parallel, Chain}
use Rattle.kasa_families.specs.declared.shape.NodeSite.{NodeSite}
use Rattle.kasa_families.specs.declared.row.Local.{Local}
use Rattle.kasa_families.specs.declared.row.Row.{Row}
use Rattle.kasa_families.specs.declared.row.Row.TheVariants.{Locals, Same, Different}
use Rattle.kasa_families.specs.Local.{LocalAgrees}
use Rattle.kasa_families.specs.Shape.{Nth, at as on_node}
use Rattle.kasa_families.specs.Family.{shape_of, IsFamily}
use Rattle.kasa_families.specs.Table.{HasShape}
use Rattle.kasa_families.specs.Compatible.{IsCompatible}
use Rattle.kasa_families.proofs.SameValue.{same_local}
use Rattle.kasa_tables.specs.Post.{ColumnView, post, post_at, has_at, number_if, local_eq}
use Rattle.kasa_tables.specs.Index.{numbers, locals_of, IsIndexed, IsMatch, IsOnlyMatch, AgreesAt, AgreesThere, IsKey, Listed, IsOnlyLocal}
use Rattle.kasa_tables.proofs.NumberLemmas.{numbers-push, numbers-at, numbers-there}

-- ---- local states of rows

same_lists : {X : Type 0} (xs ys : List X) → length xs ≡ length ys → ((c : ℕ) (x y : X) → slice_get xs c ≡ Some x → slice_get ys c ≡ Some y → x ≡ y) → xs ≡ ys
same_lists [] [] long same = refl
same_lists [] (y ∷ ys) long same = absurd (omega arith)
same_lists (x ∷ xs) [] long same = absurd (omega arith)
same_lists (x ∷ xs) (y ∷ ys) long same =
    let head : x ≡ y = same 0 x y refl refl in
    let tail : xs ≡ ys = same_lists xs ys (omega arith) (λ c. same (suc c)) in
    cc

-- a row of the shape has a local state for each column
pub length-locals : (family : Family) (row : Row) → HasShape family row → length (locals_of row) ≡ length (shape_of family).columns
length-locals (Parallel a x u b y w) (Locals locals) h = absurd h
length-locals (Parallel a x u b y w) Same h = refl
length-locals (Parallel a x u b y w) Different h = refl
length-locals family (Locals locals) h = h
length-locals family Same h = absurd h
length-locals family Different h = absurd h

has_some : (o : Option Local) (q : Local) → option_map_or (λ l. local_eq l q) o false ≡ true → o ≡ Some q
has_some None q passes = absurd cc
has_some (Some l) q passes = ap Some ((same_local l q).0 passes)

pub has_at-some : (c : ℕ) (q : Local) (locals : List Local) → has_at c q locals ≡ true → slice_get locals c ≡ Some q
has_at-some c q locals passes = has_some (slice_get locals c) q passes

pub some-has_at : (c : ℕ) (q : Local) (locals : List Local) → slice_get locals c ≡ Some q → has_at c q locals ≡ true
some-has_at c q locals at = ap (λ (o : Option Local). option_map_or (λ l. local_eq l q) o false) at ∙ (same_local q q).1 refl

-- ---- compatible rows, column by column

all_zip_at : (P : NodeSite → Local → Type 0) (sites : List NodeSite) (locals : List Local) → AllZip P sites locals → (c : ℕ) (l : Local) → slice_get locals c ≡ Some l → Nth sites c (λ s. P s l)
all_zip_at P [] [] all c l at = absurd cc
all_zip_at P [] (m ∷ locals) all c l at = absurd all
all_zip_at P (s ∷ sites) [] all c l at = absurd cc
all_zip_at P (s ∷ sites) (m ∷ locals) all zero l at = let same : m ≡ l = cc in rw same at all.0
all_zip_at P (s ∷ sites) (m ∷ locals) all (suc c) l at = all_zip_at P sites locals all.1 c l at

to_all_zip : (P : NodeSite → Local → Type 0) (sites : List NodeSite) (locals : List Local) → length locals ≡ length sites → ((c : ℕ) (l : Local) → slice_get locals c ≡ Some l → Nth sites c (λ s. P s l)) → AllZip P sites locals
to_all_zip P [] [] long each = tt
to_all_zip P [] (m ∷ locals) long each = absurd (omega arith)
to_all_zip P (s ∷ sites) [] long each = absurd (omega arith)
to_all_zip P (s ∷ sites) (m ∷ locals) long each = (each 0 m refl, to_all_zip P sites locals (omega arith) (λ c. each (suc c)))

module _ (g : List Node) (place : List ℕ) where
  -- a compatible row has a local state at each column, which doesn't contradict g
  pub agrees_of : (family : Family) (row : Row) → IsCompatible g family place row → (c : ℕ) → c < length (shape_of family).columns → (l : Local) × (slice_get (locals_of row) c ≡ Some l) × AgreesAt g family place c l
  agrees_of (Parallel a x u b y w) row ok c within = absurd (omega arith)
  agrees_of family (Locals locals) ok c within =
      let P : NodeSite → Local → Type 0 = λ s l. Nth place s.node (λ n. LocalAgrees g n s.site l) in
      let long = AllZip-long P (shape_of family).columns locals ok in
      let l = some_at locals c (omega arith) in
      (l.0, l.1, all_zip_at P (shape_of family).columns locals ok c l.0 l.1)
  agrees_of family Same ok c within = absurd ok
  agrees_of family Different ok c within = absurd ok

  pub compatible_of : (family : Family) (locals : List Local) → 0 < length (shape_of family).columns → length locals ≡ length (shape_of family).columns → ((c : ℕ) (l : Local) → slice_get locals c ≡ Some l → AgreesAt g family place c l) → IsCompatible g family place (Locals locals)
  compatible_of (Parallel a x u b y w) locals some long each = absurd (omega arith)
  compatible_of family locals some long each = to_all_zip (λ s l. Nth place s.node (λ n. LocalAgrees g n s.site l)) (shape_of family).columns locals long each

-- ---- the lists of a column

-- a local state whose list has a number has a list
key_among : (es : List (Local × List ℕ)) (q : Local) (k : ℕ) → Has (unwrap_or (lookup (local_eq q) es) []) k → (i : ℕ) × (i < length es) × (option_map (λ e. e.0) (slice_get es i) ≡ Some q)
key_among [] q k has = absurd (let e = has.1 in cc)
key_among (e ∷ es) q k has = by (local_eq q e.0) refl (key_among es q k) has
  where
    by : (b : Bool) → b ≡ local_eq q e.0 → (Has (unwrap_or (lookup (local_eq q) es) []) k → (i : ℕ) × (i < length es) × (option_map (λ e. e.0) (slice_get es i) ≡ Some q)) → Has (unwrap_or (cond b (Some e.1) (lookup (local_eq q) es)) []) k →
        (i : ℕ) × (i < length (e ∷ es)) × (option_map (λ e. e.0) (slice_get (e ∷ es) i) ≡ Some q)
    by true is rest h = (0, omega arith, ap Some (sym ((same_local q e.0).0 (sym is))))
    by false is rest h = let later = rest h in (suc later.0, (let l = later.1 in omega arith), later.2)

pub key_of : (v : ColumnView) (q : Local) (k : ℕ) → Has (post v q) k → (i : ℕ) × (i < length v.lists) × IsKey v i q
key_of v q k has = key_among v.lists q k has

-- ---- the index

module _ (family : Family) (rows : List Row) (columns : List ColumnView) (was : IsIndexed family rows columns) where
  -- the list of a local state in a column
  pub post-numbers : (c : ℕ) (v : ColumnView) (q : Local) → slice_get columns c ≡ Some v → post v q ≡ numbers (λ row. has_at c q (locals_of row)) 0 rows
  post-numbers c v q at = ap (λ (o : Option ColumnView). option_map_or (λ v. post v q) o []) (sym at) ∙ was.posts c q (slice_get_within columns c v at)

  -- a number stands in the list of a local state that agrees just where its row's local state agrees
  pub Listed-there : (g : List Node) (place : List ℕ) (c : ℕ) (v : ColumnView) → slice_get columns c ≡ Some v → (k : ℕ) → Listed v g family place c k ↔ AgreesThere rows g family place c k
  Listed-there g place c v at k = (
    λ h.
        let row = numbers-at (λ row. has_at c h.0 (locals_of row)) rows k (rw (post-numbers c v h.0 at) at h.2) in
        (row.0, h.0, row.1, has_at-some c h.0 (locals_of row.0) row.2, h.1),
    λ h. (h.1, h.4, rw (post-numbers c v h.1 at) (numbers-there (λ row. has_at c h.1 (locals_of row)) rows k h.0 h.2 (some-has_at c h.1 (locals_of h.0) h.3))),
  )

  -- the same lists
  pub IsIndexed-same : (new : List ColumnView) → length new ≡ length columns → ((c : ℕ) (q : Local) → post_at new c q ≡ post_at columns c q) → IsIndexed family rows new
  IsIndexed-same new width posts = record {
    narrow = rw width was.narrow;
    width = width ∙ was.width;
    different = was.different;
    shapes = was.shapes;
    posts = λ c q within. posts c q ∙ was.posts c q (omega (arith, width));
  }

  -- one row more
  pub IsIndexed-push : (new : List ColumnView) (row : Row) → HasShape family row → ¬ Has rows row → length new ≡ length columns → ((c : ℕ) (q : Local) → post_at new c q ≡ post_at columns c q ++ number_if (has_at c q (locals_of row)) (length rows)) → IsIndexed family (rows ++ row ∷ []) new
  IsIndexed-push new row has fresh width posts = record {
    narrow = rw width was.narrow;
    width = width ∙ was.width;
    different = AllDifferent-push rows row was.different fresh;
    shapes = λ other there. elim (pushed_or rows row other there.0 there.1) [ inl e ↦ was.shapes other (there.0, e) | inr e ↦ (rw e has) ];
    posts = λ c q within.
        let test : Row → Bool = λ r. has_at c q (locals_of r) in
        posts c q ∙ ap (λ (l : List ℕ). l ++ number_if (test row) (length rows)) (was.posts c q (omega (arith, width)))
        ∙ sym (numbers-push test 0 rows row ∙ ap (λ n. numbers test 0 rows ++ number_if (test row) n) (zero-add (length rows)));
  }

  -- the row of the only local states that agree is the only one that can be compatible
  module _ (g : List Node) (place : List ℕ) (locals : List Local) (some : 0 < length (shape_of family).columns) (long : length locals ≡ length (shape_of family).columns)
      (only : (c : ℕ) (v : ColumnView) (l : Local) → slice_get columns c ≡ Some v → slice_get locals c ≡ Some l → IsOnlyLocal v g family place c l) where
    column_at : (c : ℕ) (l : Local) → slice_get locals c ≡ Some l → (v : ColumnView) × (slice_get columns c ≡ Some v)
    column_at c l at = let inside = slice_get_within locals c l at in some_at columns c (let width = was.width in omega arith)

    agree : (c : ℕ) (l : Local) → slice_get locals c ≡ Some l → AgreesAt g family place c l
    agree c l at = let v = column_at c l at in (only c v.0 l v.1 at).agrees

    same_local_at : (k : ℕ) (row : Row) → slice_get rows k ≡ Some row → IsCompatible g family place row → (c : ℕ) (m l : Local) → slice_get (locals_of row) c ≡ Some m → slice_get locals c ≡ Some l → m ≡ l
    same_local_at k row there ok c m l at_row at =
        let v = column_at c l at in
        let inside = slice_get_within locals c l at in
        let here = agrees_of g place family row ok c (omega arith) in
        let same : here.0 ≡ m = let e = here.1 in cc in
        (only c v.0 l v.1 at).only m k (rw same at here.2) (rw (post-numbers c v.0 m v.1) (numbers-there (λ r. has_at c m (locals_of r)) rows k row there (some-has_at c m (locals_of row) at_row)))

    same_row_at : (k : ℕ) (row : Row) → slice_get rows k ≡ Some row → IsCompatible g family place row → locals_of row ≡ locals
    same_row_at k row there ok = same_lists (locals_of row) locals (length-locals family row (was.shapes row (k, there)) ∙ sym long) (same_local_at k row there ok)

    is_locals : (other : Family) (row : Row) → 0 < length (shape_of other).columns → IsCompatible g other place row → row ≡ Locals (locals_of row)
    is_locals (Parallel a x u b y w) row wide ok = absurd (omega arith)
    is_locals other (Locals ls) wide ok = refl
    is_locals other Same wide ok = absurd ok
    is_locals other Different wide ok = absurd ok

    pub IsOnlyMatch-of : IsOnlyMatch rows g family place (Locals locals)
    IsOnlyMatch-of k = (
      λ m. m.1 ∙ ap Some (is_locals family m.0 some m.2 ∙ ap Locals (same_row_at k m.0 m.1 m.2)),
      λ there. (Locals locals, there, compatible_of g place family locals some long agree),
    )

-- a compatible row agrees at each column
pub match_agrees : (rows : List Row) (g : List Node) (family : Family) (place : List ℕ) (c : ℕ) → c < length (shape_of family).columns → (k : ℕ) → IsMatch rows g family place k → AgreesThere rows g family place c k
match_agrees rows g family place c within k (row, there, ok) = let l = agrees_of g place family row ok c within in (row, l.0, there, l.1, l.2)

-- ---- local states that are written one by one

module _ (g : List Node) (family : Family) (place : List ℕ) (columns : List ColumnView) where
  -- the first local states are each the only one that agrees at its column
  abbrev pub AreOnly : List Local → ℕ → Type 0
  AreOnly locals n = (c : ℕ) (v : ColumnView) (l : Local) → c < n → slice_get columns c ≡ Some v → slice_get locals c ≡ Some l → IsOnlyLocal v g family place c l

  pub AreOnly-set : (locals : List Local) (n : ℕ) (v : ColumnView) (l : Local) → AreOnly locals n → n < length locals → slice_get columns n ≡ Some v → IsOnlyLocal v g family place n l → AreOnly (slice_set locals n l) (n + 1)
  AreOnly-set locals n v l before within here only c u m low at_c at_m = by (same_or_not n c)
    where
      old : (x : Local) × (slice_get locals n ≡ Some x)
      old = some_at locals n within

      is : slice_set locals n l ≡ update locals n (λ _. l)
      is = slice_set-update locals n old.0 l (λ _. l) old.1 refl

      written : slice_get (update locals n (λ _. l)) c ≡ Some m
      written = rw is at at_m

      by : (n ≡ c) ⊎ (n ≢ c) → IsOnlyLocal u g family place c m
      by (inl e) =
          let put : slice_get (update locals n (λ _. l)) n ≡ Some l = slice_get-update_same locals n (λ _. l) ∙ ap (λ (o : Option Local). option_map (λ _. l) o) old.1 in
          let same_column : v ≡ u = let f = rw (← e) at at_c in cc in
          let same : l ≡ m = let f = rw (← e) at written in cc in
          rw (← e, ← same_column, ← same) only
      by (inr ne) = before c u m (omega arith) at_c (sym (slice_get-update_other locals n c (λ _. l) ne) ∙ written)

pub slice_get-taken : {X : Type 0} (xs : List X) (n c : ℕ) (x : X) → slice_get (take n xs) c ≡ Some x → (c < n) × (slice_get xs c ≡ Some x)
slice_get-taken [] zero c x e = absurd cc
slice_get-taken [] (suc n) c x e = absurd cc
slice_get-taken (y ∷ xs) zero c x e = absurd cc
slice_get-taken (y ∷ xs) (suc n) zero x e = (omega arith, e)
slice_get-taken (y ∷ xs) (suc n) (suc c) x e = let rest = slice_get-taken xs n c x e in ((let low = rest.0 in omega arith), rest.1)

-- the widths of families
pub few_columns : (sig : List TypeEntry) (family : Family) → IsFamily sig family → length (shape_of family).columns ≤ 16
few_columns sig (View a sites) valid = omega (arith, length-map sites (on_node 0), valid.3)
few_columns sig (Across a x p b y q) valid = omega arith
few_columns sig (Parallel a x u b y w) valid = omega arith
few_columns sig (Chain a x p b y z c w q) valid = omega arith

-- the row of the local states that were written
pub IsOnlyMatch-taken : (family : Family) (rows : List Row) (columns : List ColumnView) (was : IsIndexed family rows columns) (g : List Node) (place : List ℕ) (shown : List ColumnView) → shown ≡ columns → (locals : List Local) (k : ℕ) → length shown ≤ k → length locals ≡ 16 → 0 < length (shape_of family).columns →
    AreOnly g family place shown locals k → IsOnlyMatch rows g family place (Locals (take (length shown) locals))
IsOnlyMatch-taken family rows columns was g place shown same locals k past long some before = IsOnlyMatch-of family rows columns was g place (take (length shown) locals) some width only
  where
    narrow : length shown ≤ 16
    narrow = rw same was.narrow

    width : length (take (length shown) locals) ≡ length (shape_of family).columns
    width = length-take-le (length shown) locals (omega (arith, narrow, long)) ∙ ap length same ∙ was.width

    only : (c : ℕ) (v : ColumnView) (l : Local) → slice_get columns c ≡ Some v → slice_get (take (length shown) locals) c ≡ Some l → IsOnlyLocal v g family place c l
    only c v l at_c at_l =
        let taken = slice_get-taken locals (length shown) c l at_l in
        let low = taken.0 in
        before c v l (omega arith) (rw same at_c) taken.1

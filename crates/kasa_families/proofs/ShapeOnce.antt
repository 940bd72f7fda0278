-- Each embedding of a shape's root extends to one of just one valid row, in just one way.
use Rattle.std.proofs.Common.{◌≡◌, ℕ, List, [], ◌∷◌, ◌++◌, refl, sym, ap, ◌∙◌, length, map, get_or, arith, length-append}
use Rattle.std.specs.Prelude.{Option, Some, slice_get}
use Rattle.std.specs.List.{AllByRecursion}
use Rattle.std.proofs.lemmas.Option.{slice_get_within, slice_get-get_or}
use Rattle.kasa_graph.specs.declared.mixture.Agent.{Agent}
use Rattle.kasa_graph.specs.declared.pattern.Node.{Node}
use Rattle.kasa_graph.specs.Signature.{TypeEntry, HasSite}
use Rattle.kasa_graph.specs.Pattern.{types_of}
use Rattle.kasa_graph.specs.Mixture.{type_in, IsMixtureOver}
use Rattle.kasa_graph.specs.Embedding.{IsEmbedding}
use Rattle.kasa_graph.proofs.TestLemmas.{agent_at-types, length-types}
use Rattle.kasa_families.specs.declared.row.Local.{Local}
use Rattle.kasa_families.specs.declared.shape.NodeSite.{NodeSite}
use Rattle.kasa_families.specs.Seen.{local_in}
use Rattle.kasa_families.specs.Orthogonal.{ShapeExtendsOnce}
use Rattle.kasa_families.specs.Local.{IsLocal, with_local}
use Rattle.kasa_families.specs.Shape.{Shape, Nth, ends, AreApart, IsShape, root_of, with_columns, pattern_of, AreColumns}
use Rattle.kasa_families.proofs.LocalLemmas.{MeetsLocal, local_in-only, IsLocal-local_in, MeetsLocal-local_in, IsEmbedding-with_local}
use Rattle.kasa_families.proofs.ColumnLemmas.{nth_of, to_nth, All-right, AreApart-right, IsIn, types_of-root, types_of-pattern, columns_in_root, AreIn-with_local, TestsLocal-with_columns}

-- ---- the cells of an embedding

module _ (g : List Node) (types : List ℕ) (same : types_of g ≡ types) (m : List (Option Agent)) (cells : List ℕ) (emb : IsEmbedding g m cells) where
  pub length-cells : length cells ≡ length types
  length-cells = emb.count ∙ length-types g ∙ ap length same

  pub type_in-cells : (n c a : ℕ) → slice_get cells n ≡ Some c → slice_get types n ≡ Some a → type_in m c ≡ Some a
  type_in-cells n c a here is = emb.types n c a here (agent_at-types g n ∙ ap (λ (ts : List ℕ). slice_get ts n) same ∙ is)

pub no_more : (xs ys : List ℕ) → length (xs ++ ys) ≡ length xs → ys ≡ []
no_more xs [] e = refl
no_more xs (y ∷ ys) e = absurd (let long = length-append xs (y ∷ ys) in omega arith)

pub append-[] : (xs : List ℕ) → xs ++ [] ≡ xs
append-[] [] = refl
append-[] (x ∷ xs) = ap (λ (ys : List ℕ). x ∷ ys) (append-[] xs)

-- ---- the local states that cells show at columns

module _ (sig : List TypeEntry) (m : List (Option Agent)) (over : IsMixtureOver sig m) (types cells : List ℕ) (count : length cells ≡ length types) (typed : (n c a : ℕ) → slice_get cells n ≡ Some c → slice_get types n ≡ Some a → type_in m c ≡ Some a) where
  abbrev pub seen : NodeSite → Local
  seen s = local_in m (get_or cells s.node 0) s.site

  -- the cell of a column
  lies : (s : NodeSite) → Nth types s.node (λ a. HasSite sig a s.site) → (c a : ℕ) × (c ≡ get_or cells s.node 0) × (slice_get cells s.node ≡ Some c) × (slice_get types s.node ≡ Some a) × (type_in m c ≡ Some a) × HasSite sig a s.site
  lies s h =
      let a = nth_of types s.node (λ a. HasSite sig a s.site) h in
      let within = slice_get_within types s.node a.0 a.1 in
      let here = slice_get-get_or cells s.node 0 (omega arith) in
      (get_or cells s.node 0, a.0, refl, here, a.1, typed s.node (get_or cells s.node 0) a.0 here a.1, a.2)

  -- they are valid
  pub AreColumns-seen : (columns : List NodeSite) → AllByRecursion (λ s. Nth types s.node (λ a. HasSite sig a s.site)) columns → AreColumns sig types columns (map seen columns)
  AreColumns-seen [] sited = tt
  AreColumns-seen (s ∷ columns) sited =
      let lie = lies s sited.0 in
      (to_nth types s.node (λ a. IsLocal sig a s.site (seen s)) lie.1 lie.4 (IsLocal-local_in sig m over (get_or cells s.node 0) lie.1 s.site (rw lie.2 at lie.5) lie.6), AreColumns-seen columns sited.1)

  -- they are met
  pub IsEmbedding-seen : (g : List Node) (columns : List NodeSite) → AllByRecursion (λ s. Nth types s.node (λ a. HasSite sig a s.site)) columns → AllByRecursion (IsIn g) columns → IsEmbedding g m cells → IsEmbedding (with_columns g columns (map seen columns)) m cells
  IsEmbedding-seen g [] sited has emb = emb
  IsEmbedding-seen g (s ∷ columns) sited has emb =
      let lie = lies s sited.0 in
      IsEmbedding-seen (with_local g s.node s.site (seen s)) columns sited.1 (AreIn-with_local g s (seen s) columns has.1)
      (IsEmbedding-with_local g m cells s.node s.site (get_or cells s.node 0) (seen s) has.0 (rw lie.2 at lie.3) (MeetsLocal-local_in sig m over cells (get_or cells s.node 0) s.site) emb)

  -- and no others are
  pub seen-only : (g : List Node) (columns : List NodeSite) (locals : List Local) → AreApart columns → AllByRecursion (λ s. Nth types s.node (λ a. HasSite sig a s.site)) columns → AllByRecursion (IsIn g) columns → AreColumns sig types columns locals → IsEmbedding (with_columns g columns locals) m cells → locals ≡ map seen columns
  seen-only g [] [] apart sited has valid emb = refl
  seen-only g [] (l ∷ locals) apart sited has valid emb = absurd valid
  seen-only g (s ∷ columns) [] apart sited has valid emb = absurd valid
  seen-only g (s ∷ columns) (l ∷ locals) apart sited has valid emb =
      let lie = lies s sited.0 in
      let c = get_or cells s.node 0 in
      let on = rw lie.2 at lie.3 in
      let tests = TestsLocal-with_columns g columns locals s l apart.0 has.0 in
      let met : MeetsLocal m cells (get_or cells s.node 0) s.site l = record { state = rw tests.state at (emb.states s.node _ s.site on); link = rw tests.link at (emb.links s.node _ s.site on) } in
      let b = nth_of types s.node (λ a. IsLocal sig a s.site l) valid.0 in
      let type : b.0 ≡ lie.1 = let e = b.1 in let f = lie.4 in cc in
      let first = local_in-only sig m over cells (get_or cells s.node 0) lie.1 s.site l (rw lie.2 at lie.5) lie.6 (rw type at b.2) met in
      let rest = seen-only (with_local g s.node s.site l) columns locals apart.1 sited.1 (AreIn-with_local g s l columns has.1) valid.1 emb in
      rw (first, rest)

-- ---- orthogonality

pub shape_extends_once : (sig : List TypeEntry) (shape : Shape) (m : List (Option Agent)) (cells : List ℕ) → IsShape sig shape → IsMixtureOver sig m → IsEmbedding (root_of sig shape) m cells → ShapeExtendsOnce sig shape m cells
shape_extends_once sig shape m cells ok over emb = record {
  locals = map (seen sig m over shape.types cells count typed) shape.columns;
  valid = AreColumns-seen sig m over shape.types cells count typed shape.columns sited;
  embedded = IsEmbedding-seen sig m over shape.types cells count typed (root_of sig shape) shape.columns sited has emb;
  only = λ other more valid emb'.
      let long = length-cells (pattern_of sig shape other) shape.types (types_of-pattern sig shape other) m (cells ++ more) emb' in
      let none = no_more cells more (long ∙ sym count) in
      let same : cells ++ more ≡ cells = ap (λ (ys : List ℕ). cells ++ ys) none ∙ append-[] cells in
      (seen-only sig m over shape.types cells count typed (root_of sig shape) shape.columns other (AreApart-right (ends shape.bonds) shape.columns ok.apart) sited has valid (rw same at emb'), none);
}
  where
    count : length cells ≡ length shape.types
    count = length-cells (root_of sig shape) shape.types (types_of-root sig shape) m cells emb

    typed : (n c a : ℕ) → slice_get cells n ≡ Some c → slice_get shape.types n ≡ Some a → type_in m c ≡ Some a
    typed = type_in-cells (root_of sig shape) shape.types (types_of-root sig shape) m cells emb

    sited : AllByRecursion (λ s. Nth shape.types s.node (λ a. HasSite sig a s.site)) shape.columns
    sited = All-right _ (ends shape.bonds) shape.columns ok.sites

    has : AllByRecursion (IsIn (root_of sig shape)) shape.columns
    has = columns_in_root sig shape ok

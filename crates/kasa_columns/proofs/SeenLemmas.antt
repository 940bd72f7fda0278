-- The rows that the nodes of a root show in a mixture are those of the family that occur there.
use Rattle.std.proofs.Common.{◌≡◌, ◌↔◌, ℕ, zero, suc, ◌<◌, ◌≤◌, List, [], ◌∷◌, refl, sym, ap, ◌∙◌, map, length, arith, Option, Some}
use Rattle.std.specs.Prelude.{slice_get}
use Rattle.std.specs.List.{AllByRecursion}
use Rattle.std.proofs.lemmas.Option.{slice_get_within}
use Rattle.kasa_graph.specs.declared.mixture.Agent.{Agent}
use Rattle.kasa_graph.specs.declared.pattern.Node.{Node}
use Rattle.kasa_graph.specs.Lists.{Has}
use Rattle.kasa_graph.specs.Signature.{TypeEntry, HasSite}
use Rattle.kasa_graph.specs.Pattern.{types_of, Implies}
use Rattle.kasa_graph.specs.Mixture.{IsMixtureOver}
use Rattle.kasa_graph.specs.Embedding.{IsEmbedding}
use Rattle.kasa_graph.proofs.TestLemmas.{length-types}
use Rattle.kasa_families.specs.declared.family.Family.{Family}
use Rattle.kasa_families.specs.declared.family.Family.TheVariants.{Parallel}
use Rattle.kasa_families.specs.declared.row.Local.{Local}
use Rattle.kasa_families.specs.declared.row.Row.{Row}
use Rattle.kasa_families.specs.declared.row.Row.TheVariants.{Locals, Same, Different}
use Rattle.kasa_families.specs.declared.shape.NodeSite.{NodeSite}
use Rattle.kasa_families.specs.Family.{IsFamily, shape_of, root}
use Rattle.kasa_families.specs.Shape.{Shape, Nth, ends, IsShape, root_of, pattern_of, AreColumns}
use Rattle.kasa_families.specs.Row.{IsRow}
use Rattle.kasa_families.specs.Pattern.{Occurs, row_pattern}
use Rattle.kasa_families.proofs.ColumnLemmas.{nth_of, All-at, All-right, AreApart-right, types_of-root, types_of-pattern, columns_in_root, TestsBond}
use Rattle.kasa_families.proofs.FamilyShape.{IsShape-of}
use Rattle.kasa_families.proofs.RowPattern.{row_implies_root, TestsBond-root_of}
use Rattle.kasa_families.proofs.ShapeOnce.{length-cells, type_in-cells, seen, AreColumns-seen, IsEmbedding-seen, seen-only}
use Rattle.kasa_pre.proofs.EmbeddingLemmas.{IsEmbedding-general}
use Rattle.kasa_embed.specs.Connected.{AreBound, IsWalk, IsConnected}
use Rattle.kasa_columns.specs.Forward.{HasColumns}
use Rattle.kasa_columns.specs.Seen.{row_in}
use Rattle.kasa_columns.specs.Stands.{AreFrom}
use Rattle.kasa_columns.proofs.Rows.{ReadsColumns, reads_columns, locals_of}
use Rattle.kasa_columns.proofs.ShapeTests.{columns_have}
use Rattle.kasa_columns.proofs.WalkLemmas.{few_nodes_of}

-- ---- the root of a shape is connected

walk_on : (g : List Node) (n : ℕ) (via : List ℕ) (m k : ℕ) → IsWalk g n via m → AreBound g m k → (further : List ℕ) × IsWalk g n further k
walk_on g n [] m k walk bound = (k ∷ [], (rw walk bound, refl))
walk_on g n (j ∷ via) m k walk bound = let rest = walk_on g j via m k walk.1 bound in (j ∷ rest.0, (walk.0, rest.1))

pub IsConnected-root : (sig : List TypeEntry) (shape : Shape) → IsShape sig shape → IsConnected (root_of sig shape)
IsConnected-root sig shape ok n within = reach n n (omega arith) (let count = length-types (root_of sig shape) in let types = types_of-root sig shape in rw (count ∙ ap length types) at within)
  where
    reach : (fuel n : ℕ) → n ≤ fuel → n < length shape.types → (via : List ℕ) × IsWalk (root_of sig shape) 0 via n
    reach fuel zero less within = ([], refl)
    reach zero (suc n) less within = absurd (omega arith)
    reach (suc fuel) (suc n) less within =
        let bond = ok.joined n within in
        let lower = bond.3 in
        let before = reach fuel bond.0.first.node (omega arith) (omega arith) in
        let tests = All-at (TestsBond (root_of sig shape)) shape.bonds bond.1.0 bond.0 (TestsBond-root_of sig shape ok) bond.1.1 in
        walk_on (root_of sig shape) 0 before.0 bond.0.first.node (suc n) before.1 (bond.0.first.site, bond.0.second.site, rw (← bond.2) tests.first)

-- what finding its embeddings asks of a root
pub record IsSmall (g : List Node) : Type 0 where
  pub some : 0 < length g
  pub few : length g ≤ 3
  pub connected : IsConnected g

pub IsSmall-root : (sig : List TypeEntry) (family : Family) → HasColumns family → IsFamily sig family → IsSmall (root sig family)
IsSmall-root sig family columned valid =
    let ok = IsShape-of sig family valid in
    let rooted = (reads_columns sig family columned).rooted in
    let count = length-types (root_of sig (shape_of family)) ∙ ap length (types_of-root sig (shape_of family)) in
    let nodes = few_nodes_of family in
    let some = ok.some in
    rw rooted (record { some = omega arith; few = omega arith; connected = IsConnected-root sig (shape_of family) ok })

-- ---- the rows that occur

module _ (sig : List TypeEntry) (m : List (Option Agent)) (over : IsMixtureOver sig m) (family : Family) (columned : HasColumns family) (ok : IsFamily sig family) where
  abbrev shape : Shape
  shape = shape_of family

  is_shape : IsShape sig shape
  is_shape = IsShape-of sig family ok

  reads : ReadsColumns sig family
  reads = reads_columns sig family columned

  sited : AllByRecursion (λ s. Nth shape.types s.node (λ a. HasSite sig a s.site)) shape.columns
  sited = All-right _ (ends shape.bonds) shape.columns is_shape.sites

  is_row : (family : Family) → HasColumns family → (locals : List Local) → AreColumns sig (shape_of family).types (shape_of family).columns locals → IsRow sig family (Locals locals)
  is_row (Parallel a x u b y w) columned locals are = absurd columned
  is_row family columned locals are = are

  -- the nodes on cells of the root show a row that occurs
  shows : (cells : List ℕ) → IsEmbedding (root sig family) m cells → IsRow sig family (row_in m shape.columns cells) × Occurs sig family (row_in m shape.columns cells) m
  shows cells emb =
      let there : IsEmbedding (root_of sig shape) m cells = rw reads.rooted at emb in
      let count = length-cells (root_of sig shape) shape.types (types_of-root sig shape) m cells there in
      let typed = type_in-cells (root_of sig shape) shape.types (types_of-root sig shape) m cells there in (
        is_row family columned _ (AreColumns-seen sig m over shape.types cells count typed shape.columns sited),
        (cells, rw (reads.pattern (map (seen sig m over shape.types cells count typed) shape.columns)) (IsEmbedding-seen sig m over shape.types cells count typed (root_of sig shape) shape.columns sited (columns_in_root sig shape is_shape) there)),
      )

  -- and each row that occurs is shown by such nodes
  shown : (row : Row) → IsRow sig family row → Occurs sig family row m → (cells : List ℕ) × IsEmbedding (root sig family) m cells × (row ≡ row_in m shape.columns cells)
  shown row valid (cells, emb) = (cells, IsEmbedding-general (root sig family) (row_pattern sig family row) m cells general emb, by row valid emb)
    where
      general : Implies (row_pattern sig family row) (root sig family)
      general = record {
        types = same_types row valid;
        states = λ n s. (row_implies_root sig family row ok valid n s).0;
        links = λ n s. (row_implies_root sig family row ok valid n s).1;
      }
        where
          same_types : (row : Row) → IsRow sig family row → types_of (row_pattern sig family row) ≡ types_of (root sig family)
          same_types (Locals locals) valid = rw (reads.pattern locals, reads.rooted) (types_of-pattern sig shape locals ∙ sym (types_of-root sig shape))
          same_types Same valid = absurd (let e = (locals_of sig family columned Same valid).1 in cc)
          same_types Different valid = absurd (let e = (locals_of sig family columned Different valid).1 in cc)

      by : (row : Row) → IsRow sig family row → IsEmbedding (row_pattern sig family row) m cells → row ≡ row_in m shape.columns cells
      by (Locals locals) valid emb =
          let there : IsEmbedding (pattern_of sig shape locals) m cells = rw (reads.pattern locals) at emb in
          let count = length-cells (pattern_of sig shape locals) shape.types (types_of-pattern sig shape locals) m cells there in
          let typed = type_in-cells (pattern_of sig shape locals) shape.types (types_of-pattern sig shape locals) m cells there in
          ap Locals (seen-only sig m over shape.types cells count typed (root_of sig shape) shape.columns locals (AreApart-right (ends shape.bonds) shape.columns is_shape.apart) sited (columns_in_root sig shape is_shape) (reads.row locals valid) there)
      by Same valid emb = absurd (let e = (locals_of sig family columned Same valid).1 in cc)
      by Different valid emb = absurd (let e = (locals_of sig family columned Different valid).1 in cc)

  -- each column's node has a cell
  pub cells_within : (cells : List ℕ) → IsEmbedding (root sig family) m cells → (k : ℕ) (c : NodeSite) → slice_get shape.columns k ≡ Some c → c.node < length cells
  cells_within cells emb k c at =
      let there : IsEmbedding (root_of sig shape) m cells = rw reads.rooted at emb in
      let count = length-cells (root_of sig shape) shape.types (types_of-root sig shape) m cells there in
      let a = nth_of shape.types c.node _ (All-at _ shape.columns k c (columns_have sig shape is_shape []) at) in
      let within = slice_get_within shape.types c.node a.0 a.1 in
      omega arith

  pub seen_rows : (found : List (List ℕ)) → ((cells : List ℕ) → Has found cells ↔ IsEmbedding (root sig family) m cells) → (row : Row) → AreFrom (λ cells row. row ≡ row_in m shape.columns cells) found row ↔ (IsRow sig family row × Occurs sig family row m)
  seen_rows found each row = (
    λ from. let there = shows from.0 ((each from.0).0 from.1) in rw from.2 there,
    λ h. let s = shown row h.0 h.1 in (s.0, (each s.0).1 s.1, s.2),
  )

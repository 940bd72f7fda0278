-- What the pattern of a shape's row tests: its bonds as the root does, and free links at columns alone.
use Rattle.std.proofs.Common.{◌≡◌, ◌≢◌, ℕ, ◌⊎◌, inl, inr, List, sym, ap, ◌∙◌, Some}
use Rattle.std.specs.Prelude.{slice_get}
use Rattle.std.specs.List.{AllByRecursion}
use Rattle.kasa_graph.specs.declared.pattern.Node.{Node}
use Rattle.kasa_graph.specs.declared.pattern.LinkTest.TheVariants as test
use Rattle.kasa_graph.specs.Signature.{TypeEntry, HasSite}
use Rattle.kasa_graph.specs.Pattern.{agent_at, link_test}
use Rattle.kasa_graph.specs.Lists.{Has}
use Rattle.kasa_families.specs.declared.row.Local.{Local}
use Rattle.kasa_families.specs.declared.shape.NodeSite.{NodeSite}
use Rattle.kasa_families.specs.declared.shape.Bond.{Bond}
use Rattle.kasa_families.specs.Shape.{Shape, Nth, at, ends, AreApart, IsShape, root_of, pattern_of}
use Rattle.kasa_families.proofs.ColumnLemmas.{All-at, All-right, AreApart-right, apart_from_right, one_or_apart, end_of, first_end, second_end, nth_of, types_of-pattern, SameTests-with_columns, TestsBond}
use Rattle.kasa_families.proofs.RowPattern.{link_test-root_of, TestsBond-root_of, typed_of}

module _ (sig : List TypeEntry) (shape : Shape) (ok : IsShape sig shape) (locals : List Local) where
  abbrev pub v : List Node
  v = pattern_of sig shape locals

  pub columns_apart : AreApart shape.columns
  columns_apart = AreApart-right (ends shape.bonds) shape.columns ok.apart

  pub columns_have : AllByRecursion (λ c. Nth shape.types c.node (λ a. HasSite sig a c.site)) shape.columns
  columns_have = All-right _ (ends shape.bonds) shape.columns ok.sites

  pub agent_of : (n a : ℕ) → slice_get shape.types n ≡ Some a → agent_at v n ≡ Some a
  agent_of n a e = typed_of v shape.types n a (types_of-pattern sig shape locals) e

  -- an end of a bond is tested as by the root
  end_test : (s : NodeSite) → Has (ends shape.bonds) s → link_test v s.node s.site ≡ link_test (root_of sig shape) s.node s.site
  end_test s has = (SameTests-with_columns (root_of sig shape) shape.columns locals s (apart_from_right (ends shape.bonds) shape.columns has.0 s ok.apart has.1)).link

  root_bond : (b : Bond) → Has shape.bonds b → TestsBond (root_of sig shape) b
  root_bond b has = All-at (TestsBond (root_of sig shape)) shape.bonds has.0 b (TestsBond-root_of sig shape ok) has.1

  pub first_test : (b : Bond) → Has shape.bonds b → link_test v b.first.node b.first.site ≡ test.To b.second.node b.second.site
  first_test b has = end_test b.first (first_end shape.bonds has.0 b has.1) ∙ (root_bond b has).first

  pub second_test : (b : Bond) → Has shape.bonds b → link_test v b.second.node b.second.site ≡ test.To b.first.node b.first.site
  second_test b has = end_test b.second (second_end shape.bonds has.0 b has.1) ∙ (root_bond b has).second

  no_free_end : (s : NodeSite) → (b : Bond) × Has shape.bonds b × ((b.first ≡ s) ⊎ (b.second ≡ s)) → link_test (root_of sig shape) s.node s.site ≢ test.Free
  no_free_end s (b, has, inl e) free =
      let to = ap (λ (x : NodeSite). link_test (root_of sig shape) x.node x.site) e in
      let f : test.To b.second.node b.second.site ≡ test.Free = sym (root_bond b has).first ∙ to ∙ free in cc
  no_free_end s (b, has, inr e) free =
      let to = ap (λ (x : NodeSite). link_test (root_of sig shape) x.node x.site) e in
      let f : test.To b.first.node b.first.site ≡ test.Free = sym (root_bond b has).second ∙ to ∙ free in cc

  no_free : (n s : ℕ) → link_test (root_of sig shape) n s ≢ test.Free
  no_free n s free = elim (one_or_apart (at n s) (ends shape.bonds)) [
    | inl has ↦ no_free_end (at n s) (end_of shape.bonds (at n s) has) free
    | inr out ↦ let f : test.Any ≡ test.Free = sym (link_test-root_of sig shape (at n s) out) ∙ free in absurd cc
  ]

  pub free_column : (n s : ℕ) → link_test v n s ≡ test.Free → Has shape.columns (at n s)
  free_column n s free = elim (one_or_apart (at n s) shape.columns) [
    | inl has ↦ has
    | inr out ↦ absurd (no_free n s (sym (SameTests-with_columns (root_of sig shape) shape.columns locals (at n s) out).link ∙ free))
  ]

  -- a column's node has a type
  pub column_typed : (c : NodeSite) → Has shape.columns c → (a : ℕ) × (slice_get shape.types c.node ≡ Some a) × HasSite sig a c.site
  column_typed c has = nth_of shape.types c.node _ (All-at _ shape.columns has.0 c columns_have has.1)

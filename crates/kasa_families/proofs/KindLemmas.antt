-- What the words on shapes say of a view: local states at sites of one node.
use Rattle.std.proofs.Common.{◌≡◌, ◌≢◌, ℕ, zero, suc, ◌↔◌, List, [], ◌∷◌, map, length, refl, sym, ap, subst, ◌∙◌}
use Rattle.std.specs.Prelude.{Option, Some, slice_get}
use Rattle.std.specs.List.{AllZip, AllByRecursion}
use Rattle.kasa_graph.specs.declared.mixture.Agent.{Agent}
use Rattle.kasa_graph.specs.declared.pattern.Node.{Node}
use Rattle.kasa_graph.specs.declared.pattern.LinkTest.TheVariants.{Any}
use Rattle.kasa_graph.specs.Signature.{TypeEntry}
use Rattle.kasa_graph.specs.Pattern.{blank_node, link_test, types_of}
use Rattle.kasa_graph.specs.Mixture.{type_in, IsMixtureOver}
use Rattle.kasa_graph.specs.Embedding.{IsEmbedding}
use Rattle.kasa_graph.proofs.ListLemmas.{AllDifferent-[], AllDifferent-cons}
use Rattle.kasa_graph.proofs.TestLemmas.{link_test-blank}
use Rattle.kasa_graph.proofs.EmbeddingLemmas.{IsEmbedding-blank}
use Rattle.kasa_families.specs.declared.family.Family.TheVariants.{View}
use Rattle.kasa_families.specs.declared.row.Local.{Local}
use Rattle.kasa_families.specs.declared.row.Row.TheVariants.{Locals}
use Rattle.kasa_families.specs.declared.shape.NodeSite.{NodeSite}
use Rattle.kasa_families.specs.Local.{IsLocal, with_local, LocalAgrees}
use Rattle.kasa_families.specs.Shape.{Nth, at, AreApart, with_columns, AreColumns}
use Rattle.kasa_families.specs.Family.{IsFamily, shape_of}
use Rattle.kasa_families.specs.Row.{IsRow}
use Rattle.kasa_families.specs.Pattern.{row_pattern}
use Rattle.kasa_families.specs.Compatible.{IsCompatible}
use Rattle.kasa_families.specs.Seen.{local_in}
use Rattle.kasa_families.specs.Kinds.{with_locals, AreLocals, LocalsAgree}
use Rattle.kasa_families.proofs.ColumnLemmas.{types_of-pattern, columns_in_root, IsIn, AreIn-with_local, TestsLocal, TestsLocal-with_columns, SameTests-with_columns}
use Rattle.kasa_families.proofs.FamilyShape.{IsShape-of, site_ne}
use Rattle.kasa_families.proofs.ShapeOnce.{length-cells, type_in-cells, seen, AreColumns-seen, IsEmbedding-seen, seen-only}

pub with_columns-view : (g : List Node) (n : ℕ) (sites : List ℕ) (locals : List Local) → with_columns g (map (at n) sites) locals ≡ with_locals g n sites locals
with_columns-view g n [] locals = refl
with_columns-view g n (s ∷ sites) [] = refl
with_columns-view g n (s ∷ sites) (l ∷ locals) = with_columns-view (with_local g n s l) n sites locals

-- of pairs with a site as column, as of pairs with the site
pub AllZip-view : (P : NodeSite → Local → Type 0) (n : ℕ) (sites : List ℕ) (locals : List Local) → AllZip P (map (at n) sites) locals ↔ AllZip (λ s l. P (at n s) l) sites locals
AllZip-view P n [] [] = (λ h. h, λ h. h)
AllZip-view P n [] (l ∷ locals) = (λ h. h, λ h. h)
AllZip-view P n (s ∷ sites) [] = (λ h. h, λ h. h)
AllZip-view P n (s ∷ sites) (l ∷ locals) = let rest = AllZip-view P n sites locals in (λ h. (h.0, rest.0 h.1), λ h. (h.0, rest.1 h.1))

-- ---- rows of views

pub IsRow-view : (sig : List TypeEntry) (a : ℕ) (sites : List ℕ) (locals : List Local) → IsRow sig (View a sites) (Locals locals) ↔ AreLocals sig a sites locals
IsRow-view sig a sites locals = AllZip-view (λ s l. Nth (a ∷ []) s.node (λ a. IsLocal sig a s.site l)) 0 sites locals

pub IsCompatible-view : (g : List Node) (a n : ℕ) (sites : List ℕ) (locals : List Local) → IsCompatible g (View a sites) (n ∷ []) (Locals locals) ↔ LocalsAgree g n sites locals
IsCompatible-view g a n sites locals = AllZip-view (λ s l. Nth (n ∷ []) s.node (λ n. LocalAgrees g n s.site l)) 0 sites locals

pub types_of-view : (sig : List TypeEntry) (a : ℕ) (sites : List ℕ) (locals : List Local) → types_of (row_pattern sig (View a sites) (Locals locals)) ≡ a ∷ []
types_of-view sig a sites locals = types_of-pattern sig (shape_of (View a sites)) locals

tests_at : (g : List Node) (sites : List ℕ) (locals : List Local) (i s : ℕ) (l : Local) → AreApart (map (at 0) sites) → AllByRecursion (IsIn g) (map (at 0) sites) → slice_get sites i ≡ Some s → slice_get locals i ≡ Some l → TestsLocal (with_columns g (map (at 0) sites) locals) (at 0 s) l
tests_at g [] locals i s l apart has e f = absurd cc
tests_at g (t ∷ sites) [] i s l apart has e f = absurd cc
tests_at g (t ∷ sites) (k ∷ locals) zero s l apart has e f = let site : t ≡ s = cc in let local : k ≡ l = cc in rw (← site, ← local) (TestsLocal-with_columns g (map (at 0) sites) locals (at 0 t) k apart.0 has.0)
tests_at g (t ∷ sites) (k ∷ locals) (suc i) s l apart has e f = tests_at (with_local g 0 t k) sites locals i s l apart.1 (AreIn-with_local g (at 0 t) k (map (at 0) sites) has.1) e f

out_of_sites : (sites : List ℕ) (s : ℕ) → ((i : ℕ) → slice_get sites i ≢ Some s) → AllByRecursion (λ t. at 0 s ≢ t) (map (at 0) sites)
out_of_sites [] s out = tt
out_of_sites (t ∷ sites) s out = (site_ne 0 s 0 t (λ e. out 0 (ap Some (sym e))), out_of_sites sites s (λ i. out (suc i)))

module _ (sig : List TypeEntry) (a : ℕ) (sites : List ℕ) where
  -- a row tests its local states at the view's sites, and no links elsewhere
  pub TestsLocal-view : IsFamily sig (View a sites) → (locals : List Local) (i s : ℕ) (l : Local) → slice_get sites i ≡ Some s → slice_get locals i ≡ Some l → TestsLocal (row_pattern sig (View a sites) (Locals locals)) (at 0 s) l
  TestsLocal-view valid locals i s l e f =
      let ok = IsShape-of sig (View a sites) valid in
      tests_at (blank_node sig a ∷ []) sites locals i s l ok.apart (columns_in_root sig (shape_of (View a sites)) ok) e f

  pub link_test-view_other : (locals : List Local) (s : ℕ) → ((i : ℕ) → slice_get sites i ≢ Some s) → link_test (row_pattern sig (View a sites) (Locals locals)) 0 s ≡ Any
  link_test-view_other locals s out = (SameTests-with_columns (blank_node sig a ∷ []) (map (at 0) sites) locals (at 0 s) (out_of_sites sites s out)).link ∙ link_test-blank sig (a ∷ []) 0 s

  -- ---- where they occur

  module _ (m : List (Option Agent)) (over : IsMixtureOver sig m) (valid : IsFamily sig (View a sites)) where
    one_type : (c : ℕ) (cells : List ℕ) → type_in m c ≡ Some a → (n d b : ℕ) → slice_get (c ∷ cells) n ≡ Some d → slice_get (a ∷ []) n ≡ Some b → type_in m d ≡ Some b
    one_type c cells typed zero d b here is = let e : c ≡ d = cc in let f : a ≡ b = cc in rw (← e, ← f) typed
    one_type c cells typed (suc n) d b here is = absurd cc

    seen_sites : (c : ℕ) (cells : List ℕ) (count : length (c ∷ cells) ≡ 1) (typed : (n d b : ℕ) → slice_get (c ∷ cells) n ≡ Some d → slice_get (a ∷ []) n ≡ Some b → type_in m d ≡ Some b) (others : List ℕ) → map (seen sig m over (a ∷ []) (c ∷ cells) count typed) (map (at 0) others) ≡ map (local_in m c) others
    seen_sites c cells count typed [] = refl
    seen_sites c cells count typed (s ∷ others) = ap (λ (ls : List Local). local_in m c s ∷ ls) (seen_sites c cells count typed others)

    -- the local states of a cell of the type are a row that occurs there
    pub view_there : (c : ℕ) → type_in m c ≡ Some a → IsRow sig (View a sites) (Locals (map (local_in m c) sites)) × IsEmbedding (row_pattern sig (View a sites) (Locals (map (local_in m c) sites))) m (c ∷ [])
    view_there c typed =
        let ok = IsShape-of sig (View a sites) valid in
        let one = one_type c [] typed in
        let same = seen_sites c [] refl one sites in (
          subst (λ (ls : List Local). AreColumns sig (a ∷ []) (map (at 0) sites) ls) same (AreColumns-seen sig m over (a ∷ []) (c ∷ []) refl one (map (at 0) sites) ok.sites),
          subst (λ (ls : List Local). IsEmbedding (with_columns (blank_node sig a ∷ []) (map (at 0) sites) ls) m (c ∷ [])) same
              (IsEmbedding-seen sig m over (a ∷ []) (c ∷ []) refl one (blank_node sig a ∷ []) (map (at 0) sites) ok.sites (columns_in_root sig (shape_of (View a sites)) ok)
              (IsEmbedding-blank sig (a ∷ []) m (c ∷ []) refl (AllDifferent-cons c [] (λ i e. absurd cc) AllDifferent-[]) one)),
        )

    -- and no other row does
    pub view_only : (locals : List Local) (c : ℕ) (cells : List ℕ) → IsRow sig (View a sites) (Locals locals) → IsEmbedding (row_pattern sig (View a sites) (Locals locals)) m (c ∷ cells) → (type_in m c ≡ Some a) × (locals ≡ map (local_in m c) sites)
    view_only locals c cells row emb =
        let ok = IsShape-of sig (View a sites) valid in
        let typed = type_in-cells _ (a ∷ []) (types_of-view sig a sites locals) m (c ∷ cells) emb in
        let count = length-cells _ (a ∷ []) (types_of-view sig a sites locals) m (c ∷ cells) emb in (
          typed 0 c a refl refl,
          seen-only sig m over (a ∷ []) (c ∷ cells) count typed (blank_node sig a ∷ []) (map (at 0) sites) locals ok.apart ok.sites (columns_in_root sig (shape_of (View a sites)) ok) row emb ∙ seen_sites c cells count typed sites,
        )

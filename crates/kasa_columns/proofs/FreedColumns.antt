-- The freed tests of an outcome are free tests of the row that comes out, so the pattern before can be asked for.
use Rattle.std.proofs.Common.{◌≡◌, ℕ, zero, suc, inl, inr, true, List, [], ◌∷◌, refl, sym, ap, ◌∙◌, length, Some, None}
use Rattle.std.specs.Prelude.{slice_get}
use Rattle.std.specs.List.{AllZip}
use Rattle.std.proofs.lemmas.Option.{same_Some}
use Rattle.kasa_graph.specs.declared.pattern.LinkTest.TheVariants as test
use Rattle.kasa_graph.specs.Signature.{TypeEntry}
use Rattle.kasa_graph.specs.Lists.{Has}
use Rattle.kasa_graph.specs.Pattern.{link_test}
use Rattle.kasa_families.specs.declared.row.LocalLink.TheVariants as local
use Rattle.kasa_families.specs.declared.row.Local.{Local}
use Rattle.kasa_families.specs.declared.shape.NodeSite.{NodeSite}
use Rattle.kasa_families.specs.Local.{local_link_test}
use Rattle.kasa_families.specs.Shape.{Shape, IsShape, root_of, pattern_of}
use Rattle.kasa_families.proofs.ColumnLemmas.{nth_of, columns_in_root, TestsLocal, TestsLocals-with_columns}
use Rattle.kasa_rules.specs.Rule.{RuleParts, touched}
use Rattle.kasa_pre.specs.declared.Stand.{Stand}
use Rattle.kasa_pre.specs.declared.FreedBy.{FreedBy}
use Rattle.kasa_pre.specs.Before.{link_written, AreFreed}
use Rattle.kasa_columns.specs.Comes.{Outcome, ColumnComes, ComesOut}
use Rattle.kasa_columns.proofs.ShapeTests.{columns_apart}
use Rattle.kasa_columns.proofs.Zips.{zip_get}

-- the outcome frees a test at a column, which is free there
record FreedAt (r : RuleParts) (stands : List Stand) (columns : List NodeSite) (locals : List Local) (f : FreedBy) : Type 0 where
  index : ℕ
  column : NodeSite
  listed : slice_get columns index ≡ Some column
  node : f.node ≡ column.node
  site : f.site ≡ column.site
  stand : Stand
  stood : slice_get stands column.node ≡ Some stand
  unwritten : link_written r stand column.site ≡ None
  by_touched : touched r f.from f.«at» ≡ true
  shown : Local
  there : slice_get locals index ≡ Some shown
  free : shown.link ≡ local.Free

module _ (r : RuleParts) (stands : List Stand) where
  length-column : (c : NodeSite) (l : Local) (rest out : Outcome) (stand : Stand) → ColumnComes r c l rest out stand → length out.locals ≡ suc (length rest.locals)
  length-column c l rest out stand (inl e) = ap (λ (o : Outcome). length o.locals) e
  length-column c l rest out stand (inr (f, source, alone, e)) = ap (λ (o : Outcome). length o.locals) e

  pub length-outcome : (columns : List NodeSite) (shown : List Local) (out : Outcome) → ComesOut r stands columns shown out → length out.locals ≡ length columns
  length-outcome [] [] out comes = ap (λ (o : Outcome). length o.locals) comes
  length-outcome [] (l ∷ shown) out comes = absurd comes
  length-outcome (c ∷ columns) [] out comes = absurd comes
  length-outcome (c ∷ columns) (l ∷ shown) out (rest, comes, column) =
      let one = nth_of stands c.node _ column in
      length-column c l rest out one.0 one.2 ∙ ap suc (length-outcome columns shown rest comes)

  later : (c : NodeSite) (l : Local) (columns : List NodeSite) (locals : List Local) (f : FreedBy) → FreedAt r stands columns locals f → FreedAt r stands (c ∷ columns) (l ∷ locals) f
  later c l columns locals f h = record {
    index = suc h.index;
    column = h.column;
    listed = h.listed;
    node = h.node;
    site = h.site;
    stand = h.stand;
    stood = h.stood;
    unwritten = h.unwritten;
    by_touched = h.by_touched;
    shown = h.shown;
    there = h.there;
    free = h.free;
  }

  at_column : (c : NodeSite) (l : Local) (columns : List NodeSite) (rest out : Outcome) (stand : Stand) → slice_get stands c.node ≡ Some stand → ColumnComes r c l rest out stand → ((f : FreedBy) → Has rest.freed f → FreedAt r stands columns rest.locals f) → (f : FreedBy) (k : ℕ) → slice_get out.freed k ≡ Some f → FreedAt r stands (c ∷ columns) out.locals f
  at_column c l columns rest out stand stood (inl e) others f k is =
      let same : slice_get rest.freed k ≡ Some f = rw (ap (λ (o : Outcome). o.freed) e) at is in
      rw (ap (λ (o : Outcome). o.locals) e) (later c _ columns rest.locals f (others f (k, same)))
  at_column c l columns rest out stand stood (inr (h, source, alone, e)) others f zero is =
      let first : slice_get (h ∷ rest.freed) zero ≡ Some f = rw (ap (λ (o : Outcome). o.freed) e) at is in
      let same : h ≡ f = cc in
      rw (ap (λ (o : Outcome). o.locals) e, ← same) (record {
        index = 0;
        column = c;
        listed = refl;
        node = source.node;
        site = source.site;
        stand = stand;
        stood = stood;
        unwritten = source.unwritten;
        by_touched = source.by_touched;
        shown = _;
        there = refl;
        free = refl;
      })
  at_column c l columns rest out stand stood (inr (h, source, alone, e)) others f (suc k) is =
      let same : slice_get (h ∷ rest.freed) (suc k) ≡ Some f = rw (ap (λ (o : Outcome). o.freed) e) at is in
      rw (ap (λ (o : Outcome). o.locals) e) (later c _ columns rest.locals f (others f (k, same)))

  freed_at : (columns : List NodeSite) (shown : List Local) (out : Outcome) → ComesOut r stands columns shown out → (f : FreedBy) → Has out.freed f → FreedAt r stands columns out.locals f
  freed_at [] [] out comes f (k, is) = absurd (let none = rw (ap (λ (o : Outcome). o.freed) comes) at is in cc)
  freed_at [] (l ∷ shown) out comes f has = absurd comes
  freed_at (c ∷ columns) [] out comes f has = absurd comes
  freed_at (c ∷ columns) (l ∷ shown) out (rest, comes, column) f (k, is) =
      let one = nth_of stands c.node _ column in
      at_column c l columns rest out one.0 one.1 one.2 (freed_at columns shown rest comes) f k is

  module _ (sig : List TypeEntry) (shape : Shape) (ok : IsShape sig shape) (shown : List Local) (out : Outcome) (comes : ComesOut r stands shape.columns shown out) where
    tests : AllZip (TestsLocal (pattern_of sig shape out.locals)) shape.columns out.locals
    tests = TestsLocals-with_columns (root_of sig shape) shape.columns out.locals (length-outcome shape.columns shown out comes) (columns_apart sig shape ok out.locals) (columns_in_root sig shape ok)

    free_there : (f : FreedBy) → FreedAt r stands shape.columns out.locals f → link_test (pattern_of sig shape out.locals) f.node f.site ≡ test.Free
    free_there f h =
        let l = zip_get (TestsLocal (pattern_of sig shape out.locals)) shape.columns out.locals h.index h.column tests h.listed in
        let same : l.0 ≡ h.shown = same_Some l.0 h.shown (sym l.1 ∙ h.there) in
        let free : l.0.link ≡ local.Free = ap (λ (x : Local). x.link) same ∙ h.free in
        rw (h.node, h.site) (l.2.link ∙ ap local_link_test free)

    unwritten_there : (f : FreedBy) → FreedAt r stands shape.columns out.locals f → (stand : Stand) × (slice_get stands f.node ≡ Some stand) × (link_written r stand f.site ≡ None)
    unwritten_there f h = (h.stand, ap (λ (n : ℕ). slice_get stands n) h.node ∙ h.stood, ap (λ (s : ℕ). link_written r h.stand s) h.site ∙ h.unwritten)

    pub AreFreed-outcome : AreFreed r (pattern_of sig shape out.locals) stands out.freed
    AreFreed-outcome = record {
      free = λ f has. free_there f (freed_at shape.columns shown out comes f has);
      unwritten = λ f has. unwritten_there f (freed_at shape.columns shown out comes f has);
      by_touched = λ f has. (freed_at shape.columns shown out comes f has).by_touched;
    }

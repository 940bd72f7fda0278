-- What all columns of a root show after a firing is an outcome of what they showed before.
use Rattle.std.proofs.Common.{◌≡◌, ◌≢◌, ℕ, zero, suc, ◌⊎◌, inl, inr, List, [], ◌∷◌, refl, sym, ap, ◌∙◌, Some}
use Rattle.std.specs.Prelude.{slice_get}
use Rattle.std.specs.List.{AllByRecursion, AllZip}
use Rattle.kasa_graph.specs.Lists.{Has}
use Rattle.kasa_families.specs.declared.row.Local.{Local}
use Rattle.kasa_families.specs.declared.shape.NodeSite.{NodeSite}
use Rattle.kasa_families.specs.Shape.{at, AreApart}
use Rattle.kasa_families.proofs.ColumnLemmas.{All-at, to_nth, same_site}
use Rattle.kasa_rules.specs.Rule.{RuleParts}
use Rattle.kasa_pre.specs.declared.Stand.{Stand}
use Rattle.kasa_pre.specs.declared.FreedBy.{FreedBy}
use Rattle.kasa_pre.specs.Before.{IsFreed}
use Rattle.kasa_columns.specs.Comes.{local_after, local_freed, IsSource, Outcome, kept_before, freed_before, FreesToo, ComesOut}

-- a column shows what it showed, or what was written, or its partner is gone and the list has the source
abbrev pub SiteComes : RuleParts → List FreedBy → NodeSite → Local → Local → Stand → Type 0
SiteComes r freed c o l stand = ((¬ IsFreed freed c.node c.site) × (l ≡ local_after r stand c.site o)) ⊎ ((f : FreedBy) × Has freed f × IsSource r stand c o f × (l ≡ local_freed r stand c.site o))

abbrev pub StandComes : RuleParts → List Stand → List FreedBy → NodeSite → Local → Local → Type 0
StandComes r stands freed c o l = (stand : Stand) × (slice_get stands c.node ≡ Some stand) × SiteComes r freed c o l stand

-- no site frees two tests of different columns
abbrev pub OneSource : List FreedBy → Type 0
OneSource freed = (f g : FreedBy) → Has freed f → Has freed g → f.from ≡ g.from → f.«at» ≡ g.«at» → at f.node f.site ≡ at g.node g.site

-- the outcome has just these local states, and frees what the list frees of these columns, from sources of the list
pub record IsOutcome (r : RuleParts) (stands : List Stand) (freed : List FreedBy) (columns : List NodeSite) (shown locals : List Local) : Type 0 where
  pub out : Outcome
  pub comes : ComesOut r stands columns shown out
  pub is : out.locals ≡ locals
  pub among : (f : FreedBy) → Has out.freed f → Has freed f
  pub named : (f : FreedBy) → Has out.freed f → Has columns (at f.node f.site)
  pub all : (c : NodeSite) → Has columns c → IsFreed freed c.node c.site → IsFreed out.freed c.node c.site

module _ (r : RuleParts) (stands : List Stand) (freed : List FreedBy) (one : OneSource freed) where
  module _ (c : NodeSite) (columns : List NodeSite) (o l : Local) (shown locals : List Local) (apart : AllByRecursion (λ t. c ≢ t) columns) (rest : IsOutcome r stands freed columns shown locals) (stand : Stand) (stands_at : slice_get stands c.node ≡ Some stand) where
    kept : ¬ IsFreed freed c.node c.site → l ≡ local_after r stand c.site o → IsOutcome r stands freed (c ∷ columns) (o ∷ shown) (l ∷ locals)
    kept unfreed e = record {
      out = kept_before (local_after r stand c.site o) rest.out;
      comes = (rest.out, rest.comes, to_nth stands c.node _ stand stands_at (inl refl));
      is = rw (e, rest.is) refl;
      among = rest.among;
      named = λ f h. let k = rest.named f h in (suc k.0, k.1);
      all = λ t h gone. by_site t h.0 h.1 gone;
    }
      where
        by_site : (t : NodeSite) (k : ℕ) → slice_get (c ∷ columns) k ≡ Some t → IsFreed freed t.node t.site → IsFreed rest.out.freed t.node t.site
        by_site t zero e gone = let same : c ≡ t = cc in absurd (unfreed (rw same gone))
        by_site t (suc k) e gone = rest.all t (k, e) gone

    gone : (f : FreedBy) → Has freed f → IsSource r stand c o f → l ≡ local_freed r stand c.site o → IsOutcome r stands freed (c ∷ columns) (o ∷ shown) (l ∷ locals)
    gone f has source e = record {
      out = freed_before (local_freed r stand c.site o) f rest.out;
      comes = (rest.out, rest.comes, to_nth stands c.node _ stand stands_at (inr (f, source, alone, refl)));
      is = rw (e, rest.is) refl;
      among = λ h k. by_place h k.0 k.1;
      named = λ h k. by_named h k.0 k.1;
      all = λ t h was. by_site t h.0 h.1 was;
    }
      where
        here : at f.node f.site ≡ c
        here = same_site (at f.node f.site) c source.node source.site

        -- a source of the rest frees another column
        alone : ¬ FreesToo rest.out.freed f
        alone (g, frees, from, site) =
            let named = rest.named g frees in
            let same = one f g has (rest.among g frees) (sym from) (sym site) in
            All-at (λ t. c ≢ t) columns named.0 (at g.node g.site) apart named.1 (sym here ∙ same)

        by_place : (h : FreedBy) (k : ℕ) → slice_get (f ∷ rest.out.freed) k ≡ Some h → Has freed h
        by_place h zero e = let same : f ≡ h = cc in rw (← same) has
        by_place h (suc k) e = rest.among h (k, e)

        by_named : (h : FreedBy) (k : ℕ) → slice_get (f ∷ rest.out.freed) k ≡ Some h → Has (c ∷ columns) (at h.node h.site)
        by_named h zero e = let same : f ≡ h = cc in rw (← same) (zero, ap Some (sym here))
        by_named h (suc k) e = let n = rest.named h (k, e) in (suc n.0, n.1)

        by_site : (t : NodeSite) (k : ℕ) → slice_get (c ∷ columns) k ≡ Some t → IsFreed freed t.node t.site → IsFreed (f ∷ rest.out.freed) t.node t.site
        by_site t zero e was = let same : c ≡ t = cc in (f, (zero, refl), source.node ∙ ap (λ (x : NodeSite). x.node) same, source.site ∙ ap (λ (x : NodeSite). x.site) same)
        by_site t (suc k) e was = let h = rest.all t (k, e) was in (h.0, (suc h.1.0, h.1.1), h.2, h.3)

    with_column : SiteComes r freed c o l stand → IsOutcome r stands freed (c ∷ columns) (o ∷ shown) (l ∷ locals)
    with_column (inl (unfreed, e)) = kept unfreed e
    with_column (inr (f, has, source, e)) = gone f has source e

  -- where each column comes from what it showed, which is P, so do all
  pub comes_out : (P Q : NodeSite → Local → Type 0) → ((c : NodeSite) (o l : Local) → P c o → Q c l → StandComes r stands freed c o l) → (columns : List NodeSite) (shown locals : List Local) → AreApart columns → AllZip P columns shown → AllZip Q columns locals → IsOutcome r stands freed columns shown locals
  comes_out P Q each [] [] [] apart ps qs = record {
    out = record { locals = []; freed = [] };
    comes = refl;
    is = refl;
    among = λ f h. absurd (let e = h.1 in cc);
    named = λ f h. absurd (let e = h.1 in cc);
    all = λ c h. absurd (let e = h.1 in cc);
  }
  comes_out P Q each [] (o ∷ shown) locals apart ps qs = absurd ps
  comes_out P Q each [] [] (l ∷ locals) apart ps qs = absurd qs
  comes_out P Q each (c ∷ columns) [] locals apart ps qs = absurd ps
  comes_out P Q each (c ∷ columns) (o ∷ shown) [] apart ps qs = absurd qs
  comes_out P Q each (c ∷ columns) (o ∷ shown) (l ∷ locals) apart ps qs =
      let s = each c o l ps.0 qs.0 in
      with_column c columns o l shown locals apart.0 (comes_out P Q each columns shown locals apart.1 ps.1 qs.1) s.0 s.1 s.2

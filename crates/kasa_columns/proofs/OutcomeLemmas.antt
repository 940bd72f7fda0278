-- How the outcomes of columns are built, from the last to the first.
use Rattle.std.proofs.Common.{subst, ◌≡◌, ℕ, zero, suc, ◌⊎◌, inl, inr, ◌↔◌, List, [], ◌∷◌, ◌++◌, drop, refl, sym, ap, ◌∙◌, Some}
use Rattle.std.specs.Prelude.{slice_get}
use Rattle.std.proofs.lemmas.Option.{same_Some}
use Rattle.kasa_graph.specs.Lists.{Has}
use Rattle.kasa_graph.proofs.ListLemmas.{Has-left}
use Rattle.kasa_families.specs.declared.row.Local.{Local}
use Rattle.kasa_rules.specs.Rule.{RuleParts}
use Rattle.kasa_pre.specs.declared.Stand.{Stand}
use Rattle.kasa_pre.specs.declared.FreedBy.{FreedBy}
use Rattle.kasa_families.specs.declared.shape.NodeSite.{NodeSite}
use Rattle.kasa_families.specs.Shape.{Nth}
use Rattle.kasa_families.proofs.ColumnLemmas.{nth_of, to_nth}
use Rattle.kasa_columns.specs.Comes.{local_after, local_freed, IsSource, Outcome, kept_before, freed_before, FreesToo, ColumnComes, ComesOut}
use Rattle.kasa_columns.specs.Outcomes.{FreesBefore, ComesBefore}
use Rattle.kasa_columns.proofs.Pushing.{last_of, last}

-- ---- the outcomes of columns

pub record AreOutcomes (r : RuleParts) (stands : List Stand) (columns : List NodeSite) (shown : List Local) (outs : List Outcome) : Type 0 where
  pub sound : (out : Outcome) → Has outs out → ComesOut r stands columns shown out
  pub complete : (out : Outcome) → ComesOut r stands columns shown out → Has outs out

pub no_columns : (r : RuleParts) (stands : List Stand) → AreOutcomes r stands [] [] (record { locals = []; freed = [] } ∷ [])
no_columns r stands = record { sound = λ out has. only out has.0 has.1; complete = λ out comes. (zero, ap Some (sym comes)) }
  where
    only : (out : Outcome) (k : ℕ) → slice_get (record { locals = []; freed = [] } ∷ []) k ≡ Some out → out ≡ record { locals = []; freed = [] }
    only out zero e = cc
    only out (suc k) e = absurd cc

one_column_more : (r : RuleParts) (stands : List Stand) (stand : Stand) (c : NodeSite) (l : Local) (columns : List NodeSite) (shown : List Local) (rest outs : List Outcome) → slice_get stands c.node ≡ Some stand → AreOutcomes r stands columns shown rest → ((out : Outcome) → Has outs out ↔ ComesBefore r stand c l rest out) → AreOutcomes r stands (c ∷ columns) (l ∷ shown) outs
one_column_more r stands stand c l columns shown rest outs stood are each = record {
  sound = λ out has. let was = (each out).0 has in (was.0, are.sound was.0 was.1, to_nth stands c.node _ stand stood was.2);
  complete = λ out comes. (each out).1 (comes.0, are.complete comes.0 comes.1, at_stand out comes.0 comes.2);
}
  where
    at_stand : (out before : Outcome) → Nth stands c.node (ColumnComes r c l before out) → ColumnComes r c l before out stand
    at_stand out before column =
        let one = nth_of stands c.node _ column in
        subst (ColumnComes r c l before out) (same_Some one.0 stand (sym one.1 ∙ stood)) one.2

pub drop_at : {X : Type 0} (xs : List X) (n : ℕ) (x : X) → slice_get xs n ≡ Some x → drop n xs ≡ x ∷ drop (suc n) xs
drop_at [] n x e = absurd cc
drop_at (y ∷ xs) zero x e = let same : y ≡ x = cc in ap (λ z. z ∷ xs) same
drop_at (y ∷ xs) (suc n) x e = drop_at xs n x e

-- the same for the columns from some number on
pub columns_from : (r : RuleParts) (stands : List Stand) (stand : Stand) (columns : List NodeSite) (shown : List Local) (k n : ℕ) (c : NodeSite) (l : Local) (rest outs : List Outcome) → suc n ≡ k → slice_get columns n ≡ Some c → slice_get shown n ≡ Some l → slice_get stands c.node ≡ Some stand → AreOutcomes r stands (drop k columns) (drop k shown) rest → ((out : Outcome) → Has outs out ↔ ComesBefore r stand c l rest out) → AreOutcomes r stands (drop n columns) (drop n shown) outs
columns_from r stands stand columns shown k n c l rest outs next at there stood are each =
    rw (drop_at columns n c at, drop_at shown n l there)
    (one_column_more r stands stand c l (drop (suc n) columns) (drop (suc n) shown) rest outs stood (rw next are) each)

-- ---- the outcomes where one of the sources frees the column

module _ (l : Local) (rest : Outcome) (first outs : List Outcome) (sources : List FreedBy) (f : FreedBy) (so_far : (out : Outcome) → Has outs out ↔ (Has first out ⊎ FreesBefore l sources rest out)) where
  kept_sources : (out : Outcome) → Has outs out → Has first out ⊎ FreesBefore l (sources ++ f ∷ []) rest out
  kept_sources out has = elim ((so_far out).0 has) [
    | inl old ↦ inl old
    | inr (g, source, others, is) ↦ inr (g, Has-left sources (f ∷ []) g source, others, is)
  ]

  pub frees_one_more : ¬ FreesToo rest.freed f → (out : Outcome) → Has (outs ++ freed_before l f rest ∷ []) out ↔ (Has first out ⊎ FreesBefore l (sources ++ f ∷ []) rest out)
  frees_one_more alone out = (there, back)
    where
      there : Has (outs ++ freed_before l f rest ∷ []) out → Has first out ⊎ FreesBefore l (sources ++ f ∷ []) rest out
      there has = elim (last_of outs _ out has) [
        | inl old ↦ kept_sources out old
        | inr new ↦ inr (f, last sources f f refl, alone, new)
      ]

      back : Has first out ⊎ FreesBefore l (sources ++ f ∷ []) rest out → Has (outs ++ freed_before l f rest ∷ []) out
      back (inl old) = Has-left outs _ out ((so_far out).1 (inl old))
      back (inr (g, source, others, is)) = elim (last_of sources f g source) [
        | inl old ↦ Has-left outs _ out ((so_far out).1 (inr (g, old, others, is)))
        | inr new ↦ last outs _ out (is ∙ ap (λ (h : FreedBy). freed_before l h rest) new)
      ]

  pub frees_no_more : FreesToo rest.freed f → (out : Outcome) → Has outs out ↔ (Has first out ⊎ FreesBefore l (sources ++ f ∷ []) rest out)
  frees_no_more too out = (kept_sources out, back)
    where
      back : Has first out ⊎ FreesBefore l (sources ++ f ∷ []) rest out → Has outs out
      back (inl old) = (so_far out).1 (inl old)
      back (inr (g, source, others, is)) = elim (last_of sources f g source) [
        | inl old ↦ (so_far out).1 (inr (g, old, others, is))
        | inr new ↦ absurd (others (rw new too))
      ]

pub frees_nothing : (l : Local) (rest : Outcome) (first : List Outcome) (out : Outcome) → Has first out ↔ (Has first out ⊎ FreesBefore l [] rest out)
frees_nothing l rest first out = (λ has. inl has, λ h. elim h [ inl has ↦ has | inr (g, source, others, is) ↦ absurd (let e = source.1 in cc) ])

-- ---- each outcome of the rest

pub comes_of_none : (r : RuleParts) (stand : Stand) (c : NodeSite) (l : Local) (out : Outcome) → Has {X = Outcome} [] out ↔ ComesBefore r stand c l [] out
comes_of_none r stand c l out = (λ has. absurd (let e = has.1 in cc), λ comes. absurd (let e = comes.1.1 in cc))

module _ (r : RuleParts) (stand : Stand) (c : NodeSite) (l : Local) (sources : List FreedBy) (are : (f : FreedBy) → Has sources f ↔ IsSource r stand c l f) (rest : List Outcome) (old : Outcome) (outs more : List Outcome) where
  pub comes_of_one_more : ((out : Outcome) → Has outs out ↔ ComesBefore r stand c l rest out) →
      ((out : Outcome) → Has more out ↔ (Has (outs ++ kept_before (local_after r stand c.site l) old ∷ []) out ⊎ FreesBefore (local_freed r stand c.site l) sources old out)) →
      (out : Outcome) → Has more out ↔ ComesBefore r stand c l (rest ++ old ∷ []) out
  comes_of_one_more so_far longer out = (λ has. there ((longer out).0 has), λ comes. (longer out).1 (back comes))
    where
      there : Has (outs ++ kept_before (local_after r stand c.site l) old ∷ []) out ⊎ FreesBefore (local_freed r stand c.site l) sources old out → ComesBefore r stand c l (rest ++ old ∷ []) out
      there (inl has) = elim (last_of outs _ out has) [
        | inl before ↦ let was = (so_far out).0 before in (was.0, Has-left rest _ was.0 was.1, was.2)
        | inr new ↦ (old, last rest old old refl, inl new)
      ]
      there (inr (f, source, others, is)) = (old, last rest old old refl, inr (f, (are f).0 source, others, is))

      back : ComesBefore r stand c l (rest ++ old ∷ []) out → Has (outs ++ kept_before (local_after r stand c.site l) old ∷ []) out ⊎ FreesBefore (local_freed r stand c.site l) sources old out
      back (was, has, how) = elim (last_of rest old was has) [
        | inl before ↦ inl (Has-left outs _ out ((so_far out).1 (was, before, how)))
        | inr new ↦ of_old (rw new at how)
      ]
        where
          of_old : ColumnComes r c l old out stand → Has (outs ++ kept_before (local_after r stand c.site l) old ∷ []) out ⊎ FreesBefore (local_freed r stand c.site l) sources old out
          of_old (inl is) = inl (last outs _ out is)
          of_old (inr (f, source, others, is)) = inr (f, (are f).1 source, others, is)

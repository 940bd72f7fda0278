-- Each row of a family with columns that a rule yields comes forward from a stored row, or from choices.
use Rattle.std.proofs.Common.{◌≡◌, ℕ, zero, suc, ◌⊎◌, inl, inr, List, [], ◌∷◌, refl, sym, ◌∙◌, Option, Some, None}
use Rattle.std.specs.Prelude.{slice_get}
use Rattle.std.proofs.lemmas.Option.{same_Some, slice_get_within}
use Rattle.kasa_graph.proofs.ListLemmas.{some_at}
use Rattle.kasa_graph.specs.Signature.{TypeEntry, HasSite}
use Rattle.kasa_graph.specs.Lists.{Has}
use Rattle.kasa_families.specs.declared.family.Family.{Family}
use Rattle.kasa_families.specs.declared.row.Local.{Local}
use Rattle.kasa_families.specs.declared.row.Row.TheVariants.{Locals}
use Rattle.kasa_families.specs.declared.shape.NodeSite.{NodeSite}
use Rattle.kasa_families.specs.declared.shape.Bond.{Bond}
use Rattle.kasa_families.specs.Local.{IsLocal, LocalAgrees}
use Rattle.kasa_families.specs.Shape.{Shape, Nth, ends, IsShape, pattern_of, AreColumns}
use Rattle.kasa_families.specs.Family.{shape_of}
use Rattle.kasa_families.specs.Row.{IsRow}
use Rattle.kasa_families.specs.Pattern.{row_pattern}
use Rattle.kasa_families.specs.Table.{Table, AreTables, families_of}
use Rattle.kasa_families.proofs.ColumnLemmas.{nth_of, to_nth}
use Rattle.kasa_families.proofs.FamilyShape.{IsShape-of}
use Rattle.kasa_families.proofs.TableLemmas.{IsFamily-of_tables}
use Rattle.kasa_rules.specs.declared.rule.Written.{Written}
use Rattle.kasa_rules.specs.Rule.{RuleParts, IsRuleOver}
use Rattle.kasa_pre.specs.declared.Stand.{Stand}
use Rattle.kasa_pre.specs.declared.Stand.TheVariants.{Left, Made, Outside}
use Rattle.kasa_pre.specs.declared.FreedBy.{FreedBy}
use Rattle.kasa_pre.specs.Before.{place_of, link_written}
use Rattle.kasa_pre.specs.Yields.{YieldsPattern}
use Rattle.kasa_columns.specs.Forward.{HasColumns, LeavesBonds, WasStored, YieldsAt, ComesForward}
use Rattle.kasa_columns.specs.Choices.{IsChoice, IsChosen, AreViews, MayHaveShown}
use Rattle.kasa_columns.proofs.Places.{WasThere, has_place}
use Rattle.kasa_columns.proofs.Zips.{all_of, all_or, zip_choose}
use Rattle.kasa_columns.proofs.ShapeTests.{column_typed}
use Rattle.kasa_columns.proofs.AnyLocal.{any_local}
use Rattle.kasa_columns.proofs.ViewChoice.{view_choice}
use Rattle.kasa_columns.proofs.Rows.{ReadsColumns, reads_columns, comes_forward, forward_leaving, count}
use Rattle.kasa_columns.proofs.Forward as forward

-- ---- the rule leaves the bonds, or doesn't

none_or : (w : Option Written) → (w ≡ None) ⊎ (¬ (w ≡ None))
none_or None = inl refl
none_or (Some w) = inr (λ e. absurd cc)

nth_or : (P : Stand → Type 0) → ((stand : Stand) → P stand ⊎ (¬ P stand)) → (stands : List Stand) (n : ℕ) → Nth stands n P ⊎ (¬ Nth stands n P)
nth_or P or [] n = inr (λ h. h)
nth_or P or (stand ∷ stands) zero = or stand
nth_or P or (stand ∷ stands) (suc n) = nth_or P or stands n

pub leaves_or : (r : RuleParts) (bonds : List Bond) (stands : List Stand) → LeavesBonds r bonds stands ⊎ (¬ LeavesBonds r bonds stands)
leaves_or r bonds stands = all_or _ (λ e. nth_or _ (λ stand. none_or (link_written r stand e.site)) stands e.node) (ends bonds)

module _ (sig : List TypeEntry) (tables : List Table) (ok : AreTables sig tables) (r : RuleParts) (rule : IsRuleOver sig r) (family : Family) (has : Has (families_of tables) family) (columned : HasColumns family) (locals : List Local) (row : IsRow sig family (Locals locals)) (view : NodeSite → Option (List ℕ)) (views : AreViews tables (shape_of family) view) where
  abbrev pub shape : Shape
  shape = shape_of family

  abbrev pub reads : ReadsColumns sig family
  reads = reads_columns sig family columned

  abbrev pub is_shape : IsShape sig shape
  is_shape = IsShape-of sig family (IsFamily-of_tables sig tables ok family has)

  abbrev pub valid : AreColumns sig shape.types shape.columns locals
  valid = reads.row locals row

  module _ (stands : List Stand) (freed : List FreedBy) (y : YieldsAt sig tables r (pattern_of sig shape locals) stands freed) where
    abbrev Shown : NodeSite → Local → Type 0
    Shown = forward.WasShown sig r rule shape is_shape locals valid stands freed y.pattern y.free y.before

    abbrev Chosen : NodeSite → Local → Type 0
    Chosen c l = Nth shape.types c.node (λ a. Nth stands c.node (IsChosen sig tables (view c) a c.site l))

    -- some choice doesn't contradict the pattern before
    a_choice : (c : NodeSite) → Has shape.columns c → (a : ℕ) → slice_get shape.types c.node ≡ Some a → HasSite sig a c.site → (p : ℕ) → place_of r stands c.node ≡ Some p → (sites : Option (List ℕ)) → view c ≡ sites → (o : Local) × IsChoice sig tables sites a c.site o × IsLocal sig a c.site o × LocalAgrees y.pattern p c.site o
    a_choice c named a is site p place None e =
        let typed = forward.typed_there sig r rule shape is_shape locals valid stands freed y.pattern y.free y.before c.node p a place is in
        let o = any_local sig y.pattern y.before.valid p c.site a typed site in
        (o.0, o.1, o.1, o.2)
    a_choice c named a is site p place (Some sites) e =
        let typed = forward.typed_there sig r rule shape is_shape locals valid stands freed y.pattern y.free y.before c.node p a place is in
        let v = views c sites named e in
        let b = nth_of shape.types c.node _ v.1 in
        let same : b.0 ≡ a = same_Some b.0 a (sym b.1 ∙ is) in
        view_choice sig tables ok y.pattern y.before.valid y.allowed a sites (rw same at b.2) p typed c.site v.0

    chosen : (c : NodeSite) → Has shape.columns c → (o : Local) × Shown c o × Chosen c o
    chosen c named =
        let a = column_typed sig shape is_shape locals c named in
        let stand = some_at stands c.node (rw (count sig tables ok r rule family has columned locals row stands freed y) (slice_get_within shape.types c.node a.0 a.1)) in
        by a.0 a.1 a.2 stand.0 stand.1
      where
        to_chosen : (a : ℕ) (stand : Stand) (o : Local) → slice_get shape.types c.node ≡ Some a → slice_get stands c.node ≡ Some stand → IsChosen sig tables (view c) a c.site o stand → Chosen c o
        to_chosen a stand o is at choice = to_nth shape.types c.node _ a is (to_nth stands c.node _ stand at choice)

        there : (a : ℕ) (stand : Stand) → slice_get shape.types c.node ≡ Some a → HasSite sig a c.site → slice_get stands c.node ≡ Some stand → WasThere stand → ((o : Local) → IsChoice sig tables (view c) a c.site o → IsChosen sig tables (view c) a c.site o stand) → (o : Local) × Shown c o × Chosen c o
        there a stand is site at was to =
            let p = has_place r stands c.node stand at was in
            let o = a_choice c named a is site p.0 p.1 (view c) refl in
            (o.0, shown o.0 o.2 p.0 p.1 o.3, to_chosen a stand o.0 is at (to o.0 o.1))
          where
            shown : (o : Local) → IsLocal sig a c.site o → (p : ℕ) → place_of r stands c.node ≡ Some p → LocalAgrees y.pattern p c.site o → Shown c o
            shown o is_o p place agrees b other typed at' =
                let same : a ≡ b = same_Some a b (sym is ∙ typed) in
                let stood : stand ≡ other = same_Some stand other (sym at ∙ at') in
                rw (← same, ← stood) (forward.was_there sig r rule shape is_shape locals valid stands freed y.pattern y.free y.before a c o stand was p place is_o agrees)

        by : (a : ℕ) → slice_get shape.types c.node ≡ Some a → HasSite sig a c.site → (stand : Stand) → slice_get stands c.node ≡ Some stand → (o : Local) × Shown c o × Chosen c o
        by a is site (Left n) at = there a (Left n) is site at tt (λ o choice. choice)
        by a is site (Made k) at = (forward.nothing, blank, to_chosen a (Made k) forward.nothing is at refl)
          where
            blank : Shown c forward.nothing
            blank b other typed at' = let stood : Made k ≡ other = same_Some (Made k) other (sym at ∙ at') in rw (← stood) refl
        by a is site Outside at = there a Outside is site at tt (λ o choice. choice)

    from_choices : ¬ LeavesBonds r shape.bonds stands → ComesForward sig tables r family (MayHaveShown sig tables r family view) locals
    from_choices writes =
        let all = zip_choose Shown Chosen shape.columns (all_of (λ c. (o : Local) × Shown c o × Chosen c o) shape.columns (λ n c e. chosen c (n, e))) in
        comes_forward sig tables ok r rule family has columned locals row stands freed y (MayHaveShown sig tables r family view) all.0 (inr (writes, all.2)) all.1

    weaker : ComesForward sig tables r family (WasStored tables r family) locals → ComesForward sig tables r family (MayHaveShown sig tables r family view) locals
    weaker c = record { stands = c.stands; fit = c.fit; shown = c.shown; was = inl c.was; agrees = c.agrees; out = c.out; comes = c.comes; is = c.is; yields = c.yields }

    from_either : ComesForward sig tables r family (MayHaveShown sig tables r family view) locals
    from_either = elim (leaves_or r shape.bonds stands) [
      | inl leaves ↦ weaker (forward_leaving sig tables ok r rule family has columned locals row stands freed y leaves)
      | inr writes ↦ from_choices writes
    ]

  pub yields-chosen : YieldsPattern sig tables r (row_pattern sig family (Locals locals)) → ComesForward sig tables r family (MayHaveShown sig tables r family view) locals
  yields-chosen y = from_either y.stands y.freed (rw (reads.pattern locals) at yields_at)
    where
      yields_at : YieldsAt sig tables r (row_pattern sig family (Locals locals)) y.stands y.freed
      yields_at = record { free = y.free; pattern = y.pattern; before = y.before; allowed = y.allowed }

pub chosen-yields : (sig : List TypeEntry) (tables : List Table) (r : RuleParts) (family : Family) (locals : List Local) (may : List Stand → List Local → Type 0) → ComesForward sig tables r family may locals → YieldsPattern sig tables r (row_pattern sig family (Locals locals))
chosen-yields sig tables r family locals may c = record { stands = c.stands; freed = c.out.freed; pattern = c.yields.pattern; free = c.yields.free; before = c.yields.before; allowed = c.yields.allowed }

-- A row of a view that the tables hold is compatible at each node of its type, so a site's local state is among its rows.
use Rattle.std.proofs.Common.{subst, ◌≡◌, ℕ, List, [], ◌∷◌, sym, ◌∙◌, Some}
use Rattle.std.proofs.lemmas.Option.{same_Some}
use Rattle.kasa_graph.specs.declared.pattern.Node.{Node}
use Rattle.kasa_graph.specs.Signature.{TypeEntry}
use Rattle.kasa_graph.specs.Lists.{Has}
use Rattle.kasa_graph.specs.Pattern.{agent_at, IsPatternOver}
use Rattle.kasa_families.specs.declared.family.Family.{Family}
use Rattle.kasa_families.specs.declared.family.Family.TheVariants.{View}
use Rattle.kasa_families.specs.declared.row.Local.{Local}
use Rattle.kasa_families.specs.declared.row.Row.{Row}
use Rattle.kasa_families.specs.declared.row.Row.TheVariants.{Locals, Same, Different}
use Rattle.kasa_families.specs.Local.{IsLocal, LocalAgrees}
use Rattle.kasa_families.specs.Family.{shape_of, root}
use Rattle.kasa_families.specs.Row.{IsRow, AreLocals}
use Rattle.kasa_families.specs.Compatible.{IsCompatible, LocalsAgree}
use Rattle.kasa_families.specs.Place.{IsPlace}
use Rattle.kasa_families.specs.Table.{Table, AreTables, families_of, Holds}
use Rattle.kasa_families.proofs.FamilyShape.{IsShape-of}
use Rattle.kasa_families.proofs.TableLemmas.{IsFamily-of_tables}
use Rattle.kasa_families.proofs.KindLemmas.{IsRow-view, IsCompatible-view}
use Rattle.kasa_pre.specs.Allowed.{IsAllowed}
use Rattle.kasa_pre.proofs.SpotPlaces.{IsPlace-follows, Follows-view}
use Rattle.kasa_columns.specs.Choices.{IsInView}
use Rattle.kasa_columns.proofs.Zips.{zip_get}

module _ (sig : List TypeEntry) (tables : List Table) (ok : AreTables sig tables) (g : List Node) (over : IsPatternOver sig g) (allowed : IsAllowed sig tables g) (a : ℕ) (sites : List ℕ) (has : Has (families_of tables) (View a sites)) (p : ℕ) (typed : agent_at g p ≡ Some a) where
  root_at : IsPlace (root sig (View a sites)) g (p ∷ [])
  root_at = IsPlace-follows sig g over (shape_of (View a sites)) (IsShape-of sig (View a sites) (IsFamily-of_tables sig tables ok (View a sites) has)) p (p ∷ []) (Follows-view g p a sites typed)

  stored : (shown : List Local) × Holds tables (View a sites) (Locals shown) × AreLocals sig a sites shown × LocalsAgree g p sites shown
  stored = let c = allowed (View a sites) has (p ∷ []) root_at in by c.0 c.1 c.2
    where
      by : (row : Row) → Holds tables (View a sites) row → IsCompatible g (View a sites) (p ∷ []) row → (shown : List Local) × Holds tables (View a sites) (Locals shown) × AreLocals sig a sites shown × LocalsAgree g p sites shown
      by (Locals shown) holds agree = (shown, holds, (IsRow-view sig a sites shown).0 (subst (λ (f : Family). IsRow sig f (Locals shown)) holds.of_family (ok.rows holds.table holds.among (Locals shown) holds.has_row)), (IsCompatible-view g a p sites shown).0 agree)
      by Same holds agree = absurd agree
      by Different holds agree = absurd agree

  pub view_choice : (s : ℕ) → Has sites s → (o : Local) × IsInView tables a sites s o × IsLocal sig a s o × LocalAgrees g p s o
  view_choice s (k, at) =
      let o = zip_get (IsLocal sig a) sites stored.0 k s stored.2 at in
      let agrees = zip_get (LocalAgrees g p) sites stored.0 k s stored.3 at in
      let same : agrees.0 ≡ o.0 = same_Some agrees.0 o.0 (sym agrees.1 ∙ o.1) in (
        o.0,
        record { row = stored.0; holds = stored.1; number = k; site = at; listed = o.1 },
        o.2,
        rw same at agrees.2,
      )

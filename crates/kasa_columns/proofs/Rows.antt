-- Each row of a family with columns that a rule yields comes forward.
use Rattle.std.proofs.Common.{subst, ◌≡◌, ℕ, zero, suc, inl, inr, List, [], ◌∷◌, refl, sym, ap, ◌∙◌, length, map, arith, Some}
use Rattle.std.specs.Prelude.{slice_get}
use Rattle.std.specs.List.{AllByRecursion, AllZip}
use Rattle.kasa_graph.specs.declared.pattern.Node.{Node}
use Rattle.kasa_graph.specs.Signature.{TypeEntry}
use Rattle.kasa_graph.specs.Lists.{Has}
use Rattle.kasa_families.specs.declared.family.Family.{Family}
use Rattle.kasa_families.specs.declared.family.Family.TheVariants.{Parallel}
use Rattle.kasa_families.specs.declared.row.Local.{Local}
use Rattle.kasa_families.specs.declared.row.Row.{Row}
use Rattle.kasa_families.specs.declared.row.Row.TheVariants.{Locals}
use Rattle.kasa_families.specs.declared.shape.NodeSite.{NodeSite}
use Rattle.kasa_families.specs.Shape.{Shape, IsShape, root_of, pattern_of, AreColumns, ColumnsAgree}
use Rattle.kasa_families.specs.Family.{shape_of, root}
use Rattle.kasa_families.specs.Row.{IsRow}
use Rattle.kasa_families.specs.Pattern.{row_pattern}
use Rattle.kasa_families.specs.Compatible.{IsCompatible}
use Rattle.kasa_families.specs.Table.{Table, AreTables, families_of, Holds}
use Rattle.kasa_families.proofs.FamilyShape.{IsShape-of}
use Rattle.kasa_families.proofs.TableLemmas.{IsFamily-of_tables}
use Rattle.kasa_rules.specs.Rule.{RuleParts, IsRuleOver}
use Rattle.kasa_pre.specs.declared.Stand.{Stand}
use Rattle.kasa_pre.specs.declared.Stand.TheVariants.{Left, Made, Outside}
use Rattle.kasa_pre.specs.declared.FreedBy.{FreedBy}
use Rattle.kasa_pre.specs.Before.{FitsStand}
use Rattle.kasa_columns.specs.Forward.{HasColumns, LeavesBonds, IsStored, WasStored, YieldsAt, YieldsLeaving, ComesForward}
use Rattle.kasa_columns.proofs.Places.{WasThere, there_or_made}
use Rattle.kasa_columns.proofs.Zips.{all_of, zip_of, zip_map}
use Rattle.kasa_columns.proofs.ShapeTests.{agent_of}
use Rattle.kasa_columns.proofs.Forward as forward

-- ---- families with columns are read by their shapes

pub record ReadsColumns (sig : List TypeEntry) (family : Family) : Type 0 where
  pub rooted : root sig family ≡ root_of sig (shape_of family)
  pub pattern : (locals : List Local) → row_pattern sig family (Locals locals) ≡ pattern_of sig (shape_of family) locals
  pub row : (locals : List Local) → IsRow sig family (Locals locals) → AreColumns sig (shape_of family).types (shape_of family).columns locals

pub reads_columns : (sig : List TypeEntry) (family : Family) → HasColumns family → ReadsColumns sig family
reads_columns sig (Parallel a x u b y w) has = absurd has
reads_columns sig family has = record { rooted = refl; pattern = λ locals. refl; row = λ locals row. row }

-- each row lists local states
pub locals_of : (sig : List TypeEntry) (family : Family) → HasColumns family → (row : Row) → IsRow sig family row → (locals : List Local) × (row ≡ Locals locals)
locals_of sig (Parallel a x u b y w) has row valid = absurd has
locals_of sig family has (Locals locals) valid = (locals, refl)
locals_of sig family has row valid = absurd valid

pub compatible_columns : (g : List Node) (family : Family) (place : List ℕ) (row : Row) → HasColumns family → IsCompatible g family place row → (shown : List Local) × (row ≡ Locals shown) × ColumnsAgree g place (shape_of family).columns shown
compatible_columns g (Parallel a x u b y w) place row has agree = absurd has
compatible_columns g family place (Locals shown) has agree = (shown, refl, agree)
compatible_columns g family place row has agree = absurd agree

stored_there : (tables : List Table) (family : Family) (stands : List Stand) (shown : List Local) → AllByRecursion WasThere stands → Holds tables family (Locals shown) → IsStored tables family stands shown
stored_there tables family [] shown there holds = holds
stored_there tables family (Left n ∷ stands) shown there holds = holds
stored_there tables family (Made k ∷ stands) shown there holds = absurd there.0
stored_there tables family (Outside ∷ stands) shown there holds = holds

alone : (stands : List Stand) (i k : ℕ) → length stands ≡ 1 → slice_get stands i ≡ Some (Made k) → stands ≡ Made k ∷ []
alone [] i k count at = absurd (omega arith)
alone (stand ∷ []) zero k count at = let same : stand ≡ Made k = cc in ap (λ (x : Stand). x ∷ []) same
alone (stand ∷ []) (suc i) k count at = absurd cc
alone (stand ∷ other ∷ stands) i k count at = absurd (omega arith)

module _ (sig : List TypeEntry) (tables : List Table) (ok : AreTables sig tables) (r : RuleParts) (rule : IsRuleOver sig r) (family : Family) (has : Has (families_of tables) family) (columned : HasColumns family) (locals : List Local) (row : IsRow sig family (Locals locals)) where
  abbrev pub shape : Shape
  shape = shape_of family

  abbrev pub reads : ReadsColumns sig family
  reads = reads_columns sig family columned

  abbrev pub is_shape : IsShape sig shape
  is_shape = IsShape-of sig family (IsFamily-of_tables sig tables ok family has)

  abbrev pub valid : AreColumns sig shape.types shape.columns locals
  valid = reads.row locals row

  module _ (stands : List Stand) (freed : List FreedBy) (y : YieldsAt sig tables r (pattern_of sig shape locals) stands freed) where
    pub count : length stands ≡ length shape.types
    count = forward.stands_count sig r rule shape is_shape locals valid stands freed y.pattern y.free y.before

    pub comes_forward : (may : List Stand → List Local → Type 0) (shown : List Local) → may stands shown → AllZip (forward.WasShown sig r rule shape is_shape locals valid stands freed y.pattern y.free y.before) shape.columns shown → ComesForward sig tables r family may locals
    comes_forward may shown was shows =
        let o = forward.outcome sig r rule shape is_shape locals valid stands freed y.pattern y.free y.before shown shows in record {
          stands = stands;
          fit = zip_of (FitsStand r) stands shape.types count (λ n stand a e f. y.before.stand.fit n a stand e (agent_of sig shape is_shape locals n a f));
          shown = shown;
          was = was;
          agrees = forward.all_agree sig r rule shape is_shape locals valid stands freed y.pattern y.free y.before shown shows;
          out = o.out;
          comes = o.comes;
          is = o.is;
          yields = rw (reads.pattern locals) (record {
            free = forward.free-fewer sig r rule shape is_shape locals valid stands freed y.pattern y.free y.before o.out.freed o.among o.all;
            pattern = y.pattern;
            before = forward.before-fewer sig r rule shape is_shape locals valid stands freed y.pattern y.free y.before o.out.freed o.among o.all;
            allowed = y.allowed;
          });
        }

    module _ (leaves : LeavesBonds r shape.bonds stands) where
      from_stored : AllByRecursion WasThere stands → ComesForward sig tables r family (WasStored tables r family) locals
      from_stored there =
          let place = forward.places sig r rule shape is_shape locals valid stands freed y.pattern y.free y.before leaves there in
          let c = y.allowed family has place (rw reads.rooted (forward.root_at sig r rule shape is_shape locals valid stands freed y.pattern y.free y.before leaves there)) in
          let s = compatible_columns y.pattern family place c.0 columned c.2 in
          let holds : Holds tables family (Locals s.0) = subst (λ (row : Row). Holds tables family row) s.1 c.1 in
          let is_row : IsRow sig family (Locals s.0) = subst (λ (f : Family). IsRow sig f (Locals s.0)) holds.of_family (ok.rows holds.table holds.among (Locals s.0) holds.has_row) in
          comes_forward (WasStored tables r family) s.0 (leaves, stored_there tables family stands s.0 there holds)
          (forward.was_stored sig r rule shape is_shape locals valid stands freed y.pattern y.free y.before leaves there s.0 (reads.row s.0 is_row) s.2)

      from_created : (i k : ℕ) → slice_get stands i ≡ Some (Made k) → ComesForward sig tables r family (WasStored tables r family) locals
      from_created i k at =
          let few = forward.made_alone sig r rule shape is_shape locals valid stands freed y.pattern y.free y.before leaves i k at in
          let some = is_shape.some in
          let one = alone stands i k (count ∙ omega arith) at in
          comes_forward (WasStored tables r family) (map (λ _. forward.nothing) shape.columns) (leaves, rw one refl) (zip_map (Has shape.columns) _ (λ _. forward.nothing) (each one) shape.columns (all_of (Has shape.columns) shape.columns (λ n c e. (n, e))))
        where
          each : stands ≡ Made k ∷ [] → (c : NodeSite) → Has shape.columns c → forward.WasShown sig r rule shape is_shape locals valid stands freed y.pattern y.free y.before c forward.nothing
          each one c has a stand typed e = rw (← is_made c.node (sym (ap (λ (xs : List Stand). slice_get xs c.node) one) ∙ e)) refl
            where
              is_made : (n : ℕ) → slice_get (Made k ∷ []) n ≡ Some stand → Made k ≡ stand
              is_made zero e = cc
              is_made (suc n) e = absurd cc

      pub forward_leaving : ComesForward sig tables r family (WasStored tables r family) locals
      forward_leaving = elim (there_or_made stands) [
        | inl there ↦ from_stored there
        | inr made ↦ from_created made.0 made.1 made.2
      ]

  pub leaving-forward : YieldsLeaving sig tables r family locals → ComesForward sig tables r family (WasStored tables r family) locals
  leaving-forward y = forward_leaving y.stands y.freed (rw (reads.pattern locals) at y.yields) y.leaves

  pub forward-leaving : ComesForward sig tables r family (WasStored tables r family) locals → YieldsLeaving sig tables r family locals
  forward-leaving c = record { stands = c.stands; leaves = c.was.0; freed = c.out.freed; yields = c.yields }

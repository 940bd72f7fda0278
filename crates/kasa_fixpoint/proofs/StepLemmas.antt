-- Rows that each closed tables hold: one step, and steps one after another.
use Rattle.std.proofs.Common.{◌≡◌, ℕ, inl, inr, ◌↔◌, List, refl, sym, ◌∙◌}
use Rattle.std.specs.Prelude.{Option, Some, slice_get}
use Rattle.kasa_graph.specs.declared.mixture.Agent.{Agent}
use Rattle.kasa_graph.specs.Signature.{TypeEntry}
use Rattle.kasa_graph.specs.Lists.{Has}
use Rattle.kasa_families.specs.declared.family.Family.{Family}
use Rattle.kasa_families.specs.declared.family.Family.TheVariants.{Parallel}
use Rattle.std.proofs.lemmas.Slice.Zip.{AllZip-long}
use Rattle.kasa_families.specs.Family.{shape_of}
use Rattle.kasa_families.specs.Local.{IsLocal}
use Rattle.kasa_families.specs.Shape.{Nth}
use Rattle.kasa_families.specs.declared.row.Row.{Row}
use Rattle.kasa_families.specs.declared.row.Row.TheVariants.{Locals, Same, Different}
use Rattle.kasa_families.specs.Row.{IsRow}
use Rattle.kasa_families.specs.Pattern.{Occurs}
use Rattle.kasa_families.specs.Table.{Table, AreTables, families_of, rows_of, HasShape, Holds, IsWithin}
use Rattle.kasa_rules.specs.declared.model.Model.{Model}
use Rattle.kasa_pre.specs.Closed.{IsClosed}
use Rattle.kasa_fixpoint.specs.Limit.{PassesLimit}
use Rattle.kasa_fixpoint.specs.Growing.{TakesIn, LacksRoom}
use Rattle.kasa_fixpoint.specs.Steps.{AreDue, IsUnderWay, IsStep}
use Rattle.kasa_fixpoint.proofs.TableRows.{Holds-at, number_of, Has-at, HaveRowsOf-within, AreTables-takes}

module _ (model : Model) (old : List Table) (under_way : IsUnderWay model old) (f : ℕ) (family : Family) (rows : List Row) (named : slice_get (families_of old) f ≡ Some family) (due : AreDue model family rows) where
  -- closed tables hold what is due
  due_held : (others : List Table) → AreTables model.sig others → families_of others ≡ families_of old → IsClosed model others → (row : Row) → Has rows row → Holds others family row
  due_held others ok same closed row has =
      let d = due row has in
      closed family (rw same (f, named)) row d.0 (inl d.1)

  due_at : (others : List Table) → AreTables model.sig others → families_of others ≡ families_of old → IsClosed model others → (row : Row) → Has rows row → Has (rows_of others f) row
  due_at others ok same closed row has = Has-at others f family row ok.different (rw same named) (due_held others ok same closed row has)

  still_forced : (new : List Table) → TakesIn f rows old new → (others : List Table) → AreTables model.sig others → families_of others ≡ families_of old → IsClosed model others → IsWithin new others
  still_forced new takes others ok same closed other row holds =
      let n = number_of new other row holds in
      let at : slice_get (families_of old) n.0 ≡ Some other = rw takes.families at n.1 in
      elim (takes.only n.0 row n.2) [
        | inl before ↦ under_way.forced others ok same closed other row (Holds-at old n.0 other row at before)
        | inr here ↦
            let also : slice_get (families_of old) f ≡ Some other = rw here.0 at at in
            let is : family ≡ other = cc in
            rw is at (due_held others ok same closed row here.1)
      ]

  pub IsStep-takes : (new : List Table) → TakesIn f rows old new → IsStep model old new
  IsStep-takes new takes = record {
    under_way = record {
      has_room = takes.has_room;
      are_tables = AreTables-takes model.sig old new f family rows under_way.are_tables named (λ row has. (due row has).0) takes;
      forced = λ others ok same closed. still_forced new takes others ok (same ∙ takes.families) closed;
    };
    families = takes.families;
    kept = takes.kept;
  }

  -- closed tables have too many rows where there is no room for what is due, or too much of it
  pub PassesLimit-lacks : LacksRoom f rows old → PassesLimit 200000 model (families_of old)
  PassesLimit-lacks lacks others ok same closed =
      lacks others (HaveRowsOf-within old others under_way.are_tables.different same (under_way.forced others ok same closed)) (due_at others ok same closed)

-- ---- what is due

-- rows that occur in an init
pub AreDue-initial : (model : Model) (m : List (Option Agent)) (family : Family) (rows : List Row) → Has model.inits m → ((row : Row) → Has rows row ↔ (IsRow model.sig family row × Occurs model.sig family row m)) → AreDue model family rows
AreDue-initial model m family rows init are row has =
    let there = (are row).0 has in
    (there.0, (init.0, m, init.1, there.1))

-- what is due has the shape of its family
pub HasShape-row : (sig : List TypeEntry) (family : Family) (row : Row) → IsRow sig family row → HasShape family row
HasShape-row sig (Parallel a x u b y w) Same ok = tt
HasShape-row sig (Parallel a x u b y w) Different ok = tt
HasShape-row sig (Parallel a x u b y w) (Locals locals) ok = absurd ok
HasShape-row sig family (Locals locals) ok = AllZip-long (λ s l. Nth (shape_of family).types s.node (λ a. IsLocal sig a s.site l)) (shape_of family).columns locals ok
HasShape-row sig family row ok = absurd ok

-- ---- one after another

module _ (model : Model) where
  pub IsStep-none : (tables : List Table) → IsUnderWay model tables → IsStep model tables tables
  IsStep-none tables under_way = record { under_way = under_way; families = refl; kept = λ k row has. has }

  pub IsStep-then : (a b c : List Table) → IsStep model a b → IsStep model b c → IsStep model a c
  IsStep-then a b c first second = record {
    under_way = second.under_way;
    families = second.families ∙ first.families;
    kept = λ k row has. second.kept k row (first.kept k row has);
  }

  pub PassesLimit-then : (a b : List Table) → IsStep model a b → PassesLimit 200000 model (families_of b) → PassesLimit 200000 model (families_of a)
  PassesLimit-then a b step passes others ok same closed = passes others ok (same ∙ sym step.families) closed

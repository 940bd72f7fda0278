-- Each row of a view that a rule yields comes forward from a row that the tables hold, or from a created agent: the view has
-- no bond that the rule could write.
use Rattle.std.proofs.Common.{◌≡◌, ℕ, suc, List, [], ◌∷◌, refl, ap, ◌∙◌, length, map, None}
use Rattle.std.specs.List.{AllZip}
use Rattle.kasa_graph.specs.Signature.{TypeEntry}
use Rattle.kasa_graph.specs.Lists.{Has}
use Rattle.kasa_families.specs.declared.family.Family.TheVariants.{View}
use Rattle.kasa_families.specs.declared.row.LocalLink.TheVariants as local
use Rattle.kasa_families.specs.declared.row.Local.{Local}
use Rattle.kasa_families.specs.declared.row.Row.TheVariants.{Locals}
use Rattle.kasa_families.specs.Shape.{at}
use Rattle.kasa_families.specs.Row.{IsRow, AreLocals}
use Rattle.kasa_families.specs.Pattern.{row_pattern}
use Rattle.kasa_families.specs.Table.{Table, AreTables, families_of}
use Rattle.kasa_rules.specs.Rule.{RuleParts, IsRuleOver}
use Rattle.kasa_pre.specs.declared.Stand.{Stand}
use Rattle.kasa_pre.specs.declared.Stand.TheVariants.{Left, Made, Outside}
use Rattle.kasa_pre.specs.Before.{FitsStand}
use Rattle.kasa_pre.specs.Yields.{YieldsPattern}
use Rattle.kasa_columns.specs.Comes as columns
use Rattle.kasa_columns.specs.Forward as forward
use Rattle.kasa_columns.proofs.Rows.{leaving-forward}
use Rattle.kasa_views.specs.Comes.{MayHaveShown, ComesForward}

pub length-locals : (sig : List TypeEntry) (a : ℕ) (sites : List ℕ) (ls : List Local) → AreLocals sig a sites ls → length ls ≡ length sites
length-locals sig a [] [] ok = refl
length-locals sig a [] (l ∷ ls) ok = absurd ok
length-locals sig a (s ∷ sites) [] ok = absurd ok
length-locals sig a (s ∷ sites) (l ∷ ls) ok = ap suc (length-locals sig a sites ls ok.1)

blank : (sites : List ℕ) → map (λ _. let l : Local = record { state = None; link = local.Free } in l) (map (at 0) sites) ≡ map (λ _. let l : Local = record { state = None; link = local.Free } in l) sites
blank [] = refl
blank (s ∷ sites) = ap (λ (ls : List Local). record { state = None; link = local.Free } ∷ ls) (blank sites)

may_of : (tables : List Table) (a : ℕ) (sites : List ℕ) (stand : Stand) (shown : List Local) → forward.IsStored tables (View a sites) (stand ∷ []) shown → MayHaveShown tables a sites stand shown
may_of tables a sites (Left n) shown stored = stored
may_of tables a sites (Made k) shown stored = stored ∙ blank sites
may_of tables a sites Outside shown stored = stored

module _ (sig : List TypeEntry) (tables : List Table) (r : RuleParts) (a : ℕ) (sites : List ℕ) (locals : List Local) where
  -- one node has one stand
  of_one : forward.ComesForward sig tables r (View a sites) (forward.WasStored tables r (View a sites)) locals → ComesForward sig tables r a sites locals
  of_one c = by c.stands c.fit c.was c.comes c.yields
    where
      by : (stands : List Stand) → AllZip (FitsStand r) stands (a ∷ []) → forward.WasStored tables r (View a sites) stands c.shown → columns.ComesOut r stands (map (at 0) sites) c.shown c.out → forward.YieldsAt sig tables r (row_pattern sig (View a sites) (Locals locals)) stands c.out.freed → ComesForward sig tables r a sites locals
      by [] fit was comes yields = absurd fit
      by (stand ∷ []) fit was comes yields = record { stand = stand; fits = fit.0; shown = c.shown; may = may_of tables a sites stand c.shown was.1; out = c.out; comes = comes; is = c.is; yields = rw c.is yields }
      by (stand ∷ other ∷ stands) fit was comes yields = absurd fit.1

  pub yields-forward : AreTables sig tables → IsRuleOver sig r → Has (families_of tables) (View a sites) → IsRow sig (View a sites) (Locals locals) → YieldsPattern sig tables r (row_pattern sig (View a sites) (Locals locals)) → ComesForward sig tables r a sites locals
  yields-forward ok rule has row y = of_one (leaving-forward sig tables ok r rule (View a sites) has tt locals row (record {
    stands = y.stands;
    leaves = tt;
    freed = y.freed;
    yields = record { free = y.free; pattern = y.pattern; before = y.before; allowed = y.allowed };
  }))

  -- and what comes forward is yielded
  pub forward-yields : ComesForward sig tables r a sites locals → YieldsPattern sig tables r (row_pattern sig (View a sites) (Locals locals))
  forward-yields f = rw (← f.is) (record {
    stands = f.stand ∷ [];
    freed = f.out.freed;
    pattern = f.yields.pattern;
    free = f.yields.free;
    before = f.yields.before;
    allowed = f.yields.allowed;
  })

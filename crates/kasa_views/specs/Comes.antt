-- What the agents of a view show after a rule fired, by what they showed before: the forward reading of the rows that a
-- rule yields. It is that of any family with columns, for a root of one node.
use Rattle.std.specs.Prelude.{◌≡◌, ℕ, List, [], ◌∷◌, map, None}
use Rattle.kasa_graph.specs.Signature.{TypeEntry}
use Rattle.kasa_families.specs.declared.family.Family.TheVariants.{View}
use Rattle.kasa_families.specs.declared.row.LocalLink.TheVariants.{Free}
use Rattle.kasa_families.specs.declared.row.Local.{Local}
use Rattle.kasa_families.specs.declared.row.Row.TheVariants.{Locals}
use Rattle.kasa_families.specs.Shape.{at}
use Rattle.kasa_families.specs.Pattern.{row_pattern}
use Rattle.kasa_families.specs.Table.{Table, Holds}
use Rattle.kasa_rules.specs.Rule.{RuleParts}
use Rattle.kasa_pre.specs.declared.Stand.{Stand}
use Rattle.kasa_pre.specs.declared.Stand.TheVariants.{Left, Made, Outside}
use Rattle.kasa_pre.specs.declared.FreedBy.{FreedBy}
use Rattle.kasa_pre.specs.Before.{FitsStand}
use Rattle.kasa_columns.specs.Comes as columns
use Rattle.kasa_columns.specs.Forward as forward
pub use Rattle.kasa_columns.specs.Comes.{partner_of, link_shown, state_after, link_after, local_after, local_freed, Outcome, kept_before, freed_before, FreesToo}

-- the rule doesn't write the site, and touches a left site that the partner may be
abbrev pub IsSource : RuleParts → Stand → ℕ → Local → FreedBy → Type 0
IsSource r stand s l f = columns.IsSource r stand (at 0 s) l f

-- an agent with the stand can come out so, whose sites showed these local states
abbrev pub ComesOut : RuleParts → Stand → List ℕ → List Local → Outcome → Type 0
ComesOut r stand sites shown out = columns.ComesOut r (stand ∷ []) (map (at 0) sites) shown out

-- what the sites of an agent of a view may have shown before, where it has the stand: a row that the tables hold; nothing
-- that matters for a created agent
abbrev pub MayHaveShown : List Table → ℕ → List ℕ → Stand → List Local → Type 0
MayHaveShown tables a sites (Left n) locals = Holds tables (View a sites) (Locals locals)
MayHaveShown tables a sites (Made k) locals = locals ≡ map (λ _. record { state = None; link = Free }) sites
MayHaveShown tables a sites Outside locals = Holds tables (View a sites) (Locals locals)

-- the rule yields the local states from the tables for a stand and freed tests
abbrev pub YieldsAt : List TypeEntry → List Table → RuleParts → ℕ → List ℕ → Stand → Outcome → Type 0
YieldsAt sig tables r a sites stand out = forward.YieldsAt sig tables r (row_pattern sig (View a sites) (Locals out.locals)) (stand ∷ []) out.freed

-- the rule yields the local states forward from a row that the tables hold, or from a created agent
pub record ComesForward (sig : List TypeEntry) (tables : List Table) (r : RuleParts) (a : ℕ) (sites : List ℕ) (locals : List Local) : Type 0 where
  pub stand : Stand
  pub fits : FitsStand r stand a
  pub shown : List Local
  pub may : MayHaveShown tables a sites stand shown
  pub out : Outcome
  pub comes : ComesOut r stand sites shown out
  pub is : out.locals ≡ locals
  pub yields : YieldsAt sig tables r a sites stand out

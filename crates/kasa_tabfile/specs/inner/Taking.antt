-- What becomes of the tables when a line comes: without fault, or with one, as the definition says.
use Rattle.std.specs.Prelude.{◌≡◌, ℕ, List, Option, Some}
use Rattle.kasa_graph.specs.Signature.{TypeEntry}
use Rattle.kasa_families.specs.declared.family.Family.{Family}
use Rattle.kasa_families.specs.declared.row.Row.{Row}
use Rattle.kasa_families.specs.Table.{Table}
use Rattle.kasa_tabfile.specs.declared.line.Line.{Line}
use Rattle.kasa_tabfile.specs.declared.line.Line.TheVariants as line
use Rattle.kasa_tabfile.specs.declared.line.Version.{Version}
use Rattle.kasa_tabfile.specs.declared.fault.TabFault.{TabFault}
use Rattle.kasa_tabfile.specs.declared.fault.TabFault.TheVariants.{BadLine}
use Rattle.kasa_tabfile.specs.declared.stage.Stage.{Stage}
use Rattle.kasa_tabfile.specs.declared.stage.Stage.TheVariants.{Start, Body, Ended, Failed}
use Rattle.kasa_tabfile.specs.Outcome.{FamilyFault, RowFault, ChainFault, BodyFault, FaultIs, with_family, with_last_row, unless_fault, next_stage, next_tables}

abbrev pub AddsFamily : List TypeEntry → ℕ → List Table → Option Family → List Table → Option TabFault → Type 0
AddsFamily sig n old family new e = FamilyFault sig n old family e × (new ≡ unless_fault e old (with_family old family))

abbrev pub AddsRow : List TypeEntry → ℕ → List Table → Option Row → List Table → Option TabFault → Type 0
AddsRow sig n old row new e = RowFault sig n old row e × (new ≡ unless_fault e old (with_last_row old row))

abbrev pub AddsChain : List TypeEntry → ℕ → Version → List Table → Option Family → List Table → Option TabFault → Type 0
AddsChain sig n v old family new e = ChainFault sig n v old family e × (new ≡ unless_fault e old (with_family old family))

abbrev pub AddsLine : List TypeEntry → ℕ → Version → List Table → Line → List Table → Option TabFault → Type 0
AddsLine sig n v old l new e = BodyFault sig n v old l e × (new ≡ next_tables e old (Some l))

-- the stage after the first line, and after one that isn't among those between the header and the end
abbrev pub first_stage : ℕ → Option Line → Stage
first_stage n (Some (line.Header v)) = Body v
first_stage n _ = Failed (BadLine n)

abbrev pub outer_stage : ℕ → Stage → Option Line → Stage
outer_stage n Start l = first_stage n l
outer_stage n (Body v) l = Failed (BadLine n)
outer_stage n Ended l = Failed (BadLine n)
outer_stage n (Failed e) l = Failed e

-- the stage and the tables once the line has come
abbrev pub IsTaken : List TypeEntry → ℕ → Stage → List Table → Option Line → List Table → Stage → Type 0
IsTaken sig n s old l new after =
    (e : Option TabFault) × FaultIs sig n s old l e × (after ≡ next_stage e s l) × (new ≡ next_tables e old l)

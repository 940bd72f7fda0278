-- What the steps of a call give.
use Rattle.std.specs.Prelude.{◌≡◌, ℕ, ◌<◌, ◌≤◌, ⊤, ◌++◌, List, length, take, Option, option_map}
use Rattle.kasa_edge.specs.Shelf.{Held}
use Rattle.kasa_graph.specs.declared.mixture.Agent.{Agent}
use Rattle.kasa_graph.specs.Embedding.{IsEmbedding}
use Rattle.kasa_graph.specs.Lists.{Has}
use Rattle.kasa_rules.specs.declared.model.Model.{Model}
use Rattle.kasa_rules.specs.Rule.{RuleParts}
use Rattle.kasa_rules.specs.Reached.{Reached}
use Rattle.kasa_compile.specs.declared.fault.ModelFault.{ModelFault}
use Rattle.kasa_compile.specs.declared.fault.ModelFault.TheVariants as fault
use Rattle.kasa_families.specs.declared.family.Family.{Family}
use Rattle.kasa_families.specs.Table.{Table, AreTables, families_of}
use Rattle.kasa_pre.specs.Allowed.{IsDead}
use Rattle.kasa_pre.specs.Closed.{IsLeast, LemmaHolds}
use Rattle.kasa_fixpoint.specs.Limit.{PassesLimit}
use Rattle.kasa_worklist.specs.declared.fault.SolveFault.{SolveFault}
use Rattle.kasa_worklist.specs.declared.fault.SolveFault.TheVariants as solve
use Rattle.kasa_choose.specs.declared.kind.Kind.{Kind}
use Rattle.kasa_choose.specs.declared.gathering.GatherFault.{GatherFault}
use Rattle.kasa_choose.specs.declared.gathering.GatherFault.TheVariants as gather
use Rattle.kasa_top.specs.declared.status.Status.{Status}
use Rattle.kasa_top.specs.declared.status.Status.TheVariants.{Done, BadModel, TooLong, TooManyRows, TooManyFamilies, WriteFault, NoMemory}
use Rattle.kasa_top.specs.Status.{status_text}
use Rattle.kasa_top.specs.Outcome.{Fetches, HasFault, HasTooManyFamilies, HasTooManyRows, IsOutcome, IsReportOf, IsTooLong, PlansMore}
use Rattle.kasa_top.specs.Sound.{IsSound}

-- ---- the statuses that faults of the steps come to

abbrev pub model_status : ModelFault → Status
model_status fault.NoMemory = NoMemory
model_status f = BadModel f

abbrev pub gather_status : GatherFault → Status
gather_status gather.TooMany = TooManyFamilies
gather_status gather.NoMemory = NoMemory

abbrev pub solve_status : SolveFault → Status
solve_status solve.TooManyRows = TooManyRows
solve_status solve.NoMemory = NoMemory

-- ---- from a model to its tables

-- the planned families of a model, with their least closed tables, and what these say of what the model reaches
pub record IsSolved (IsPlan : Model → List Family → Type 0) (model : Model) (tables : List Table) : Type 0 where
  pub planned : IsPlan model (families_of tables)
  pub few : length (families_of tables) ≤ 8000
  pub valid : AreTables model.sig tables
  pub least : IsLeast model tables
  pub lemmas : (m : List (Option Agent)) → Reached model m → (family : Family) → Has (families_of tables) family → LemmaHolds model.sig tables family m
  pub dead : (m : List (Option Agent)) → Reached model m → (r : RuleParts) → IsDead model.sig tables r → (cells : List ℕ) → ¬ IsEmbedding r.left m cells

-- planned families, at most 8,000, of which no closed tables have at most 200,000 rows
pub record HasNoTables (IsPlan : Model → List Family → Type 0) (model : Model) : Type 0 where
  pub families : List Family
  pub planned : IsPlan model families
  pub few : length families ≤ 8000
  pub passes : PassesLimit 200000 model families

-- why a model has no such tables; where memory is wanting, nothing is said
abbrev pub IsUnsolved : (Model → List Family → Type 0) → Model → Status → Type 0
IsUnsolved IsPlan model TooManyFamilies = PlansMore IsPlan model
IsUnsolved IsPlan model TooManyRows = HasNoTables IsPlan model
IsUnsolved IsPlan model NoMemory = ⊤
IsUnsolved IsPlan model _ = ⊥

-- ---- from a text to its report

-- a report of a model's text that is sound
pub record IsSoundReport (IsPlan : Model → List Family → Type 0) (text printed : List ℕ) : Type 0 where
  pub report : IsReportOf IsPlan text printed
  pub sound : IsSound IsPlan text printed report

-- why a text has no report; where memory is wanting, nothing is said
abbrev pub IsUnreported : (Model → List Family → Type 0) → List ℕ → Status → Type 0
IsUnreported IsPlan text TooLong = IsTooLong text
IsUnreported IsPlan text (BadModel f) = HasFault f text
IsUnreported IsPlan text TooManyFamilies = HasTooManyFamilies IsPlan text
IsUnreported IsPlan text TooManyRows = HasTooManyRows IsPlan text
IsUnreported IsPlan text NoMemory = ⊤
IsUnreported IsPlan text _ = ⊥

-- ---- the text due, and how it is written

-- a sound report of the text that is held under the name that the words give
abbrev pub IsDue : (List Kind → Model → List Family → Type 0) → List (List ℕ) → Held → List ℕ → Type 0
IsDue IsPlan words held printed = Fetches words held (λ without text. IsSoundReport (IsPlan without) text printed)

-- a status that is due without a report; where memory is wanting, nothing is said
abbrev pub IsRefused : (List Kind → Model → List Family → Type 0) → List (List ℕ) → Held → Type 0 → Status → Type 0
IsRefused IsPlan words held counted Done = ⊥
IsRefused IsPlan words held counted NoMemory = ⊤
IsRefused IsPlan words held counted status = IsOutcome IsPlan words held counted status (status_text status)

-- the sink took all of a text that is due with a status; or a part of it, and a fault of writing wins
abbrev pub IsWritten : List ℕ → Status → Type 0 → Status → Option (List ℕ) → Option (List ℕ) → Type 0
IsWritten text due unwritten WriteFault old new = unwritten × ((count : ℕ) × (count < length text) × (new ≡ option_map (λ t. t ++ take count text) old))
IsWritten text due unwritten status old new = (status ≡ due) × (new ≡ option_map (λ t. t ++ text) old)

-- the same for a text that is to be made yet; where memory is wanting, nothing is taken
abbrev pub IsMadeAndWritten : List ℕ → Status → Type 0 → Status → Option (List ℕ) → Option (List ℕ) → Type 0
IsMadeAndWritten text due unwritten NoMemory old new = new ≡ old
IsMadeAndWritten text due unwritten status old new = IsWritten text due unwritten status old new

-- What a call of `run` answers and prints, by what the shelf holds.
use Rattle.std.specs.Prelude.{◌≡◌, ℕ, ◌<◌, ◌≤◌, ◌⊎◌, ◌++◌, List, length, take, Option, Some, None, option_map}
use Rattle.kasa_edge.specs.Shelf.{Held, held_at}
use Rattle.kasa_rules.specs.declared.model.Model.{Model}
use Rattle.kasa_rules.specs.Reached.{IsModel}
use Rattle.kasa_compile.specs.declared.fault.ModelFault.{ModelFault}
use Rattle.kasa_compile.specs.Model.{IsModelOf, IsFaultOf}
use Rattle.kasa_families.specs.declared.family.Family.{Family}
use Rattle.kasa_families.specs.Table.{Table, AreTables, families_of}
use Rattle.kasa_pre.specs.Closed.{IsLeast}
use Rattle.kasa_tables.specs.Insert.{row_count}
use Rattle.kasa_fixpoint.specs.Limit.{PassesLimit}
use Rattle.kasa_report.specs.Report.{IsReport}
use Rattle.kasa_top.specs.Status.{status_text}
use Rattle.kasa_top.specs.Words.{IsAnalyse}
use Rattle.kasa_choose.specs.declared.kind.Kind.{Kind}
use Rattle.kasa_top.specs.declared.status.Status.{Status}
use Rattle.kasa_top.specs.declared.status.Status.TheVariants.{Done, BadWords, BadModel, TooLong, TooManyRows, TooManyFamilies, ReadFault, WriteFault, NoMemory}

-- the text's model, and the families that are planned for it, which are at most 8,000
pub record Plans (IsPlan : Model → List Family → Type 0) (text : List ℕ) (model : Model) (families : List Family) : Type 0 where
  pub short : length text ≤ 4194304
  pub read : IsModelOf text model
  pub planned : IsPlan model families
  pub few : length families ≤ 8000

-- the report of a model's text, over the least closed tables of the planned families
pub record IsReportOf (IsPlan : Model → List Family → Type 0) (text report : List ℕ) : Type 0 where
  pub model : Model
  pub valid_model : IsModel model
  pub tables : List Table
  pub plans : Plans IsPlan text model (families_of tables)
  pub valid : AreTables model.sig tables
  pub least : IsLeast model tables
  pub few_rows : row_count tables ≤ 200000
  pub printed : IsReport model tables report

-- the text is longer than 4 MiB
abbrev pub IsTooLong : List ℕ → Type 0
IsTooLong text = 4194304 < length text

-- the text has no model, for this fault
abbrev pub HasFault : ModelFault → List ℕ → Type 0
HasFault fault text = (length text ≤ 4194304) × IsFaultOf text fault

-- more than 8,000 families are planned for the model
abbrev pub PlansMore : (Model → List Family → Type 0) → Model → Type 0
PlansMore IsPlan model = (families : List Family) → IsPlan model families → 8000 < length families

-- more than 8,000 families are planned for the text's model
abbrev pub HasTooManyFamilies : (Model → List Family → Type 0) → List ℕ → Type 0
HasTooManyFamilies IsPlan text = (length text ≤ 4194304) × ((model : Model) × IsModelOf text model × PlansMore IsPlan model)

-- no closed tables of the planned families have at most 200,000 rows
abbrev pub HasTooManyRows : (Model → List Family → Type 0) → List ℕ → Type 0
HasTooManyRows IsPlan text = (model : Model) × (families : List Family) × Plans IsPlan text model families × PassesLimit 200000 model families

-- where the shelf tells what it holds, it holds the text under the name
abbrev pub IsHeldAs : Held → List ℕ → List ℕ → Type 0
IsHeldAs held name text = (held_at held name ≡ None) ⊎ (held_at held name ≡ Some (Some text))

-- the words leave out some kinds and name a model's text; it is held, as far as the shelf tells, and is such a text
pub record Fetches (words : List (List ℕ)) (held : Held) (IsSuch : List Kind → List ℕ → Type 0) : Type 0 where
  pub without : List Kind
  pub name : List ℕ
  pub text : List ℕ
  pub command : IsAnalyse words without name
  pub is_held : IsHeldAs held name text
  pub is_such : IsSuch without text

-- the words name a model's text that can't be had: a fault was counted, or the shelf tells that nothing is held there
pub record FetchFails (words : List (List ℕ)) (held : Held) (counted : Type 0) : Type 0 where
  pub without : List Kind
  pub name : List ℕ
  pub command : IsAnalyse words without name
  pub cause : counted ⊎ (held_at held name ≡ Some None)

-- `IsPlan` says, of the kinds that are left out, which families are planned for a model
module _ (IsPlan : List Kind → Model → List Family → Type 0) where
  -- the status that is due, and its text; `counted` says that a fault of reading was counted
  abbrev pub IsOutcome : List (List ℕ) → Held → Type 0 → Status → List ℕ → Type 0
  IsOutcome words held counted Done text = Fetches words held (λ without model. IsReportOf (IsPlan without) model text)
  IsOutcome words held counted BadWords text = ((without : List Kind) (name : List ℕ) → ¬ IsAnalyse words without name) × (text ≡ status_text BadWords)
  IsOutcome words held counted ReadFault text = FetchFails words held counted × (text ≡ status_text ReadFault)
  IsOutcome words held counted TooLong text = Fetches words held (λ without. IsTooLong) × (text ≡ status_text TooLong)
  IsOutcome words held counted (BadModel fault) text = Fetches words held (λ without. HasFault fault) × (text ≡ status_text (BadModel fault))
  IsOutcome words held counted TooManyFamilies text = Fetches words held (λ without. HasTooManyFamilies (IsPlan without)) × (text ≡ status_text TooManyFamilies)
  IsOutcome words held counted TooManyRows text = Fetches words held (λ without. HasTooManyRows (IsPlan without)) × (text ≡ status_text TooManyRows)
  IsOutcome words held counted WriteFault text = ⊥
  IsOutcome words held counted NoMemory text = ⊥

  -- the sink took the text due, and nothing else
  pub record TakesAll (words : List (List ℕ)) (held : Held) (counted : Type 0) (status : Status) (old new : Option (List ℕ)) : Type 0 where
    pub text : List ℕ
    pub due : IsOutcome words held counted status text
    pub taken : new ≡ option_map (λ t. t ++ text) old

  -- the sink took a part of the text due, not all of it
  pub record TakesPart (words : List (List ℕ)) (held : Held) (counted : Type 0) (old new : Option (List ℕ)) : Type 0 where
    pub status : Status
    pub text : List ℕ
    pub due : IsOutcome words held counted status text
    pub count : ℕ
    pub less : count < length text
    pub taken : new ≡ option_map (λ t. t ++ take count text) old

  -- how a call ends: a fault of writing wins over every other status, and where memory is wanting nothing is taken
  abbrev pub Ends : List (List ℕ) → Held → Type 0 → Type 0 → Status → Option (List ℕ) → Option (List ℕ) → Type 0
  Ends words held counted unwritten WriteFault old new = unwritten × TakesPart words held counted old new
  Ends words held counted unwritten NoMemory old new = new ≡ old
  Ends words held counted unwritten status old new = TakesAll words held counted status old new

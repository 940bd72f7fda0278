-- What a reader will give.
use Rattle.std.specs.Prelude.{◌≡◌, ◌≤◌, ⊤, ℕ, ◌+◌, List, [], ◌∷◌, ◌++◌, Option, Result, Err, ◌&&◌, length}
use Rattle.kasa_graph.specs.Signature.{TypeEntry}
use Rattle.kasa_families.specs.Table.{Table}
use Rattle.kasa_tabfile.specs.declared.fault.TabFault.{TabFault}
use Rattle.kasa_tabfile.specs.declared.fault.TabFault.TheVariants.{NoMemory}
use Rattle.kasa_tabfile.specs.declared.reading.Reading.{Reading}
use Rattle.kasa_tabfile.specs.declared.reader.TableReader.{TableReader}
use Rattle.kasa_tabfile.specs.Text.{lines}
use Rattle.kasa_tabfile.specs.inner.OpenLine.{ended_by}
use Rattle.kasa_tabfile.specs.Outcome.{FaultIs, at_end, is_empty, next_stage, next_tables, IsOutcome, TablesOf}

-- the outcome if the rest of the text has these lines, the first of which goes on with the line that isn't ended
abbrev pub FromHere : List TypeEntry → Reading → List (List ℕ) → Result (List Table) TabFault → Type 0
FromHere sig r [] o = ⊥
FromHere sig r (l ∷ []) o = o ≡ at_end r.number r.stage r.tables (r.line.is_blank && is_empty l)
FromHere sig r (l ∷ m ∷ ls) o =
    let line = ended_by r.line.head r.line.word.items l in
    (e : Option TabFault) × FaultIs sig r.number r.stage r.tables line e × IsOutcome sig (r.number + 1) (next_stage e r.stage line) (next_tables e r.tables line) (m ∷ ls) o

-- the outcome if the text goes on so
abbrev pub GoesOn : List TypeEntry → Reading → List ℕ → Result (List Table) TabFault → Type 0
GoesOn sig r bs o = FromHere sig r (lines bs) o

-- the new reader has taken so many more bytes: however the text goes on, its outcome is one of the old reader
abbrev pub GivesMore : List TypeEntry → (old new : Reading) → List ℕ → Type 0
GivesMore sig old new bs = (more : List ℕ) (o : Result (List Table) TabFault) → GoesOn sig new more o → GoesOn sig old (bs ++ more) o

-- the text has come: however it goes on, its outcome is one of the whole
pub record HasCome (sig : List TypeEntry) (r : Reading) (text : List ℕ) : Type 0 where
  pub outcome : (more : List ℕ) (o : Result (List Table) TabFault) → GoesOn sig r more o → TablesOf sig (text ++ more) o
  pub number : r.number ≤ 1 + length text

-- the reader has taken this text, over this signature
pub record HasTaken (sig : List TypeEntry) (r : TableReader) (text : List ℕ) : Type 0 where
  pub over : r.sig.now ≡ sig
  pub come : HasCome sig r.reading text

-- it is the outcome of the text, or memory is wanting
abbrev pub Fails : List TypeEntry → List ℕ → TabFault → Type 0
Fails sig text NoMemory = ⊤
Fails sig text e = TablesOf sig text (Err e)

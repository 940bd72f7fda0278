-- Statuses: their codes, and the texts of those that have no report.
use Rattle.std.specs.Prelude.{ℕ, ⊤, List, [], codes}
use Rattle.kasa_top.specs.declared.status.Status.{Status}
use Rattle.kasa_top.specs.declared.status.Status.TheVariants.{Done, BadWords, BadModel, TooLong, TooManyRows, TooManyFamilies, ReadFault, WriteFault, NoMemory}
use Rattle.kasa_report.specs.FaultText.{model_fault_text}
use Rattle.kasa_top.specs.LineText.{line}

abbrev pub code_of : Status → ℕ
code_of Done = 0
code_of BadWords = 2
code_of (BadModel fault) = 3
code_of TooLong = 6
code_of TooManyRows = 7
code_of TooManyFamilies = 8
code_of ReadFault = 9
code_of WriteFault = 11
code_of NoMemory = 12

abbrev pub status_text : Status → List ℕ
status_text Done = []
status_text BadWords = line (codes "words not understood")
status_text (BadModel fault) = model_fault_text fault
status_text TooLong = line (codes "too long")
status_text TooManyRows = line (codes "too many rows")
status_text TooManyFamilies = line (codes "too many families")
status_text ReadFault = line (codes "read fault")
status_text WriteFault = []
status_text NoMemory = []

-- all texts but that of a model's fault are fixed
abbrev pub HasFixedText : Status → Type 0
HasFixedText (BadModel fault) = ⊥
HasFixedText _ = ⊤

-- The end of a text.
use Rattle.std.proofs.Common.{◌≡◌, ◌∙◌, ℕ, List, [], Bool, true, false, refl, ap, Result, Ok, Err, IfOk, IfErr, ◌&&◌}
use Rattle.std.proofs.lemmas.List.{append-nil}
use Rattle.kasa_graph.specs.Signature.{TypeEntry}
use Rattle.kasa_tabfile.specs.declared.fault.TabFault.{TabFault}
use Rattle.kasa_tabfile.specs.declared.fault.TabFault.TheVariants.{NoMemory, BadLine, BadFamily, FamilyTwice, TooManyFamilies, BadRow, RowTwice, TooManyRows, NoEnd}
use Rattle.kasa_tabfile.specs.declared.reading.Reading.{Reading}
use Rattle.kasa_families.specs.Table.{Table}
use Rattle.kasa_tabfile.specs.Outcome.{at_end, TablesOf}
use Rattle.kasa_tabfile.specs.Reading.{HasCome, Fails}

pub finished : (sig : List TypeEntry) (r : Reading) (text : List ℕ) (o : Result (List Table) TabFault) → HasCome sig r text → o ≡ at_end r.number r.stage r.tables r.line.is_blank → TablesOf sig text o
finished sig r text o taken e = rw (append-nil text) at (taken.outcome [] o (e ∙ ap (at_end r.number r.stage r.tables) (whole r.line.is_blank)))
  where
    whole : (b : Bool) → b ≡ (b && true)
    whole true = refl
    whole false = refl

pub given_ok : (sig : List TypeEntry) (text : List ℕ) (r : Result (List Table) TabFault) → TablesOf sig text r → IfOk r (λ x. TablesOf sig text (Ok x))
given_ok sig text (Ok x) h = h
given_ok sig text (Err f) h = tt

fails : (sig : List TypeEntry) (text : List ℕ) (f : TabFault) → TablesOf sig text (Err f) → Fails sig text f
fails sig text NoMemory e = tt
fails sig text (BadLine n) e = e
fails sig text (BadFamily n) e = e
fails sig text (FamilyTwice n) e = e
fails sig text (TooManyFamilies n) e = e
fails sig text (BadRow n) e = e
fails sig text (RowTwice n) e = e
fails sig text (TooManyRows n) e = e
fails sig text NoEnd e = e

pub given_err : (sig : List TypeEntry) (text : List ℕ) (r : Result (List Table) TabFault) → TablesOf sig text r → IfErr r (λ f. Fails sig text f)
given_err sig text (Ok x) h = tt
given_err sig text (Err f) h = fails sig text f h

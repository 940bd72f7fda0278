-- From what the steps of a call give to how the call ends.
use Rattle.std.proofs.Common.{◌≡◌, ◌≤◌, ◌<◌, ℕ, arith, List, length, Option, Result, Ok, Err, IfOk, IfErr, Vec, Global, refl, sym, subst}
use Rattle.kasa_edge.specs.Shelf.{Held}
use Rattle.kasa_rules.specs.declared.model.Model.{Model}
use Rattle.kasa_rules.specs.Reached.{IsModel}
use Rattle.kasa_compile.specs.Model.{IsModelOf}
use Rattle.kasa_families.specs.Table.{Table}
use Rattle.kasa_tables.specs.Insert.{row_count}
use Rattle.kasa_report.specs.Report.{IsReport}
use Rattle.kasa_report.proofs.SoundReport.{sound}
use Rattle.kasa_top.specs.declared.status.Status.{Status}
use Rattle.kasa_top.specs.declared.status.Status.TheVariants.{Done, BadWords, BadModel, TooLong, TooManyRows, TooManyFamilies, ReadFault, WriteFault, NoMemory}
use Rattle.kasa_choose.specs.declared.kind.Kind.{Kind}
use Rattle.kasa_families.specs.declared.family.Family.{Family}
use Rattle.kasa_top.specs.Words.{IsAnalyse}
use Rattle.kasa_top.specs.Status.{status_text}
use Rattle.kasa_top.specs.Fetched.{Fetched}
use Rattle.kasa_top.specs.Outcome.{Ends, Fetches, HasFault, HasTooManyFamilies, HasTooManyRows, IsOutcome, IsReportOf, IsTooLong}
use Rattle.kasa_top.specs.Sound.{TakesSoundReport}
use Rattle.kasa_top.specs.Due.{IsDue, IsMadeAndWritten, IsRefused, IsSolved, IsSoundReport, IsUnreported, IsWritten}
use Rattle.kasa_top.proofs.FetchedLemmas.{whole, long}

-- ---- the report

pub sound_report : (IsPlan : Model → List Family → Type 0) (text : List ℕ) (model : Model) (tables : List Table) (printed : List ℕ) → length text ≤ 4194304 → IsModel model → IsModelOf text model → IsSolved IsPlan model tables → row_count tables ≤ 200000 →
    IsReport model tables printed → IsSoundReport IsPlan text printed
sound_report IsPlan text model tables printed short valid read solved few_rows is_report = record {
  report = record {
    model = model;
    valid_model = valid;
    tables = tables;
    plans = record { short = short; read = read; planned = solved.planned; few = solved.few };
    valid = solved.valid;
    least = solved.least;
    few_rows = few_rows;
    printed = is_report;
  };
  sound = record { lemmas = solved.lemmas; dead = solved.dead; told = sound model tables printed valid solved.valid solved.least.closed is_report };
}

-- ---- of the text that is held under the name that the words give

module _ (IsPlan : List Kind → Model → List Family → Type 0) (words : List (List ℕ)) (held : Held) where
  module _ (without : List Kind) (name bytes : List ℕ) (command : IsAnalyse words without name) (f : Fetched held name bytes) where
    such : (IsSuch : List Kind → List ℕ → Type 0) → IsSuch without f.text → Fetches words held IsSuch
    such IsSuch is_such = record { without = without; name = name; text = f.text; command = command; is_held = f.is_held; is_such = is_such }

    -- what is so of a short text is so of the one that is held
    short_such : (IsSuch : List Kind → List ℕ → Type 0) → length bytes ≤ 4194304 → IsSuch without bytes → Fetches words held IsSuch
    short_such IsSuch short is_such = such IsSuch (subst (IsSuch without) (sym (whole held name bytes short f)) is_such)

    pub report_due : (r : Result (Vec ℕ Global) Status) → IfOk r (λ p. IsSoundReport (IsPlan without) bytes p.items) → IfOk r (λ p. IsDue IsPlan words held p.items)
    report_due (Ok p) sound = short_such (λ ks text. IsSoundReport (IsPlan ks) text p.items) sound.report.plans.short sound
    report_due (Err s) sound = tt

    refusal_due : (counted : Type 0) (s : Status) → IsUnreported (IsPlan without) bytes s → IsRefused IsPlan words held counted s
    refusal_due counted Done h = absurd h
    refusal_due counted BadWords h = absurd h
    refusal_due counted ReadFault h = absurd h
    refusal_due counted WriteFault h = absurd h
    refusal_due counted NoMemory h = tt
    refusal_due counted TooLong h = (such (λ ks. IsTooLong) (long held name bytes h f), refl)
    refusal_due counted (BadModel fault) h = (short_such (λ ks. HasFault fault) h.0 h, refl)
    refusal_due counted TooManyFamilies h = (short_such (λ ks. HasTooManyFamilies (IsPlan ks)) h.0 h, refl)
    refusal_due counted TooManyRows h = (short_such (λ ks. HasTooManyRows (IsPlan ks)) h.2.short h, refl)

    pub refused_due : (counted : Type 0) (r : Result (Vec ℕ Global) Status) → IfErr r (λ s. IsUnreported (IsPlan without) bytes s) → IfErr r (λ s. IsRefused IsPlan words held counted s)
    refused_due counted (Ok p) h = tt
    refused_due counted (Err s) h = refusal_due counted s h

  -- ---- what is taken

  module _ (counted unwritten : Type 0) (printed : List ℕ) (old new : Option (List ℕ)) where
    report_of : IsDue IsPlan words held printed → Fetches words held (λ without text. IsReportOf (IsPlan without) text printed)
    report_of due = record { without = due.without; name = due.name; text = due.text; command = due.command; is_held = due.is_held; is_such = due.is_such.report }

    pub done_ends : (status : Status) → IsDue IsPlan words held printed → IsWritten printed Done unwritten status old new → Ends IsPlan words held counted unwritten status old new
    done_ends Done due written = record { text = printed; due = report_of due; taken = written.1 }
    done_ends WriteFault due written = (
      written.0,
      record { status = Done; text = printed; due = report_of due; count = written.1.0; less = written.1.1; taken = written.1.2 },
    )
    done_ends BadWords due written = absurd (let no = written.0 in cc)
    done_ends (BadModel fault) due written = absurd (let no = written.0 in cc)
    done_ends TooLong due written = absurd (let no = written.0 in cc)
    done_ends TooManyRows due written = absurd (let no = written.0 in cc)
    done_ends TooManyFamilies due written = absurd (let no = written.0 in cc)
    done_ends ReadFault due written = absurd (let no = written.0 in cc)
    done_ends NoMemory due written = absurd (let no = written.0 in cc)

    pub done_sound : (status : Status) → IsDue IsPlan words held printed → IsWritten printed Done unwritten status old new → status ≡ Done → TakesSoundReport IsPlan words held old new
    done_sound Done due written is = record {
      without = due.without;
      name = due.name;
      text = due.text;
      printed = printed;
      command = due.command;
      is_held = due.is_held;
      report = due.is_such.report;
      taken = written.1;
      sound = due.is_such.sound;
    }
    done_sound WriteFault due written is = absurd cc
    done_sound BadWords due written is = absurd cc
    done_sound (BadModel fault) due written is = absurd cc
    done_sound TooLong due written is = absurd cc
    done_sound TooManyRows due written is = absurd cc
    done_sound TooManyFamilies due written is = absurd cc
    done_sound ReadFault due written is = absurd cc
    done_sound NoMemory due written is = absurd cc

  -- ---- what is taken where no report is due

  module _ (counted unwritten : Type 0) (old new : Option (List ℕ)) where
    told_ends : (status result : Status) → IsOutcome IsPlan words held counted status (status_text status) → IsMadeAndWritten (status_text status) status unwritten result old new → Ends IsPlan words held counted unwritten result old new
    told_ends status WriteFault due w = (w.0, record { status = status; text = status_text status; due = due; count = w.1.0; less = w.1.1; taken = w.1.2 })
    told_ends status NoMemory due w = w
    told_ends status Done due w = record { text = status_text status; due = subst (λ s. IsOutcome IsPlan words held counted s (status_text status)) (sym w.0) due; taken = w.1 }
    told_ends status BadWords due w = record { text = status_text status; due = subst (λ s. IsOutcome IsPlan words held counted s (status_text status)) (sym w.0) due; taken = w.1 }
    told_ends status (BadModel f) due w = record { text = status_text status; due = subst (λ s. IsOutcome IsPlan words held counted s (status_text status)) (sym w.0) due; taken = w.1 }
    told_ends status TooLong due w = record { text = status_text status; due = subst (λ s. IsOutcome IsPlan words held counted s (status_text status)) (sym w.0) due; taken = w.1 }
    told_ends status TooManyRows due w = record { text = status_text status; due = subst (λ s. IsOutcome IsPlan words held counted s (status_text status)) (sym w.0) due; taken = w.1 }
    told_ends status TooManyFamilies due w = record { text = status_text status; due = subst (λ s. IsOutcome IsPlan words held counted s (status_text status)) (sym w.0) due; taken = w.1 }
    told_ends status ReadFault due w = record { text = status_text status; due = subst (λ s. IsOutcome IsPlan words held counted s (status_text status)) (sym w.0) due; taken = w.1 }

    -- where memory is wanting, there is no text to be written
    wanting : (result : Status) → IsMadeAndWritten (status_text NoMemory) NoMemory unwritten result old new → Ends IsPlan words held counted unwritten result old new
    wanting NoMemory w = w
    wanting WriteFault w = absurd (let less : w.1.0 < 0 = w.1.1 in omega arith)
    wanting Done w = absurd (let other = w.0 in cc)
    wanting BadWords w = absurd (let other = w.0 in cc)
    wanting (BadModel f) w = absurd (let other = w.0 in cc)
    wanting TooLong w = absurd (let other = w.0 in cc)
    wanting TooManyRows w = absurd (let other = w.0 in cc)
    wanting TooManyFamilies w = absurd (let other = w.0 in cc)
    wanting ReadFault w = absurd (let other = w.0 in cc)

    pub refused_ends : (status result : Status) → IsRefused IsPlan words held counted status → IsMadeAndWritten (status_text status) status unwritten result old new → Ends IsPlan words held counted unwritten result old new
    refused_ends Done result due w = absurd due
    refused_ends NoMemory result due w = wanting result w
    refused_ends BadWords result due w = told_ends BadWords result due w
    refused_ends (BadModel f) result due w = told_ends (BadModel f) result due w
    refused_ends TooLong result due w = told_ends TooLong result due w
    refused_ends TooManyRows result due w = told_ends TooManyRows result due w
    refused_ends TooManyFamilies result due w = told_ends TooManyFamilies result due w
    refused_ends ReadFault result due w = told_ends ReadFault result due w
    refused_ends WriteFault result due w = told_ends WriteFault result due w

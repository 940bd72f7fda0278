use Rattle.kasa_report.proofs.SoundReport.{sound}
use Rattle.kasa_report.proofs.laws.reports_of_closed_tables_are_sound.Goals as goal

pub returns : goal.returns
returns c model tables text valid ok closed report = sound model tables text valid ok closed report

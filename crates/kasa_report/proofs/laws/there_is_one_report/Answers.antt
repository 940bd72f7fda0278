use Rattle.kasa_report.proofs.OneReport.{one_report}
use Rattle.kasa_report.proofs.laws.there_is_one_report.Goals as goal

pub returns : goal.returns
returns c model tables others a b valid ok same p q = one_report model tables others a b valid ok same p q

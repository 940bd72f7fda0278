use Rattle.kasa_report.proofs.OneReport.{one_check_report}
use Rattle.kasa_report.proofs.laws.there_is_one_check_report.Goals as goal

pub returns : goal.returns
returns c model tables others a b ok same p q = one_check_report model tables others a b ok same p q

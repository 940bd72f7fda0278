use Rattle.kasa_report.proofs.OneReport.{one_sample_report}
use Rattle.kasa_report.proofs.laws.there_is_one_sample_report.Goals as goal

pub returns : goal.returns
returns c size model tables a b valid p q = one_sample_report size model tables a b valid p q

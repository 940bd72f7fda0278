use Rattle.kasa_check.proofs.OneVerdict.{one_verdict}
use Rattle.kasa_check.proofs.SomeVerdict.{some_verdict}
use Rattle.kasa_check.proofs.laws.there_is_one_verdict.Goals as goal

pub returns : goal.returns
returns c = record { one = one_verdict; some = some_verdict }

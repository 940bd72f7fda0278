use Rattle.std.proofs.Common.{◌≤◌, length, sym, arith}
use Rattle.std.proofs.lemmas.Option.{slice_get_past}
use Rattle.kasa_pre.proofs.AskedLemmas.{place_of-past}
use Rattle.kasa_pre.proofs.narrow.place.Goals as goal

pub returns-in-None : goal.returns-in-None
returns-in-None c =
    let past : length c.args.asked.now.stands.now ≤ c.args.node = let told = c.in-None.ensures.lookup.3 in let count = c.requires.0 in omega arith in
    sym (place_of-past c.args.asked.now.rule.now c.args.asked.now.stands.now c.args.node (slice_get_past c.args.asked.now.stands.now c.args.node past))

use Rattle.kasa_columns.proofs.StandLemmas.{StandExists-fits}
use Rattle.kasa_parallel.proofs.PartnerLemmas.{exist_two}
use Rattle.kasa_parallel.proofs.partner.is_partner.Goals as goal

pub follow_bond-requires-clause-exist : goal.follow_bond-requires-clause-exist
follow_bond-requires-clause-exist c =
    exist_two c.args.rule.now c.args.one.now c.args.other.now c.requires.exists (StandExists-fits c.args.rule.now c.args.other.now c.args.agent (c.fits.ensures.0 c.if-fits.true))

use Rattle.kasa_families.proofs.FamilyShape.{few_columns}
use Rattle.kasa_families.proofs.first.first_among.Goals as goal

pub read_columns-columns-requires : goal.read_columns-columns-requires
read_columns-columns-requires c = few_columns c.requires.stands.sig _ c.requires.stands.valid

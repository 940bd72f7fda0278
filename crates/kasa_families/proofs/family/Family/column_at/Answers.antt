use Rattle.std.proofs.Common.{◌≡◌, ◌≤◌, length, sym, ◌∙◌, arith}
use Rattle.kasa_families.specs.Family.{shape_of}
use Rattle.kasa_families.proofs.LeftLemmas.{length-past}
use Rattle.kasa_families.proofs.family.Family.column_at.Goals as goal

pub returns-in-None : goal.returns-in-None
returns-in-None c =
    let past : length (shape_of c.args.self.now).columns ≤ c.args.k = length-past (shape_of c.args.self.now).columns c.args.k (sym c.column.ensures ∙ c.in-None.is) in
    absurd (let within = c.requires in omega arith)

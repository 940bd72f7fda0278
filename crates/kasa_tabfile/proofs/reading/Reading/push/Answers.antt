use Rattle.std.proofs.Common.{refl, ◌∷◌, arith}
use Rattle.std.proofs.lemmas.Bool.Decides.{nat_tests}
use Rattle.kasa_tabfile.specs.declared.reading.Reading.{Reading}
use Rattle.kasa_tabfile.proofs.ReadingLemmas.{push_on, stays_failed}
use Rattle.kasa_tabfile.proofs.reading.Reading.push.Goals as goal

pub returns-in-Failed-clause-line : goal.returns-in-Failed-clause-line
returns-in-Failed-clause-line c bs o h = stays_failed c.args.sig.now c.args.self.now _ bs (c.args.b ∷ bs) o c.in-Failed.is h

pub returns-else-b-eq10 : goal.returns-else-b-eq10
returns-else-b-eq10 c =
    let now = c.args.self.now in
    let new : Reading = record { stage = now.stage; tables = now.tables; line = c.push.new.self; number = now.number; alloc = now.alloc } in
    record {
      line = λ bs o h. push_on c.args.sig.now now new c.args.b bs (grind (arith, nat_tests)) refl refl refl c.push.ensures.blank c.push.ensures.line o h;
      number = omega arith;
    }

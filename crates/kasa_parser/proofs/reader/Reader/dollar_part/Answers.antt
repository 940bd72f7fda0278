use Rattle.std.proofs.Common.{◌≡◌, Some, refl, rules}
use Rattle.kasa_parser.specs.declared.run.DollarWord.TheVariants.{Addition}
use Rattle.kasa_parser.specs.Words.{rest}
use Rattle.kasa_parser.specs.Rules.{got, at_first}
use Rattle.kasa_parser.specs.Decls.{dollar_of, addition}
use Rattle.kasa_parser.proofs.reader.Reader.dollar_part.Goals as goal

pub returns-in_ok-push-in-Addition : goal.returns-in_ok-push-in-Addition
returns-in_ok-push-in-Addition c =
    let dollar : at_first dollar_of c.args.self.now ≡ Some (Addition c.in-Addition.start) = search rules in
    let read : (addition c.in-Addition.start).read (rest c.args.self.now) ≡ got c.in_ok-addition-in-Addition.field-0 c.addition.new.self = search rules in
    rw (dollar, read, c.in_ok-push-in-Addition.ensures.items) refl

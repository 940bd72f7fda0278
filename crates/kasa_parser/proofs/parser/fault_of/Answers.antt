use Rattle.std.proofs.Common.{◌≡◌, ◌-◌, Some, ap, length, take, arith, rules}
use Rattle.kasa_syntax.specs.Place.{place_at}
use Rattle.kasa_parser.specs.Words.{Word, words_of}
use Rattle.kasa_parser.specs.Steps.{first, fault_at}
use Rattle.kasa_parser.proofs.FaultLaws.{start-within, fault_is}
use Rattle.kasa_parser.proofs.parser.fault_of.Goals as goal

pub place_of-place-requires-clause-within : goal.place_of-place-requires-clause-within
place_of-place-requires-clause-within c =
    let text = c.args.text.now in
    let word : first c.args.left.now ≡ Some c.in-Some.word = search rules in
    let start = start-within text (length text) c.args.one.now.tokens.items c.args.left.now c.in-Some.word c.requires.tokens c.requires.left word in
    let same = ap (λ (w : Word). w.span.start) c.word.view_is in
    omega (arith, start, same)

pub place_of-place-requires-clause-few : goal.place_of-place-requires-clause-few
place_of-place-requires-clause-few c =
    let text = c.args.text.now in
    let word : first c.args.left.now ≡ Some c.in-Some.word = search rules in
    let start = start-within text (length text) c.args.one.now.tokens.items c.args.left.now c.in-Some.word c.requires.tokens c.requires.left word in
    let same = ap (λ (w : Word). w.span.start) c.word.view_is in
    omega (arith, start, same, c.requires.few)

pub returns-in-Ok : goal.returns-in-Ok
returns-in-Ok c =
    let text = c.args.text.now in
    let tokens = c.args.one.now.tokens.items in
    let word : first c.args.left.now ≡ Some c.in-Some.word = search rules in
    let place : c.place_of-place.result ≡ place_at text c.in-Some.word.span.start = search rules in
    let fault : c.in-Ok.fault ≡ fault_at (words_of text (take (length tokens - length c.args.left.now) tokens)) c.in-Some.word c.place_of-place.result = search rules in
    λ other. fault_is text c.args.one.now.ending tokens c.args.left.now c.in-Some.word c.place_of-place.result c.in-Ok.fault word place fault

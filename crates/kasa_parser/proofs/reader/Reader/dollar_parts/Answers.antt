use Rattle.std.proofs.Common.{◌≡◌, ◌∙◌, ◌∷◌, [], true, false, refl, rules}
use Rattle.std.proofs.lemmas.Result.{err_from_is_err_and}
use Rattle.kasa_syntax.specs.declared.tokens.TokenKind.TheVariants.{Dollar}
use Rattle.kasa_parser.specs.Words.{starts, only}
use Rattle.kasa_parser.specs.Rules.{got}
use Rattle.kasa_parser.specs.Decls.{dollar_part, dollar_parts}
use Rattle.kasa_parser.specs.Steps.{onto}
use Rattle.kasa_parser.proofs.AddedLoops.{parts-next, parts-stuck, parts-end, adds-stuck}
use Rattle.kasa_parser.proofs.reader.Reader.dollar_parts.Goals as goal

pub loop-alloc-init : goal.loop-alloc-init
loop-alloc-init c = refl

pub loop-alloc-smaller : goal.loop-alloc-smaller
loop-alloc-smaller c =
    let begins : starts (only (Dollar ∷ [])) c.loop-alloc.self ≡ true = search rules in
    let read : onto c.loop-alloc.decls.items (dollar_part.read c.loop-alloc.self) ≡ got c.dollar_part.new.decls.items c.dollar_part.new.self = search rules in
    (parts-next c.loop-alloc.decls.items c.dollar_part.new.decls.items c.loop-alloc.self c.dollar_part.new.self begins read).1

pub loop-alloc-preserved : goal.loop-alloc-preserved
loop-alloc-preserved c =
    let begins : starts (only (Dollar ∷ [])) c.loop-alloc.self ≡ true = search rules in
    let read : onto c.loop-alloc.decls.items (dollar_part.read c.loop-alloc.self) ≡ got c.dollar_part.new.decls.items c.dollar_part.new.self = search rules in
    c.loop-alloc.invariant ∙ (parts-next c.loop-alloc.decls.items c.dollar_part.new.decls.items c.loop-alloc.self c.dollar_part.new.self begins read).0

pub returns-in_err-dollar_part : goal.returns-in_err-dollar_part
returns-in_err-dollar_part c =
    let begins : starts (only (Dollar ∷ [])) c.loop-alloc.self ≡ true = search rules in
    let p = err_from_is_err_and c.from_residual.result c.from_residual.ensures.1 in
    rw (p.1, p.2) (adds-stuck (dollar_parts.read c.args.self.now) (dollar_part.read c.loop-alloc.self) c.args.decls.now.items c.loop-alloc.decls.items c.dollar_part.new.decls.items c.in_err-dollar_part.field-0.0 c.dollar_part.new.self
    (λ last e. c.loop-alloc.invariant ∙ parts-stuck c.loop-alloc.decls.items c.loop-alloc.self last begins e) c.in_err-dollar_part.ensures)

pub returns : goal.returns
returns c =
    let ends : starts (only (Dollar ∷ [])) c.loop-alloc.self ≡ false = search rules in
    c.loop-alloc.invariant ∙ parts-end c.loop-alloc.decls.items c.loop-alloc.self ends

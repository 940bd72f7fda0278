use Rattle.std.proofs.Common.{◌≡◌, Err, subst}
use Rattle.std.proofs.lemmas.Result.{err_from_is_err_and}
use Rattle.kasa_syntax.specs.declared.tokens.Span.{Span}
use Rattle.kasa_parser.specs.Rules.{got}
use Rattle.kasa_parser.specs.Decls.{read_declaration, said_of}
use Rattle.kasa_parser.specs.Steps.{Adds, onto}
use Rattle.kasa_parser.proofs.Said.{whole-stuck, end-stuck, end-got}
use Rattle.kasa_parser.proofs.reader.Reader.declaration.Goals as goal

pub returns-in_err-said : goal.returns-in_err-said
returns-in_err-said c =
    let p = err_from_is_err_and c.from_residual.result c.from_residual.ensures.1 in
    rw (p.1, p.2) (subst (λ (s : Span). Adds (said_of s (read_declaration c.args.self.now)) c.args.decls.now.items (Err c.in_err-said.field-0.0) c.said.new.decls.items c.said.new.self) c.span-start.ensures
    (whole-stuck c.args.decls.now.items c.said.new.decls.items c.span-start.result c.args.self.now c.in_err-said.field-0.0 c.said.new.self c.in_err-said.ensures))

pub returns-in_err-end : goal.returns-in_err-end
returns-in_err-end c =
    let p = err_from_is_err_and c.from_residual-in_err-end.result c.from_residual-in_err-end.ensures.1 in
    rw (p.1, p.2) (subst (λ (s : Span). Adds (said_of s (read_declaration c.args.self.now)) c.args.decls.now.items (Err c.in_err-end.field-0.0) c.said.new.decls.items c.said.new.self) c.span-start.ensures
    (end-stuck c.args.decls.now.items c.said.new.decls.items c.span-start.result c.args.self.now c.said.new.self c.in_err-end.field-0.0 c.said.new.self c.in_ok-said.ensures c.in_err-end.ensures))

pub returns : goal.returns
returns c =
    subst (λ (s : Span). onto c.args.decls.now.items (said_of s (read_declaration c.args.self.now)) ≡ got c.said.new.decls.items c.said.new.self) c.span-start.ensures
    (end-got c.args.decls.now.items c.said.new.decls.items c.span-start.result c.args.self.now c.said.new.self c.said.new.self c.in_ok-said.ensures c.in_ok-end.ensures)

use Rattle.std.proofs.Common.{◌≡◌, ◌∷◌, [], true, false, Some, subst, sym, ◌∙◌, rules}
use Rattle.kasa_syntax.specs.declared.tokens.TokenKind.TheVariants.{Percent}
use Rattle.kasa_parser.specs.Words.{starts, only}
use Rattle.kasa_parser.specs.Rules.{at_first}
use Rattle.kasa_parser.specs.Decls.{keyword_of, behind_keyword, said_of}
use Rattle.kasa_parser.specs.Steps.{Adds}
use Rattle.kasa_parser.proofs.Said.{rule-said, keyword-said, starts-percent}
use Rattle.kasa_parser.proofs.reader.Reader.said.Goals as goal

pub returns-in_err-rule : goal.returns-in_err-rule
returns-in_err-rule c =
    let other : starts (only (Percent ∷ [])) c.args.self.now ≡ false = search rules in
    rw (rule-said c.args.start c.args.self.now other) (search rules)

pub returns-then-not-is_percent : goal.returns-then-not-is_percent
returns-then-not-is_percent c =
    let other : starts (only (Percent ∷ [])) c.args.self.now ≡ false = search rules in
    rw (rule-said c.args.start c.args.self.now other) (search rules)

pub returns : goal.returns
returns c =
    let percent : starts (only (Percent ∷ [])) c.args.self.now ≡ true = starts-percent c.args.self.now c.in-Some.word (sym c.in-Some.is ∙ c.peek.ensures) (sym c.is_percent.ensures ∙ c.if-not-is_percent.false) in
    let keyword : at_first keyword_of c.args.self.now ≡ Some c.in-Some-keyword.keyword = search rules in
    rw (keyword-said c.args.start c.args.self.now c.in-Some-keyword.keyword percent keyword)
    (subst (λ ws. Adds (said_of c.args.start ((behind_keyword c.in-Some-keyword.keyword).read ws)) c.args.decls.now.items c.behind_keyword.result c.behind_keyword.new.decls.items c.behind_keyword.new.self) c.advance.ensures c.behind_keyword.ensures)

use Rattle.std.proofs.Common.{◌≡◌, false, drop, sym, ap, ◌∙◌}
use Rattle.kasa_lexer.specs.Front.{closes_comment, closing_len}
use Rattle.kasa_lexer.proofs.BlankLemmas.{closing-more}
use Rattle.kasa_lexer.proofs.blank.closing_len.Goals as goal

pub loop-i-preserved : goal.loop-i-preserved
loop-i-preserved c =
    let i = c.loop-i.i in
    let text = c.args.text.now in
    let still : closes_comment (drop i text) ≡ false =
    ap closes_comment (sym c.bytes_from.ensures) ∙ sym c.closes_comment.ensures ∙ c.if-closes_comment.false in
    closing-more text i (closing_len text) c.loop-i.invariant still

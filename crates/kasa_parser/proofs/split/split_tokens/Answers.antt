use Rattle.std.proofs.Common.{◌+◌, ◌∙◌, ap, sym, drop, arith}
use Rattle.kasa_parser.specs.Words.{words_of}
use Rattle.kasa_parser.specs.Split.{split_from}
use Rattle.kasa_parser.proofs.SplitLemmas.{next_word, no_word, token_within}
use Rattle.kasa_parser.proofs.split.split_tokens.Goals as goal

pub loop-token-preserved : goal.loop-token-preserved
loop-token-preserved c =
    let tokens = c.args.tokens.now in
    record {
      split = λ text. c.loop-token.invariant.split text ∙ (ap (λ ws. split_from text c.args.size c.loop-token.split ws) (next_word text tokens c.loop-token.token-index c.loop-token-test.true) ∙ c.in_ok-take.ensures.split text c.args.size (words_of text (drop (c.loop-token.token-index + 1) tokens)));
      depth = omega (arith, c.in_ok-take.ensures.depth);
      within = λ n within. let at = token_within n tokens c.loop-token.token-index within c.loop-token-test.true in c.in_ok-take.ensures.within n (c.loop-token.invariant.within n within) at.0 at.1;
    }

pub returns-clause-given : goal.returns-clause-given
returns-clause-given c =
    λ text. c.in_ok-declared.ensures.given text ∙ sym (c.loop-token.invariant.split text ∙ ap (λ ws. split_from text c.args.size c.loop-token.split ws) (no_word text c.args.tokens.now c.loop-token.token-index c.loop-token-test.false))

pub returns-clause-within : goal.returns-clause-within
returns-clause-within c = λ within. c.in_ok-declared.ensures.within (c.loop-token.invariant.within c.args.size within)

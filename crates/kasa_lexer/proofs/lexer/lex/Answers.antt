use Rattle.std.proofs.Common.{rules, arith}
use Rattle.kasa_lexer.proofs.OutcomeLemmas.{blank-fits, token-fits, blank-leads, token-leads, fault-outcome, tokens-outcome}
use Rattle.kasa_lexer.proofs.lexer.lex.Goals as goal

pub overflow_add-at : goal.overflow_add-at
overflow_add-at c =
    let fits = blank-fits c.args.text.now c.loop-at.at c.in-Blank.n c.loop-at-test.true c.in-Blank.ensures in
    let within = fits.1 in
    search rules

pub loop-at-smaller-in-Blank : goal.loop-at-smaller-in-Blank
loop-at-smaller-in-Blank c =
    let fits = blank-fits c.args.text.now c.loop-at.at c.in-Blank.n c.loop-at-test.true c.in-Blank.ensures in
    omega (arith, fits.0, fits.1)

pub loop-at-preserved-in-Blank : goal.loop-at-preserved-in-Blank
loop-at-preserved-in-Blank c =
    let fits = blank-fits c.args.text.now c.loop-at.at c.in-Blank.n c.loop-at-test.true c.in-Blank.ensures in
    record {
      leads = blank-leads c.args.text.now c.loop-at.at c.in-Blank.n c.loop-at.tokens.items c.loop-at.invariant.leads c.loop-at-test.true c.in-Blank.ensures;
      within = fits.1;
    }

pub take_token-requires-clause-within : goal.take_token-requires-clause-within
take_token-requires-clause-within c =
    let fits = token-fits c.args.text.now c.loop-at.at c.in-Token.kind c.in-Token.n c.loop-at-test.true c.in-Token.ensures in
    fits.0

pub loop-at-smaller : goal.loop-at-smaller
loop-at-smaller c =
    let fits = token-fits c.args.text.now c.loop-at.at c.in-Token.kind c.in-Token.n c.loop-at-test.true c.in-Token.ensures in
    omega (arith, fits.1, c.in_ok-at-in-Token.ensures.len, c.in_ok-at-in-Token.ensures.within)

pub loop-at-preserved : goal.loop-at-preserved
loop-at-preserved c = record {
  leads = token-leads c.args.text.now c.loop-at.at c.in-Token.kind c.in-Token.n c.in_ok-at-in-Token.field-0 c.loop-at.tokens.items c.take_token.new.tokens.items
      c.loop-at.invariant.leads c.loop-at-test.true c.in-Token.ensures c.in_ok-at-in-Token.ensures.len c.in_ok-at-in-Token.ensures.ok;
  within = c.in_ok-at-in-Token.ensures.within;
}

pub returns-in-Fault-clause-fault : goal.returns-in-Fault-clause-fault
returns-in-Fault-clause-fault c other =
    fault-outcome c.args.text.now c.loop-at.at c.in-Fault.fault c.loop-at.tokens.items c.loop-at.invariant.leads c.loop-at-test.true c.in-Fault.ensures

pub returns-clause-tokens : goal.returns-clause-tokens
returns-clause-tokens c =
    tokens-outcome c.args.text.now c.loop-at.at c.loop-at.tokens.items c.loop-at.invariant.leads c.loop-at-test.false

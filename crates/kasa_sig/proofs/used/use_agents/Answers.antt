use Rattle.std.proofs.Common.{[]}
use Rattle.std.proofs.lemmas.Result.{err_from_is_err_and}
use Rattle.kasa_sig.specs.declared.names.Source.TheVariants.{Uses}
use Rattle.kasa_sig.specs.Mentions.{used_agent}
use Rattle.kasa_sig.proofs.AfterLemmas.{after-none, each_more, each_all, each_Err}
use Rattle.kasa_sig.proofs.used.use_agents.Goals as goal

pub loop-agent-init : goal.loop-agent-init
loop-agent-init c = after-none Uses c.args.sig.now

pub returns-in_err-use_agent-clause-err : goal.returns-in_err-use_agent-clause-err
returns-in_err-use_agent-clause-err c =
    let p = err_from_is_err_and c.from_residual.result c.from_residual.ensures.1 in
    rw (p.1, p.2) (λ known.
    each_Err Uses (used_agent c.args.text.now) [] c.args.agents.now c.loop-agent.agent-index c.args.sig.now c.loop-agent.sig c.loop-agent.invariant
    c.agent-item.result c.agent-item.result c.in_err-use_agent.field-0.0 c.loop-agent-test.true c.agent-item.is (c.in_err-use_agent.ensures.err known))

pub loop-agent-preserved : goal.loop-agent-preserved
loop-agent-preserved c =
    each_more Uses (used_agent c.args.text.now) [] c.args.agents.now c.loop-agent.agent-index c.args.sig.now c.loop-agent.sig c.loop-agent.invariant
    c.agent-item.result c.agent-item.result c.use_agent.new.sig c.loop-agent-test.true c.agent-item.is c.in_ok-use_agent.ensures.ok

pub returns-clause-ok : goal.returns-clause-ok
returns-clause-ok c =
    each_all Uses (used_agent c.args.text.now) [] c.args.agents.now c.loop-agent.agent-index c.args.sig.now c.loop-agent.sig c.loop-agent.invariant c.loop-agent-test.false

use Rattle.std.proofs.Common.{◌≡◌, ◌∙◌, true, false, Err, refl, subst, rules}
use Rattle.std.proofs.lemmas.Result.{err_from_is_err_and}
use Rattle.kasa_parser.specs.Words.{past_comma}
use Rattle.kasa_parser.specs.Rules.{got}
use Rattle.kasa_parser.specs.Decls.{run_of, agent_follows, ended_agent, added}
use Rattle.kasa_parser.specs.declared.run.Run.TheVariants.{Mod}
use Rattle.kasa_parser.specs.Steps.{Gives}
use Rattle.kasa_parser.proofs.AddedLoops.{added-first, added-next, added-stuck, added-end, fewer-left, gives-stuck, run-stuck}
use Rattle.kasa_parser.proofs.reader.Reader.as_long_as_agents.Goals as goal

pub loop-alloc-init : goal.loop-alloc-init
loop-alloc-init c =
    let read : ended_agent.read c.args.self.now ≡ got c.in_ok-agent.field-0 c.ended_agent.new.self = search rules in
    rw (c.in_ok-push.ensures.items, c.new-agents.ensures.items) (added-first c.args.start c.args.self.now c.ended_agent.new.self c.in_ok-agent.field-0 read)

pub returns-in_err-next : goal.returns-in_err-next
returns-in_err-next c =
    let follows : agent_follows c.loop-alloc.self ≡ true = search rules in
    let p = err_from_is_err_and c.from_residual-in_err-next.result c.from_residual-in_err-next.ensures.1 in
    rw (p.1, p.2) (gives-stuck ((added c.args.start false).read c.args.self.now) (ended_agent.read (past_comma c.loop-alloc.self)) c.in_err-next.field-0.0 c.ended_agent-in-loop-alloc.new.self
    (λ last e. c.loop-alloc.invariant ∙ added-stuck c.args.start c.loop-alloc.agents.items c.loop-alloc.end c.loop-alloc.self last follows e) (subst (λ ws. Gives (ended_agent.read ws) (Err c.in_err-next.field-0.0) c.ended_agent-in-loop-alloc.new.self) c.pass_comma.ensures c.in_err-next.ensures))

pub loop-alloc-smaller : goal.loop-alloc-smaller
loop-alloc-smaller c =
    let read : ended_agent.read (past_comma c.loop-alloc.self) ≡ got c.in_ok-next.next c.ended_agent-in-loop-alloc.new.self = search rules in
    fewer-left c.loop-alloc.self c.ended_agent-in-loop-alloc.new.self c.in_ok-next.next read

pub loop-alloc-preserved : goal.loop-alloc-preserved
loop-alloc-preserved c =
    let read : ended_agent.read (past_comma c.loop-alloc.self) ≡ got c.in_ok-next.next c.ended_agent-in-loop-alloc.new.self = search rules in
    let follows : agent_follows c.loop-alloc.self ≡ true = search rules in
    rw c.in_ok-push-2.ensures.items
    (c.loop-alloc.invariant ∙ added-next c.args.start c.loop-alloc.agents.items c.loop-alloc.end c.loop-alloc.self c.ended_agent-in-loop-alloc.new.self c.in_ok-next.next follows read)

pub returns-in_err-run : goal.returns-in_err-run
returns-in_err-run c =
    let ends : agent_follows c.loop-alloc.self ≡ false = search rules in
    let p = err_from_is_err_and c.from_residual-in_err-run.result c.from_residual-in_err-run.ensures.1 in
    rw (p.1, p.2) (gives-stuck ((added c.args.start false).read c.args.self.now) ((run_of Mod).read c.loop-alloc.self) c.in_err-run.field-0.0 c.run.new.self
    (λ last e. c.loop-alloc.invariant ∙ added-end c.args.start c.loop-alloc.agents.items c.loop-alloc.end c.loop-alloc.self ends ∙ run-stuck c.loop-alloc.self last _ e) c.in_err-run.ensures)

pub returns : goal.returns
returns c =
    let ends : agent_follows c.loop-alloc.self ≡ false = search rules in
    let read : (run_of Mod).read c.loop-alloc.self ≡ got tt c.run.new.self = search rules in
    rw c.new.ensures (c.loop-alloc.invariant ∙ added-end c.args.start c.loop-alloc.agents.items c.loop-alloc.end c.loop-alloc.self ends ∙ rw read refl)

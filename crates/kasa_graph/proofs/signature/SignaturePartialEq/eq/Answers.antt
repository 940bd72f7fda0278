use Rattle.std.proofs.Common.{arith, sym, ◌∙◌}
use Rattle.kasa_graph.specs.SameNames.{same_type}
use Rattle.kasa_graph.proofs.SameLemmas.{SameBelow-suc, pointwise-same, pointwise-differ}
use Rattle.kasa_graph.proofs.signature.SignaturePartialEq.eq.Goals as goal

pub loop-agent-init : goal.loop-agent-init
loop-agent-init c = λ k h. absurd (omega (arith, h))

pub returns-then-not-same_type_at : goal.returns-then-not-same_type_at
returns-then-not-same_type_at c =
    pointwise-differ same_type _ _ c.loop-agent.agent c.same_type_at.result (sym c.types.ensures.count ∙ c.if-types.false ∙ c.types-2.ensures.count) (omega (arith, c.loop-agent-test.true, c.types-agent-end.ensures.count)) c.same_type_at.ensures c.if-not-same_type_at.true

pub loop-agent-preserved : goal.loop-agent-preserved
loop-agent-preserved c = SameBelow-suc same_type _ _ c.loop-agent.agent c.same_type_at.result c.loop-agent.invariant c.same_type_at.ensures c.if-not-same_type_at.false

pub returns : goal.returns
returns c =
    pointwise-same same_type _ _ c.loop-agent.agent (sym c.types.ensures.count ∙ c.if-types.false ∙ c.types-2.ensures.count) (omega (arith, c.loop-agent-test.false, c.types-agent-end.ensures.count)) c.loop-agent.invariant

use Rattle.std.proofs.Common.{◌≡◌, ◌<◌, ◌++◌, ◌∷◌, [], ◌∙◌, sym, ap, arith, length, take, nat_lt, if◌then◌else◌}
use Rattle.kasa_lists.specs.Lists.{map_from}
use Rattle.kasa_graph.specs.PatternText.{comma_joined, node_text}
use Rattle.kasa_graph.specs.PatternTextParts.{node_text_at}
use Rattle.kasa_graph.proofs.TextLemmas.{nodes_written, all_written}
use Rattle.kasa_graph.proofs.text.text_of.Goals as goal

pub loop-node-preserved : goal.loop-node-preserved
loop-node-preserved c =
    let within : c.loop-node.node < length c.args.pattern.now = omega (arith, c.nodes-node-end.ensures, c.loop-node-test.true) in (
      c.in_ok-write_node.ensures.text
          ∙ ap (λ text. text ++ node_text_at c.args.sig.now c.args.pattern.now c.loop-node.node) (c.in_ok-write_comma.ensures ∙ ap (λ text. text ++ (if nat_lt 0 c.loop-node.node then 44 ∷ [] else [])) c.loop-node.invariant.0)
          ∙ sym (nodes_written c.args.sig.now c.args.pattern.now c.loop-node.node within),
      c.in_ok-write_node.ensures.seen,
    )

pub returns : goal.returns
returns c =
    let end : c.loop-node.node ≡ length c.args.pattern.now = omega (arith, c.nodes-node-end.ensures, c.loop-node-test.false, c.loop-node.auto.node-end) in
    c.loop-node.invariant.0 ∙ ap (λ n. comma_joined (map_from 0 (node_text c.args.sig.now c.args.pattern.now) (take n c.args.pattern.now))) end ∙ all_written c.args.sig.now c.args.pattern.now

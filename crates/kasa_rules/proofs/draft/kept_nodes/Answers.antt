use Rattle.std.proofs.Common.{◌≤◌, length, ap, ◌∙◌, map, arith}
use Rattle.std.proofs.lemmas.List.{take_all}
use Rattle.std.proofs.lemmas.Option.{slice_get_within}
use Rattle.kasa_rules.specs.Draft.{keep_node}
use Rattle.kasa_rules.proofs.DraftLemmas.{node_sites, kept_next, few_next}
use Rattle.kasa_rules.proofs.draft.kept_nodes.Goals as goal

pub loop-n-preserved : goal.loop-n-preserved
loop-n-preserved c =
    let node = node_sites c.args.sig.now c.args.left.now c.loop-n.n c.agent-agent.result c.sites.result c.requires.over c.agent-agent.ensures c.sites.ensures.count in
    record {
      so_far = c.in_ok-push.ensures.items ∙ kept_next c.args.left.now c.loop-n.n c.sites.result node.0 c.loop-n.actions.items c.in_ok-sites.sites c.loop-n.invariant.so_far node.1 node.2 c.in_ok-sites.ensures;
      few_sites = few_next c.args.left.now c.loop-n.n c.sites.result node.0 c.loop-n.invariant.few_sites node.1 node.2 c.sites.ensures.few;
    }

pub returns : goal.returns
returns c =
    let all : length c.args.left.now ≤ c.loop-n.n = omega arith in
    record {
      all = c.loop-n.invariant.so_far ∙ ap (map keep_node) (take_all c.loop-n.n c.args.left.now all);
      few_sites = λ k x at. let within = slice_get_within c.args.left.now k x at in c.loop-n.invariant.few_sites k x (omega arith) at;
    }

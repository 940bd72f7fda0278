use Rattle.std.proofs.Common.{rules, arith, ◌≡◌, [], ◌∷◌, ◌++◌, length-append}
use Rattle.kasa_graph.specs.Pattern.{blank_node}
use Rattle.kasa_graph.specs.Signature.{state_counts}
use Rattle.kasa_graph.proofs.PatternLemmas.{IsPattern-same_links, link_test-push_blank}
use Rattle.kasa_graph.proofs.pattern.Pattern.add_node.Goals as goal
use Rattle.kasa_graph.proofs.pattern.Pattern.add_node.Goals.{In_ok-push}

pushed : (c : In_ok-push) → c.push.new.self.items ≡ c.args.self.now ++ blank_node c.args.sig.now c.args.agent ∷ []
unfolding blank_node state_counts
pushed c = rw (c.in_ok-push.ensures.items, c.self.view_is, c.in_ok-sites.ensures)

pub invariant_of-self-2 : goal.invariant_of-self-2
invariant_of-self-2 c = let d = (goal.at.invariant_of-self-2 c).In_ok-push in
    let old = rw c.self.view_is at c.self.invariant in
    let count = length-append c.args.self.now (blank_node c.args.sig.now c.args.agent ∷ []) in
    rw (pushed d) (IsPattern-same_links _ _ (link_test-push_blank _ _ _) old.0, omega (arith, count, c.requires.room))

pub returns-clause-ok : goal.returns-clause-ok
returns-clause-ok c = let d = (goal.at.returns-clause-ok c).In_ok-push in (search rules, pushed d)

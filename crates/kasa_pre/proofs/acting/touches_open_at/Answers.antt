use Rattle.std.proofs.Common.{◌≡◌, ℕ, ◌<◌, ◌≤◌, true, length, refl, below_more, arith}
use Rattle.std.specs.Prelude.{Some, slice_get}
use Rattle.std.proofs.lemmas.Option.{slice_get_read}
use Rattle.kasa_graph.specs.Pattern.{site_at, link_test}
use Rattle.kasa_rules.specs.Rule.{touched}
use Rattle.kasa_pre.specs.Acts.{LeavesOpen}
use Rattle.kasa_pre.proofs.ActsLemmas.{open_site, no_open_site, site_within}
use Rattle.kasa_pre.proofs.acting.touches_open_at.Goals as goal
use Rattle.kasa_pre.proofs.acting.touches_open_at.Goals.{After-site_tests-sites, After-index-sites-s}

told : (c : After-site_tests-sites) → (s : ℕ) → site_at c.args.rule.now.left c.args.node s ≡ slice_get c.site_tests-sites.result.now s
told c = rw c.left.ensures.pattern at c.site_tests-sites.ensures.tests

read : (c : After-index-sites-s) → slice_get c.site_tests-sites.result.now c.loop-s.s ≡ Some c.index-sites-s.result
read c = slice_get_read _ _ _ _ refl c.loop-s-test.true c.index-sites-s.is

pub returns-then-is_touched_open : goal.returns-then-is_touched_open
returns-then-is_touched_open c =
    let at = goal.at.returns-then-is_touched_open c in
    (λ _. open_site c.args.rule.now c.args.node _ (told at.After-site_tests-sites) c.loop-s.s c.index-sites-s.result (read at.After-index-sites-s) (rw (← c.index-sites-s.is) at (c.is_touched_open.ensures.0 c.if-is_touched_open.true)), λ _. refl)

pub loop-s-preserved : goal.loop-s-preserved
loop-s-preserved c =
    let at = goal.at.loop-s-preserved c in
    below_more (λ k. touched c.args.rule.now c.args.node k ≡ true → LeavesOpen (link_test c.args.rule.now.left c.args.node k) → ⊥) c.loop-s.s c.loop-s.invariant
    (no_open_site c.args.rule.now c.args.node _ (told at.After-site_tests-sites) c.loop-s.s c.index-sites-s.result (read at.After-index-sites-s) (λ both. let yes = c.is_touched_open.ensures.1 (rw (← c.index-sites-s.is) both) in let no = c.if-is_touched_open.false in absurd cc))

pub returns : goal.returns
returns c = (
  λ e. absurd cc,
  λ (s, has, touches, leaves). absurd (c.loop-s.invariant s (let within = site_within c.args.rule.now.left c.args.node _ (told (goal.at.returns c).After-site_tests-sites) s has in let past = c.loop-s-test.false in omega arith) touches leaves),
)

use Rattle.std.proofs.Common.{◌≡◌, ℕ, List, [], map, rules}
use Rattle.std.specs.Prelude.{Some, slice_get}
use Rattle.kasa_graph.specs.declared.pattern.Node.{Node}
use Rattle.kasa_graph.specs.Signature.{TypeEntry}
use Rattle.kasa_graph.specs.Pattern.{types_of, state_test, link_test}
use Rattle.kasa_rules.specs.Rule.{RuleParts, IsDraftOver, IsRuleOver, HasWholeBonds}
use Rattle.kasa_compile.specs.declared.said.SiteSaid.{SiteSaid as Site}
use Rattle.kasa_compile.specs.declared.said.AgentSaid.{AgentSaid as Said}
use Rattle.kasa_compile.specs.Sides.{SidesParts}
use Rattle.kasa_compile.specs.Bonds.{said_at}
use Rattle.kasa_compile.specs.Causes.{half_bonds}
use Rattle.kasa_compile.specs.Rule.{left_state_test, left_link_test, end_at, rule_of}
use Rattle.kasa_compile.specs.Valid.{AreSides}
use Rattle.kasa_compile.specs.Building.{Says, IsBare, CanWrite, IsLater, IsDone}
use Rattle.kasa_compile.proofs.BareLemmas.{CanWrite-bare, AreAwaiting-bare}
use Rattle.kasa_compile.proofs.EndLemmas.{HasShortEnds-few}
use Rattle.kasa_compile.proofs.StepLemmas.{CanWrite-later}
use Rattle.kasa_compile.proofs.FinalLemmas.{IsRuleOf-done, HasWholeBonds-done}
use Rattle.kasa_compile.proofs.RuleRead.{rule_is}
use Rattle.kasa_compile.proofs.rule.rule.Goals as goal

module _ (sig : List TypeEntry) (x : SidesParts) (sides : AreSides sig x) (name : List ℕ) (g : List Node) (r0 : RuleParts) (bare : IsBare sig x name g x.made r0) (over : IsDraftOver sig r0) (agents : List Said) (same : agents ≡ x.left) (types : types_of g ≡ map (λ (a : Said). a.agent) agents) where
  can_bare : CanWrite sig x g r0
  can_bare = CanWrite-bare sig x sides name g r0 bare over (rw same at types)

  module _ (links : (n s : ℕ) (a : Said) → slice_get agents n ≡ Some a → link_test g n s ≡ left_link_test agents n (said_at a.sites s)) (r : RuleParts) (over_r : IsDraftOver sig r) (later : CanWrite sig x g r0 → IsLater sig x g r0 r) (done : CanWrite sig x g r0 → (k i : ℕ) (s : Site) → Says x.right k i s → IsDone sig x g r (end_at x.ends k) s.site) where
    can_all : CanWrite sig x g r
    can_all = CanWrite-later sig x g r0 r can_bare (later can_bare) over_r

    whole : half_bonds x ≡ [] → HasWholeBonds r
    whole none = HasWholeBonds-done sig x name g r0 r bare can_all (later can_bare) (done can_bare) (rw same at links) none

    is_rule : IsRuleOver sig r → ((n s : ℕ) (a : Said) → slice_get agents n ≡ Some a → state_test g n s ≡ left_state_test (said_at a.sites s)) → r ≡ rule_of sig name x
    is_rule over_rule states = rule_is sig name x r (IsRuleOf-done sig x name g r0 r bare can_all (later can_bare) (done can_bare) over_rule (rw same at states) (rw same at links)) sides.numbered

pub write_all-requires-clause-short : goal.write_all-requires-clause-short
write_all-requires-clause-short c = HasShortEnds-few c.args.sig.now c.args.sides.now c.requires.sides c.requires.few_left c.requires.few_right

pub write_all-requires-clause-can : goal.write_all-requires-clause-can
write_all-requires-clause-can c =
    let same : c.deref.result.now ≡ c.args.sides.now.left = search rules in
    (c.args.sig.now, can_bare c.args.sig.now c.args.sides.now c.requires.sides c.args.name.now c.in_ok-pattern.pattern c.in_ok-draft.draft c.in_ok-draft.ensures.bare c.in_ok-draft.ensures.over c.deref.result.now same c.in_ok-pattern.ensures.types)

pub write_all-requires-clause-waits : goal.write_all-requires-clause-waits
write_all-requires-clause-waits c = AreAwaiting-bare c.args.sig.now c.args.sides.now c.requires.sides c.args.name.now c.in_ok-pattern.pattern c.in_ok-draft.draft c.in_ok-draft.ensures.bare

pub finish-requires : goal.finish-requires
finish-requires c =
    let same : c.deref.result.now ≡ c.args.sides.now.left = search rules in
    whole c.args.sig.now c.args.sides.now c.requires.sides c.args.name.now c.in_ok-pattern.pattern c.in_ok-draft.draft c.in_ok-draft.ensures.bare c.in_ok-draft.ensures.over c.deref.result.now same c.in_ok-pattern.ensures.types
    c.in_ok-pattern.ensures.links c.write_all.new.draft (c.write_all.ensures.over c.args.sig.now c.in_ok-draft.ensures.over) (c.write_all.ensures.later c.args.sig.now) (c.write_all.ensures.done c.args.sig.now) c.requires.whole

pub returns-clause-over : goal.returns-clause-over
returns-clause-over c = c.finish.ensures.over c.args.sig.now (c.write_all.ensures.over c.args.sig.now c.in_ok-draft.ensures.over)

pub returns-clause-is : goal.returns-clause-is
returns-clause-is c =
    let same : c.deref.result.now ≡ c.args.sides.now.left = search rules in
    let over = c.write_all.ensures.over c.args.sig.now c.in_ok-draft.ensures.over in
    let over_rule : IsRuleOver c.args.sig.now c.write_all.new.draft = rw c.finish.ensures.rule at (c.finish.ensures.over c.args.sig.now over) in
    rw c.finish.ensures.rule (is_rule c.args.sig.now c.args.sides.now c.requires.sides c.args.name.now c.in_ok-pattern.pattern c.in_ok-draft.draft c.in_ok-draft.ensures.bare c.in_ok-draft.ensures.over c.deref.result.now same c.in_ok-pattern.ensures.types
    c.in_ok-pattern.ensures.links c.write_all.new.draft over (c.write_all.ensures.later c.args.sig.now) (c.write_all.ensures.done c.args.sig.now) over_rule c.in_ok-pattern.ensures.states)

-- Sites that a rule touches, and those that it touches and that may have any partner.
use Rattle.std.proofs.Common.{◌≡◌, ◌≢◌, ℕ, ◌<◌, ◌≤◌, inl, inr, true, false, List, ◌++◌, refl, sym, ◌∙◌, length, arith}
use Rattle.std.specs.Prelude.{Option, Some, None}
use Rattle.std.proofs.lemmas.Option.{slice_get_past}
use Rattle.kasa_lists.proofs.Numbers.{below_or}
use Rattle.kasa_lists.proofs.Elements.{slice_get-append_left}
use Rattle.kasa_graph.specs.declared.pattern.Node.{Node}
use Rattle.kasa_graph.specs.declared.pattern.LinkTest.{LinkTest}
use Rattle.kasa_graph.specs.declared.pattern.LinkTest.TheVariants as test
use Rattle.kasa_graph.specs.Signature.{TypeEntry}
use Rattle.kasa_graph.specs.Pattern.{agent_at, link_test, types_of, LinkImplies, IsPatternOver, HasNodeSite}
use Rattle.kasa_graph.proofs.TestLemmas.{agent_at-types, length-types}
use Rattle.kasa_graph.proofs.SiteLemmas.{HasNodeSite-over, HasSite-over, type_of_node_site}
use Rattle.kasa_rules.specs.declared.rule.Fate.{Fate}
use Rattle.kasa_rules.specs.declared.rule.Fate.TheVariants.{Deleted, Kept}
use Rattle.kasa_rules.specs.Rule.{RuleParts, fate_at, action_at, written_state, written_link, touches, touched, IsRuleOver}
use Rattle.kasa_pre.specs.Acts.{LeavesOpen}
use Rattle.kasa_pre.proofs.AskedSteps.{site_of_bond}
use Rattle.kasa_influence.specs.inner.Ask.{IsOpen}

pub not_touched : (r : RuleParts) (n s : ℕ) → fate_at r n ≢ Some Deleted → written_link r n s ≡ None → touched r n s ≡ false
unfolding touched
not_touched r n s stays none = rw none (by_fate (fate_at r n) stays)
  where
    by_fate : (fate : Option Fate) → fate ≢ Some Deleted → touches fate None ≡ false
    by_fate (Some Deleted) ne = absurd (ne refl)
    by_fate (Some Kept) ne = refl
    by_fate None ne = refl

-- a rule does nothing past its left nodes
module _ (r : RuleParts) (n : ℕ) (past : length r.actions ≤ n) where
  pub fate_at-past : fate_at r n ≡ None
  unfolding fate_at
  fate_at-past = rw (slice_get_past r.actions n past) refl

  pub written_state-past : (s : ℕ) → written_state r n s ≡ None
  unfolding written_state action_at
  written_state-past s = rw (slice_get_past r.actions n past) refl

  pub written_link-past : (s : ℕ) → written_link r n s ≡ None
  unfolding written_link action_at
  written_link-past s = rw (slice_get_past r.actions n past) refl

  pub touched-past : (s : ℕ) → touched r n s ≡ false
  touched-past s = not_touched r n s (λ f. let none = fate_at-past in cc) (written_link-past s)

module _ (sig : List TypeEntry) (r : RuleParts) (rule : IsRuleOver sig r) (g : List Node) (over : IsPatternOver sig g) (more : List ℕ) (types : types_of g ≡ types_of r.left ++ more) where
  -- a left node has its type in a pattern that has the left nodes first
  pub left_type : (n : ℕ) → n < length r.left → agent_at g n ≡ agent_at r.left n
  left_type n within =
      let count = length-types r.left in
      agent_at-types g n ∙ rw types (slice_get-append_left (types_of r.left) more n (omega arith)) ∙ sym (agent_at-types r.left n)

  -- what a touched site has as its partner by a site that isn't touched leaves the site open
  pub IsOpen-partner : (p s m t : ℕ) → LinkImplies g (link_test g m t) (link_test r.left m t) → link_test g p s ≡ test.To m t → touched r m t ≡ true → touched r p s ≡ false → IsOpen r (record { node = m; site = t })
  IsOpen-partner p s m t left bond touches untouched = (here, touches, leaves (link_test r.left m t) refl (rw back at left))
    where
      back : link_test g m t ≡ test.To p s
      back = over.linked.both_ways p s m t bond

      within : m < length r.left
      within = elim (below_or m (length r.left)) [
        | inl below ↦ below
        | inr k ↦ absurd (let none = touched-past r m (let count = rule.is_rule.actions in let e = k.1 in omega arith) t in cc)
      ]

      here : HasNodeSite r.left m t
      here =
          let there = site_of_bond g m t p s back in
          let a = type_of_node_site g m t there in
          HasNodeSite-over sig r.left rule.left m a.0 t (sym (left_type m within) ∙ a.1) (HasSite-over sig g over m a.0 t a.1 there)

      leaves : (b : LinkTest) → link_test r.left m t ≡ b → LinkImplies g (test.To p s) b → LeavesOpen b
      leaves test.Any e implied = tt
      leaves test.Free e implied = absurd implied
      leaves test.Bound e implied = tt
      leaves (test.Partner b y) e implied = tt
      leaves (test.To k u) e implied =
          let whole = rule.is_rule.whole_bonds m t k u e in
          let node : p ≡ k = implied.0 in
          let site : s ≡ u = implied.1 in
          absurd (let f : touched r k u ≡ true = sym whole ∙ touches in let h : touched r k u ≡ false = rw (← node, ← site) untouched in cc)

-- What a rule writes at a stand, and which tests of a node that meets.
use Rattle.std.proofs.Common.{◌≡◌, ℕ, ◌<◌, ◌≤◌, inl, inr, List, length, sym, ◌∙◌, arith}
use Rattle.std.specs.Prelude.{Some}
use Rattle.kasa_graph.specs.declared.pattern.Node.{Node}
use Rattle.kasa_graph.specs.declared.pattern.StateTest.TheVariants as state
use Rattle.kasa_graph.specs.Signature.{TypeEntry, state_counts}
use Rattle.kasa_graph.specs.Pattern.{agent_at}
use Rattle.kasa_graph.proofs.SiteLemmas.{HasNodeSite-over}
use Rattle.kasa_rules.specs.Rule.{RuleParts, IsRuleOver}
use Rattle.kasa_pre.specs.declared.Stand.{Stand}
use Rattle.kasa_pre.specs.declared.Stand.TheVariants.{Left, Made, Outside}
use Rattle.kasa_pre.specs.Asked.{HasStandSite}
use Rattle.kasa_pre.proofs.AskedLemmas.{made_site_exists}
use Rattle.kasa_influence.specs.Gain.{IsCreated, MeetsWritten}
use Rattle.kasa_influence.specs.inner.Ask.{IsOne}
use Rattle.kasa_influence.specs.inner.Makes.{Fits, TestsWrittenAt}
use Rattle.kasa_influence.proofs.OneLemmas.{below_tested}

module _ (sig : List TypeEntry) (r : RuleParts) (rule : IsRuleOver sig r) (v : List Node) (a : ℕ) (typed : agent_at v 0 ≡ Some a) where
  -- a node that may have the stand has its sites there
  pub HasStandSite-fits : (stand : Stand) (s : ℕ) → Fits r v stand → s < length (state_counts sig a) → HasStandSite r stand s
  HasStandSite-fits (Left n) s fits within = HasNodeSite-over sig r.left rule.left n a s (fits a typed).1 within
  HasStandSite-fits (Made k) s fits within = made_site_exists sig r rule k a s (fits a typed) within
  HasStandSite-fits Outside s fits within = tt

  module _ (one : IsOne sig v) (stand : Stand) where
    -- it meets what is written where it tests a site at which something is written
    pub meets_at : (s : ℕ) → TestsWrittenAt r v stand s → MeetsWritten r v stand
    meets_at s (inl (u, w, tested, written)) = inr (inl (s, u, w, tested, written))
    meets_at s (inr (w, asks, written)) = inr (inr (s, w, asks, written))

    pub meets_none : (k : ℕ) → length (state_counts sig a) ≤ k → ¬ IsCreated stand → ((s : ℕ) → s < k → ¬ TestsWrittenAt r v stand s) → ¬ MeetsWritten r v stand
    meets_none k past old none (inl created) = old created
    meets_none k past old none (inr (inl (s, u, w, tested, written))) =
        let within = below_tested sig v one a s typed (inl (λ any. let e : state.Is w ≡ state.Any = sym tested ∙ any in cc)) in
        none s (omega arith) (inl (u, w, tested, written))
    meets_none k past old none (inr (inr (s, w, asks, written))) =
        let within = below_tested sig v one a s typed (inr asks) in
        none s (omega arith) (inr (w, asks, written))

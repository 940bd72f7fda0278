-- What is asked by all freed tests, by all sites of a node and by all nodes, from what each asks.
use Rattle.std.proofs.Common.{◌≡◌, ℕ, ◌+◌, ◌<◌, ◌≤◌, ◌⊎◌, inl, inr, List, refl, sym, ◌∙◌, length, arith}
use Rattle.std.specs.Prelude.{Bool, true, Option, Some, None, MatchOption, slice_get}
use Rattle.std.proofs.lemmas.Option.{same_Some, slice_get_within}
use Rattle.kasa_graph.specs.declared.pattern.StateTest.TheVariants as state
use Rattle.kasa_graph.specs.declared.pattern.LinkTest.TheVariants.{Any}
use Rattle.kasa_graph.specs.declared.pattern.Node.{Node}
use Rattle.kasa_graph.specs.Signature.{TypeEntry, HasSite, state_counts}
use Rattle.kasa_graph.specs.Pattern.{agent_at, state_test, link_test}
use Rattle.kasa_graph.proofs.SiteLemmas.{HasSite-over}
use Rattle.kasa_rules.specs.declared.rule.Written.{Written}
use Rattle.kasa_rules.specs.declared.rule.Written.TheVariants as written
use Rattle.kasa_rules.specs.Rule.{RuleParts, written_state, written_link, made_link}
use Rattle.kasa_pre.specs.declared.Stand.{Stand}
use Rattle.kasa_pre.specs.declared.Stand.TheVariants.{Left, Made, Outside}
use Rattle.kasa_pre.specs.declared.FreedBy.{FreedBy}
use Rattle.kasa_pre.specs.Before.{place_of, WrittenMeets, StateBefore, LinkBefore}
use Rattle.kasa_pre.specs.Narrow.{IsNarrowed, Narrows}
use Rattle.kasa_pre.specs.Asked.{IsAsked, SiteBefore, NodeBefore, NodesBefore, SourceBefore, SourcesBefore}
use Rattle.kasa_pre.proofs.NarrowLemmas.{Narrows-same}
use Rattle.kasa_pre.proofs.AskedLemmas.{place_of-outside}
use Rattle.kasa_graph.proofs.ShapeLemmas.{site_or_any}

-- the freed test of a number
abbrev pub SourceBelow : RuleParts → List Stand → List FreedBy → ℕ → List Node → Type 0
SourceBelow r stands freed k h = (f : FreedBy) → slice_get freed k ≡ Some f → SourceBefore r stands f h

module _ (sig : List TypeEntry) (r : RuleParts) (stands : List Stand) (freed : List FreedBy) (old : List Node) where
  pub sources-all : (n : ℕ) (new : List Node) → length freed ≤ n → IsNarrowed sig old (λ h. (k : ℕ) → k < n → SourceBelow r stands freed k h) new → IsNarrowed sig old (SourcesBefore r stands freed) new
  sources-all n new past is = Narrows-same sig old (λ h. (k : ℕ) → k < n → SourceBelow r stands freed k h) (SourcesBefore r stands freed) true new
      (λ h implied all f has. all has.0 (let within = slice_get_within freed has.0 f has.1 in omega arith) f has.1)
      (λ h implied all k below f at. all f (k, at)) is

  -- the freed test of a number alone
  pub source-one : (k : ℕ) (f : FreedBy) (b : Bool) (new : List Node) → slice_get freed k ≡ Some f → Narrows sig old (SourceBefore r stands f) b new → Narrows sig old (SourceBelow r stands freed k) b new
  source-one k f b new at is = Narrows-same sig old (SourceBefore r stands f) (SourceBelow r stands freed k) b new
      (λ h implied x f' at'. let same : f ≡ f' = same_Some f f' (sym at ∙ at') in rw (← same) x)
      (λ h implied x. x f at) is

-- ---- sites

-- what a site of a node asks, whatever the node's stand
abbrev pub NodeSiteBefore : RuleParts → List Node → List Stand → List FreedBy → ℕ → ℕ → List Node → Type 0
NodeSiteBefore r v stands freed i s h = (stand : Stand) → slice_get stands i ≡ Some stand → SiteBefore r v stands freed i stand s h

written_any : (r : RuleParts) (stands : List Stand) (w : Written) → WrittenMeets r stands w Any
written_any r stands written.Free = tt
written_any r stands (written.To e y) = tt

module _ (sig : List TypeEntry) (r : RuleParts) (v : List Node) (stands : List Stand) (places : List (Option ℕ)) (asked : IsAsked sig r v stands places) (freed : List FreedBy) where
  -- where there are no tests, nothing is asked
  pub untested_state : (i s a : ℕ) (stand : Stand) (h : List Node) → slice_get stands i ≡ Some stand → agent_at v i ≡ Some a → StateBefore r h (place_of r stands i) stand s state.Any
  untested_state i s a (Left n) h at typed = by (written_state r n s)
    where
      by : (o : Option ℕ) → MatchOption o (Unit {0}) (λ u. Unit {0})
      by None = tt
      by (Some u) = tt
  untested_state i s a (Made k) h at typed = tt
  untested_state i s a Outside h at typed = let j = place_of-outside sig r v stands places asked i a at typed in (length r.left + j.0, j.1, tt)

  pub untested_link : (i s a : ℕ) (stand : Stand) (h : List Node) → slice_get stands i ≡ Some stand → agent_at v i ≡ Some a → LinkBefore r h stands (place_of r stands i) stand s Any
  untested_link i s a (Left n) h at typed = by (written_link r n s)
    where
      by : (o : Option Written) → MatchOption o (Unit {0}) (λ w. WrittenMeets r stands w Any)
      by None = tt
      by (Some w) = written_any r stands w
  untested_link i s a (Made k) h at typed = written_any r stands (made_link r k s)
  untested_link i s a Outside h at typed = let j = place_of-outside sig r v stands places asked i a at typed in (length r.left + j.0, j.1, tt)

  site_or_untested : (i s a : ℕ) → agent_at v i ≡ Some a → HasSite sig a s ⊎ ((state_test v i s ≡ state.Any) × (link_test v i s ≡ Any))
  site_or_untested i s a typed = elim (site_or_any v i s) [
    | inl x ↦ inl (HasSite-over sig v asked.over i a s typed (rw x.1 refl))
    | inr none ↦ inr none
  ]

  -- the sites of a node's type are all
  pub sites-all : (i a n : ℕ) (old new : List Node) → agent_at v i ≡ Some a → length (state_counts sig a) ≤ n → IsNarrowed sig old (λ h. (s : ℕ) → s < n → NodeSiteBefore r v stands freed i s h) new → IsNarrowed sig old (NodeBefore r v stands freed i) new
  sites-all i a n old new typed past is = Narrows-same sig old (λ h. (s : ℕ) → s < n → NodeSiteBefore r v stands freed i s h) (NodeBefore r v stands freed i) true new
      (λ h implied all stand at s. each h all stand at s)
      (λ h implied all s below stand at. all stand at s) is
    where
      each : (h : List Node) → ((s : ℕ) → s < n → NodeSiteBefore r v stands freed i s h) → (stand : Stand) → slice_get stands i ≡ Some stand → (s : ℕ) → SiteBefore r v stands freed i stand s h
      each h all stand at s = elim (site_or_untested i s a typed) [
        | inl has ↦ all s (omega arith) stand at
        | inr none ↦ (rw none.0 (untested_state i s a stand h at typed), λ against. rw none.1 (untested_link i s a stand h at typed))
      ]

  -- a site of the node with this stand
  pub site-one : (i s : ℕ) (stand : Stand) (b : Bool) (old new : List Node) → slice_get stands i ≡ Some stand → Narrows sig old (SiteBefore r v stands freed i stand s) b new → Narrows sig old (NodeSiteBefore r v stands freed i s) b new
  site-one i s stand b old new at is = Narrows-same sig old (SiteBefore r v stands freed i stand s) (NodeSiteBefore r v stands freed i s) b new
      (λ h implied x stand' at'. let same : stand ≡ stand' = same_Some stand stand' (sym at ∙ at') in rw (← same) x)
      (λ h implied x. x stand at) is

  pub nodes-all : (n : ℕ) (old new : List Node) → length v ≤ n → IsNarrowed sig old (λ h. (i : ℕ) → i < n → NodeBefore r v stands freed i h) new → IsNarrowed sig old (NodesBefore r v stands freed) new
  nodes-all n old new past is = Narrows-same sig old (λ h. (i : ℕ) → i < n → NodeBefore r v stands freed i h) (NodesBefore r v stands freed) true new
      (λ h implied all i stand at s. all i (let within = slice_get_within stands i stand at in let count = asked.stand.count in omega arith) stand at s)
      (λ h implied all i below. all i) is

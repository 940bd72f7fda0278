-- What a rule asks of a pattern before, step by step, as narrowing.
use Rattle.std.proofs.Common.{◌≡◌, ℕ, ◌↔◌, List, refl, sym, ◌∙◌}
use Rattle.std.specs.Prelude.{Bool, Option, Some, None, IsTrue, IsSome, slice_get}
use Rattle.std.specs.Option.{option_map_or}
use Rattle.std.proofs.lemmas.Option.{same_Some}
use Rattle.kasa_graph.specs.declared.pattern.StateTest.{StateTest}
use Rattle.kasa_graph.specs.declared.pattern.LinkTest.{LinkTest}
use Rattle.kasa_graph.specs.declared.pattern.LinkTest.TheVariants.{Any, To}
use Rattle.kasa_graph.specs.declared.pattern.SiteTests.{SiteTests}
use Rattle.kasa_graph.specs.declared.pattern.Node.{Node}
use Rattle.kasa_graph.specs.declared.refine.Test.TheVariants.{State, Link}
use Rattle.kasa_graph.specs.Signature.{TypeEntry}
use Rattle.kasa_graph.specs.Pattern.{site_at, link_test, HasNodeSite, IsPatternOver, Implies}
use Rattle.kasa_graph.specs.Embedding.{MeetsState}
use Rattle.kasa_graph.specs.Meet.{HasTest}
use Rattle.kasa_graph.proofs.TestLemmas.{agent_at-same}
use Rattle.kasa_graph.proofs.SiteLemmas.{HasNodeSite-over, HasSite-over, type_of_node_site}
use Rattle.kasa_graph.proofs.MeetLemmas.{LinkImplies-refl}
use Rattle.kasa_rules.specs.declared.rule.Written.{Written}
use Rattle.kasa_rules.specs.Rule.{RuleParts, written_state, made_state}
use Rattle.kasa_pre.specs.declared.Stand.{Stand}
use Rattle.kasa_pre.specs.declared.Stand.TheVariants.{Left, Made, Outside}
use Rattle.kasa_pre.specs.declared.FreedBy.{FreedBy}
use Rattle.kasa_pre.specs.Before.{place_of, link_written, WrittenMeets, IsFreed, StateBefore, LinkBefore}
use Rattle.kasa_pre.specs.Narrow.{IsNarrowed, HasNone, Narrows}
use Rattle.kasa_pre.specs.Asked.{HasNodes, link_at, LinkAt, SourceBefore}
use Rattle.kasa_pre.proofs.Implied.{To-implied}
use Rattle.kasa_pre.proofs.NarrowLemmas.{IsNarrowed-start, Narrows-same, Narrows-fact}
use Rattle.kasa_pre.proofs.AskedLemmas.{place_of-left, link_at-implied, implied-link_at, link_at-none}

-- a bond stands at a site that exists
pub site_of_bond : (h : List Node) (n s m t : ℕ) → link_test h n s ≡ To m t → HasNodeSite h n s
unfolding link_test
site_of_bond h n s m t e = by (site_at h n s) e
  where
    by : (o : Option SiteTests) → option_map_or (λ (x : SiteTests). x.link) o Any ≡ To m t → IsSome o
    by None bond = absurd cc
    by (Some x) bond = refl

-- patterns with the same types have the same sites
pub site_shared : (sig : List TypeEntry) (g h : List Node) → IsPatternOver sig g → IsPatternOver sig h → Implies h g → (n s : ℕ) → HasNodeSite h n s → HasNodeSite g n s
site_shared sig g h over over' implied n s has =
    let a = type_of_node_site h n s has in
    HasNodeSite-over sig g over n a.0 s (sym (agent_at-same g h implied.types n) ∙ a.1) (HasSite-over sig h over' n a.0 s a.1 has)

pub HasNodes-narrowed : (sig : List TypeEntry) (r : RuleParts) (v : List Node) (stands : List Stand) (old new : List Node) (C : List Node → Type 0) → HasNodes sig r v stands old → IsNarrowed sig old C new → HasNodes sig r v stands new
HasNodes-narrowed sig r v stands old new C nodes is = record { valid = is.valid; types = is.implies.types ∙ nodes.types }

module _ (sig : List TypeEntry) (r : RuleParts) (v : List Node) (stands : List Stand) (g : List Node) (over : IsPatternOver sig g) where
  -- ---- sources

  module _ (f : FreedBy) where
    pub source-unplaced : place_of r stands f.node ≡ None → IsNarrowed sig g (SourceBefore r stands f) g
    source-unplaced none = IsNarrowed-start sig g (SourceBefore r stands f) over (λ h p at. absurd cc)

    pub source-no_site : (p : ℕ) → place_of r stands f.node ≡ Some p → ¬ HasNodeSite g p f.site → HasNone sig g (SourceBefore r stands f)
    source-no_site p at against h valid implied source = against (site_shared sig g h over valid implied p f.site (site_of_bond h p f.site f.from f.«at» (source p at)))

    pub source-no_far : (p : ℕ) → place_of r stands f.node ≡ Some p → ¬ HasNodeSite g f.from f.«at» → HasNone sig g (SourceBefore r stands f)
    source-no_far p at against h valid implied source = against (site_shared sig g h over valid implied f.from f.«at» (site_of_bond h f.from f.«at» p f.site (valid.linked.both_ways p f.site f.from f.«at» (source p at))))

    pub source-there : (p : ℕ) (b : Bool) (new : List Node) → place_of r stands f.node ≡ Some p → Narrows sig g (λ h. HasTest h p f.site (Link (To f.from f.«at»))) b new → Narrows sig g (SourceBefore r stands f) b new
    source-there p b new at is = Narrows-same sig g (λ h. HasTest h p f.site (Link (To f.from f.«at»))) (SourceBefore r stands f) b new
        (λ h implied has q at'. let same : p ≡ q = same_Some p q (sym at ∙ at') in rw (← same) (To-implied h (link_test h p f.site) f.from f.«at» has))
        (λ h implied source. rw (source p at) (LinkImplies-refl h (To f.from f.«at»)))
        is

  -- ---- a link test at a place

  module _ (i s : ℕ) (t : LinkTest) where
    pub link-unplaced : place_of r stands i ≡ None → HasNone sig g (λ h. LinkAt h (place_of r stands) i s t)
    link-unplaced none h valid implied (p, at, implies) = absurd cc

    pub link-no_test : link_at (place_of r stands) t ≡ None → HasNone sig g (λ h. LinkAt h (place_of r stands) i s t)
    link-no_test none h valid implied (p, at, implies) = link_at-none (place_of r stands) h (link_test h p s) t none implies

    pub link-there : (p : ℕ) (test : LinkTest) (b : Bool) (new : List Node) → place_of r stands i ≡ Some p → link_at (place_of r stands) t ≡ Some test → Narrows sig g (λ h. HasTest h p s (Link test)) b new → Narrows sig g (λ h. LinkAt h (place_of r stands) i s t) b new
    link-there p test b new at is narrowed = Narrows-same sig g (λ h. HasTest h p s (Link test)) (λ h. LinkAt h (place_of r stands) i s t) b new
        (λ h implied has. (p, at, implied-link_at (place_of r stands) h (link_test h p s) t test is has))
        (λ h implied (q, at', implies). let same : q ≡ p = same_Some q p (sym at' ∙ at) in link_at-implied (place_of r stands) h (link_test h p s) t test is (rw same at implies))
        narrowed

  -- ---- a link test of a node with a stand

  module _ (i s : ℕ) (stand : Stand) (t : LinkTest) (is : slice_get stands i ≡ Some stand) where
    unwritten_to : link_written r stand s ≡ None → (h : List Node) → LinkAt h (place_of r stands) i s t → LinkBefore r h stands (place_of r stands i) stand s t
    unwritten_to none h x = by stand is none
      where
        by : (stand : Stand) → slice_get stands i ≡ Some stand → link_written r stand s ≡ None → LinkBefore r h stands (place_of r stands i) stand s t
        by (Left n) e none =
            let same : x.0 ≡ n = same_Some x.0 n (sym x.1 ∙ place_of-left r stands i n e) in
            rw none (rw same at x.2)
        by (Made k) e none = absurd cc
        by Outside e none = x

    pub unwritten_from : link_written r stand s ≡ None → (h : List Node) → LinkBefore r h stands (place_of r stands i) stand s t → LinkAt h (place_of r stands) i s t
    unwritten_from none h x = by stand is none x
      where
        by : (stand : Stand) → slice_get stands i ≡ Some stand → link_written r stand s ≡ None → LinkBefore r h stands (place_of r stands i) stand s t → LinkAt h (place_of r stands) i s t
        by (Left n) e none x = (n, place_of-left r stands i n e, rw none at x)
        by (Made k) e none x = absurd cc
        by Outside e none x = x

    pub link-unwritten : (b : Bool) (new : List Node) → link_written r stand s ≡ None → Narrows sig g (λ h. LinkAt h (place_of r stands) i s t) b new → Narrows sig g (λ h. LinkBefore r h stands (place_of r stands i) stand s t) b new
    link-unwritten b new none narrowed = Narrows-same sig g (λ h. LinkAt h (place_of r stands) i s t) (λ h. LinkBefore r h stands (place_of r stands i) stand s t) b new
        (λ h implied x. unwritten_to none h x) (λ h implied x. unwritten_from none h x) narrowed

    pub written_is : (w : Written) → link_written r stand s ≡ Some w → (h : List Node) → WrittenMeets r stands w t ↔ LinkBefore r h stands (place_of r stands i) stand s t
    written_is w some h = by stand some
      where
        by : (stand : Stand) → link_written r stand s ≡ Some w → WrittenMeets r stands w t ↔ LinkBefore r h stands (place_of r stands i) stand s t
        by (Left n) e = (λ x. rw e x, λ x. rw e at x)
        by (Made k) e = let same = same_Some _ w e in (λ x. rw same x, λ x. rw same at x)
        by Outside e = absurd cc

    pub link-written : (w : Written) (b : Bool) → link_written r stand s ≡ Some w → IsTrue b ↔ WrittenMeets r stands w t → Narrows sig g (λ h. LinkBefore r h stands (place_of r stands i) stand s t) b g
    link-written w b some tells = Narrows-same sig g (λ _. WrittenMeets r stands w t) (λ h. LinkBefore r h stands (place_of r stands i) stand s t) b g
        (λ h implied x. (written_is w some h).0 x) (λ h implied x. (written_is w some h).1 x) (Narrows-fact sig g (WrittenMeets r stands w t) b over tells)

    -- a freed test asks nothing here
    pub link-freed : (freed : List FreedBy) → IsFreed freed i s → IsNarrowed sig g (λ h. ¬ IsFreed freed i s → LinkBefore r h stands (place_of r stands i) stand s t) g
    link-freed freed is_freed = IsNarrowed-start sig g (λ h. ¬ IsFreed freed i s → LinkBefore r h stands (place_of r stands i) stand s t) over (λ h against. absurd (against is_freed))

    pub link-unfreed : (freed : List FreedBy) (b : Bool) (new : List Node) → ¬ IsFreed freed i s → Narrows sig g (λ h. LinkBefore r h stands (place_of r stands i) stand s t) b new → Narrows sig g (λ h. ¬ IsFreed freed i s → LinkBefore r h stands (place_of r stands i) stand s t) b new
    link-unfreed freed b new against narrowed = Narrows-same sig g (λ h. LinkBefore r h stands (place_of r stands i) stand s t) (λ h. ¬ IsFreed freed i s → LinkBefore r h stands (place_of r stands i) stand s t) b new
        (λ h implied x _. x) (λ h implied x. x against) narrowed

  -- ---- a state test of a node with a stand

  module _ (i s : ℕ) (t : StateTest) where
    pub state-made : (k : ℕ) (b : Bool) → IsTrue b ↔ MeetsState (made_state r k s) t → Narrows sig g (λ h. StateBefore r h (place_of r stands i) (Made k) s t) b g
    state-made k b tells = Narrows-fact sig g (MeetsState (made_state r k s) t) b over tells

    pub state-written : (n u : ℕ) (b : Bool) → written_state r n s ≡ Some u → IsTrue b ↔ MeetsState (Some u) t → Narrows sig g (λ h. StateBefore r h (place_of r stands i) (Left n) s t) b g
    state-written n u b some tells = Narrows-same sig g (λ _. MeetsState (Some u) t) (λ h. StateBefore r h (place_of r stands i) (Left n) s t) b g
        (λ h implied x. rw some x) (λ h implied x. rw some at x) (Narrows-fact sig g (MeetsState (Some u) t) b over tells)

    pub state-unwritten : (n : ℕ) (b : Bool) (new : List Node) → written_state r n s ≡ None → Narrows sig g (λ h. HasTest h n s (State t)) b new → Narrows sig g (λ h. StateBefore r h (place_of r stands i) (Left n) s t) b new
    state-unwritten n b new none narrowed = Narrows-same sig g (λ h. HasTest h n s (State t)) (λ h. StateBefore r h (place_of r stands i) (Left n) s t) b new
        (λ h implied x. rw none x) (λ h implied x. rw none at x) narrowed

    pub state-outside : (p : ℕ) (b : Bool) (new : List Node) → place_of r stands i ≡ Some p → Narrows sig g (λ h. HasTest h p s (State t)) b new → Narrows sig g (λ h. StateBefore r h (place_of r stands i) Outside s t) b new
    state-outside p b new at narrowed = Narrows-same sig g (λ h. HasTest h p s (State t)) (λ h. StateBefore r h (place_of r stands i) Outside s t) b new
        (λ h implied x. (p, at, x)) (λ h implied (q, at', x). let same : q ≡ p = same_Some q p (sym at' ∙ at) in rw same at x) narrowed

    pub state-unplaced : place_of r stands i ≡ None → HasNone sig g (λ h. StateBefore r h (place_of r stands i) Outside s t)
    state-unplaced none h valid implied (p, at, x) = absurd cc

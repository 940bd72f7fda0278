-- Whether tables allow a pattern that implies another and has a property: they do where they allow the most general one.
use Rattle.std.proofs.Common.{ℕ, ◌↔◌, List, refl, ◌∙◌}
use Rattle.std.specs.Prelude.{Bool, false, IsTrue}
use Rattle.kasa_graph.specs.declared.pattern.Node.{Node}
use Rattle.kasa_graph.specs.Signature.{TypeEntry}
use Rattle.kasa_graph.specs.Pattern.{link_test, HasNodeSite, IsPatternOver, Implies}
use Rattle.kasa_graph.specs.declared.pattern.LinkTest.TheVariants.{To}
use Rattle.kasa_graph.specs.declared.refine.Test.TheVariants.{Link}
use Rattle.kasa_graph.specs.Meet.{HasTest}
use Rattle.kasa_graph.proofs.MeetLemmas.{To_implied}
use Rattle.kasa_graph.proofs.SiteLemmas.{HasNodeSite-over, HasSite-over, type_of_node_site}
use Rattle.kasa_graph.proofs.TestLemmas.{agent_at-same}
use Rattle.kasa_families.specs.declared.shape.NodeSite.{NodeSite}
use Rattle.kasa_families.specs.Table.{Table}
use Rattle.kasa_pre.specs.Allowed.{IsAllowed}
use Rattle.kasa_pre.specs.Narrow.{IsNarrowed, HasNone, Narrows}
use Rattle.kasa_pre.proofs.NarrowLemmas.{Narrows-same, Narrows-both}
use Rattle.kasa_pre.proofs.AllowedLemmas.{IsAllowed-general}
use Rattle.kasa_influence.specs.inner.Stops.{AllowsSome, StandsAt, HasPartner}

module _ (sig : List TypeEntry) (tables : List Table) (g : List Node) (C : List Node → Type 0) where
  -- an answer: whether the most general one is allowed, or that there is none
  pub AllowsSome-asked : (b : Bool) (new : List Node) → IsNarrowed sig g C new → IsTrue b ↔ IsAllowed sig tables new → IsTrue b ↔ AllowsSome sig tables g C
  AllowsSome-asked b new is tells = (
    λ y. (new, is.valid, is.implies, is.meets, tells.0 y),
    λ (k, over, implies, c, allowed). tells.1 (IsAllowed-general new k (is.general k over implies c) sig tables allowed),
  )

  pub AllowsSome-none : HasNone sig g C → IsTrue false ↔ AllowsSome sig tables g C
  AllowsSome-none none = (λ yes. absurd cc, λ (k, over, implies, c, allowed). absurd (none k over implies c))

  pub AllowsSome-same : (D : List Node → Type 0) → ((k : List Node) → Implies k g → C k → D k) → AllowsSome sig tables g C → AllowsSome sig tables g D
  AllowsSome-same D same (k, over, implies, c, allowed) = (k, over, implies, same k implies c, allowed)

-- a narrower pattern has the same sites
pub HasNodeSite-narrower : (sig : List TypeEntry) (old new : List Node) → IsPatternOver sig old → IsPatternOver sig new → Implies new old → (n s : ℕ) → HasNodeSite old n s → HasNodeSite new n s
HasNodeSite-narrower sig old new over valid implies n s has =
    let a = type_of_node_site old n s has in
    HasNodeSite-over sig new valid n a.0 s (agent_at-same old new implies.types n ∙ a.1) (HasSite-over sig old over n a.0 s a.1 has)

-- narrowed to where v can stand and has a partner
module _ (sig : List TypeEntry) (v g : List Node) (p s : ℕ) (x : NodeSite) (mid : List Node) where
  pub HasPartner-narrowed : (b : Bool) (new : List Node) → IsNarrowed sig g (StandsAt v p) mid → Narrows sig mid (λ h. HasTest h p s (Link (To x.node x.site))) b new → Narrows sig g (HasPartner v p s x) b new
  HasPartner-narrowed b new first second =
      Narrows-same sig g (λ h. StandsAt v p h × HasTest h p s (Link (To x.node x.site))) (HasPartner v p s x) b new
      (λ h implied both. (both.0, To_implied h (link_test h p s) x.node x.site both.1))
      (λ h implied both. (both.0, rw both.1 (refl, refl)))
      (Narrows-both sig g (StandsAt v p) (λ h. HasTest h p s (Link (To x.node x.site))) mid new b first second)

  pub HasPartner-nowhere : HasNone sig g (StandsAt v p) → HasNone sig g (HasPartner v p s x)
  HasPartner-nowhere none k over implies c = none k over implies c.0

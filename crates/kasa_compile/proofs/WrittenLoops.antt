-- All sites on the right are written, one agent after another.
use Rattle.std.proofs.Common.{◌≡◌, ℕ, ◌+◌, ◌<◌, ◌≤◌, inl, inr, List, length, arith}
use Rattle.std.proofs.lemmas.Option.{slice_get_within}
use Rattle.kasa_graph.specs.declared.pattern.Node.{Node}
use Rattle.kasa_graph.specs.Signature.{TypeEntry}
use Rattle.kasa_graph.proofs.ListLemmas.{below_or}
use Rattle.kasa_rules.specs.Rule.{RuleParts}
use Rattle.kasa_compile.specs.declared.said.SiteSaid.{SiteSaid}
use Rattle.kasa_compile.specs.Sides.{SidesParts}
use Rattle.kasa_compile.specs.Rule.{end_at}
use Rattle.kasa_compile.specs.Building.{Says, IsLater, IsDone, AreAwaiting}
use Rattle.kasa_compile.proofs.StepLemmas.{IsDone-later}

-- the i first sites of the k-th agent are written
abbrev pub AreDone : List TypeEntry → SidesParts → List Node → RuleParts → ℕ → ℕ → Type 0
AreDone sig x g r k i = (j : ℕ) (s : SiteSaid) → j < i → Says x.right k j s → IsDone sig x g r (end_at x.ends k) s.site

pub done_next : (sig : List TypeEntry) (x : SidesParts) (g : List Node) (r h : RuleParts) (k i : ℕ) → IsLater sig x g r h → AreDone sig x g r k i → ((s : SiteSaid) → Says x.right k i s → IsDone sig x g h (end_at x.ends k) s.site) → AreDone sig x g h k (i + 1)
done_next sig x g r h k i step before here j s below says = elim (below_or j i) [
  | inl less ↦ IsDone-later sig x g r h (end_at x.ends k) s.site step (before j s less says)
  | inr far ↦ let e = far.1 in let same : j ≡ i = omega arith in here s (rw same at says)
]

-- all sites of the first agents
abbrev pub AllDone : List TypeEntry → SidesParts → List Node → RuleParts → ℕ → Type 0
AllDone sig x g r k = (n j : ℕ) (s : SiteSaid) → n < k → Says x.right n j s → IsDone sig x g r (end_at x.ends n) s.site

pub all_next : (sig : List TypeEntry) (x : SidesParts) (g : List Node) (r h : RuleParts) (k : ℕ) → IsLater sig x g r h → AllDone sig x g r k → ((j : ℕ) (s : SiteSaid) → Says x.right k j s → IsDone sig x g h (end_at x.ends k) s.site) → AllDone sig x g h (k + 1)
all_next sig x g r h k step before here n j s below says = elim (below_or n k) [
  | inl less ↦ IsDone-later sig x g r h (end_at x.ends n) s.site step (before n j s less says)
  | inr far ↦ let e = far.1 in let same : n ≡ k = omega arith in move n k same says (here j s)
]
  where
    move : (n k : ℕ) → n ≡ k → Says x.right n j s → (Says x.right k j s → IsDone sig x g h (end_at x.ends k) s.site) → IsDone sig x g h (end_at x.ends n) s.site
    move n k same says done = rw same (done (rw same at says))

-- the agent is through when all of its sites are
pub waits_on : (x : SidesParts) (g : List Node) (r : RuleParts) (k i : ℕ) → ((j : ℕ) (s : SiteSaid) → Says x.right k j s → j < i) → AreAwaiting x g r k i → AreAwaiting x g r (k + 1) 0
waits_on x g r k i none before l j s later says = elim (below_or k l) [
  | inl less ↦ before l j s (inl less) says
  | inr far ↦ let e = far.1 in absurd (elim later [ inl more ↦ omega arith | inr at ↦ let same = at.0 in omega arith ])
]

pub all_done : (sig : List TypeEntry) (x : SidesParts) (g : List Node) (r : RuleParts) (k : ℕ) → length x.right ≤ k → AllDone sig x g r k → (n j : ℕ) (s : SiteSaid) → Says x.right n j s → IsDone sig x g r (end_at x.ends n) s.site
all_done sig x g r k all before n j s says = let within = slice_get_within x.right n says.agent says.is_agent in before n j s (omega arith) says

-- What the words on rules say of the lists that a rule has.
use Rattle.std.proofs.Common.{◌≡◌, ℕ, ◌<◌, refl, ◌∙◌, length}
use Rattle.std.specs.Prelude.{Option, Some, None, IsSome, slice_get, slice_index_or, option_and_then}
use Rattle.std.proofs.lemmas.Option.{slice_get_within, get_or_from_slice_get, slice_get-get_or}
use Rattle.kasa_lists.proofs.Options.{some_map}
use Rattle.kasa_rules.specs.declared.rule.Fate.{Fate}
use Rattle.kasa_rules.specs.declared.rule.SiteAction.{SiteAction}
use Rattle.kasa_rules.specs.declared.rule.NodeAction.{NodeAction}
use Rattle.kasa_rules.specs.declared.rule.MadeSite.{MadeSite}
use Rattle.kasa_rules.specs.declared.rule.MadeAgent.{MadeAgent}
use Rattle.kasa_rules.specs.Rule.{RuleParts, fate_at, action_at, written_state, written_link, made_type, made_site, made_state, made_link}

-- ---- what is written at a site of a left node

pub fate_at-of : (r : RuleParts) (n : ℕ) (x : NodeAction) → slice_get r.actions n ≡ Some x → fate_at r n ≡ Some x.fate
unfolding fate_at
fate_at-of r n x e = rw e refl

pub fate_bound : (r : RuleParts) (n : ℕ) (f : Fate) → fate_at r n ≡ Some f → n < length r.actions
unfolding fate_at
fate_bound r n f e = let x = some_map (λ (x : NodeAction). x.fate) (slice_get r.actions n) f e in slice_get_within r.actions n x.0 x.1

pub action_at-is : (r : RuleParts) (n s : ℕ) → action_at r n s ≡ option_and_then (λ (x : NodeAction). slice_get x.sites s) (slice_get r.actions n)
unfolding action_at
action_at-is r n s = refl

pub written_state-of : (r : RuleParts) (n s : ℕ) (o : Option SiteAction) → o ≡ action_at r n s → option_and_then (λ (x : SiteAction). x.state) o ≡ written_state r n s
unfolding written_state
written_state-of r n s o e = rw e refl

pub written_link-of : (r : RuleParts) (n s : ℕ) (o : Option SiteAction) → o ≡ action_at r n s → option_and_then (λ (x : SiteAction). x.link) o ≡ written_link r n s
unfolding written_link
written_link-of r n s o e = rw e refl

-- ---- created agents

pub made_type-of : (r : RuleParts) (k : ℕ) (x : MadeAgent) → slice_get r.made k ≡ Some x → made_type r k ≡ Some x.agent
unfolding made_type
made_type-of r k x e = rw e refl

-- a created agent that has the site
pub has_made : (r : RuleParts) (k s : ℕ) → IsSome (made_site r k s) → (x : MadeAgent) × (y : MadeSite) × (slice_get r.made k ≡ Some x) × (slice_get x.sites s ≡ Some y)
unfolding made_site
has_made r k s has = agent (slice_get r.made k) refl has
  where
    site : (x : MadeAgent) → slice_get r.made k ≡ Some x → (o : Option MadeSite) → slice_get x.sites s ≡ o → IsSome o → (z : MadeAgent) × (y : MadeSite) × (slice_get r.made k ≡ Some z) × (slice_get z.sites s ≡ Some y)
    site x e None f h = absurd cc
    site x e (Some y) f h = (x, y, e, f)

    agent : (o : Option MadeAgent) → slice_get r.made k ≡ o → IsSome (option_and_then (λ (x : MadeAgent). slice_get x.sites s) o) → (z : MadeAgent) × (y : MadeSite) × (slice_get r.made k ≡ Some z) × (slice_get z.sites s ≡ Some y)
    agent None e h = absurd cc
    agent (Some x) e h = site x e (slice_get x.sites s) refl h

pub made_bound : (r : RuleParts) (k s : ℕ) → IsSome (made_site r k s) → k < length r.made
made_bound r k s has = let x = has_made r k s has in slice_get_within r.made k x.0 x.2

-- the agent that is read at the number of one that has the site has it
pub made_site_bound : (r : RuleParts) (k s : ℕ) (d : MadeAgent) → d ≡ slice_index_or r.made k d → IsSome (made_site r k s) → s < length d.sites
made_site_bound r k s d is has =
    let x = has_made r k s has in
    let same : d ≡ x.0 = is ∙ get_or_from_slice_get r.made k x.0 d x.2 in
    rw same (slice_get_within x.0.sites s x.1 x.3)

made_site-of : (r : RuleParts) (k s : ℕ) (d : MadeAgent) (y : MadeSite) → d ≡ slice_index_or r.made k d → k < length r.made → slice_get d.sites s ≡ Some y → made_site r k s ≡ Some y
unfolding made_site
made_site-of r k s d y is within at = rw (slice_get-get_or r.made k d within, ← is) at

pub made_state-of : (r : RuleParts) (k s : ℕ) (d : MadeAgent) (y : MadeSite) → d ≡ slice_index_or r.made k d → IsSome (made_site r k s) → slice_get d.sites s ≡ Some y → y.state ≡ made_state r k s
unfolding made_state
made_state-of r k s d y is has at = rw (made_site-of r k s d y is (made_bound r k s has) at) refl

pub made_link-of : (r : RuleParts) (k s : ℕ) (d : MadeAgent) (y : MadeSite) → d ≡ slice_index_or r.made k d → IsSome (made_site r k s) → slice_get d.sites s ≡ Some y → y.link ≡ made_link r k s
unfolding made_link
made_link-of r k s d y is has at = rw (made_site-of r k s d y is (made_bound r k s has) at) refl

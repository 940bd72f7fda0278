-- What a site of an agent shows after a rule fired comes from what it showed before.
use Rattle.std.proofs.Common.{◌≡◌, ℕ, zero, suc, ◌<◌, List, refl, sym, ap, ◌∙◌, arith, Option, Some, None}
use Rattle.std.specs.Prelude.{MatchOption}
use Rattle.kasa_graph.specs.declared.pattern.Node.{Node}
use Rattle.kasa_graph.specs.declared.pattern.StateTest.{StateTest}
use Rattle.kasa_graph.specs.declared.pattern.LinkTest.{LinkTest}
use Rattle.kasa_graph.specs.declared.pattern.LinkTest.TheVariants as test
use Rattle.kasa_graph.specs.Pattern.{agent_at, StateImplies, LinkImplies, StatesAgree, LinksAgree}
use Rattle.kasa_graph.specs.Embedding.{MeetsState}
use Rattle.kasa_families.specs.declared.row.LocalLink.{LocalLink}
use Rattle.kasa_families.specs.declared.row.LocalLink.TheVariants as local
use Rattle.kasa_families.specs.declared.row.Local.{Local}
use Rattle.kasa_families.specs.Row.{IsLocalState}
use Rattle.kasa_families.specs.Pattern.{local_state_test, local_link_test}
use Rattle.kasa_rules.specs.declared.rule.Written.{Written}
use Rattle.kasa_rules.specs.declared.rule.Written.TheVariants as written
use Rattle.kasa_rules.specs.Rule.{RuleParts}
use Rattle.kasa_pre.specs.declared.Stand.{Stand}
use Rattle.kasa_pre.specs.Place.{ImpliesAt}
use Rattle.kasa_pre.specs.Before.{WrittenMeets}
use Rattle.kasa_pre.proofs.SameRow.{same_state, same_link}
use Rattle.kasa_columns.specs.Comes.{link_shown, state_after, link_after}

-- ---- one local state at a site

-- a written state is the one that the site shows
pub shown_state : (count : Option ℕ) (u : ℕ) (l : Option ℕ) → (k : ℕ) × (count ≡ Some k) × (u < k) → IsLocalState count l → MeetsState (Some u) (local_state_test l) → l ≡ Some u
shown_state count u (Some w) has is met = sym met
shown_state (Some zero) u None has is met = let e = has.1 in let l = has.2 in absurd (let z : zero ≡ has.0 = cc in omega arith)
shown_state (Some (suc k)) u None has is met = let e = is.1 in absurd cc
shown_state None u None has is met = absurd is

-- a written link is the one that the site shows
pub shown_link : (r : RuleParts) (stands : List Stand) (w : Written) (l : LocalLink) → WrittenMeets r stands w (local_link_test l) → l ≡ link_shown r w
shown_link r stands written.Free local.Free met = refl
shown_link r stands written.Free (local.Partner b y) met = absurd met
shown_link r stands (written.To e y) local.Free met = absurd met
shown_link r stands (written.To e y) (local.Partner b z) met = rw met.0 (ap (local.Partner b) (sym met.1))

-- the partner of a site that g bonds to a node
pub partner_was : (g : List Node) (m t : ℕ) (l : LocalLink) → LinksAgree g (test.To m t) (local_link_test l) → (b : ℕ) × (agent_at g m ≡ Some b) × (l ≡ local.Partner b t)
partner_was g m t local.Free agree = absurd agree
partner_was g m t (local.Partner b y) agree = (b, agree.0, ap (local.Partner b) (sym agree.1))

-- the state that a site shows is the written one, or that of the stored row
pub state_comes : (count : Option ℕ) (a : StateTest) (w l o : Option ℕ) → ((u : ℕ) → w ≡ Some u → (k : ℕ) × (count ≡ Some k) × (u < k)) → IsLocalState count l → IsLocalState count o → StatesAgree a (local_state_test o) → MatchOption w (StateImplies a (local_state_test l)) (λ u. MeetsState (Some u) (local_state_test l)) → l ≡ state_after w o
state_comes count a (Some u) l o has is was agree met = shown_state count u l (has u refl) is met
state_comes count a None l o has is was agree implied = same_state count a l o is was implied agree

-- the same of a link that isn't freed
pub link_comes : (r : RuleParts) (stands : List Stand) (g : List Node) (place : ℕ → Option ℕ) (a : LinkTest) (w : Option Written) (l o : LocalLink) → LinksAgree g a (local_link_test o) → MatchOption w (ImpliesAt g place a (local_link_test l)) (λ w. WrittenMeets r stands w (local_link_test l)) → l ≡ link_after r w o
link_comes r stands g place a (Some w) l o agree met = shown_link r stands w l met
link_comes r stands g place a None l o agree implied = same_link g place a l o implied agree

-- what agrees with a test agrees with the left pattern's, which it implies, where a node that this one names has its type there
pub agrees_left : (g left : List Node) (a b : LinkTest) (l : LocalLink) → ((m t c : ℕ) → b ≡ test.To m t → agent_at g m ≡ Some c → agent_at left m ≡ Some c) → LinkImplies g a b → LinksAgree g a (local_link_test l) → LinksAgree left b (local_link_test l)
agrees_left g left a test.Any l typed p q = tt
agrees_left g left test.Free test.Free local.Free typed p q = tt
agrees_left g left test.Free test.Free (local.Partner b y) typed p q = absurd q
agrees_left g left test.Bound test.Bound local.Free typed p q = absurd q
agrees_left g left test.Bound test.Bound (local.Partner b y) typed p q = tt
agrees_left g left (test.Partner a x) test.Bound local.Free typed p q = absurd q
agrees_left g left (test.Partner a x) test.Bound (local.Partner b y) typed p q = tt
agrees_left g left (test.To m t) test.Bound local.Free typed p q = absurd q
agrees_left g left (test.To m t) test.Bound (local.Partner b y) typed p q = tt
agrees_left g left (test.Partner a x) (test.Partner b y) local.Free typed p q = absurd q
agrees_left g left (test.Partner a x) (test.Partner b y) (local.Partner c z) typed p q = (sym p.0 ∙ q.0, sym p.1 ∙ q.1)
agrees_left g left (test.To m t) (test.Partner b y) local.Free typed p q = absurd q
agrees_left g left (test.To m t) (test.Partner b y) (local.Partner c z) typed p q = (let e : Some b ≡ Some c = sym p.0 ∙ q.0 in cc, sym p.1 ∙ q.1)
agrees_left g left (test.To m t) (test.To k u) local.Free typed p q = absurd q
agrees_left g left (test.To m t) (test.To k u) (local.Partner c z) typed p q = (typed k u c refl (rw (← p.0) q.0), sym p.1 ∙ q.1)
agrees_left g left _ _ l typed p q = absurd p

pub same_local : (l k : Local) → l.state ≡ k.state → l.link ≡ k.link → l ≡ k
same_local l k e f = λ i. record { state = e i; link = f i }

pub free_link : (l : LocalLink) → local_link_test l ≡ test.Free → l ≡ local.Free
free_link local.Free e = refl
free_link (local.Partner b y) e = absurd cc

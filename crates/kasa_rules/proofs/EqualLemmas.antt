-- The tests of equality on rules and models answer whether the two are equal.
use Rattle.std.specs.Prelude.{◌≡◌, refl, nat_eq, ◌==◌}
use Rattle.std.specs.Bool.{Decides}
use Rattle.std.specs.Cmp.Lexicographic.{pointwise_decides, bytes_decides}
use Rattle.std.proofs.Common.{ap}
use Rattle.std.proofs.lemmas.Bool.Decides.{Decides-eqb, Decides-and}
use Rattle.kasa_graph.proofs.EqualLemmas.{told, same_option, same_signature, same_pattern, same_mixture}
use Rattle.kasa_rules.specs.declared.rule.Fate.{Fate}
use Rattle.kasa_rules.specs.declared.rule.Fate.TheVariants.{Deleted, Kept}
use Rattle.kasa_rules.specs.declared.rule.End.{End}
use Rattle.kasa_rules.specs.declared.rule.End.TheVariants.{Left, Made}
use Rattle.kasa_rules.specs.declared.rule.Written.{Written}
use Rattle.kasa_rules.specs.declared.rule.Written.TheVariants.{Free, To}
use Rattle.kasa_rules.specs.declared.rule.SiteAction.{SiteAction}
use Rattle.kasa_rules.specs.declared.rule.NodeAction.{NodeAction}
use Rattle.kasa_rules.specs.declared.rule.MadeSite.{MadeSite}
use Rattle.kasa_rules.specs.declared.rule.MadeAgent.{MadeAgent}
use Rattle.kasa_rules.specs.Rule.{RuleParts}
use Rattle.kasa_rules.specs.ModelParts.{ModelParts}
use Rattle.kasa_rules.specs.contracts.rule.FatePartialEq.TheImpl as fate
use Rattle.kasa_rules.specs.contracts.rule.EndPartialEq.TheImpl as ending
use Rattle.kasa_rules.specs.contracts.rule.WrittenPartialEq.TheImpl as written
use Rattle.kasa_rules.specs.contracts.rule.SiteActionPartialEq.TheImpl as site_action
use Rattle.kasa_rules.specs.contracts.rule.NodeActionPartialEq.TheImpl as node_action
use Rattle.kasa_rules.specs.contracts.rule.MadeSitePartialEq.TheImpl as made_site
use Rattle.kasa_rules.specs.contracts.rule.MadeAgentPartialEq.TheImpl as made_agent
use Rattle.kasa_rules.specs.contracts.rule.RulePartialEq.TheImpl as rule
use Rattle.kasa_rules.specs.contracts.model.ModelPartialEq.TheImpl as model

-- ---- what is written

same_fate : (a b : Fate) → Decides ((fate.ghosts).eq a b) (a ≡ b)
same_fate Deleted Deleted = (λ e. refl, λ e. refl)
same_fate Deleted Kept = (λ e. absurd cc, λ e. absurd cc)
same_fate Kept Deleted = (λ e. absurd cc, λ e. absurd cc)
same_fate Kept Kept = (λ e. refl, λ e. refl)

same_end : (e f : End) → Decides ((ending.ghosts).eq e f) (e ≡ f)
same_end (Left n) (Left m) = told (n == m) (Decides-eqb n m) (λ e. ap Left e) (λ e. cc)
same_end (Left n) (Made k) = (λ e. absurd cc, λ e. absurd cc)
same_end (Made k) (Left m) = (λ e. absurd cc, λ e. absurd cc)
same_end (Made k) (Made l) = told (k == l) (Decides-eqb k l) (λ e. ap Made e) (λ e. cc)

same_written : (w v : Written) → Decides ((written.ghosts).eq w v) (w ≡ v)
same_written Free Free = (λ e. refl, λ e. refl)
same_written Free (To f t) = (λ e. absurd cc, λ e. absurd cc)
same_written (To e s) Free = (λ e. absurd cc, λ e. absurd cc)
same_written (To e s) (To f t) = told ((written.ghosts).eq (To e s) (To f t)) (Decides-and _ _ (same_end e f) (Decides-eqb s t)) (λ e. λ i. To (e.0 i) (e.1 i)) (λ e. (cc, cc))

same_site_action : (x y : SiteAction) → Decides ((site_action.ghosts).eq x y) (x ≡ y)
same_site_action x y =
    told ((site_action.ghosts).eq x y) (Decides-and _ _ (same_option nat_eq Decides-eqb x.state y.state) (same_option (written.ghosts).eq same_written x.link y.link))
    (λ e. λ i. record { state = e.0 i; link = e.1 i }) (λ e. (ap (λ (x : SiteAction). x.state) e, ap (λ (x : SiteAction). x.link) e))

same_node_action : (x y : NodeAction) → Decides ((node_action.ghosts).eq x y) (x ≡ y)
same_node_action x y =
    told ((node_action.ghosts).eq x y) (Decides-and _ _ (same_fate x.fate y.fate) (pointwise_decides same_site_action x.sites y.sites))
    (λ e. λ i. record { fate = e.0 i; sites = e.1 i }) (λ e. (ap (λ (x : NodeAction). x.fate) e, ap (λ (x : NodeAction). x.sites) e))

-- ---- what is created

same_made_site : (x y : MadeSite) → Decides ((made_site.ghosts).eq x y) (x ≡ y)
same_made_site x y =
    told ((made_site.ghosts).eq x y) (Decides-and _ _ (Decides-eqb x.states y.states) (Decides-and _ _ (same_option nat_eq Decides-eqb x.state y.state) (same_written x.link y.link)))
    (λ e. λ i. record { states = e.0 i; state = e.1.0 i; link = e.1.1 i })
    (λ e. (ap (λ (x : MadeSite). x.states) e, (ap (λ (x : MadeSite). x.state) e, ap (λ (x : MadeSite). x.link) e)))

same_made_agent : (x y : MadeAgent) → Decides ((made_agent.ghosts).eq x y) (x ≡ y)
same_made_agent x y =
    told ((made_agent.ghosts).eq x y) (Decides-and _ _ (Decides-eqb x.agent y.agent) (pointwise_decides same_made_site x.sites y.sites))
    (λ e. λ i. record { agent = e.0 i; sites = e.1 i }) (λ e. (ap (λ (x : MadeAgent). x.agent) e, ap (λ (x : MadeAgent). x.sites) e))

-- ---- rules and models

pub same_rule : (r q : RuleParts) → Decides ((rule.ghosts).eq r q) (r ≡ q)
same_rule r q =
    told ((rule.ghosts).eq r q)
    (Decides-and _ _ (bytes_decides r.name q.name) (Decides-and _ _ (same_pattern r.left q.left) (Decides-and _ _ (pointwise_decides same_node_action r.actions q.actions) (pointwise_decides same_made_agent r.made q.made))))
    (λ e. λ i. record { name = e.0 i; left = e.1.0 i; actions = e.1.1.0 i; made = e.1.1.1 i })
    (λ e. (ap (λ (r : RuleParts). r.name) e, (ap (λ (r : RuleParts). r.left) e, (ap (λ (r : RuleParts). r.actions) e, ap (λ (r : RuleParts). r.made) e))))

pub same_model : (m k : ModelParts) → Decides ((model.ghosts).eq m k) (m ≡ k)
same_model m k =
    told ((model.ghosts).eq m k)
    (Decides-and _ _ (same_signature m.sig k.sig) (Decides-and _ _ (pointwise_decides same_mixture m.inits k.inits) (Decides-and _ _ (pointwise_decides Decides-eqb m.added k.added) (pointwise_decides same_rule m.rules k.rules))))
    (λ e. λ i. record { sig = e.0 i; inits = e.1.0 i; added = e.1.1.0 i; rules = e.1.1.1 i })
    (λ e. (ap (λ (m : ModelParts). m.sig) e, (ap (λ (m : ModelParts). m.inits) e, (ap (λ (m : ModelParts). m.added) e, ap (λ (m : ModelParts). m.rules) e))))

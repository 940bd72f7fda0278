-- Open sites, left node by left node and site by site.
use Rattle.std.proofs.Common.{◌≡◌, ℕ, ◌+◌, ◌≤◌, List, [], ◌∷◌, ◌++◌, length, refl, sym, arith}
use Rattle.std.specs.Prelude.{◌↔◌, Bool, true, false, IsTrue, Some}
use Rattle.kasa_graph.specs.Signature.{TypeEntry, state_counts}
use Rattle.kasa_graph.specs.Pattern.{agent_at, HasNodeSite}
use Rattle.kasa_graph.proofs.SiteLemmas.{HasSite-over, type_of_node_site}
use Rattle.kasa_graph.specs.Lists.{Has}
use Rattle.kasa_families.specs.declared.shape.NodeSite.{NodeSite}
use Rattle.kasa_rules.specs.Rule.{RuleParts, IsRuleOver}
use Rattle.kasa_influence.specs.inner.Ask.{IsOpen}
use Rattle.kasa_influence.specs.inner.Search.{Adds}
use Rattle.kasa_influence.proofs.BrokenLemmas.{node_within}
use Rattle.kasa_influence.proofs.AddsLemmas.{Below, Adds-push, Adds-none, Adds-more, Adds-same, Adds-all}

-- an open site of a left node, and at a number of it
abbrev pub IsOpenOf : RuleParts → ℕ → NodeSite → Type 0
IsOpenOf r n x = (x.node ≡ n) × IsOpen r x

abbrev pub IsOpenAt : RuleParts → ℕ → ℕ → NodeSite → Type 0
IsOpenAt r n s x = (x ≡ record { node = n; site = s }) × IsOpen r x

module _ (r : RuleParts) (n s : ℕ) (b : Bool) (tells : IsTrue b ↔ IsOpen r (record { node = n; site = s })) (first found : List NodeSite) (before : Adds (Below (IsOpenAt r n) s) first found) where
  pub opened : b ≡ true → Adds (Below (IsOpenAt r n) (s + 1)) first (found ++ record { node = n; site = s } ∷ [])
  opened is = Adds-more (IsOpenAt r n) s first found _ before (Adds-push (IsOpenAt r n s) found (record { node = n; site = s }) (λ x. (λ p. sym p.0, λ e. (sym e, rw (← e) (tells.0 is)))))

  pub closed : b ≡ false → Adds (Below (IsOpenAt r n) (s + 1)) first found
  closed isnt = Adds-more (IsOpenAt r n) s first found found before (Adds-none (IsOpenAt r n s) found (λ x p. let yes = tells.1 (rw p.0 at p.1) in cc))

module _ (sig : List TypeEntry) (r : RuleParts) (rule : IsRuleOver sig r) where
  pub all_sites : (n a k : ℕ) (first found : List NodeSite) → agent_at r.left n ≡ Some a → length (state_counts sig a) ≤ k → Adds (Below (IsOpenAt r n) k) first found → Adds (IsOpenOf r n) first found
  all_sites n a k first found typed past added = Adds-same (Below (IsOpenAt r n) k) (IsOpenOf r n) first found (λ x. (there x, back x)) added
    where
      there : (x : NodeSite) → Below (IsOpenAt r n) k x → IsOpenOf r n x
      there x (s, below, is) = (rw is.0 refl, is.1)

      back : (x : NodeSite) → IsOpenOf r n x → Below (IsOpenAt r n) k x
      back x (e, is) =
          let has : HasNodeSite r.left n x.site = rw (← e) is.0 in
          let within = HasSite-over sig r.left rule.left n a x.site typed has in
          (x.site, (omega arith), (same x e, is))
        where
          same : (x : NodeSite) → x.node ≡ n → x ≡ record { node = n; site = x.site }
          same x e = λ i. record { node = e i; site = x.site }

  pub all_nodes : (k : ℕ) (found : List NodeSite) → length r.left ≤ k → Adds (Below (IsOpenOf r) k) [] found → (x : NodeSite) → Has found x ↔ IsOpen r x
  all_nodes k found past added = Adds-all (IsOpen r) found (Adds-same (Below (IsOpenOf r) k) (IsOpen r) [] found (λ x. (λ (n, below, is). is.1, back x)) added)
    where
      back : (x : NodeSite) → IsOpen r x → Below (IsOpenOf r) k x
      back x is =
          let a = type_of_node_site r.left x.node x.site is.0 in
          let within = node_within sig r.left x.node a.0 a.1 in
          (x.node, (omega arith), (refl, is))

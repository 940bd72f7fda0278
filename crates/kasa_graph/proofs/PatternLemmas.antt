-- Laws of patterns: what the tests are after an update, and that links stay mutual.
use Rattle.std.proofs.Common.{◌≡◌, ◌≢◌, ℕ, zero, suc, ◌⊎◌, inl, inr, List, [], ◌∷◌, ◌++◌, refl, sym, ◌∙◌, map, ◌<◌, length}
use Rattle.std.proofs.lemmas.Option.{slice_get_within, get_or_from_slice_get, slice_get-get_or}
use Rattle.std.specs.Prelude.{slice_index_or, slice_set}
use Rattle.std.specs.Prelude.{Option, Some, None, IsSome, slice_get, option_map}
use Rattle.kasa_graph.specs.declared.pattern.StateTest.{StateTest}
use Rattle.kasa_graph.specs.declared.pattern.LinkTest.{LinkTest}
use Rattle.kasa_graph.specs.declared.pattern.LinkTest.TheVariants.{Any, Free, Bound, Partner, To}
use Rattle.kasa_graph.specs.declared.pattern.SiteTests.{SiteTests}
use Rattle.kasa_graph.specs.declared.pattern.Node.{Node}
use Rattle.kasa_graph.specs.Signature.{TypeEntry}
use Rattle.kasa_lists.specs.Lists.{update}
use Rattle.std.specs.Option.{option_map_or}
use Rattle.kasa_graph.specs.Signature.{state_counts}
use Rattle.kasa_graph.specs.Pattern.{blank_site, site_at, link_test, with_site, with_link, with_state, with_bond, HasNodeSite, IsNoBond, IsPattern, blank_node}
pub use Rattle.kasa_lists.proofs.Numbers.{same_both_or_not as same_site_or_not}
use Rattle.kasa_lists.proofs.Numbers.{same_both_or_not}
use Rattle.kasa_lists.proofs.Updates.{slice_set-update}
use Rattle.kasa_lists.proofs.Grid.{at_both-change_same, at_both-change_other, change-same}

-- ---- nodes with tests are a grid

pub site_at-with_site_same : (g : List Node) (n s : ℕ) (f : SiteTests → SiteTests) → site_at (with_site g n s f) n s ≡ option_map f (site_at g n s)
unfolding site_at
site_at-with_site_same g n s f = at_both-change_same (λ (node : Node). node.sites) (λ node xs. record node { sites = xs }) (λ _ _ _. refl) g n s f

pub site_at-with_site_other : (g : List Node) (n s k u : ℕ) (f : SiteTests → SiteTests) → (n ≡ k → s ≢ u) → site_at (with_site g n s f) k u ≡ site_at g k u
unfolding site_at
site_at-with_site_other g n s k u f ne = at_both-change_other (λ (node : Node). node.sites) (λ node xs. record node { sites = xs }) (λ _ _ _. refl) g n s k u f ne

link_of_changed : (o : Option SiteTests) (t : LinkTest) → IsSome o → (p : Option SiteTests) → p ≡ option_map (λ (x : SiteTests). record x { link = t }) o → (x : SiteTests) × (p ≡ Some x) × (x.link ≡ t)
link_of_changed None t some p e = absurd cc
link_of_changed (Some x) t some p e = (record x { link = t }, e, refl)

pub link_test-with_link_same : (g : List Node) (n s : ℕ) (t : LinkTest) → HasNodeSite g n s → link_test (with_link g n s t) n s ≡ t
unfolding link_test with_link
link_test-with_link_same g n s t has =
    let changed = link_of_changed (site_at g n s) t has _ (site_at-with_site_same g n s (λ x. record x { link = t })) in
    rw changed.1 changed.2

pub link_test-with_link_other : (g : List Node) (n s k u : ℕ) (t : LinkTest) → (n ≡ k → s ≢ u) → link_test (with_link g n s t) k u ≡ link_test g k u
unfolding link_test with_link
link_test-with_link_other g n s k u t ne = rw (site_at-with_site_other g n s k u (λ x. record x { link = t }) ne)

-- the link tests after a change at one site: the new one there, and the old ones elsewhere
pub link_test-with_link : (g : List Node) (n s k u : ℕ) (t : LinkTest) → HasNodeSite g n s → ((n ≡ k) × (s ≡ u) × (link_test (with_link g n s t) k u ≡ t)) ⊎ ((n ≡ k → s ≢ u) × (link_test (with_link g n s t) k u ≡ link_test g k u))
link_test-with_link g n s k u t has =
    elim (same_both_or_not n s k u) [
      | inl e ↦ inl (e.0, e.1, rw (← e.0, ← e.1) (link_test-with_link_same g n s t has))
      | inr ne ↦ inr (ne, link_test-with_link_other g n s k u t ne)
    ]

-- a node with the site, where there is such a site
pub has_node : (g : List Node) (n s : ℕ) → HasNodeSite g n s → (node : Node) × (tests : SiteTests) × (slice_get g n ≡ Some node) × (slice_get node.sites s ≡ Some tests)
unfolding site_at
has_node [] n s has = absurd cc
has_node (node ∷ g) zero s has = some (slice_get node.sites s) refl has
  where
    some : (o : Option SiteTests) → slice_get node.sites s ≡ o → IsSome o → (other : Node) × (tests : SiteTests) × (Some node ≡ Some other) × (slice_get other.sites s ≡ Some tests)
    some None e has' = absurd cc
    some (Some tests) e has' = (node, tests, refl, e)
has_node (node ∷ g) (suc n) s has = has_node g n s has

-- the same links everywhere
pub IsPattern-same_links : (g h : List Node) → ((k u : ℕ) → link_test h k u ≡ link_test g k u) → IsPattern g → IsPattern h
IsPattern-same_links g h same ok = record {
  both_ways = λ n s m t is. same m t ∙ ok.both_ways n s m t (sym (same n s) ∙ is);
  apart = λ n s is. ok.apart n s (sym (same n s) ∙ is);
}

pub IsPattern-[] : IsPattern []
unfolding link_test site_at
IsPattern-[] = record { both_ways = λ n s m t is. cc; apart = λ n s is. cc }

state_keeps_link : (o : Option SiteTests) (test : StateTest) (p : Option SiteTests) → p ≡ option_map (λ (x : SiteTests). record x { state = test }) o → option_map_or (λ (x : SiteTests). x.link) p Any ≡ option_map_or (λ (x : SiteTests). x.link) o Any
state_keeps_link None test p e = rw e
state_keeps_link (Some x) test p e = rw e

pub link_test-with_state : (g : List Node) (n s : ℕ) (test : StateTest) (k u : ℕ) → link_test (with_state g n s test) k u ≡ link_test g k u
unfolding link_test with_state
link_test-with_state g n s test k u =
    elim (same_both_or_not n s k u) [
      | inl e ↦ rw (← e.0, ← e.1) (state_keeps_link (site_at g n s) test _ (site_at-with_site_same g n s (λ x. record x { state = test })))
      | inr ne ↦ rw (site_at-with_site_other g n s k u (λ x. record x { state = test }) ne)
    ]

no_links : (counts : List ℕ) (u : ℕ) → option_map_or (λ (x : SiteTests). x.link) (slice_get (map blank_site counts) u) Any ≡ Any
no_links [] u = refl
no_links (k ∷ counts) zero = refl
no_links (k ∷ counts) (suc u) = no_links counts u

pub link_test-push_blank : (sig : List TypeEntry) (a : ℕ) (g : List Node) (k u : ℕ) → link_test (g ++ blank_node sig a ∷ []) k u ≡ link_test g k u
unfolding link_test site_at blank_node
link_test-push_blank sig a [] zero u = no_links (state_counts sig a) u
link_test-push_blank sig a [] (suc k) u = refl
link_test-push_blank sig a (node ∷ g) zero u = refl
link_test-push_blank sig a (node ∷ g) (suc k) u = link_test-push_blank sig a g k u

no_bond_is : (t : LinkTest) (m u : ℕ) → IsNoBond t → t ≢ To m u
no_bond_is Any m u none e = cc
no_bond_is Free m u none e = cc
no_bond_is Bound m u none e = cc
no_bond_is (Partner b y) m u none e = cc
no_bond_is (To n s) m u none e = none

-- a test that is no bond stays the only change
pub IsPattern-with_link : (g : List Node) (n s : ℕ) (t : LinkTest) → IsPattern g → HasNodeSite g n s → IsNoBond (link_test g n s) → IsNoBond t → IsPattern (with_link g n s t)
IsPattern-with_link g n s t ok has old new = record {
  both_ways = λ k u m v is. elim (link_test-with_link g n s k u t has) [
    | inl at ↦ absurd (no_bond_is t m v new (sym at.2 ∙ is))
    | inr out ↦ let back = ok.both_ways k u m v (sym out.1 ∙ is) in
        link_test-with_link_other g n s m v t (λ (e : n ≡ m) (f : s ≡ v). no_bond_is (link_test g n s) k u old (rw (e, f) back)) ∙ back
  ];
  apart = λ k u is. elim (link_test-with_link g n s k u t has) [
    | inl at ↦ no_bond_is t k u new (sym at.2 ∙ is)
    | inr out ↦ ok.apart k u (sym out.1 ∙ is)
  ];
}

-- an update leaves the sites
pub HasNodeSite-with_link : (g : List Node) (n s k u : ℕ) (t : LinkTest) → HasNodeSite g k u → HasNodeSite (with_link g n s t) k u
unfolding with_link
HasNodeSite-with_link g n s k u t has =
    elim (same_both_or_not n s k u) [
      | inl e ↦ let there : HasNodeSite g n s = rw (e.0, e.1) has in
          let changed = link_of_changed (site_at g n s) t there _ (site_at-with_site_same g n s (λ x. record x { link = t })) in
          rw (← e.0, ← e.1) (rw changed.1 refl)
      | inr ne ↦ rw (site_at-with_site_other g n s k u (λ x. record x { link = t }) ne) has
    ]

-- a bond between two different sites without one
module _ (g : List Node) (n s m t : ℕ) (first : HasNodeSite g n s) (second : HasNodeSite g m t) (differ : n ≡ m → s ≢ t) where
  link_at_first : link_test (with_bond g n s m t) n s ≡ To m t
  link_at_first = link_test-with_link_other (with_link g n s (To m t)) m t n s (To n s) (λ e f. differ (sym e) (sym f)) ∙ link_test-with_link_same g n s (To m t) first

  link_at_second : link_test (with_bond g n s m t) m t ≡ To n s
  link_at_second = link_test-with_link_same (with_link g n s (To m t)) m t (To n s) (HasNodeSite-with_link g n s m t (To m t) second)

  pub link_test-with_bond : (k u : ℕ) → ((n ≡ k) × (s ≡ u)) ⊎ (((m ≡ k) × (t ≡ u)) ⊎ (link_test (with_bond g n s m t) k u ≡ link_test g k u))
  link_test-with_bond k u =
      elim (same_both_or_not n s k u) [
        | inl e ↦ inl e
        | inr ne ↦ elim (same_both_or_not m t k u) [
          | inl e ↦ inr (inl e)
          | inr ne' ↦ inr (inr (link_test-with_link_other (with_link g n s (To m t)) m t k u (To n s) ne' ∙ link_test-with_link_other g n s k u (To m t) ne))
        ]
      ]

  pub IsPattern-with_bond : IsPattern g → IsNoBond (link_test g n s) → IsNoBond (link_test g m t) → IsPattern (with_bond g n s m t)
  IsPattern-with_bond ok open_first open_second = record { both_ways = both; apart = never }
    where
      both : (k u j v : ℕ) → link_test (with_bond g n s m t) k u ≡ To j v → link_test (with_bond g n s m t) j v ≡ To k u
      both k u j v is =
          elim (link_test-with_bond k u) [
            | inl e ↦ let there : To m t ≡ To j v = sym link_at_first ∙ (rw (← e.0, ← e.1) at is) in
                let a : m ≡ j = cc in let b : t ≡ v = cc in
                rw (← a, ← b, ← e.0, ← e.1) link_at_second
            | inr rest ↦ elim rest [
              | inl e ↦ let there : To n s ≡ To j v = sym link_at_second ∙ (rw (← e.0, ← e.1) at is) in
                  let a : n ≡ j = cc in let b : s ≡ v = cc in
                  rw (← a, ← b, ← e.0, ← e.1) link_at_first
              | inr same ↦ let back = ok.both_ways k u j v (sym same ∙ is) in
                  elim (link_test-with_bond j v) [
                    | inl e ↦ absurd (no_bond_is (link_test g n s) k u open_first (rw (e.0, e.1) back))
                    | inr rest' ↦ elim rest' [
                      | inl e ↦ absurd (no_bond_is (link_test g m t) k u open_second (rw (e.0, e.1) back))
                      | inr same' ↦ same' ∙ back
                    ]
                  ]
            ]
          ]

      never : (k u : ℕ) → link_test (with_bond g n s m t) k u ≢ To k u
      never k u is =
          elim (link_test-with_bond k u) [
            | inl e ↦ let there : To m t ≡ To n s = sym link_at_first ∙ (rw (← e.0, ← e.1) at is) in
                let a : n ≡ m = cc in let b : s ≡ t = cc in differ a b
            | inr rest ↦ elim rest [
              | inl e ↦ let there : To n s ≡ To m t = sym link_at_second ∙ (rw (← e.0, ← e.1) at is) in
                  let a : n ≡ m = cc in let b : s ≡ t = cc in differ a b
              | inr same ↦ ok.apart k u (sym same ∙ is)
            ]
          ]

-- a node that has the site, seen by its number
pub node_bound : (g : List Node) (n s : ℕ) → HasNodeSite g n s → n < length g
node_bound g n s has = let node = has_node g n s has in slice_get_within g n node.0 node.2

pub site_bound : (g : List Node) (n s : ℕ) (d : Node) → HasNodeSite g n s → s < length (slice_index_or g n d).sites
site_bound g n s d has =
    let node = has_node g n s has in
    rw (get_or_from_slice_get g n node.0 d node.2) (slice_get_within node.0.sites s node.1 node.3)

pub site_at-slice_get : (g : List Node) (n s : ℕ) (d : Node) → n < length g → site_at g n s ≡ slice_get (slice_index_or g n d).sites s
unfolding site_at
site_at-slice_get g n s d within = rw (slice_get-get_or g n d within) refl

pub with_site-slice_set : (g : List Node) (n s : ℕ) (d : Node) (f : SiteTests → SiteTests) (tests : SiteTests) → HasNodeSite g n s → ((x : SiteTests) → site_at g n s ≡ Some x → f x ≡ tests) → with_site g n s f ≡ slice_set g n (record (slice_index_or g n d) { sites = slice_set (slice_index_or g n d).sites s tests })
with_site-slice_set g n s d f tests has same =
    let node = has_node g n s has in
    let at = get_or_from_slice_get g n node.0 d node.2 in
    let here : site_at g n s ≡ Some node.1 = site_at-slice_get g n s d (node_bound g n s has) ∙ rw at node.3 in
    let inner = slice_set-update node.0.sites s node.1 tests f node.3 (same node.1 here) in
    sym (slice_set-update g n node.0 _ (λ x. record x { sites = update x.sites s f }) node.2 (rw (at, inner) refl))

-- an update by the same value is the same
pub with_site-same : (g : List Node) (n s : ℕ) (x : SiteTests) (f h : SiteTests → SiteTests) → site_at g n s ≡ Some x → f x ≡ h x → with_site g n s f ≡ with_site g n s h
unfolding site_at
with_site-same g n s x f h at e = change-same (λ (node : Node). node.sites) (λ node xs. record node { sites = xs }) g n s x f h at e

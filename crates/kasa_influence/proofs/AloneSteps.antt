-- A node by itself, made site by site.
use Rattle.std.proofs.Common.{◌≡◌, ◌≢◌, ℕ, suc, ◌+◌, ◌<◌, ◌≤◌, inl, inr, List, [], ◌∷◌, length, map, refl, sym, ap, ◌∙◌, arith}
use Rattle.std.specs.Prelude.{Option, Some, None, IsSome, slice_get, option_map}
use Rattle.std.specs.Option.{option_map_or}
use Rattle.std.proofs.lemmas.Option.{slice_get-map, slice_get_past, same_Some}
use Rattle.std.proofs.lemmas.List.{length-map}
use Rattle.kasa_lists.proofs.Numbers.{same_or_not, below_or}
use Rattle.kasa_graph.specs.declared.pattern.Node.{Node}
use Rattle.kasa_graph.specs.declared.pattern.SiteTests.{SiteTests}
use Rattle.kasa_graph.specs.declared.pattern.LinkTest.TheVariants as link
use Rattle.kasa_graph.specs.Signature.{TypeEntry, state_counts}
use Rattle.kasa_graph.specs.Pattern.{agent_at, site_at, state_test, link_test, types_of, blank_site, blank_node, with_state, with_link, HasNodeSite, IsPatternOver}
use Rattle.kasa_graph.specs.Meet.{untested_site}
use Rattle.kasa_graph.proofs.PatternLemmas.{site_at-with_site_same, site_at-with_site_other}
use Rattle.kasa_graph.proofs.ShapeLemmas.{agent_at-node}
use Rattle.kasa_graph.proofs.TestLemmas.{types_of-with_state, types_of-with_link, agent_at-types, length-types}
use Rattle.kasa_influence.specs.Alone.{unnamed, unnamed_site, alone}
use Rattle.kasa_influence.specs.inner.Search.{copied}

-- the first node of v, the only one, has the tests of g's node n at its sites below k, and none at others
pub record IsCopied (g : List Node) (n k : ℕ) (v : List Node) : Type 0 where
  pub one : length v ≡ 1
  pub typed : agent_at v 0 ≡ agent_at g n
  pub below : (s : ℕ) → s < k → site_at v 0 s ≡ option_map (unnamed_site g) (site_at g n s)
  pub from : (s : ℕ) → k ≤ s → site_at v 0 s ≡ option_map untested_site (site_at g n s)

same_list : {X : Type 0} (xs ys : List X) → ((i : ℕ) → slice_get xs i ≡ slice_get ys i) → xs ≡ ys
same_list [] [] same = refl
same_list [] (y ∷ ys) same = absurd (let e = same 0 in cc)
same_list (x ∷ xs) [] same = absurd (let e = same 0 in cc)
same_list (x ∷ xs) (y ∷ ys) same =
    let first : x ≡ y = let e = same 0 in cc in
    let rest : xs ≡ ys = same_list xs ys (λ i. same (suc i)) in
    rw (first, rest) refl

module _ (g : List Node) (n : ℕ) (x : Node) (at : slice_get g n ≡ Some x) where
  sites_of_node : (s : ℕ) → site_at g n s ≡ slice_get x.sites s
  unfolding site_at
  sites_of_node s = rw at refl

  -- at first
  pub IsCopied-start : (sig : List TypeEntry) (a : ℕ) → IsPatternOver sig g → agent_at g n ≡ Some a → IsCopied g n 0 (blank_node sig a ∷ [])
  unfolding agent_at site_at blank_node
  IsCopied-start sig a over typed = record {
    one = refl;
    typed = sym typed;
    below = λ s h. absurd (omega arith);
    from = λ s h. slice_get-map blank_site (state_counts sig a) s ∙ ap (option_map blank_site) (counts s) ∙ by_site (slice_get x.sites s) ∙ ap (option_map untested_site) (sym (sites_of_node s));
  }
    where
      agent : x.agent ≡ a
      agent = same_Some x.agent a (sym (agent_at-node g n x at) ∙ typed)

      counts : (s : ℕ) → slice_get (state_counts sig a) s ≡ option_map (λ (y : SiteTests). y.states) (slice_get x.sites s)
      counts s = rw (← agent, ← over.sites n x at) (slice_get-map (λ (y : SiteTests). y.states) x.sites s)

      by_site : (o : Option SiteTests) → option_map blank_site (option_map (λ (y : SiteTests). y.states) o) ≡ option_map untested_site o
      by_site None = refl
      by_site (Some y) = refl

  -- one site more
  pub IsCopied-next : (k : ℕ) (v : List Node) → HasNodeSite g n k → IsCopied g n k v → IsCopied g n (k + 1) (copied g n k v)
  unfolding with_state with_link state_test link_test
  IsCopied-next k v has so_far = record {
    one = length-types new ∙ ap length types ∙ sym (length-types v) ∙ so_far.one;
    typed = agent_at-types new 0 ∙ ap (λ (ts : List ℕ). slice_get ts 0) types ∙ sym (agent_at-types v 0) ∙ so_far.typed;
    below = below;
    from = λ s h. other s (omega arith) ∙ so_far.from s (omega arith);
  }
    where
      mid : List Node
      mid = with_state v 0 k (state_test g n k)

      new : List Node
      new = copied g n k v

      types : types_of new ≡ types_of v
      types = types_of-with_link mid 0 k (unnamed g (link_test g n k)) ∙ types_of-with_state v 0 k (state_test g n k)

      other : (s : ℕ) → k ≢ s → site_at new 0 s ≡ site_at v 0 s
      other s ne = site_at-with_site_other mid 0 k 0 s _ (λ e f. ne f) ∙ site_at-with_site_other v 0 k 0 s _ (λ e f. ne f)

      by_site : (o : Option SiteTests) → site_at g n k ≡ o →
          option_map (λ (y : SiteTests). record y { link = unnamed g (link_test g n k) }) (option_map (λ (y : SiteTests). record y { state = state_test g n k }) (option_map untested_site o)) ≡ option_map (unnamed_site g) o
      by_site None e = refl
      by_site (Some y) e = rw e refl

      here : site_at new 0 k ≡ option_map (unnamed_site g) (site_at g n k)
      here =
          site_at-with_site_same mid 0 k (λ (y : SiteTests). record y { link = unnamed g (link_test g n k) })
          ∙ ap (option_map (λ (y : SiteTests). record y { link = unnamed g (link_test g n k) })) (site_at-with_site_same v 0 k (λ (y : SiteTests). record y { state = state_test g n k }) ∙ ap (option_map (λ (y : SiteTests). record y { state = state_test g n k })) (so_far.from k (omega arith)))
          ∙ by_site (site_at g n k) refl

      below : (s : ℕ) → s < k + 1 → site_at new 0 s ≡ option_map (unnamed_site g) (site_at g n s)
      below s h = elim (same_or_not k s) [
        | inl e ↦ rw (← e) here
        | inr ne ↦ other s ne ∙ so_far.below s (omega arith)
      ]

  -- all sites
  pub IsCopied-all : (sig : List TypeEntry) (a k : ℕ) (v : List Node) → IsPatternOver sig g → agent_at g n ≡ Some a → length (state_counts sig a) ≤ k → IsCopied g n k v → v ≡ alone g x
  unfolding agent_at site_at
  IsCopied-all sig a k v over typed past copied = by_nodes v copied
    where
      agent : x.agent ≡ a
      agent = same_Some x.agent a (sym (agent_at-node g n x at) ∙ typed)

      past_all : (s : ℕ) → k ≤ s → slice_get x.sites s ≡ None
      past_all s h = slice_get_past x.sites s (let count = sym (length-map x.sites (λ (y : SiteTests). y.states)) ∙ ap length (over.sites n x at) ∙ ap (λ (b : ℕ). length (state_counts sig b)) agent in omega arith)

      every : (v : List Node) → IsCopied g n k v → (s : ℕ) → site_at v 0 s ≡ option_map (unnamed_site g) (slice_get x.sites s)
      every v copied s = elim (below_or s k) [
        | inl less ↦ copied.below s less ∙ ap (option_map (unnamed_site g)) (sites_of_node s)
        | inr j ↦
            let beyond : k ≤ s = let e = j.1 in omega arith in
            let none = past_all s beyond in
            copied.from s beyond ∙ ap (option_map untested_site) (sites_of_node s ∙ none) ∙ ap (option_map (unnamed_site g)) (sym none)
      ]

      by_nodes : (v : List Node) → IsCopied g n k v → v ≡ alone g x
      by_nodes [] copied = absurd (let e = copied.one in cc)
      by_nodes (y ∷ []) copied =
          let agents : y.agent ≡ x.agent = same_Some y.agent x.agent (copied.typed ∙ agent_at-node g n x at) in
          let sites : y.sites ≡ map (unnamed_site g) x.sites = same_list y.sites (map (unnamed_site g) x.sites) (λ s. every (y ∷ []) copied s ∙ sym (slice_get-map (unnamed_site g) x.sites s)) in
          λ i. record { agent = agents i; sites = sites i } ∷ []
      by_nodes (y ∷ z ∷ v) copied = absurd (let e = copied.one in cc)

-- the next site is there, without a test
module _ (g : List Node) (n k : ℕ) (v : List Node) (so_far : IsCopied g n k v) (has : HasNodeSite g n k) where
  pub copied_site : HasNodeSite v 0 k
  copied_site = rw (so_far.from k (omega arith)) (by_site (site_at g n k) has)
    where
      by_site : (o : Option SiteTests) → IsSome o → IsSome (option_map untested_site o)
      by_site None none = absurd cc
      by_site (Some y) some = refl

  pub copied_link : link_test v 0 k ≡ link.Any
  unfolding link_test
  copied_link = rw (so_far.from k (omega arith)) (by_site (site_at g n k))
    where
      by_site : (o : Option SiteTests) → option_map_or (λ (y : SiteTests). y.link) (option_map untested_site o) link.Any ≡ link.Any
      by_site None = refl
      by_site (Some y) = refl

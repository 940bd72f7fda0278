-- A pattern over a signature is read from its text, and found again in what is read.
use Rattle.std.proofs.Common.{◌≡◌, ◌∙◌, ◌<◌, ◌≤◌, ◌+◌, ◌*◌, ◌^◌, ℕ, zero, suc, List, [], ◌∷◌, ◌++◌, Bool, true, false, if◌then◌else◌, length, length-append, map, refl, sym, ap, subst, arith, Option, Some, None, slice_get}
use Rattle.std.specs.Option.{option_map_or}
use Rattle.std.proofs.lemmas.Option.{slice_get_within, slice_get-map}
use Rattle.kasa_graph.specs.declared.pattern.StateTest.{StateTest}
use Rattle.kasa_graph.specs.declared.pattern.StateTest.TheVariants as state
use Rattle.kasa_graph.specs.declared.pattern.LinkTest.{LinkTest}
use Rattle.kasa_graph.specs.declared.pattern.LinkTest.TheVariants.{Any, Free, Bound, Partner, To}
use Rattle.kasa_graph.specs.declared.pattern.SiteTests.{SiteTests}
use Rattle.kasa_graph.specs.declared.pattern.Node.{Node}
use Rattle.kasa_graph.specs.Signature.{SiteEntry, TypeEntry, sites_of, type_names, site_names, state_names, state_counts, HasSite, HasState, IsSignature}
use Rattle.kasa_graph.specs.Pattern.{agent_at, site_at, state_test, link_test, IsPatternOver}
use Rattle.kasa_graph.specs.PatternText.{stands_before, begins_bond, first_ends, first_ends_in, bond_number, pattern_text}
use Rattle.kasa_lists.proofs.Options.{some_map}
use Rattle.kasa_lists.proofs.Maps.{length-map}
use Rattle.kasa_graph.proofs.BondLemmas.{place-le}
use Rattle.kasa_graph.proofs.LinkTextLemmas.{numbered, IsRead}
use Rattle.kasa_graph.proofs.SiteTextLemmas.{IsStateOf, IsSiteRead}
use Rattle.kasa_graph.proofs.NodeTextLemmas.{AllFrom, AllFrom-at, read_site, read_sites, read_node, read_nodes, IsNodeRead, nodes-read}
use Rattle.kasa_graph.proofs.ReadingLemmas.{ReadAlike, links-same}

-- ---- what is read of a pattern's links

link_test-read_sites : (g : List Node) (n k j s : ℕ) (sites : List SiteTests) → k + j ≡ s →
    option_map_or (λ x. x.link) (slice_get (read_sites g n k sites) j) Any ≡ numbered g n s (option_map_or (λ x. x.link) (slice_get sites j) Any)
link_test-read_sites g n k zero s [] e = refl
link_test-read_sites g n k (suc j) s [] e = refl
link_test-read_sites g n k zero s (x ∷ sites) e = let same : k ≡ s = omega arith in ap (λ i. numbered g n i x.link) same
link_test-read_sites g n k (suc j) s (x ∷ sites) e = link_test-read_sites g n (suc k) j s sites (omega arith)

link_test-read_nodes : (g : List Node) (k j n s : ℕ) (nodes : List Node) → k + j ≡ n → link_test (read_nodes g k nodes) j s ≡ numbered g n s (link_test nodes j s)
unfolding link_test site_at
link_test-read_nodes g k zero n s [] e = refl
link_test-read_nodes g k (suc j) n s [] e = refl
link_test-read_nodes g k zero n s (node ∷ nodes) e = let same : k ≡ n = omega arith in link_test-read_sites g k 0 s s node.sites (omega arith) ∙ ap (λ i. numbered g i s (option_map_or (λ x. x.link) (slice_get node.sites s) Any)) same
link_test-read_nodes g k (suc j) n s (node ∷ nodes) e = link_test-read_nodes g (suc k) j n s nodes (omega arith)

alike : (g h : List Node) → read_nodes g 0 g ≡ read_nodes h 0 h → ReadAlike g h
alike g h e = record {
  links = λ n s. sym (link_test-read_nodes g 0 n n s g (omega arith)) ∙ ap (λ (nodes : List Node). link_test nodes n s) e ∙ link_test-read_nodes h 0 n n s h (omega arith);
}

-- ---- with the links, what is read gives the nodes

one_site : (x y : SiteTests) → x.states ≡ y.states → x.state ≡ y.state → x.link ≡ y.link → x ≡ y
one_site x y states state link =
    let same : record x { states = x.states } ≡ record y { states = y.states } = cc in
    same

one_node : (x y : Node) → x.agent ≡ y.agent → x.sites ≡ y.sites → x ≡ y
one_node x y agent sites =
    let same : record x { agent = x.agent } ≡ record y { agent = y.agent } = cc in
    same

sites_again : (g h : List Node) (n s : ℕ) (xs ys : List SiteTests) → read_sites g n s xs ≡ read_sites h n s ys →
    ((j : ℕ) → option_map_or (λ (x : SiteTests). x.link) (slice_get xs j) Any ≡ option_map_or (λ (x : SiteTests). x.link) (slice_get ys j) Any) → xs ≡ ys
sites_again g h n s [] [] e links = refl
sites_again g h n s [] (y ∷ ys) e links = absurd cc
sites_again g h n s (x ∷ xs) [] e links = absurd cc
sites_again g h n s (x ∷ xs) (y ∷ ys) e links =
    let rest : read_sites g n (suc s) xs ≡ read_sites h n (suc s) ys = cc in
    by e (links zero) (sites_again g h n (suc s) xs ys rest (λ j. links (suc j)))
  where
    by : read_sites g n s (x ∷ xs) ≡ read_sites h n s (y ∷ ys) → x.link ≡ y.link → xs ≡ ys → x ∷ xs ≡ y ∷ ys
    by e link rest =
        let read : read_site g n s x ≡ read_site h n s y = cc in
        let here = one_site x y (ap (λ (z : SiteTests). z.states) read) (ap (λ (z : SiteTests). z.state) read) link in
        cc

nodes_again : (g h : List Node) (n : ℕ) (xs ys : List Node) → read_nodes g n xs ≡ read_nodes h n ys → ((j s : ℕ) → link_test xs j s ≡ link_test ys j s) → xs ≡ ys
unfolding link_test site_at
nodes_again g h n [] [] e links = refl
nodes_again g h n [] (y ∷ ys) e links = absurd cc
nodes_again g h n (x ∷ xs) [] e links = absurd cc
nodes_again g h n (x ∷ xs) (y ∷ ys) e links =
    let rest : read_nodes g (suc n) xs ≡ read_nodes h (suc n) ys = cc in
    let read : read_node g n x ≡ read_node h n y = cc in
    let sites = ap (λ (z : Node). z.sites) read in
    by e (sites_again g h n 0 x.sites y.sites sites (λ s. links zero s)) (nodes_again g h (suc n) xs ys rest (λ j s. links (suc j) s))
  where
    by : read_nodes g n (x ∷ xs) ≡ read_nodes h n (y ∷ ys) → x.sites ≡ y.sites → xs ≡ ys → x ∷ xs ≡ y ∷ ys
    by e sites rest =
        let read : read_node g n x ≡ read_node h n y = cc in
        let here = one_node x y (ap (λ (z : Node). z.agent) read) sites in
        cc

-- ---- the numbers of a pattern over a signature

length-state_counts : (sig : List TypeEntry) (a : ℕ) → length (state_counts sig a) ≡ length (site_names sig a)
unfolding state_counts
length-state_counts sig a = length-map (λ (s : SiteEntry). length s.states) (sites_of sig a) ∙ sym (length-map (λ (s : SiteEntry). s.name) (sites_of sig a))

-- a type that has a site is there
type_there : (sig : List TypeEntry) (b y : ℕ) → HasSite sig b y → b < length (type_names sig)
unfolding state_counts sites_of
type_there sig b y has = by (slice_get sig b) refl has
  where
    by : (o : Option TypeEntry) → slice_get sig b ≡ o → y < length (map (λ (s : SiteEntry). length s.states) (option_map_or (λ t. t.sites) o [])) → b < length (type_names sig)
    by None e h = absurd (omega arith)
    by (Some type) e h = let within = slice_get_within sig b type e in rw (length-map (λ (t : TypeEntry). t.name) sig) within

state_there : (sig : List TypeEntry) (a s u : ℕ) → HasState sig a s u → u < length (state_names sig a s)
unfolding state_counts state_names
state_there sig a s u (k, at, h) =
    let site = some_map (λ (s : SiteEntry). length s.states) (slice_get (sites_of sig a) s) k (sym (slice_get-map (λ (s : SiteEntry). length s.states) (sites_of sig a) s) ∙ at) in
    let count = site.2 in
    rw site.1 (omega arith)

-- a node has at most 32 sites
few_sites : (sig : List TypeEntry) (g : List Node) (n : ℕ) (node : Node) → IsSignature sig → IsPatternOver sig g → slice_get g n ≡ Some node → length node.sites ≤ 32
few_sites sig g n node names over at =
    let few = (names.sites node.agent).few in
    let counts = ap (λ (ks : List ℕ). length ks) (over.sites n node at) in
    let sites = length-map (λ (x : SiteTests). x.states) node.sites in
    let all = length-state_counts sig node.agent in
    omega arith

few_ends_in : (n s : ℕ) (sites : List SiteTests) → length (first_ends_in n s sites) ≤ length sites
few_ends_in n s [] = omega arith
few_ends_in n s (x ∷ sites) = by (begins_bond n s x.link) (few_ends_in n (suc s) sites)
  where
    by : (b : Bool) → length (first_ends_in n (suc s) sites) ≤ length sites → length ((if b then (n, s) ∷ [] else []) ++ first_ends_in n (suc s) sites) ≤ suc (length sites)
    by true h = omega arith
    by false h = omega arith

few_ends : (n : ℕ) (nodes : List Node) → ((j : ℕ) (node : Node) → slice_get nodes j ≡ Some node → length node.sites ≤ 32) → length (first_ends n nodes) ≤ 32 * length nodes
few_ends n [] few = omega arith
few_ends n (node ∷ nodes) few =
    let here = few zero node refl in
    let inside = few_ends_in n 0 node.sites in
    let rest = few_ends (suc n) nodes (λ j x at. few (suc j) x at) in
    let parts = length-append (first_ends_in n 0 node.sites) (first_ends (suc n) nodes) in
    omega arith

module _ (sig : List TypeEntry) (g : List Node) (names : IsSignature sig) (over : IsPatternOver sig g) (small : length g < 2 ^ 64) where
  small_number : (n s m t : ℕ) → bond_number g n s m t < 10 ^ 64
  small_number n s m t =
      let within = place-le (if stands_before n s m t then (n, s) else (m, t)) (first_ends 0 g) in
      let few = few_ends 0 g (λ j node at. few_sites sig g j node names over at) in
      omega arith

  site-read : (n s : ℕ) (node : Node) (x : SiteTests) → slice_get g n ≡ Some node → slice_get node.sites s ≡ Some x → IsSiteRead sig g n node.agent s x
  unfolding agent_at state_test link_test site_at
  site-read n s node x at here = record {
    named =
        let within = slice_get_within node.sites s x here in
        let counts = ap (λ (ks : List ℕ). length ks) (over.sites n node at) in
        let sites = length-map (λ (x : SiteTests). x.states) node.sites in
        let all = length-state_counts sig node.agent in
        omega arith;
    state = state_of x.state refl;
    link = link_of x.link refl;
  }
    where
      state_of : (u : StateTest) → x.state ≡ u → IsStateOf sig node.agent s u
      state_of state.Any e = tt
      state_of (state.Is u) e = state_there sig node.agent s u (over.states n s u node.agent (rw at refl) (rw (at, here) e))

      link_of : (l : LinkTest) → x.link ≡ l → IsRead sig (numbered g n s l)
      link_of Any e = tt
      link_of Free e = tt
      link_of Bound e = tt
      link_of (Partner b y) e =
          let has = over.partners n s b y (rw (at, here) e) in
          let all = length-state_counts sig b in
          (type_there sig b y has, omega arith)
      link_of (To m t) e = (small_number n s m t, refl)

  nodes-are_read : AllFrom (IsNodeRead sig g) 0 g
  nodes-are_read = AllFrom-at (IsNodeRead sig g) 0 g (λ j n node e at. let same : j ≡ n = omega arith in node_read n node (subst (λ k. slice_get g k ≡ Some node) same at))
    where
      node_read : (n : ℕ) (node : Node) → slice_get g n ≡ Some node → IsNodeRead sig g n node
      node_read n node at = record {
        typed = let types = length-map (λ (t : TypeEntry). t.name) sig in let within = over.types n node at in omega arith;
        counts = over.sites n node at;
        sites = AllFrom-at (IsSiteRead sig g n node.agent) 0 node.sites
            (λ j s x e here. let same : j ≡ s = omega arith in site-read n s node x at (subst (λ k. slice_get node.sites k ≡ Some x) same here));
      }

-- ---- a text is of one pattern

pub one_pattern : (sig : List TypeEntry) (g h : List Node) → IsSignature sig → IsPatternOver sig g → IsPatternOver sig h → length g < 2 ^ 64 → length h < 2 ^ 64 → pattern_text sig g ≡ pattern_text sig h → g ≡ h
unfolding pattern_text
one_pattern sig g h names over also small few e =
    let read = nodes-read sig names g h 0 g h (nodes-are_read sig g names over small) (nodes-are_read sig h names also few) e in
    nodes_again g h 0 g h read (links-same g h over.linked also.linked (alike g h read))

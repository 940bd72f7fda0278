-- The text of a pattern is of one reading: its nodes with the numbers of bonds in place of their far ends.
use Rattle.std.proofs.Common.{◌≡◌, ◌∙◌, ◌<◌, ◌+◌, ℕ, zero, suc, List, [], ◌∷◌, ◌++◌, Bool, true, false, ◌||◌, if◌then◌else◌, length, map, refl, sym, ap, subst, arith, append_assoc, Some, slice_get}
use Rattle.std.specs.List.{AllByRecursion}
use Rattle.kasa_graph.specs.declared.pattern.StateTest.{StateTest}
use Rattle.kasa_graph.specs.declared.pattern.StateTest.TheVariants as state
use Rattle.kasa_graph.specs.declared.pattern.LinkTest.TheVariants.{Any}
use Rattle.kasa_graph.specs.declared.pattern.SiteTests.{SiteTests}
use Rattle.kasa_graph.specs.declared.pattern.Node.{Node}
use Rattle.kasa_lists.specs.Lists.{map_from}
use Rattle.kasa_graph.specs.Signature.{TypeEntry, type_names, state_counts, IsNameByte, IsSignature}
use Rattle.kasa_graph.specs.PatternText.{name_at, site_text, site_texts, comma_joined, tests_state, tests_link, is_written, node_text}
use Rattle.kasa_graph.proofs.SplitLemmas.{split-same, IsPart, joined-same}
use Rattle.kasa_graph.proofs.NameTextLemmas.{name_at-bytes, name_at-same, no_name_byte}
use Rattle.kasa_graph.proofs.LinkTextLemmas.{numbered, untested}
use Rattle.kasa_graph.proofs.SiteTextLemmas.{IsSiteRead, site_text-part, site-same, site_tests-same}

-- P holds of each element and its number, where the first has the number i
abbrev pub AllFrom : {X : Type 0} → (ℕ → X → Type 0) → ℕ → List X → Type 0
AllFrom P i [] = Unit {0}
AllFrom P i (x ∷ xs) = P i x × AllFrom P (suc i) xs

pub AllFrom-at : {X : Type 0} (P : ℕ → X → Type 0) (i : ℕ) (xs : List X) → ((j k : ℕ) (x : X) → i + j ≡ k → slice_get xs j ≡ Some x → P k x) → AllFrom P i xs
AllFrom-at P i [] all = tt
AllFrom-at P i (x ∷ xs) all = (all zero i x (omega arith) refl, AllFrom-at P (suc i) xs (λ j k y e at. all (suc j) k y (omega arith) at))

-- ---- sites

-- a site as it is read
abbrev pub read_site : List Node → ℕ → ℕ → SiteTests → SiteTests
read_site g n s x = record x { link = numbered g n s x.link }

abbrev pub read_sites : List Node → ℕ → ℕ → List SiteTests → List SiteTests
read_sites g n s sites = map_from s (read_site g n) sites

-- a site that isn't written has no tests
unwritten : (x : SiteTests) → is_written x ≡ false → (x.state ≡ state.Any) × (x.link ≡ Any)
unwritten x none = by x.state none
  where
    by : (u : StateTest) → (tests_state u || tests_link x.link) ≡ false → (u ≡ state.Any) × (x.link ≡ Any)
    by state.Any e = (refl, untested x.link e)
    by (state.Is u) e = absurd cc

module _ (sig : List TypeEntry) (names : IsSignature sig) (a : ℕ) (g h : List Node) (n m : ℕ) where
  texts-parts : (s : ℕ) (sites : List SiteTests) → AllFrom (IsSiteRead sig g n a) s sites → AllByRecursion IsPart (site_texts sig g n a s sites)
  texts-parts s [] read = tt
  texts-parts s (x ∷ sites) read = by (is_written x) (texts-parts (suc s) sites read.1)
    where
      by : (b : Bool) → AllByRecursion IsPart (site_texts sig g n a (suc s) sites) → AllByRecursion IsPart ((if b then site_text sig g n a s x ∷ [] else []) ++ site_texts sig g n a (suc s) sites)
      by true rest = (site_text-part sig names a g n s x read.0, rest)
      by false rest = rest

  -- a text among those of later sites is of another site
  later : (s t : ℕ) (x : SiteTests) (ys : List SiteTests) (texts : List (List ℕ)) → s < t → is_written x ≡ true → IsSiteRead sig g n a s x → AllFrom (IsSiteRead sig h m a) t ys → ¬ (site_text sig g n a s x ∷ texts ≡ site_texts sig h m a t ys)
  later s t x [] texts less some read all e = cc
  later s t x (y ∷ ys) texts less some read all e = by (is_written y) refl e (later s (suc t) x ys texts (omega arith) some read all.1)
    where
      by : (b : Bool) → is_written y ≡ b → site_text sig g n a s x ∷ texts ≡ (if b then site_text sig h m a t y ∷ [] else []) ++ site_texts sig h m a (suc t) ys → ¬ (site_text sig g n a s x ∷ texts ≡ site_texts sig h m a (suc t) ys) → ⊥
      by true also e rest =
          let text : site_text sig g n a s x ≡ site_text sig h m a t y = cc in
          let same = site-same sig names a g h n m s t x y some also text read all.0 in
          omega arith
      by false also e rest = rest e

-- the texts of sites of one node are read in one way
module _ (sig : List TypeEntry) (names : IsSignature sig) (a : ℕ) (g h : List Node) (n : ℕ) where
  pub sites-read : (s : ℕ) (xs ys : List SiteTests) → map (λ (x : SiteTests). x.states) xs ≡ map (λ (x : SiteTests). x.states) ys → AllFrom (IsSiteRead sig g n a) s xs → AllFrom (IsSiteRead sig h n a) s ys →
      site_texts sig g n a s xs ≡ site_texts sig h n a s ys → read_sites g n s xs ≡ read_sites h n s ys
  sites-read s [] [] counts read also e = refl
  sites-read s [] (y ∷ ys) counts read also e = absurd cc
  sites-read s (x ∷ xs) [] counts read also e = absurd cc
  sites-read s (x ∷ xs) (y ∷ ys) counts read also e =
      let count : x.states ≡ y.states = cc in
      let rest : map (λ (x : SiteTests). x.states) xs ≡ map (λ (x : SiteTests). x.states) ys = cc in
      by (is_written x) (is_written y) refl refl count (sites-read (suc s) xs ys rest read.1 also.1) e
    where
      read_same : x.states ≡ y.states → x.state ≡ y.state → numbered g n s x.link ≡ numbered h n s y.link → read_site g n s x ≡ read_site h n s y
      read_same p q r = cc

      by : (b c : Bool) → is_written x ≡ b → is_written y ≡ c → x.states ≡ y.states → (site_texts sig g n a (suc s) xs ≡ site_texts sig h n a (suc s) ys → read_sites g n (suc s) xs ≡ read_sites h n (suc s) ys) →
          (if b then site_text sig g n a s x ∷ [] else []) ++ site_texts sig g n a (suc s) xs ≡ (if c then site_text sig h n a s y ∷ [] else []) ++ site_texts sig h n a (suc s) ys →
          read_sites g n s (x ∷ xs) ≡ read_sites h n s (y ∷ ys)
      by true true p q count again f =
          let text : site_text sig g n a s x ≡ site_text sig h n a s y = cc in
          let texts : site_texts sig g n a (suc s) xs ≡ site_texts sig h n a (suc s) ys = cc in
          let tests = site_tests-same sig names a g h n n s x y p q text read.0 also.0 in
          let here = read_same count tests.0 tests.1 in
          let there = again texts in
          cc
      by true false p q count again f = absurd (later sig names a g h n n s (suc s) x ys _ (omega arith) p read.0 also.1 f)
      by false true p q count again f = absurd (later sig names a h g n n s (suc s) y xs _ (omega arith) q also.0 read.1 (sym f))
      by false false p q count again f =
          let none = unwritten x p in
          let empty = unwritten y q in
          let here = read_same count (none.0 ∙ sym empty.0) (ap (numbered g n s) none.1 ∙ sym (ap (numbered h n s) empty.1)) in
          let there = again f in
          cc

-- ---- nodes

-- a node as it is read
abbrev pub read_node : List Node → ℕ → Node → Node
read_node g n node = record node { sites = read_sites g n 0 node.sites }

-- the nodes of a pattern with the numbers of its bonds
abbrev pub read_nodes : List Node → ℕ → List Node → List Node
read_nodes g n nodes = map_from n (read_node g) nodes

-- the numbers of a node exist in the signature, as they are read
pub record IsNodeRead (sig : List TypeEntry) (g : List Node) (n : ℕ) (node : Node) : Type 0 where
  pub typed : node.agent < length (type_names sig)
  pub counts : map (λ (x : SiteTests). x.states) node.sites ≡ state_counts sig node.agent
  pub sites : AllFrom (IsSiteRead sig g n node.agent) 0 node.sites

-- what stands behind a node
abbrev rest_text : List TypeEntry → List Node → ℕ → List Node → List ℕ
rest_text sig g n [] = []
rest_text sig g n (node ∷ nodes) = 44 ∷ comma_joined (map_from n (node_text sig g) (node ∷ nodes))

abbrev sites_text : List TypeEntry → List Node → ℕ → Node → List ℕ
sites_text sig g n node = comma_joined (site_texts sig g n node.agent 0 node.sites)

nodes_text-is : (sig : List TypeEntry) (g : List Node) (n : ℕ) (node : Node) (nodes : List Node) →
    comma_joined (map_from n (node_text sig g) (node ∷ nodes)) ≡ name_at (type_names sig) node.agent ++ 40 ∷ (sites_text sig g n node ++ 41 ∷ rest_text sig g (suc n) nodes)
nodes_text-is sig g n node [] = simp append_assoc
nodes_text-is sig g n node (next ∷ nodes) = simp append_assoc

module _ (sig : List TypeEntry) (names : IsSignature sig) (g h : List Node) where
  -- nodes of equal texts are read in one way, and equal texts stand behind them
  node-read : (n : ℕ) (x y : Node) (rest others : List ℕ) → IsNodeRead sig g n x → IsNodeRead sig h n y →
      name_at (type_names sig) x.agent ++ 40 ∷ (sites_text sig g n x ++ 41 ∷ rest) ≡ name_at (type_names sig) y.agent ++ 40 ∷ (sites_text sig h n y ++ 41 ∷ others) → (read_node g n x ≡ read_node h n y) × (rest ≡ others)
  node-read n x y rest others read also e =
      let type_bytes = λ (a : ℕ). name_at-bytes 500 (type_names sig) names.types a in
      let no_bracket = no_name_byte 40 (omega arith) in
      let split = split-same IsNameByte (name_at (type_names sig) x.agent) (name_at (type_names sig) y.agent) 40 40 (sites_text sig g n x ++ 41 ∷ rest) (sites_text sig h n y ++ 41 ∷ others) (type_bytes x.agent) (type_bytes y.agent) no_bracket no_bracket e in
      let type = name_at-same 500 (type_names sig) x.agent y.agent names.types read.typed also.typed split.0 in
      let joined = joined-same (site_texts sig g n x.agent 0 x.sites) (site_texts sig h n y.agent 0 y.sites) rest others (texts-parts sig names x.agent g h n n 0 x.sites read.sites) (texts-parts sig names y.agent h g n n 0 y.sites also.sites) split.2 in
      let counts = read.counts ∙ ap (state_counts sig) type ∙ sym also.counts in
      let as_read = sites-read sig names x.agent g h n 0 x.sites y.sites counts read.sites (subst (λ a. AllFrom (IsSiteRead sig h n a) 0 y.sites) (sym type) also.sites)
      (joined.0 ∙ ap (λ a. site_texts sig h n a 0 y.sites) (sym type)) in
      (same type as_read, joined.1)
    where
      same : x.agent ≡ y.agent → read_sites g n 0 x.sites ≡ read_sites h n 0 y.sites → read_node g n x ≡ read_node h n y
      same p q = cc

module _ (sig : List TypeEntry) (h : List Node) where
  no_nodes : (n : ℕ) (y : Node) (ys : List Node) → ¬ ([] ≡ comma_joined (map_from n (node_text sig h) (y ∷ ys)))
  no_nodes n y ys e = by (name_at (type_names sig) y.agent) (e ∙ nodes_text-is sig h n y ys)
    where
      by : (bs : List ℕ) → ¬ ([] ≡ bs ++ 40 ∷ (sites_text sig h n y ++ 41 ∷ rest_text sig h (suc n) ys))
      by [] e = cc
      by (b ∷ bs) e = cc

module _ (sig : List TypeEntry) (names : IsSignature sig) (g h : List Node) where
  pub nodes-read : (n : ℕ) (xs ys : List Node) → AllFrom (IsNodeRead sig g) n xs → AllFrom (IsNodeRead sig h) n ys → comma_joined (map_from n (node_text sig g) xs) ≡ comma_joined (map_from n (node_text sig h) ys) →
      read_nodes g n xs ≡ read_nodes h n ys
  nodes-read n [] [] read also e = refl
  nodes-read n [] (y ∷ ys) read also e = absurd (no_nodes sig h n y ys e)
  nodes-read n (x ∷ xs) [] read also e = absurd (no_nodes sig g n x xs (sym e))
  nodes-read n (x ∷ xs) (y ∷ ys) read also e =
      let here = node-read sig names g h n x y (rest_text sig g (suc n) xs) (rest_text sig h (suc n) ys) read.0 also.0 (sym (nodes_text-is sig g n x xs) ∙ e ∙ nodes_text-is sig h n y ys) in
      let later = nodes-read (suc n) xs ys read.1 also.1 (rest_same (suc n) xs ys here.1) in
      joined here.0 later
    where
      rest_same : (n : ℕ) (xs ys : List Node) → rest_text sig g n xs ≡ rest_text sig h n ys → comma_joined (map_from n (node_text sig g) xs) ≡ comma_joined (map_from n (node_text sig h) ys)
      rest_same n [] [] e = refl
      rest_same n [] (y ∷ ys) e = absurd cc
      rest_same n (x ∷ xs) [] e = absurd cc
      rest_same n (x ∷ xs) (y ∷ ys) e = cc

      joined : read_node g n x ≡ read_node h n y → read_nodes g (suc n) xs ≡ read_nodes h (suc n) ys → read_nodes g n (x ∷ xs) ≡ read_nodes h n (y ∷ ys)
      joined p q = cc

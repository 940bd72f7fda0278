-- The text of a pattern, written piece by piece.
use Rattle.std.proofs.Common.{◌≡◌, ◌∙◌, ◌<◌, ◌≤◌, ◌+◌, ◌||◌, nat_lt, ℕ, suc, List, [], ◌∷◌, ◌++◌, Bool, true, false, not, if◌then◌else◌, length, refl, sym, ap, arith, Some, slice_get, get_or, take, append_assoc, codes, decimal}
use Rattle.std.proofs.lemmas.Option.{slice_get-get_or}
use Rattle.std.proofs.lemmas.Bool.{lt-ltb}
use Rattle.std.proofs.lemmas.List.{append-nil, take_all}
use Rattle.kasa_graph.specs.declared.pattern.LinkTest.{LinkTest}
use Rattle.kasa_graph.specs.declared.pattern.LinkTest.TheVariants.{Any, Free, Bound, Partner, To}
use Rattle.kasa_graph.specs.declared.pattern.SiteTests.{SiteTests}
use Rattle.kasa_graph.specs.declared.pattern.Node.{Node}
use Rattle.kasa_lists.specs.Lists.{map_from}
use Rattle.kasa_graph.specs.Signature.{TypeEntry, type_names, state_counts}
use Rattle.kasa_graph.specs.Pattern.{agent_at, site_at, link_test, IsPattern, IsPatternOver}
use Rattle.kasa_graph.specs.PatternText.{place, stands_before, begins_bond, first_ends_in, first_ends, bond_number, name_at, link_text, site_text, site_texts, comma_joined, is_written, tests_state, tests_link, node_text, pattern_text}
use Rattle.kasa_graph.specs.PatternTextParts.{sites_at, ends_before, node_text_at}
pub use Rattle.kasa_lists.proofs.Elements.{take-one_more as take-next}
use Rattle.kasa_lists.proofs.Elements.{some_at, take-one_more, length-taken}
use Rattle.kasa_lists.proofs.Maps.{length-map, length-map_from, map_from-push}
use Rattle.kasa_graph.proofs.ShapeLemmas.{node_of_agent}
use Rattle.kasa_graph.proofs.BondLemmas.{bond_number-is, seen-is, slice_get-sites_at}

-- ---- a link

pub written_bond : (sig : List TypeEntry) (g : List Node) (n s m t number : ℕ) (keys : List (ℕ × ℕ)) → IsPattern g → link_test g n s ≡ To m t → keys ≡ ends_before g n s → number ≡ 1 + place (m, t) keys →
    codes "[" ++ decimal number ++ codes "]" ≡ link_text sig g n s (To m t)
written_bond sig g n s m t number keys is h seen e =
    let same : number ≡ bond_number g n s m t = e ∙ ap (λ ends. 1 + place (m, t) ends) seen ∙ sym (bond_number-is g is n s m t h) in
    ap (λ k. codes "[" ++ decimal k ++ codes "]") same

pub seen_bond : (g : List Node) (n s m t : ℕ) (keys new : List (ℕ × ℕ)) → IsPattern g → link_test g n s ≡ To m t → keys ≡ ends_before g n s →
    new ≡ (if nat_lt (place (m, t) keys) (length keys) then keys else keys ++ (n, s) ∷ []) → new ≡ keys ++ (if stands_before n s m t then (n, s) ∷ [] else [])
seen_bond g n s m t keys new is h seen e =
    let there : nat_lt (place (m, t) keys) (length keys) ≡ not (stands_before n s m t) = rw seen (seen-is g is n s m t h) in
    e ∙ ap (λ b. if b then keys else keys ++ (n, s) ∷ []) there ∙ by (stands_before n s m t)
  where
    by : (b : Bool) → (if not b then keys else keys ++ (n, s) ∷ []) ≡ keys ++ (if b then (n, s) ∷ [] else [])
    by true = refl
    by false = sym (append-nil keys)

-- there is an element
abbrev pub is_some_list : {X : Type 0} → List X → Bool
is_some_list [] = false
is_some_list (x ∷ xs) = true

is_some_list-length : {X : Type 0} (xs : List X) → is_some_list xs ≡ nat_lt 0 (length xs)
is_some_list-length [] = refl
is_some_list-length (x ∷ xs) = sym (lt-ltb 0 (suc (length xs)) (omega arith))

comma_joined-push : (texts : List (List ℕ)) (text : List ℕ) → comma_joined (texts ++ text ∷ []) ≡ (comma_joined texts ++ (if is_some_list texts then 44 ∷ [] else [])) ++ text
comma_joined-push [] text = refl
comma_joined-push (a ∷ []) text = simp append_assoc
comma_joined-push (a ∷ b ∷ texts) text = ap (λ rest. a ++ (44 ∷ rest)) (comma_joined-push (b ∷ texts) text) ∙ simp append_assoc

first_ends_in-push : (n k s : ℕ) (sites : List SiteTests) (x : SiteTests) → k + length sites ≡ s →
    first_ends_in n k (sites ++ x ∷ []) ≡ first_ends_in n k sites ++ (if begins_bond n s x.link then (n, s) ∷ [] else [])
first_ends_in-push n k s [] x e = let same : k ≡ s = omega arith in rw same (append-nil _)
first_ends_in-push n k s (y ∷ sites) x e =
    let rest = first_ends_in-push n (suc k) s sites x (omega arith) in
    ap (λ ends. (if begins_bond n k y.link then (n, k) ∷ [] else []) ++ ends) rest ∙ simp append_assoc

first_ends-push : (k n : ℕ) (g : List Node) (node : Node) → k + length g ≡ n → first_ends k (g ++ node ∷ []) ≡ first_ends k g ++ first_ends_in n 0 node.sites
first_ends-push k n [] node e = let same : k ≡ n = omega arith in rw same (append-nil _)
first_ends-push k n (y ∷ g) node e = ap (λ ends. first_ends_in k 0 y.sites ++ ends) (first_ends-push (suc k) n g node (omega arith)) ∙ simp append_assoc

-- ---- the sites of a node

module _ (sig : List TypeEntry) (g : List Node) (n a : ℕ) where
  site_texts-push : (k s : ℕ) (sites : List SiteTests) (x : SiteTests) → k + length sites ≡ s →
      site_texts sig g n a k (sites ++ x ∷ []) ≡ site_texts sig g n a k sites ++ (if is_written x then site_text sig g n a s x ∷ [] else [])
  site_texts-push k s [] x e = let same : k ≡ s = omega arith in rw same (append-nil _)
  site_texts-push k s (y ∷ sites) x e =
      let rest = site_texts-push (suc k) s sites x (omega arith) in
      ap (λ texts. (if is_written y then site_text sig g n a k y ∷ [] else []) ++ texts) rest ∙ simp append_assoc

  -- what is written of the sites before s, which of them are first ends, and whether any is written
  pub record SitesWritten (sites : List SiteTests) (s : ℕ) (old out : List ℕ) (seen firsts : List (ℕ × ℕ)) (any : Bool) : Type 0 where
    pub text : out ≡ old ++ comma_joined (site_texts sig g n a 0 (take s sites))
    pub ends : firsts ≡ seen ++ first_ends_in n 0 (take s sites)
    pub some : any ≡ is_some_list (site_texts sig g n a 0 (take s sites))

  module _ (sites : List SiteTests) (s : ℕ) (x : SiteTests) (at : slice_get sites s ≡ Some x) where
    texts : site_texts sig g n a 0 (take (s + 1) sites) ≡ site_texts sig g n a 0 (take s sites) ++ (if is_written x then site_text sig g n a s x ∷ [] else [])
    texts = ap (site_texts sig g n a 0) (take-one_more sites s x at) ∙ site_texts-push 0 s (take s sites) x (length-taken sites s x at)

    firsts_next : first_ends_in n 0 (take (s + 1) sites) ≡ first_ends_in n 0 (take s sites) ++ (if begins_bond n s x.link then (n, s) ∷ [] else [])
    firsts_next = ap (first_ends_in n 0) (take-one_more sites s x at) ∙ first_ends_in-push n 0 s (take s sites) x (length-taken sites s x at)

    pub site_written : (old out comma new : List ℕ) (seen firsts after : List (ℕ × ℕ)) (any : Bool) → SitesWritten sites s old out seen firsts any → true ≡ is_written x →
        comma ≡ out ++ (if any then 44 ∷ [] else []) → new ≡ comma ++ site_text sig g n a s x → after ≡ firsts ++ (if begins_bond n s x.link then (n, s) ∷ [] else []) →
        SitesWritten sites (s + 1) old new seen after true
    site_written old out comma new seen firsts after any before written with_comma with_site with_end =
        let more : site_texts sig g n a 0 (take (s + 1) sites) ≡ site_texts sig g n a 0 (take s sites) ++ site_text sig g n a s x ∷ [] =
        texts ∙ ap (λ b. site_texts sig g n a 0 (take s sites) ++ (if b then site_text sig g n a s x ∷ [] else [])) (sym written) in
        record {
          text = rw (more, comma_joined-push, with_site, with_comma, before.text, before.some) (simp append_assoc);
          ends = rw (firsts_next, with_end, before.ends) (simp append_assoc);
          some = rw more (one_more (site_texts sig g n a 0 (take s sites)));
        }
      where
        one_more : (ts : List (List ℕ)) → true ≡ is_some_list (ts ++ site_text sig g n a s x ∷ [])
        one_more [] = refl
        one_more (t ∷ ts) = refl

    pub site_skipped : (old out : List ℕ) (seen firsts : List (ℕ × ℕ)) (any : Bool) → SitesWritten sites s old out seen firsts any → false ≡ is_written x →
        SitesWritten sites (s + 1) old out seen firsts any
    site_skipped old out seen firsts any before skipped =
        let more : site_texts sig g n a 0 (take (s + 1) sites) ≡ site_texts sig g n a 0 (take s sites) =
        texts ∙ ap (λ b. site_texts sig g n a 0 (take s sites) ++ (if b then site_text sig g n a s x ∷ [] else [])) (sym skipped) ∙ append-nil _ in
        let ends : first_ends_in n 0 (take (s + 1) sites) ≡ first_ends_in n 0 (take s sites) =
        firsts_next ∙ ap (λ b. first_ends_in n 0 (take s sites) ++ (if b then (n, s) ∷ [] else [])) (no_bond x.link skipped) ∙ append-nil _ in
        record { text = rw more before.text; ends = rw ends before.ends; some = rw more before.some }
      where
        no_bond : (link : LinkTest) → false ≡ (tests_state x.state || tests_link link) → begins_bond n s link ≡ false
        no_bond Any e = refl
        no_bond Free e = refl
        no_bond Bound e = refl
        no_bond (Partner b y) e = refl
        no_bond (To m t) e = absurd (not_both (tests_state x.state) e)
          where
            not_both : (b : Bool) → false ≡ (b || true) → ⊥
            not_both true e = cc
            not_both false e = cc

  -- at the end all are written
  pub all_sites : (sites : List SiteTests) (s : ℕ) (old out : List ℕ) (seen firsts : List (ℕ × ℕ)) (any : Bool) → SitesWritten sites s old out seen firsts any → length sites ≤ s →
      (out ≡ old ++ comma_joined (site_texts sig g n a 0 sites)) × (firsts ≡ seen ++ first_ends_in n 0 sites)
  all_sites sites s old out seen firsts any written end =
      let all = take_all s sites end in
      (written.text ∙ ap (λ xs. old ++ comma_joined (site_texts sig g n a 0 xs)) all, written.ends ∙ ap (λ xs. seen ++ first_ends_in n 0 xs) all)

-- ---- nodes

-- the tests at an index
pub test_at : (g : List Node) (n s : ℕ) (tests : List SiteTests) (x : SiteTests) → ((s : ℕ) → site_at g n s ≡ slice_get tests s) → s < length tests → x ≡ get_or tests s x → site_at g n s ≡ Some x
test_at g n s tests x same within is = same s ∙ slice_get-get_or tests s x within ∙ ap (λ y. Some y) (sym is)

-- the tests of a node are its sites, as many as those of its type
pub sites_are : (g : List Node) (n : ℕ) (tests : List SiteTests) → ((s : ℕ) → site_at g n s ≡ slice_get tests s) → tests ≡ sites_at g n
sites_are g n tests same = by tests (sites_at g n) (λ s. sym (same s) ∙ sym (slice_get-sites_at g n s))
  where
    by : (xs ys : List SiteTests) → ((s : ℕ) → slice_get xs s ≡ slice_get ys s) → xs ≡ ys
    by [] [] same = refl
    by [] (y ∷ ys) same = let first = same 0 in absurd cc
    by (x ∷ xs) [] same = let first = same 0 in absurd cc
    by (x ∷ xs) (y ∷ ys) same = let first = same 0 in let here : x ≡ y = cc in rw here (ap (λ zs. y ∷ zs) (by xs ys (λ s. same (suc s))))

pub count_sites : (sig : List TypeEntry) (g : List Node) (n a : ℕ) → IsPatternOver sig g → agent_at g n ≡ Some a → length (sites_at g n) ≡ length (state_counts sig a)
count_sites sig g n a over h =
    let node = node_of_agent g n a h in
    let sites : sites_at g n ≡ node.0.sites = rw node.1 in
    rw sites (sym (length-map (λ (x : SiteTests). x.states) node.0.sites) ∙ ap length (over.sites n node.0 node.1) ∙ ap (λ b. length (state_counts sig b)) node.2)

pub node_text_at-is : (sig : List TypeEntry) (g : List Node) (n a : ℕ) → agent_at g n ≡ Some a →
    node_text_at sig g n ≡ name_at (type_names sig) a ++ codes "(" ++ comma_joined (site_texts sig g n a 0 (sites_at g n)) ++ codes ")"
node_text_at-is sig g n a h =
    let node = node_of_agent g n a h in
    rw (node.1, node.2)

pub ends_next : (g : List Node) (n a : ℕ) → agent_at g n ≡ Some a → first_ends 0 (take (n + 1) g) ≡ first_ends 0 (take n g) ++ first_ends_in n 0 (sites_at g n)
ends_next g n a h =
    let node = node_of_agent g n a h in
    let sites : sites_at g n ≡ node.0.sites = rw node.1 in
    rw sites (ap (first_ends 0) (take-one_more g n node.0 node.1) ∙ first_ends-push 0 n (take n g) node.0 (length-taken g n node.0 node.1))

-- the text of the nodes before n + 1
pub nodes_written : (sig : List TypeEntry) (g : List Node) (n : ℕ) → n < length g →
    comma_joined (map_from 0 (node_text sig g) (take (n + 1) g)) ≡ (comma_joined (map_from 0 (node_text sig g) (take n g)) ++ (if nat_lt 0 n then 44 ∷ [] else [])) ++ node_text_at sig g n
nodes_written sig g n h =
    let node = some_at g n h in
    let some : is_some_list (map_from 0 (node_text sig g) (take n g)) ≡ nat_lt 0 n =
    is_some_list-length (map_from 0 (node_text sig g) (take n g)) ∙ ap (nat_lt 0) (length-map_from (node_text sig g) (take n g) 0 ∙ (let e = length-taken g n node.0 node.1 in omega arith)) in
    let text : node_text_at sig g n ≡ node_text sig g n node.0 = rw node.1 in
    ap (λ nodes. comma_joined (map_from 0 (node_text sig g) nodes)) (take-one_more g n node.0 node.1)
    ∙ ap comma_joined (map_from-push (node_text sig g) 0 n (take n g) node.0 (length-taken g n node.0 node.1))
    ∙ comma_joined-push (map_from 0 (node_text sig g) (take n g)) (node_text sig g n node.0)
    ∙ rw (some, text)

pub all_written : (sig : List TypeEntry) (g : List Node) → comma_joined (map_from 0 (node_text sig g) (take (length g) g)) ≡ pattern_text sig g
unfolding pattern_text
all_written sig g = rw (take_all (length g) g (omega arith))

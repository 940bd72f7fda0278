-- The text of a site is of one site with one pair of tests.
use Rattle.std.proofs.Common.{◌≡◌, ◌≢◌, ◌∙◌, ◌<◌, ℕ, List, [], ◌∷◌, ◌++◌, Bool, true, false, ◌||◌, length, refl, sym, ap, arith, append_assoc, subst}
use Rattle.std.specs.List.{AllByRecursion}
use Rattle.kasa_graph.specs.declared.pattern.StateTest.{StateTest}
use Rattle.kasa_graph.specs.declared.pattern.StateTest.TheVariants as state
use Rattle.kasa_graph.specs.declared.pattern.LinkTest.{LinkTest}
use Rattle.kasa_graph.specs.declared.pattern.SiteTests.{SiteTests}
use Rattle.kasa_graph.specs.declared.pattern.Node.{Node}
use Rattle.kasa_graph.specs.Signature.{TypeEntry, site_names, state_names, IsNameByte, IsSignature}
use Rattle.kasa_graph.specs.PatternText.{name_at, state_text, link_text, site_text, tests_state, tests_link, is_written}
use Rattle.kasa_lists.proofs.Every.{AllByRecursion-append}
use Rattle.kasa_graph.proofs.SplitLemmas.{split-same, IsInside, IsPart}
use Rattle.kasa_graph.proofs.NameTextLemmas.{name_at-bytes, name_at-same, name_at-some, no_opening, no_brace}
use Rattle.kasa_graph.proofs.LinkTextLemmas.{numbered, IsRead, read_text, read_text-some, link_text-is, tests_link-numbered, untested, link-same, link-bytes, no_separator, names_inside}

-- no bracket of a link is a brace
no_state : (sig : List TypeEntry) (x : LinkTest) (rest : List ℕ) → ¬ (read_text sig x ≡ 123 ∷ rest)
no_state sig x rest e = by (tests_link x) refl
  where
    apart : (b c : ℕ) (bs cs : List ℕ) → b ≢ c → ¬ (b ∷ bs ≡ c ∷ cs)
    apart b c bs cs ne e = ne cc

    by : (b : Bool) → tests_link x ≡ b → ⊥
    by false none = let empty = ap (read_text sig) (untested x none) in let nil : [] ≡ 123 ∷ rest = sym empty ∙ e in cc
    by true some = let full = read_text-some sig x some in apart 91 123 _ _ (λ h. omega arith) (sym full ∙ e)

-- the state that is asked for is one of the site
abbrev pub IsStateOf : List TypeEntry → ℕ → ℕ → StateTest → Type 0
IsStateOf sig a s state.Any = Unit {0}
IsStateOf sig a s (state.Is u) = u < length (state_names sig a s)

-- the numbers at a site exist in the signature, as they are read
pub record IsSiteRead (sig : List TypeEntry) (g : List Node) (n a s : ℕ) (x : SiteTests) : Type 0 where
  pub named : s < length (site_names sig a)
  pub state : IsStateOf sig a s x.state
  pub link : IsRead sig (numbered g n s x.link)

module _ (sig : List TypeEntry) (names : IsSignature sig) (a : ℕ) where
  -- what stands behind the name of a site
  abbrev tests_text : ℕ → StateTest → LinkTest → List ℕ
  tests_text s u x = state_text sig a s u ++ read_text sig x

  braces : (s u : ℕ) (x : LinkTest) → tests_text s (state.Is u) x ≡ 123 ∷ (name_at (state_names sig a s) u ++ 125 ∷ read_text sig x)
  braces s u x = simp append_assoc

  states : (s u : ℕ) → AllByRecursion IsNameByte (name_at (state_names sig a s) u)
  states s u = name_at-bytes 32 (state_names sig a s) (names.states a s) u

  tests-same : (s : ℕ) (u w : StateTest) (x y : LinkTest) → IsStateOf sig a s u → IsStateOf sig a s w → IsRead sig x → IsRead sig y → tests_text s u x ≡ tests_text s w y → (u ≡ w) × (x ≡ y)
  tests-same s state.Any state.Any x y first second read same e = (refl, link-same sig names x y read same e)
  tests-same s state.Any (state.Is w) x y first second read same e = absurd (no_state sig x _ (e ∙ braces s w y))
  tests-same s (state.Is u) state.Any x y first second read same e = absurd (no_state sig y _ (sym e ∙ braces s u x))
  tests-same s (state.Is u) (state.Is w) x y first second read same e =
      let whole = sym (braces s u x) ∙ e ∙ braces s w y in
      let inner : name_at (state_names sig a s) u ++ 125 ∷ read_text sig x ≡ name_at (state_names sig a s) w ++ 125 ∷ read_text sig y = cc in
      let parts = split-same IsNameByte (name_at (state_names sig a s) u) (name_at (state_names sig a s) w) 125 125 (read_text sig x) (read_text sig y) (states s u) (states s w) (no_brace 125 (omega arith)) (no_brace 125 (omega arith)) inner in
      (ap state.Is (name_at-same 32 (state_names sig a s) u w (names.states a s) first second parts.0), link-same sig names x y read same parts.2)

  -- a bracket stands there where there is a test
  tests-some : (s : ℕ) (u : StateTest) (x : LinkTest) → (tests_state u || tests_link x) ≡ true → (b : ℕ) × (rest : List ℕ) × (tests_text s u x ≡ b ∷ rest) × (¬ IsNameByte b)
  tests-some s state.Any x some = (91, _, read_text-some sig x some, no_opening)
  tests-some s (state.Is u) x some = (123, _, braces s u x, no_brace 123 (omega arith))

  tests-bytes : (s : ℕ) (u : StateTest) (x : LinkTest) → IsRead sig x → AllByRecursion IsInside (tests_text s u x)
  tests-bytes s state.Any x read = link-bytes sig names x read
  tests-bytes s (state.Is u) x read = subst (AllByRecursion IsInside) (sym (braces s u x))
      (no_separator 123 (omega arith), AllByRecursion-append IsInside (name_at (state_names sig a s) u) (125 ∷ read_text sig x) (names_inside _ (states s u)) (no_separator 125 (omega arith), link-bytes sig names x read))

  -- ---- a site

  abbrev site_tests : List Node → ℕ → ℕ → SiteTests → List ℕ
  site_tests g n s x = tests_text s x.state (numbered g n s x.link)

  site_text-is : (g : List Node) (n s : ℕ) (x : SiteTests) → site_text sig g n a s x ≡ name_at (site_names sig a) s ++ site_tests g n s x
  site_text-is g n s x = append_assoc (name_at (site_names sig a) s) (state_text sig a s x.state) (link_text sig g n s x.link) ∙ ap (λ text. name_at (site_names sig a) s ++ (state_text sig a s x.state ++ text)) (link_text-is sig g n s x.link)

  site_tests-some : (g : List Node) (n s : ℕ) (x : SiteTests) → is_written x ≡ true → (b : ℕ) × (rest : List ℕ) × (site_tests g n s x ≡ b ∷ rest) × (¬ IsNameByte b)
  site_tests-some g n s x some = tests-some s x.state (numbered g n s x.link) (ap (λ b. tests_state x.state || b) (tests_link-numbered g n s x.link) ∙ some)

  sites : (s : ℕ) → AllByRecursion IsNameByte (name_at (site_names sig a) s)
  sites s = name_at-bytes 32 (site_names sig a) (names.sites a) s

  pub site_text-part : (g : List Node) (n s : ℕ) (x : SiteTests) → IsSiteRead sig g n a s x → IsPart (site_text sig g n a s x)
  site_text-part g n s x read = record {
    some = λ e. nil (name_at (site_names sig a) s) (site_tests g n s x) (name_at-some 32 (site_names sig a) s (names.sites a) read.named) (sym (site_text-is g n s x) ∙ e);
    bytes = subst (AllByRecursion IsInside) (sym (site_text-is g n s x)) (AllByRecursion-append IsInside (name_at (site_names sig a) s) (site_tests g n s x) (names_inside _ (sites s)) (tests-bytes s x.state (numbered g n s x.link) read.link));
  }
    where
      nil : (bs rest : List ℕ) → bs ≢ [] → ¬ (bs ++ rest ≡ [])
      nil [] rest some e = some refl
      nil (b ∷ bs) rest some e = cc

  module _ (g h : List Node) (n m s t : ℕ) (x y : SiteTests) (first : is_written x ≡ true) (second : is_written y ≡ true) (same : site_text sig g n a s x ≡ site_text sig h m a t y) where
    -- the name and the tests are told apart
    parts : (name_at (site_names sig a) s ≡ name_at (site_names sig a) t) × (site_tests g n s x ≡ site_tests h m t y)
    parts =
        let one = site_tests-some g n s x first in
        let other = site_tests-some h m t y second in
        let left = site_text-is g n s x ∙ ap (λ text. name_at (site_names sig a) s ++ text) one.2 in
        let right = site_text-is h m t y ∙ ap (λ text. name_at (site_names sig a) t ++ text) other.2 in
        let split = split-same IsNameByte (name_at (site_names sig a) s) (name_at (site_names sig a) t) one.0 other.0 one.1 other.1 (sites s) (sites t) one.3 other.3 (sym left ∙ same ∙ right) in
        (split.0, one.2 ∙ ap (λ b. b ∷ one.1) split.1 ∙ ap (λ rest. other.0 ∷ rest) split.2 ∙ sym other.2)

    pub site-same : IsSiteRead sig g n a s x → IsSiteRead sig h m a t y → s ≡ t
    site-same read also = name_at-same 32 (site_names sig a) s t (names.sites a) read.named also.named parts.0

  pub site_tests-same : (g h : List Node) (n m s : ℕ) (x y : SiteTests) → is_written x ≡ true → is_written y ≡ true → site_text sig g n a s x ≡ site_text sig h m a s y → IsSiteRead sig g n a s x → IsSiteRead sig h m a s y →
      (x.state ≡ y.state) × (numbered g n s x.link ≡ numbered h m s y.link)
  site_tests-same g h n m s x y first second same read also =
      tests-same s x.state y.state (numbered g n s x.link) (numbered h m s y.link) read.state also.state read.link also.link (parts g h n m s s x y first second same).1

-- A reading is of one pattern: where the numbers of bonds are the same, their ends are.
use Rattle.std.proofs.Common.{◌≡◌, ◌≢◌, ◌∙◌, ◌<◌, ◌+◌, ℕ, zero, suc, List, [], ◌∷◌, ◌++◌, Bool, true, false, not, nat_lt, if◌then◌else◌, cond, one-add, length, take, take_all, append_assoc, append-nil, refl, sym, ap, arith, Option, Some, slice_get, ◌⊎◌, inl, inr}
use Rattle.std.specs.Option.{option_map_or}
use Rattle.std.proofs.lemmas.Grind.{common_steps}
use Rattle.std.proofs.lemmas.Bool.Decides.{nat_tests}
use Rattle.kasa_graph.specs.declared.pattern.LinkTest.{LinkTest}
use Rattle.kasa_graph.specs.declared.pattern.LinkTest.TheVariants.{Any, Free, Bound, Partner, To}
use Rattle.kasa_graph.specs.declared.pattern.SiteTests.{SiteTests}
use Rattle.kasa_graph.specs.declared.pattern.Node.{Node}
use Rattle.kasa_graph.specs.Pattern.{link_test, IsPattern}
use Rattle.kasa_graph.specs.PatternText.{place, stands_before, begins_bond, first_ends, first_ends_in, bond_number}
use Rattle.kasa_graph.specs.PatternTextParts.{sites_at, ends_before}
use Rattle.kasa_graph.proofs.BondLemmas.{seen-is, bond_number-is, slice_get-sites_at, is_site, same}
use Rattle.kasa_graph.proofs.LinkTextLemmas.{numbered}

-- ---- the first ends of bonds, site by site

-- the link test of a site among some
abbrev link_of : List SiteTests → ℕ → LinkTest
link_of sites s = option_map_or (λ x. x.link) (slice_get sites s) Any

link_of-is : (g : List Node) (n s : ℕ) → link_of (sites_at g n) s ≡ link_test g n s
unfolding link_test
link_of-is g n s = ap (λ (o : Option SiteTests). option_map_or (λ x. x.link) o Any) (slice_get-sites_at g n s)

ends_in-next : (n k j s : ℕ) (sites : List SiteTests) → k + j ≡ s → first_ends_in n k (take (suc j) sites) ≡ first_ends_in n k (take j sites) ++ (if begins_bond n s (link_of sites j) then (n, s) ∷ [] else [])
ends_in-next n k zero s [] e = refl
ends_in-next n k (suc j) s [] e = refl
ends_in-next n k zero s (x ∷ sites) e = let same : k ≡ s = omega arith in rw same (append-nil _)
ends_in-next n k (suc j) s (x ∷ sites) e =
    ap (λ ends. (if begins_bond n k x.link then (n, k) ∷ [] else []) ++ ends) (ends_in-next n (suc k) j s sites (omega arith))
    ∙ sym (append_assoc (if begins_bond n k x.link then (n, k) ∷ [] else []) (first_ends_in n (suc k) (take j sites)) _)

ends-next : (k j n : ℕ) (g : List Node) → k + j ≡ n → first_ends k (take (suc j) g) ≡ first_ends k (take j g) ++ first_ends_in n 0 (sites_at g j)
ends-next k zero n [] e = refl
ends-next k (suc j) n [] e = refl
ends-next k zero n (node ∷ g) e = let same : k ≡ n = omega arith in rw same (append-nil _)
ends-next k (suc j) n (node ∷ g) e =
    ap (λ ends. first_ends_in k 0 node.sites ++ ends) (ends-next (suc k) j n g (omega arith))
    ∙ sym (append_assoc (first_ends_in k 0 node.sites) (first_ends (suc k) (take j g)) _)

-- the first that is a site is the site
at_place : (e : ℕ × ℕ) (ends : List (ℕ × ℕ)) → place e ends < length ends → slice_get ends (place e ends) ≡ Some e
at_place e [] h = absurd (omega arith)
at_place e (f ∷ ends) h = by (is_site e f) refl h (at_place e ends)
  where
    by : (b : Bool) → b ≡ is_site e f → cond (not b) (1 + place e ends) 0 < suc (length ends) → (place e ends < length ends → slice_get ends (place e ends) ≡ Some e) → slice_get (f ∷ ends) (cond (not b) (1 + place e ends) 0) ≡ Some e
    by true is h rest = ap (λ x. Some x) (sym (same e f (sym is)))
    by false is h rest = rw (one-add (place e ends)) (rest (omega arith))

-- sites among some that stand at one place are one
one_place : (ends others : List (ℕ × ℕ)) (e f : ℕ × ℕ) → ends ≡ others → place e ends ≡ place f others → nat_lt (place e ends) (length ends) ≡ true → e ≡ f
one_place ends others e f all places seen =
    let less : place e ends < length ends = grind (arith, common_steps, nat_tests, seen) in
    let lengths = ap (λ (xs : List (ℕ × ℕ)). length xs) all in
    let within : place f others < length others = omega arith in
    let one = at_place e ends less in
    let other = at_place f others within in
    let both : Some e ≡ Some f = cc in
    cc

-- ---- patterns whose links are read alike

-- every link is read the same in both
pub record ReadAlike (g h : List Node) : Type 0 where
  pub links : (n s : ℕ) → numbered g n s (link_test g n s) ≡ numbered h n s (link_test h n s)

-- a bond, or what is read as it stands
bond_or_not : (x : LinkTest) → ((m : ℕ) × (t : ℕ) × (x ≡ To m t)) ⊎ (((m t : ℕ) → x ≢ To m t) × ((g : List Node) (n s : ℕ) → numbered g n s x ≡ x))
bond_or_not Any = inr (λ m t e. cc, λ g n s. refl)
bond_or_not Free = inr (λ m t e. cc, λ g n s. refl)
bond_or_not Bound = inr (λ m t e. cc, λ g n s. refl)
bond_or_not (Partner b y) = inr (λ m t e. cc, λ g n s. refl)
bond_or_not (To m t) = inl (m, t, refl)

-- both are bonds of one number
abbrev SameNumber : List Node → List Node → ℕ → ℕ → Type 0
SameNumber g h n s = (m : ℕ) × (t : ℕ) × (j : ℕ) × (u : ℕ) × (link_test g n s ≡ To m t) × (link_test h n s ≡ To j u) × (bond_number g n s m t ≡ bond_number h n s j u)

same_or_bonds : (g h : List Node) (n s : ℕ) → ReadAlike g h → (link_test g n s ≡ link_test h n s) ⊎ SameNumber g h n s
same_or_bonds g h n s alike = by (link_test g n s) (link_test h n s) refl refl (alike.links n s)
  where
    by : (x y : LinkTest) → link_test g n s ≡ x → link_test h n s ≡ y → numbered g n s x ≡ numbered h n s y → (link_test g n s ≡ link_test h n s) ⊎ SameNumber g h n s
    by x y p q e = elim (bond_or_not x) [
      | inl a ↦ elim (bond_or_not y) [
        | inl b ↦ let both : To (bond_number g n s a.0 a.1) 0 ≡ To (bond_number h n s b.0 b.1) 0 = sym (ap (numbered g n s) a.2) ∙ e ∙ ap (numbered h n s) b.2 in
            inr (a.0, a.1, b.0, b.1, p ∙ a.2, q ∙ b.2, cc)
        | inr b ↦ absurd (b.0 (bond_number g n s a.0 a.1) 0 (sym (b.1 h n s) ∙ sym e ∙ ap (numbered g n s) a.2))
      ]
      | inr a ↦ elim (bond_or_not y) [
        | inl b ↦ absurd (a.0 (bond_number h n s b.0 b.1) 0 (sym (a.1 g n s) ∙ e ∙ ap (numbered h n s) b.2))
        | inr b ↦ inl (p ∙ sym (a.1 g n s) ∙ e ∙ b.1 h n s ∙ sym q)
      ]
    ]

not_same : (a b : Bool) → not a ≡ not b → a ≡ b
not_same true true e = refl
not_same true false e = absurd cc
not_same false true e = absurd cc
not_same false false e = refl

-- the place of the other end among the first ends before a site
place_before : (g : List Node) (is : IsPattern g) (n s m t : ℕ) → link_test g n s ≡ To m t → bond_number g n s m t ≡ suc (place (m, t) (ends_before g n s))
place_before g is n s m t h = let number = bond_number-is g is n s m t h in omega arith

module _ (g h : List Node) (is : IsPattern g) (also : IsPattern h) (alike : ReadAlike g h) where
  -- bonds of one number have their other ends at one place, where the same first ends stand before
  places-same : (n s m t j u : ℕ) → ends_before g n s ≡ ends_before h n s → link_test g n s ≡ To m t → link_test h n s ≡ To j u → bond_number g n s m t ≡ bond_number h n s j u →
      place (m, t) (ends_before g n s) ≡ place (j, u) (ends_before h n s)
  places-same n s m t j u before here there number =
      let one = place_before g is n s m t here in
      let other = place_before h also n s j u there in
      omega arith

  -- where the same first ends stand before a site, a bond begins there in both or in neither
  begins-same : (n s : ℕ) → ends_before g n s ≡ ends_before h n s → begins_bond n s (link_test g n s) ≡ begins_bond n s (link_test h n s)
  begins-same n s before = by (same_or_bonds g h n s alike)
    where
      by : (link_test g n s ≡ link_test h n s) ⊎ SameNumber g h n s → begins_bond n s (link_test g n s) ≡ begins_bond n s (link_test h n s)
      by (inl e) = ap (begins_bond n s) e
      by (inr (m, t, j, u, here, there, number)) =
          let places = places-same n s m t j u before here there number in
          let tests : nat_lt (place (m, t) (ends_before g n s)) (length (ends_before g n s)) ≡ nat_lt (place (j, u) (ends_before h n s)) (length (ends_before h n s)) =
          ap (λ k. nat_lt k (length (ends_before g n s))) places ∙ ap (λ (ends : List (ℕ × ℕ)). nat_lt (place (j, u) (ends_before h n s)) (length ends)) before in
          let one = seen-is g is n s m t here in
          let other = seen-is h also n s j u there in
          ap (begins_bond n s) here ∙ not_same (stands_before n s m t) (stands_before n s j u) (sym one ∙ tests ∙ other) ∙ sym (ap (begins_bond n s) there)

  -- so the same first ends stand before each site
  in_node-same : (n s : ℕ) → first_ends 0 (take n g) ≡ first_ends 0 (take n h) → first_ends_in n 0 (take s (sites_at g n)) ≡ first_ends_in n 0 (take s (sites_at h n))
  in_node-same n zero before = refl
  in_node-same n (suc s) before =
      let inside = in_node-same n s before in
      let begins = begins-same n s (ap (λ ends. ends ++ first_ends_in n 0 (take s (sites_at g n))) before ∙ ap (λ ends. first_ends 0 (take n h) ++ ends) inside) in
      let one = ends_in-next n 0 s s (sites_at g n) (omega arith) in
      let other = ends_in-next n 0 s s (sites_at h n) (omega arith) in
      one
      ∙ ap (λ (x : LinkTest). first_ends_in n 0 (take s (sites_at g n)) ++ (if begins_bond n s x then (n, s) ∷ [] else [])) (link_of-is g n s)
      ∙ ap (λ ends. ends ++ (if begins_bond n s (link_test g n s) then (n, s) ∷ [] else [])) inside
      ∙ ap (λ (b : Bool). first_ends_in n 0 (take s (sites_at h n)) ++ (if b then (n, s) ∷ [] else [])) begins
      ∙ sym (ap (λ (x : LinkTest). first_ends_in n 0 (take s (sites_at h n)) ++ (if begins_bond n s x then (n, s) ∷ [] else [])) (link_of-is h n s))
      ∙ sym other

  nodes-same : (n : ℕ) → first_ends 0 (take n g) ≡ first_ends 0 (take n h)
  nodes-same zero = refl
  nodes-same (suc n) =
      let before = nodes-same n in
      let most = length (sites_at g n) + length (sites_at h n) in
      let all = take_all most (sites_at g n) (omega arith) in
      let others = take_all most (sites_at h n) (omega arith) in
      let inside : first_ends_in n 0 (sites_at g n) ≡ first_ends_in n 0 (sites_at h n) = ap (first_ends_in n 0) (sym all) ∙ in_node-same n most before ∙ ap (first_ends_in n 0) others in
      ends-next 0 n n g (omega arith) ∙ ap (λ ends. ends ++ first_ends_in n 0 (sites_at g n)) before ∙ ap (λ ends. first_ends 0 (take n h) ++ ends) inside ∙ sym (ends-next 0 n n h (omega arith))

  before-same : (n s : ℕ) → ends_before g n s ≡ ends_before h n s
  before-same n s = let before = nodes-same n in ap (λ ends. ends ++ first_ends_in n 0 (take s (sites_at g n))) before ∙ ap (λ ends. first_ends 0 (take n h) ++ ends) (in_node-same n s before)

  -- a second end leads to the same first end in both
  second-same : (n s m t : ℕ) → link_test g n s ≡ To m t → stands_before n s m t ≡ false → link_test h n s ≡ To m t
  second-same n s m t here behind = by (same_or_bonds g h n s alike)
    where
      by : (link_test g n s ≡ link_test h n s) ⊎ SameNumber g h n s → link_test h n s ≡ To m t
      by (inl e) = sym e ∙ here
      by (inr (k, v, j, u, one, there, number)) =
          let linked : To k v ≡ To m t = sym one ∙ here in
          let places = places-same n s k v j u (before-same n s) one there number in
          let first : k ≡ m = cc in
          let second : t ≡ v = cc in
          let seen : nat_lt (place (k, v) (ends_before g n s)) (length (ends_before g n s)) ≡ true = seen-is g is n s k v one ∙ rw (first, ← second, behind) refl in
          let ends = one_place (ends_before g n s) (ends_before h n s) (k, v) (j, u) (before-same n s) places seen in
          there ∙ ap (λ (e : ℕ × ℕ). To e.0 e.1) (sym ends) ∙ linked

  -- and so does a first end
  pub links-same : (n s : ℕ) → link_test g n s ≡ link_test h n s
  links-same n s = by (same_or_bonds g h n s alike)
    where
      bond : (m t : ℕ) → link_test g n s ≡ To m t → (b : Bool) → stands_before n s m t ≡ b → link_test g n s ≡ link_test h n s
      bond m t here false e = here ∙ sym (second-same n s m t here e)
      bond m t here true e =
          let behind : stands_before m t n s ≡ false = grind (arith, common_steps, nat_tests, e) in
          here ∙ sym (also.both_ways m t n s (second-same m t n s (is.both_ways n s m t here) behind))

      by : (link_test g n s ≡ link_test h n s) ⊎ SameNumber g h n s → link_test g n s ≡ link_test h n s
      by (inl e) = e
      by (inr b) = bond b.0 b.1 b.4 (stands_before n s b.0 b.1) refl

-- What decides an embedding: cells that are different, and one node on its cell after the other.
use Rattle.std.proofs.Common.{◌≡◌, ℕ, zero, suc, ◌+◌, ◌<◌, ◌≤◌, inl, inr, Bool, true, false, List, [], ◌∷◌, refl, ap, sym, ◌∙◌, length, take, arith, eqb, eq-eqb}
use Rattle.std.specs.Prelude.{Option, Some, None, IsTrue, is_some, slice_get, option_map}
use Rattle.std.specs.List.{list_any}
use Rattle.std.proofs.lemmas.Bool.{eqb-true}
use Rattle.std.proofs.lemmas.Option.{slice_get_within, slice_get_past}
use Rattle.kasa_graph.specs.declared.pattern.StateTest.TheVariants as state
use Rattle.kasa_graph.specs.declared.pattern.LinkTest.TheVariants.{Any, Bound}
use Rattle.kasa_graph.specs.declared.pattern.SiteTests.{SiteTests}
use Rattle.kasa_graph.specs.declared.pattern.Node.{Node}
use Rattle.kasa_graph.specs.declared.mixture.Agent.{Agent}
use Rattle.kasa_lists.specs.Lists.{Has, AllDifferent}
use Rattle.kasa_graph.specs.Pattern.{agent_at, site_at, state_test, link_test}
use Rattle.kasa_graph.specs.Mixture.{type_in, state_in, partner_in}
use Rattle.kasa_graph.specs.Embedding.{MeetsState, MeetsLink, FitsCell, IsEmbedding}
use Rattle.kasa_lists.proofs.Numbers.{same_or_not, below_or}
use Rattle.kasa_lists.proofs.Options.{some_map}
use Rattle.kasa_lists.proofs.Elements.{some_at}

-- ---- different cells

pub Has-list_any : (xs : List ℕ) (x : ℕ) → IsTrue (list_any (λ y. eqb y x) xs) → Has xs x
Has-list_any [] x some = absurd cc
Has-list_any (y ∷ xs) x some = by_test (Has-list_any xs x) (eqb y x) refl some
  where
    by_test : (IsTrue (list_any (λ z. eqb z x) xs) → Has xs x) → (b : Bool) → eqb y x ≡ b → IsTrue (list_any (λ z. eqb z x) (y ∷ xs)) → Has (y ∷ xs) x
    by_test more true e h = (zero, ap (λ (z : ℕ). Some z) (eqb-true y x e))
    by_test more false e h = let rest = more (rw e at h) in (suc rest.0, rest.1)

list_any-at : (ys : List ℕ) (x k : ℕ) → slice_get ys k ≡ Some x → IsTrue (list_any (λ y. eqb y x) ys)
list_any-at [] x k at = absurd cc
list_any-at (y ∷ ys) x zero at = rw (eq-eqb y x cc) refl
list_any-at (y ∷ ys) x (suc k) at = by_test (list_any-at ys x k at) (eqb y x) refl
  where
    by_test : IsTrue (list_any (λ z. eqb z x) ys) → (b : Bool) → eqb y x ≡ b → IsTrue (list_any (λ z. eqb z x) (y ∷ ys))
    by_test more true e = rw e refl
    by_test more false e = rw e more

pub list_any-Has : (xs : List ℕ) (x : ℕ) → Has xs x → IsTrue (list_any (λ y. eqb y x) xs)
list_any-Has xs x has = list_any-at xs x has.0 has.1

slice_get-take : (xs : List ℕ) (n k : ℕ) → k < n → slice_get (take n xs) k ≡ slice_get xs k
slice_get-take [] zero k h = absurd (omega arith)
slice_get-take [] (suc n) k h = refl
slice_get-take (x ∷ xs) zero k h = absurd (omega arith)
slice_get-take (x ∷ xs) (suc n) zero h = refl
slice_get-take (x ∷ xs) (suc n) (suc k) h = slice_get-take xs n k (omega arith)

take_within : (xs : List ℕ) (n k x : ℕ) → slice_get (take n xs) k ≡ Some x → k < n
take_within [] zero k x at = absurd cc
take_within [] (suc n) k x at = absurd cc
take_within (y ∷ xs) zero k x at = absurd cc
take_within (y ∷ xs) (suc n) zero x at = omega arith
take_within (y ∷ xs) (suc n) (suc k) x at = let h = take_within xs n k x at in omega arith

-- the first n elements are different
abbrev pub AreDifferentBelow : List ℕ → ℕ → Type 0
AreDifferentBelow xs n = (i j x : ℕ) → i < n → j < n → slice_get xs i ≡ Some x → slice_get xs j ≡ Some x → i ≡ j

pub AreDifferentBelow-more : (xs : List ℕ) (n y : ℕ) → slice_get xs n ≡ Some y → (Has (take n xs) y → ⊥) → AreDifferentBelow xs n → AreDifferentBelow xs (n + 1)
AreDifferentBelow-more xs n y here new different i j x below_i below_j at_i at_j =
    elim (same_or_not i n) [
      | inl e ↦ elim (same_or_not j n) [
        | inl f ↦ e ∙ sym f
        | inr ne ↦ absurd (stands j (omega arith) (let same : x ≡ y = (let p = (rw e at at_i) in cc) in rw (← same) at_j))
      ]
      | inr ne ↦ elim (same_or_not j n) [
        | inl f ↦ absurd (stands i (omega arith) (let same : x ≡ y = (let p = (rw f at at_j) in cc) in rw (← same) at_i))
        | inr ne' ↦ different i j x (omega arith) (omega arith) at_i at_j
      ]
    ]
  where
    stands : (k : ℕ) → k < n → slice_get xs k ≡ Some y → ⊥
    stands k below at = new (k, slice_get-take xs n k below ∙ at)

pub AllDifferent-below : (xs : List ℕ) (n : ℕ) → length xs ≤ n → AreDifferentBelow xs n → AllDifferent xs
AllDifferent-below xs n all different i j x at_i at_j =
    let within_i = slice_get_within xs i x at_i in
    let within_j = slice_get_within xs j x at_j in
    different i j x (omega arith) (omega arith) at_i at_j

-- ---- tests that are met

pub MeetsLink-Bound : (m : List (Option Agent)) (cells : List ℕ) (p : Option (ℕ × ℕ)) → IsTrue (is_some p) → MeetsLink m cells p Bound
MeetsLink-Bound m cells None some = absurd cc
MeetsLink-Bound m cells (Some p) some = (p.0, p.1, refl)

pub bound_of_meets : (m : List (Option Agent)) (cells : List ℕ) (p : Option (ℕ × ℕ)) → MeetsLink m cells p Bound → IsTrue (is_some p)
bound_of_meets m cells None met = absurd (let e = met.2 in cc)
bound_of_meets m cells (Some p) met = refl

-- ---- a node on a cell

pub state_test-at : (g : List Node) (n s : ℕ) (x : SiteTests) → site_at g n s ≡ Some x → state_test g n s ≡ x.state
unfolding state_test
state_test-at g n s x at = rw at refl

pub link_test-at : (g : List Node) (n s : ℕ) (x : SiteTests) → site_at g n s ≡ Some x → link_test g n s ≡ x.link
unfolding link_test
link_test-at g n s x at = rw at refl

state_test-past : (g : List Node) (n s : ℕ) → site_at g n s ≡ None → state_test g n s ≡ state.Any
unfolding state_test
state_test-past g n s at = rw at refl

link_test-past : (g : List Node) (n s : ℕ) → site_at g n s ≡ None → link_test g n s ≡ Any
unfolding link_test
link_test-past g n s at = rw at refl

pub agent_at_within : (g : List Node) (n a : ℕ) → agent_at g n ≡ Some a → n < length g
unfolding agent_at
agent_at_within g n a is = let node = some_map (λ (node : Node). node.agent) (slice_get g n) a is in slice_get_within g n node.0 node.1

pub some_agent : (g : List Node) (n : ℕ) → n < length g → (a : ℕ) × (agent_at g n ≡ Some a)
unfolding agent_at
some_agent g n within = let node = some_at g n within in (node.0.agent, ap (option_map (λ (x : Node). x.agent)) node.1)

module _ (g : List Node) (m : List (Option Agent)) (cells : List ℕ) where
  -- a site of a cell meets the tests at a site of a node
  abbrev pub MeetsAt : ℕ → ℕ → ℕ → Type 0
  MeetsAt n c s = MeetsState (state_in m c s) (state_test g n s) × MeetsLink m cells (partner_in m c s) (link_test g n s)

  pub MeetsAt-of : (n c s : ℕ) (x : SiteTests) → site_at g n s ≡ Some x → MeetsState (state_in m c s) x.state × MeetsLink m cells (partner_in m c s) x.link → MeetsAt n c s
  MeetsAt-of n c s x at met = (rw (state_test-at g n s x at) met.0, rw (link_test-at g n s x at) met.1)

  pub meets_of_fits : (n c s : ℕ) (x : SiteTests) → site_at g n s ≡ Some x → FitsCell g m cells n c → MeetsState (state_in m c s) x.state × MeetsLink m cells (partner_in m c s) x.link
  meets_of_fits n c s x at fits = (rw (state_test-at g n s x at) at (fits.states s), rw (link_test-at g n s x at) at (fits.links s))

  -- a site that the node doesn't have asks for nothing
  pub FitsCell-of : (n c : ℕ) (xs : List SiteTests) → type_in m c ≡ agent_at g n → ((s : ℕ) → site_at g n s ≡ slice_get xs s) → ((s : ℕ) → s < length xs → MeetsAt n c s) → FitsCell g m cells n c
  FitsCell-of n c xs typed sites met = record {
    agent = typed;
    states = λ s. elim (below_or s (length xs)) [
      | inl h ↦ (met s h).0
      | inr k ↦ rw (state_test-past g n s (past s k)) tt
    ];
    links = λ s. elim (below_or s (length xs)) [
      | inl h ↦ (met s h).1
      | inr k ↦ rw (link_test-past g n s (past s k)) tt
    ];
  }
    where
      past : (s : ℕ) → (k : ℕ) × (length xs + k ≡ s) → site_at g n s ≡ None
      past s k = sites s ∙ slice_get_past xs s (let e = k.1 in omega arith)

  pub IsEmbedding-of : length cells ≡ length g → AllDifferent cells → ((n c : ℕ) → slice_get cells n ≡ Some c → FitsCell g m cells n c) → IsEmbedding g m cells
  IsEmbedding-of count different fits = record {
    count = count;
    different = different;
    types = λ n c a here is. (fits n c here).agent ∙ is;
    states = λ n c s here. (fits n c here).states s;
    links = λ n c s here. (fits n c here).links s;
  }

  pub FitsCell-from : IsEmbedding g m cells → (n c : ℕ) → slice_get cells n ≡ Some c → FitsCell g m cells n c
  FitsCell-from at n c here =
      let within = slice_get_within cells n c here in
      let agent = some_agent g n (let e = at.count in omega arith) in
      record {
        agent = at.types n c agent.0 here agent.1 ∙ sym agent.1;
        states = λ s. at.states n c s here;
        links = λ s. at.links n c s here;
      }

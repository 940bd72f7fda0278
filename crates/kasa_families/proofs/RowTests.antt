-- What the pattern of a row tests at each site.
use Rattle.std.proofs.Common.{◌≡◌, ◌≢◌, ℕ, zero, suc, ◌<◌, List, [], ◌∷◌, ◌∙◌, arith}
use Rattle.std.specs.Prelude.{Some, slice_get}
use Rattle.kasa_graph.specs.declared.pattern.Node.{Node}
use Rattle.kasa_graph.specs.Lists.{AllDifferent}
use Rattle.kasa_graph.specs.Pattern.{state_test, link_test, types_of, HasNodeSite}
use Rattle.kasa_graph.proofs.ListLemmas.{AllDifferent-[], AllDifferent-cons}
use Rattle.kasa_graph.proofs.PatternLemmas.{link_test-with_link_same, link_test-with_link_other, link_test-with_state, HasNodeSite-with_link}
use Rattle.kasa_graph.proofs.TestLemmas.{types_of-with_state, types_of-with_link, state_test-with_link, state_test-with_state_same, state_test-with_state_other, HasNodeSite-with_state}
use Rattle.kasa_families.specs.declared.row.Local.{Local}
use Rattle.kasa_families.specs.Family.{Ascends}
use Rattle.kasa_families.specs.Local.{local_state_test, local_link_test, with_local}

-- ---- ascending numbers are different

Ascends-above : (x : ℕ) (xs : List ℕ) (i y : ℕ) → Ascends (x ∷ xs) → slice_get xs i ≡ Some y → x < y
Ascends-above x [] i y up e = absurd cc
Ascends-above x (z ∷ xs) zero y up e = let same : z ≡ y = cc in rw (← same) up.0
Ascends-above x (z ∷ xs) (suc i) y up e = let later = Ascends-above z xs i y up.1 e in let first = up.0 in omega arith

pub Ascends-tail : (x : ℕ) (xs : List ℕ) → Ascends (x ∷ xs) → Ascends xs
Ascends-tail x [] up = tt
Ascends-tail x (y ∷ xs) up = up.1

pub AllDifferent-ascends : (xs : List ℕ) → Ascends xs → AllDifferent xs
AllDifferent-ascends [] up = AllDifferent-[]
AllDifferent-ascends (x ∷ xs) up = AllDifferent-cons x xs (λ i e. let h = Ascends-above x xs i x up e in omega arith) (AllDifferent-ascends xs (Ascends-tail x xs up))

-- ---- a local state at one site

module _ (g : List Node) (n s : ℕ) (l : Local) where
  pub types_of-with_local : types_of (with_local g n s l) ≡ types_of g
  types_of-with_local = types_of-with_link _ n s (local_link_test l.link) ∙ types_of-with_state g n s (local_state_test l.state)

  pub HasNodeSite-with_local : (k u : ℕ) → HasNodeSite g k u → HasNodeSite (with_local g n s l) k u
  HasNodeSite-with_local k u has = HasNodeSite-with_link _ n s k u (local_link_test l.link) (HasNodeSite-with_state g n s k u (local_state_test l.state) has)

  pub state_test-with_local_same : HasNodeSite g n s → state_test (with_local g n s l) n s ≡ local_state_test l.state
  state_test-with_local_same has = state_test-with_link _ n s (local_link_test l.link) n s ∙ state_test-with_state_same g n s (local_state_test l.state) has

  pub link_test-with_local_same : HasNodeSite g n s → link_test (with_local g n s l) n s ≡ local_link_test l.link
  link_test-with_local_same has = link_test-with_link_same _ n s (local_link_test l.link) (HasNodeSite-with_state g n s n s (local_state_test l.state) has)

  pub state_test-with_local_other : (k u : ℕ) → (n ≡ k → s ≢ u) → state_test (with_local g n s l) k u ≡ state_test g k u
  state_test-with_local_other k u ne = state_test-with_link _ n s (local_link_test l.link) k u ∙ state_test-with_state_other g n s k u (local_state_test l.state) ne

  pub link_test-with_local_other : (k u : ℕ) → (n ≡ k → s ≢ u) → link_test (with_local g n s l) k u ≡ link_test g k u
  link_test-with_local_other k u ne = link_test-with_link_other _ n s k u (local_link_test l.link) ne ∙ link_test-with_state g n s (local_state_test l.state) k u

-- Branches of cells: what partners lead to from a cell, away from the cell that led to it.
use Rattle.std.proofs.Common.{◌≡◌, ◌≢◌, ℕ, zero, suc, ◌+◌, ◌<◌, ◌≤◌, ◌⊎◌, inl, inr, List, [], ◌∷◌, ◌++◌, length, length-append, refl, sym, ap, ◌∙◌, arith}
use Rattle.std.specs.Prelude.{Option, Some, None, slice_get, sum}
use Rattle.kasa_graph.specs.declared.mixture.Agent.{Agent}
use Rattle.kasa_graph.specs.Lists.{Has, AllDifferent}
use Rattle.kasa_graph.specs.Mixture.{partner_in}
use Rattle.kasa_graph.proofs.ListLemmas.{same_or_not, Has-append, Has-left, Has-right}
use Rattle.kasa_polymers.specs.Species.{Connected}
use Rattle.kasa_polymers.specs.Species.Connected.{here, next}
use Rattle.kasa_polymers.proofs.Different.{length-different, sum-cons}

-- each partner of a listed cell is listed, or is the given cell
abbrev pub IsClosedTo : List (Option Agent) → List ℕ → ℕ → Type 0
IsClosedTo m cells a = (d s e t : ℕ) → Has cells d → partner_in m d s ≡ Some (e, t) → Has cells e ⊎ (e ≡ a)

-- at most n cells that hold b and all that partners lead to from it, but for what lies behind a
pub record Branch (m : List (Option Agent)) (a b n : ℕ) : Type 0 where
  pub cells : List ℕ
  pub short : length cells ≤ n
  pub entered : Has cells b
  pub closed : IsClosedTo m cells a

-- at most n cells for what b's sites, so many, lead to, where the partners are neither a nor b
pub record Branches (m : List (Option Agent)) (a b : ℕ) (at : ℕ → Option (ℕ × ℕ)) (count n : ℕ) : Type 0 where
  pub cells : List ℕ
  pub short : length cells ≤ n
  pub covers : (z e t : ℕ) → z < count → at z ≡ Some (e, t) → Has cells e ⊎ (e ≡ a) ⊎ (e ≡ b)
  pub closed : IsClosedTo m cells b

module _ (m : List (Option Agent)) (a b : ℕ) where
  no_branches : (at : ℕ → Option (ℕ × ℕ)) (count n : ℕ) → ((z e t : ℕ) → z < count → at z ≡ Some (e, t) → (e ≡ a) ⊎ (e ≡ b)) → Branches m a b at count n
  no_branches at count n met = record { cells = []; short = omega arith; covers = λ z e t h f. inr (met z e t h f); closed = λ d s e t has f. absurd (let g = has.1 in cc) }

  -- one site: none, or the branch that goes on from b by it
  pub branch_at : (n : ℕ) (o : Option (ℕ × ℕ)) → ((e t : ℕ) → o ≡ Some (e, t) → e ≢ a → e ≢ b → Branch m b e n) → Branches m a b (λ z. o) 1 n
  branch_at n None branch = no_branches (λ z. None) 1 n (λ z e t h f. absurd cc)
  branch_at n (Some (c, y)) branch =
      elim (same_or_not c a) [
        | inl e ↦ no_branches (λ z. Some (c, y)) 1 n (λ z d t h f. inl (sym (same_cell d t f) ∙ e))
        | inr not_a ↦ elim (same_or_not c b) [
          | inl e ↦ no_branches (λ z. Some (c, y)) 1 n (λ z d t h f. inr (sym (same_cell d t f) ∙ e))
          | inr not_b ↦
              let found = branch c y refl not_a not_b in
              record { cells = found.cells; short = found.short; covers = λ z d t h f. inl (found.entered.0, found.entered.1 ∙ ap Some (same_cell d t f)); closed = found.closed }
        ]
      ]
    where
      same_cell : (d t : ℕ) → ◌≡◌ {A = Option (ℕ × ℕ)} (Some (c, y)) (Some (d, t)) → c ≡ d
      same_cell d t f = let pair : ◌≡◌ {A = ℕ × ℕ} (c, y) (d, t) = cc in ap (λ (p : ℕ × ℕ). p.0) pair

  covers-append : (at : ℕ → Option (ℕ × ℕ)) (k count n : ℕ) (first : Branches m a b (λ z. at 0) 1 k) (rest : Branches m a b (λ z. at (suc z)) count n) (z e t : ℕ) → z < suc count → at z ≡ Some (e, t) → Has (first.cells ++ rest.cells) e ⊎ (e ≡ a) ⊎ (e ≡ b)
  covers-append at k count n first rest zero e t h f = elim (first.covers zero e t (omega arith) f) [ inl has ↦ inl (Has-left first.cells rest.cells e has) | inr met ↦ inr met ]
  covers-append at k count n first rest (suc z) e t h f = elim (rest.covers z e t (omega arith) f) [ inl has ↦ inl (Has-right first.cells rest.cells e has) | inr met ↦ inr met ]

  closed-append : (xs ys : List ℕ) → IsClosedTo m xs b → IsClosedTo m ys b → IsClosedTo m (xs ++ ys) b
  closed-append xs ys first rest d s e t has f = elim (Has-append xs ys d has) [
    | inl there ↦ elim (first d s e t there f) [ inl ok ↦ inl (Has-left xs ys e ok) | inr met ↦ inr met ]
    | inr there ↦ elim (rest d s e t there f) [ inl ok ↦ inl (Has-right xs ys e ok) | inr met ↦ inr met ]
  ]

  -- one site after another, each within its share
  branches : (shares : List ℕ) (at : ℕ → Option (ℕ × ℕ)) → ((z n : ℕ) → slice_get shares z ≡ Some n → Branches m a b (λ k. at z) 1 n) → Branches m a b at (length shares) (sum shares)
  branches [] at sites = no_branches at 0 0 (λ z e t h f. absurd (omega arith))
  branches (n ∷ shares) at sites =
      let first = sites zero n refl in
      let rest = branches shares (λ z. at (suc z)) (λ z k e. sites (suc z) k e) in
      record {
        cells = first.cells ++ rest.cells;
        short = let h = first.short in let k = rest.short in let s = sum-cons n shares in rw (length-append first.cells rest.cells) (omega arith);
        covers = covers-append at n (length shares) (sum shares) first rest;
        closed = closed-append first.cells rest.cells first.closed rest.closed;
      }

  -- b and what its sites lead to
  pub branch_of : (shares : List ℕ) (n : ℕ) → ((z e t : ℕ) → partner_in m b z ≡ Some (e, t) → z < length shares) → ((z k : ℕ) → slice_get shares z ≡ Some k → Branches m a b (λ j. partner_in m b z) 1 k) → 1 + sum shares ≤ n → Branch m a b n
  branch_of shares n within sites fits =
      let rest = branches shares (partner_in m b) sites in
      record {
        cells = b ∷ rest.cells;
        short = let h = rest.short in omega arith;
        entered = (zero, refl);
        closed = closed rest;
      }
    where
      later : (cells : List ℕ) (e : ℕ) → Has cells e → Has (b ∷ cells) e
      later cells e has = (suc has.0, has.1)

      closed_at : (rest : Branches m a b (partner_in m b) (length shares) (sum shares)) (d s e t k : ℕ) → slice_get (b ∷ rest.cells) k ≡ Some d → partner_in m d s ≡ Some (e, t) → Has (b ∷ rest.cells) e ⊎ (e ≡ a)
      closed_at rest d s e t zero is f =
          let same : b ≡ d = cc in
          let g : partner_in m b s ≡ Some (e, t) = rw same f in
          elim (rest.covers s e t (within s e t g) g) [
            | inl ok ↦ inl (later rest.cells e ok)
            | inr (inl met) ↦ inr met
            | inr (inr met) ↦ inl (zero, ap Some (sym met))
          ]
      closed_at rest d s e t (suc k) is f = elim (rest.closed d s e t (k, is) f) [ inl ok ↦ inl (later rest.cells e ok) | inr met ↦ inl (zero, ap Some (sym met)) ]

      closed : (rest : Branches m a b (partner_in m b) (length shares) (sum shares)) → IsClosedTo m (b ∷ rest.cells) a
      closed rest d s e t has f = closed_at rest d s e t has.0 has.1 f

-- a branch that begins at a cell, and leaves out nothing, holds its whole species
module _ (m : List (Option Agent)) (c n : ℕ) (whole : Branch m c c n) where
  listed : (d : ℕ) → Connected m c d → Has whole.cells d
  listed _ here = whole.entered
  listed _ (next {d} s e t to bound) = elim (whole.closed d s e t (listed d to) bound) [ inl has ↦ has | inr same ↦ rw same whole.entered ]

  pub within-branch : (cells : List ℕ) → AllDifferent cells → ((d : ℕ) → Has cells d → Connected m c d) → length cells ≤ n
  within-branch cells different connected =
      let h = length-different cells whole.cells different (λ d has. listed d (connected d has)) in
      let k = whole.short in omega arith

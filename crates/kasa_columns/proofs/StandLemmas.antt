-- Stands of a root's first nodes: which there are, and that those which follow the bonds grow node by node.
use Rattle.std.proofs.Common.{subst, ◌≡◌, ℕ, zero, suc, ◌+◌, ◌<◌, ◌≤◌, ◌⊎◌, inl, inr, ◌↔◌, List, [], ◌∷◌, ◌++◌, take, refl, sym, ap, ◌∙◌, length, arith, Option, Some, None}
use Rattle.std.specs.Prelude.{MatchOption, slice_get}
use Rattle.std.specs.List.{AllZip}
use Rattle.std.proofs.lemmas.List.{take_all}
use Rattle.std.proofs.lemmas.Option.{same_Some, slice_get_within}
use Rattle.std.proofs.lemmas.Slice.Zip.{AllZip-long}
use Rattle.indexmap.proofs.SetLemmas.{AllZip-push}
use Rattle.kasa_graph.specs.declared.pattern.Node.{Node}
use Rattle.kasa_graph.specs.declared.pattern.LinkTest.{LinkTest}
use Rattle.kasa_graph.specs.declared.pattern.LinkTest.TheVariants as test
use Rattle.kasa_graph.specs.Lists.{Has}
use Rattle.kasa_graph.specs.Pattern.{agent_at, link_test, HasNodeSite}
use Rattle.kasa_graph.proofs.ListLemmas.{some_map, take-next, pushed_or}
use Rattle.kasa_families.specs.declared.shape.NodeSite.{NodeSite}
use Rattle.kasa_families.specs.declared.shape.Bond.{Bond}
use Rattle.kasa_families.specs.Shape.{Shape, Nth}
use Rattle.kasa_families.proofs.ColumnLemmas.{Nth-to, nth_of, to_nth}
use Rattle.kasa_rules.specs.declared.rule.MadeAgent.{MadeAgent}
use Rattle.kasa_rules.specs.declared.rule.Written.{Written}
use Rattle.kasa_rules.specs.declared.rule.Written.TheVariants as written
use Rattle.kasa_rules.specs.Rule.{RuleParts, made_type}
use Rattle.kasa_pre.specs.declared.Stand.{Stand}
use Rattle.kasa_pre.specs.declared.Stand.TheVariants.{Left, Made, Outside}
use Rattle.kasa_pre.specs.Before.{FitsStand, link_written}
use Rattle.kasa_pre.specs.Asked.{StandExists, StandsExist}
use Rattle.kasa_columns.specs.Along.{WrittenLeads, TestLeads, StandLeads, LeadsAlong}
use Rattle.kasa_columns.specs.Forward.{LeavesBonds}
use Rattle.kasa_columns.specs.Settled.{FollowsBonds}
use Rattle.kasa_columns.specs.Stands.{AreFrom, IsLeftOf, IsMadeOf, IsLonger, LeavesBond}
use Rattle.kasa_columns.proofs.AnyLocal.{tested_site}
use Rattle.kasa_columns.proofs.Pushing.{last_or}
use Rattle.kasa_columns.proofs.Zips.{zip_get}

-- ---- stands that fit exist

pub left_within : (r : RuleParts) (n a : ℕ) → FitsStand r (Left n) a → n < length r.left
unfolding agent_at
left_within r n a fits = let node = some_map (λ (x : Node). x.agent) (slice_get r.left n) a fits.1 in slice_get_within r.left n node.0 node.1

pub made_within : (r : RuleParts) (k a : ℕ) → FitsStand r (Made k) a → k < length r.made
unfolding made_type
made_within r k a fits = let agent = some_map (λ (x : MadeAgent). x.agent) (slice_get r.made k) a fits in slice_get_within r.made k agent.0 agent.1

pub StandExists-fits : (r : RuleParts) (stand : Stand) (a : ℕ) → FitsStand r stand a → StandExists r stand
StandExists-fits r (Left n) a fits = left_within r n a fits
StandExists-fits r (Made k) a fits = made_within r k a fits
StandExists-fits r Outside a fits = tt

pub StandsExist-fit : (r : RuleParts) (stands : List Stand) (types : List ℕ) → AllZip (FitsStand r) stands types → StandsExist r stands
StandsExist-fit r stands types fit i stand at = let a = zip_get (FitsStand r) stands types i stand fit at in StandExists-fits r stand a.0 a.2

pub StandsExist-push : (r : RuleParts) (stands : List Stand) (stand : Stand) → StandsExist r stands → StandExists r stand → StandsExist r (stands ++ stand ∷ [])
StandsExist-push r stands stand exist exists i other at = elim (pushed_or stands stand other i at) [
  | inl old ↦ exist i other old
  | inr e ↦ rw e exists
]

-- ---- the stands of one node

-- a node of the type is outside, or a kept left node, or created
pub which_stand : (r : RuleParts) (a : ℕ) (stand : Stand) → FitsStand r stand a ↔ ((stand ≡ Outside) ⊎ ((n : ℕ) × IsLeftOf r a n stand) ⊎ ((k : ℕ) × IsMadeOf r a k stand))
which_stand r a stand = (there stand, back)
  where
    there : (stand : Stand) → FitsStand r stand a → (stand ≡ Outside) ⊎ ((n : ℕ) × IsLeftOf r a n stand) ⊎ ((k : ℕ) × IsMadeOf r a k stand)
    there (Left n) fits = inr (inl (n, (refl, fits)))
    there (Made k) fits = inr (inr (k, (refl, fits)))
    there Outside fits = inl refl

    back : (stand ≡ Outside) ⊎ ((n : ℕ) × IsLeftOf r a n stand) ⊎ ((k : ℕ) × IsMadeOf r a k stand) → FitsStand r stand a
    back (inl e) = rw e tt
    back (inr (inl (n, (e, fits)))) = rw e fits
    back (inr (inr (k, (e, fits)))) = rw e fits

-- ---- the first nodes

slice_get-take : {X : Type 0} (xs : List X) (n k : ℕ) → k < n → slice_get (take n xs) k ≡ slice_get xs k
slice_get-take xs zero k less = absurd (omega arith)
slice_get-take [] (suc n) k less = refl
slice_get-take (x ∷ xs) (suc n) zero less = refl
slice_get-take (x ∷ xs) (suc n) (suc k) less = slice_get-take xs n k (omega arith)

nth_take : {X : Type 0} (P : X → Type 0) (xs : List X) (n k : ℕ) → k < n → Nth xs k P → Nth (take n xs) k P
nth_take P xs n k less h =
    let x = nth_of xs k P h in
    to_nth (take n xs) k P x.0 (slice_get-take xs n k less ∙ x.1) x.2

within_take : {X : Type 0} (xs : List X) (n k : ℕ) → k < length (take n xs) → (k < n) × (k < length xs)
within_take xs zero k less = absurd (omega arith)
within_take [] (suc n) k less = absurd (omega arith)
within_take (x ∷ xs) (suc n) zero less = (omega arith, omega arith)
within_take (x ∷ xs) (suc n) (suc k) less = let h = within_take xs n k (omega arith) in (let a = h.0 in omega arith, let b = h.1 in omega arith)

-- a bond is followed the same where its other node has the same stand
module _ (r : RuleParts) (whole part : List Stand) (t : NodeSite) (same : slice_get part t.node ≡ slice_get whole t.node) where
  written_moves : (w : Written) → WrittenLeads whole t w → WrittenLeads part t w
  written_moves written.Free h = absurd h
  written_moves (written.To e y) h = (h.0, same ∙ h.1)

  test_moves : (x : LinkTest) → TestLeads whole t x → TestLeads part t x
  test_moves test.Any h = tt
  test_moves test.Free h = absurd h
  test_moves test.Bound h = tt
  test_moves (test.Partner b y) h = h
  test_moves (test.To m u) h = (h.0, same ∙ h.1)

  stand_moves : (s : NodeSite) (stand : Stand) → StandLeads r whole s t stand → StandLeads r part s t stand
  stand_moves s (Left n) h = test_moves (link_test r.left n s.site) h
  stand_moves s (Made k) h = tt
  stand_moves s Outside h = tt

  either_moves : (s : NodeSite) (stand : Stand) (w : Option Written) → MatchOption w (StandLeads r whole s t stand) (WrittenLeads whole t) → MatchOption w (StandLeads r part s t stand) (WrittenLeads part t)
  either_moves s stand None h = stand_moves s stand h
  either_moves s stand (Some w) h = written_moves w h

LeadsAlong-take : (r : RuleParts) (stands : List Stand) (n : ℕ) (s t : NodeSite) → s.node < n → t.node < n → LeadsAlong r stands s t → LeadsAlong r (take n stands) s t
LeadsAlong-take r stands n s t s_in t_in leads =
    Nth-to (take n stands) s.node _ _ (λ stand h. either_moves r stands (take n stands) t (slice_get-take stands n t.node t_in) s stand (link_written r stand s.site) h) (nth_take _ stands n s.node s_in leads)

pub FollowsBonds-take : (r : RuleParts) (bonds : List Bond) (stands : List Stand) (n : ℕ) → FollowsBonds r bonds stands → FollowsBonds r bonds (take n stands)
FollowsBonds-take r bonds stands n follow b has first second =
    let f = within_take stands n b.first.node first in
    let s = within_take stands n b.second.node second in
    let both = follow b has f.1 s.1 in
    (LeadsAlong-take r stands n b.first b.second f.0 s.0 both.0, LeadsAlong-take r stands n b.second b.first s.0 f.0 both.1)

-- ---- all stands, as far as the first nodes

pub record AreSoFar (r : RuleParts) (shape : Shape) (n : ℕ) (all : List (List Stand)) : Type 0 where
  pub fit : (stands : List Stand) → Has all stands → AllZip (FitsStand r) stands (take n shape.types)
  pub complete : (stands : List Stand) → AllZip (FitsStand r) stands shape.types → FollowsBonds r shape.bonds stands → Has all (take n stands)

pub no_nodes : (r : RuleParts) (shape : Shape) → AreSoFar r shape 0 ([] ∷ [])
no_nodes r shape = record { fit = λ stands has. only stands has.0 has.1; complete = λ stands fit follow. (zero, refl) }
  where
    only : (stands : List Stand) (k : ℕ) → slice_get ([] ∷ []) k ≡ Some stands → AllZip (FitsStand r) stands []
    only stands zero e = let same : [] ≡ stands = cc in rw (← same) tt
    only stands (suc k) e = absurd cc

-- a stand for each type, by the type's number
fits_at : (r : RuleParts) (stands : List Stand) (types : List ℕ) (n a : ℕ) → AllZip (FitsStand r) stands types → slice_get types n ≡ Some a → (stand : Stand) × (slice_get stands n ≡ Some stand) × FitsStand r stand a
fits_at r [] [] n a fit is = absurd cc
fits_at r [] (b ∷ types) n a fit is = absurd fit
fits_at r (stand ∷ stands) [] n a fit is = absurd fit
fits_at r (stand ∷ stands) (b ∷ types) zero a fit is = let same : b ≡ a = cc in (stand, refl, rw (← same) fit.0)
fits_at r (stand ∷ stands) (b ∷ types) (suc n) a fit is = fits_at r stands types n a fit.1 is

module _ (r : RuleParts) (shape : Shape) (n a : ℕ) (is : slice_get shape.types n ≡ Some a) (next : List Stand) (each : (stand : Stand) → Has next stand ↔ FitsStand r stand a) (firsts all : List (List Stand)) (so_far : AreSoFar r shape n firsts) (from : (more : List Stand) → Has all more ↔ AreFrom (IsLonger r shape.bonds next) firsts more) where
  next_fit : (more : List Stand) → AreFrom (IsLonger r shape.bonds next) firsts more → AllZip (FitsStand r) more (take (suc n) shape.types)
  next_fit more (first, has, (stand, among, (e, follow))) =
      rw (e, take-next shape.types n a is) (AllZip-push (FitsStand r) first (take n shape.types) stand a (so_far.fit first has) ((each stand).0 among))

  next_complete : (stands : List Stand) → AllZip (FitsStand r) stands shape.types → FollowsBonds r shape.bonds stands → AreFrom (IsLonger r shape.bonds next) firsts (take (suc n) stands)
  next_complete stands fit follow =
      let s = fits_at r stands shape.types n a fit is in
      (take n stands, so_far.complete stands fit follow, (s.0, (each s.0).1 s.2, (take-next stands n s.0 s.1, FollowsBonds-take r shape.bonds stands (suc n) follow)))

  pub next_node : AreSoFar r shape (n + 1) all
  next_node =
      let one : n + 1 ≡ suc n = omega arith in
      rw one (record {
        fit = λ more has. next_fit more ((from more).0 has);
        complete = λ stands fit follow. (from (take (suc n) stands)).1 (next_complete stands fit follow);
      })

pub all_nodes : (r : RuleParts) (shape : Shape) (n : ℕ) (all : List (List Stand)) → length shape.types ≤ n → AreSoFar r shape n all → AreSoFar r shape n all × ((stands : List Stand) → Has all stands → AllZip (FitsStand r) stands shape.types) × ((stands : List Stand) → AllZip (FitsStand r) stands shape.types → FollowsBonds r shape.bonds stands → Has all stands)
all_nodes r shape n all end so_far = (
  so_far,
  λ stands has. rw (take_all n shape.types end) at (so_far.fit stands has),
  λ stands fit follow. let long = AllZip-long (FitsStand r) stands shape.types fit in rw (take_all n stands (omega arith)) at (so_far.complete stands fit follow),
)

-- ---- bonds, one after the other

pub first_bonds_more : {P : Bond → Type 0} (bonds : List Bond) (k : ℕ) (b : Bond) → slice_get bonds k ≡ Some b → P b → ((j : ℕ) → j < k → (x : Bond) → slice_get bonds j ≡ Some x → P x) → (j : ℕ) → j < k + 1 → (x : Bond) → slice_get bonds j ≡ Some x → P x
first_bonds_more {P} bonds k b at is before j less x e = by (last_or j k less)
  where
    by : (j < k) ⊎ (j ≡ k) → P x
    by (inl lower) = before j lower x e
    by (inr same) = subst P (same_Some b x (sym at ∙ ap (λ (i : ℕ). slice_get bonds i) (sym same) ∙ e)) is

-- leaving all ends is leaving each bond
pub LeavesBonds-each : (r : RuleParts) (bonds : List Bond) (stands : List Stand) → LeavesBonds r bonds stands ↔ ((b : Bond) → Has bonds b → LeavesBond r stands b)
LeavesBonds-each r bonds stands = (there bonds, back bonds)
  where
    there : (bonds : List Bond) → LeavesBonds r bonds stands → (b : Bond) → Has bonds b → LeavesBond r stands b
    there [] leaves b (k, e) = absurd cc
    there (c ∷ bonds) leaves b (zero, e) = let same : c ≡ b = cc in rw (← same) (leaves.0, leaves.1.0)
    there (c ∷ bonds) leaves b (suc k, e) = there bonds leaves.1.1 b (k, e)

    back : (bonds : List Bond) → ((b : Bond) → Has bonds b → LeavesBond r stands b) → LeavesBonds r bonds stands
    back [] each = tt
    back (c ∷ bonds) each = let first = each c (zero, refl) in (first.0, (first.1, back bonds (λ b h. each b (suc h.0, h.1))))

-- ---- the stands of a type, one kind after the other

pub all_of_type : (r : RuleParts) (a : ℕ) (left all : List Stand) → ((stand : Stand) → Has left stand ↔ (Has (Outside ∷ []) stand ⊎ ((n : ℕ) × IsLeftOf r a n stand))) → ((stand : Stand) → Has all stand ↔ (Has left stand ⊎ ((k : ℕ) × IsMadeOf r a k stand))) → (stand : Stand) → Has all stand ↔ FitsStand r stand a
all_of_type r a left all lefts mades stand = (λ has. (which_stand r a stand).1 (there has), λ fits. back ((which_stand r a stand).0 fits))
  where
    outside : (k : ℕ) → slice_get (Outside ∷ []) k ≡ Some stand → stand ≡ Outside
    outside zero e = cc
    outside (suc k) e = absurd cc

    there : Has all stand → (stand ≡ Outside) ⊎ ((n : ℕ) × IsLeftOf r a n stand) ⊎ ((k : ℕ) × IsMadeOf r a k stand)
    there has = elim ((mades stand).0 has) [
      | inl old ↦ elim ((lefts stand).0 old) [ inl first ↦ inl (outside first.0 first.1) | inr l ↦ inr (inl l) ]
      | inr m ↦ inr (inr m)
    ]

    back : (stand ≡ Outside) ⊎ ((n : ℕ) × IsLeftOf r a n stand) ⊎ ((k : ℕ) × IsMadeOf r a k stand) → Has all stand
    back (inl e) = (mades stand).1 (inl ((lefts stand).1 (inl (zero, ap Some (sym e)))))
    back (inr (inl l)) = (mades stand).1 (inl ((lefts stand).1 (inr l)))
    back (inr (inr m)) = (mades stand).1 (inr m)

-- ---- tests at no site

pub untested : (g : List Node) (n s : ℕ) → ¬ HasNodeSite g n s → link_test g n s ≡ test.Any
untested g n s missing = by (link_test g n s) refl
  where
    by : (t : LinkTest) → link_test g n s ≡ t → t ≡ test.Any
    by test.Any e = refl
    by test.Free e = absurd (missing (tested_site g n s test.Free e (λ f. absurd cc)))
    by test.Bound e = absurd (missing (tested_site g n s test.Bound e (λ f. absurd cc)))
    by (test.Partner b y) e = absurd (missing (tested_site g n s (test.Partner b y) e (λ f. absurd cc)))
    by (test.To m t) e = absurd (missing (tested_site g n s (test.To m t) e (λ f. absurd cc)))

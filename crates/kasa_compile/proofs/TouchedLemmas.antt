-- Bonds of which one end is touched and the other isn't, read through their links.
use Rattle.std.proofs.Common.{◌≡◌, ℕ, suc, ◌+◌, ◌<◌, ◌≤◌, true, false, List, [], ◌∷◌, ◌++◌, length, drop, get_or, refl, sym, ap, ◌∙◌, arith}
use Rattle.std.specs.Prelude.{Option, Some, None, is_some, nat_lt, slice_get, if◌then◌else◌}
use Rattle.std.specs.Option.{option_map_or}
use Rattle.std.specs.List.{flat_map}
use Rattle.std.proofs.lemmas.Bool.{ltb-true}
use Rattle.std.proofs.lemmas.Option.{slice_get_read, slice_get_past}
use Rattle.std.proofs.lemmas.List.{drop_more}
use Rattle.kasa_graph.specs.Signature.{TypeEntry}
use Rattle.kasa_graph.specs.declared.pattern.LinkTest.{LinkTest}
use Rattle.kasa_graph.specs.Lists.{map_from}
use Rattle.kasa_compile.specs.declared.said.LinkSaid.TheVariants.{Label}
use Rattle.kasa_compile.specs.declared.said.SiteSaid.{SiteSaid}
use Rattle.kasa_compile.specs.declared.said.AgentSaid.{AgentSaid}
use Rattle.kasa_compile.specs.Sides.{SidesParts}
use Rattle.kasa_compile.specs.Bonds.{said_at}
use Rattle.kasa_compile.specs.Causes.{link_at, is_touched, half_bond_at, half_bonds_of, half_bonds}
use Rattle.kasa_compile.specs.Rule.{link_asked, left_link_test, link_to_write, link_written_by}
use Rattle.kasa_compile.specs.Touched.{IsPaired, LeadsToEnd, is_link_new}
use Rattle.kasa_compile.specs.Valid.{AreJoined, AreSides}
use Rattle.kasa_compile.proofs.SaidAtLemmas.{said_at-found}
use Rattle.kasa_compile.proofs.RuleBonds.{IsLabelled}
use Rattle.kasa_compile.proofs.JoiningLemmas.{two_places, other_within}

-- ---- what `get` found

pub got : {X : Type 0} (xs ys : List X) (i : ℕ) (x : X) → xs ≡ ys → true ≡ nat_lt i (length xs) → x ≡ get_or xs i x → slice_get ys i ≡ Some x
got xs ys i x same within is = rw (← same) (slice_get_read xs _ i x refl (ltb-true _ _ (sym within)) is)

pub not_got : {X : Type 0} (xs ys : List X) (i : ℕ) → xs ≡ ys → length xs ≤ i → slice_get ys i ≡ None
not_got xs ys i same past = rw (← same) (slice_get_past xs i past)

-- ---- links by their sites

left_link : (agents : List AgentSaid) (n s : ℕ) (sites : List SiteSaid) → left_link_test agents n (said_at sites s) ≡ link_asked agents (n, s) (link_at sites s)
left_link agents n s sites = by (said_at sites s) refl
  where
    by : (o : Option SiteSaid) → said_at sites s ≡ o → left_link_test agents n o ≡ link_asked agents (n, s) (option_map_or (λ (x : SiteSaid). x.link) o None)
    by None e = refl
    by (Some y) e = ap (λ (t : ℕ). link_asked agents (n, t) y.link) (said_at-found sites s y e).2

right_link : (x : SidesParts) (k s : ℕ) (test : LinkTest) (sites : List SiteSaid) → link_written_by x k test (said_at sites s) ≡ link_to_write x (k, s) test (link_at sites s)
right_link x k s test sites = by (said_at sites s) refl
  where
    by : (o : Option SiteSaid) → said_at sites s ≡ o → link_written_by x k test o ≡ link_to_write x (k, s) test (option_map_or (λ (x : SiteSaid). x.link) o None)
    by None e = refl
    by (Some y) e = ap (λ (t : ℕ). link_to_write x (k, t) test y.link) (said_at-found sites s y e).2

-- a label at a site stands there
labelled_by : (agents : List AgentSaid) (number n s : ℕ) (a : AgentSaid) → slice_get agents n ≡ Some a → link_at a.sites s ≡ Some (Label number) → IsLabelled agents number n s
labelled_by agents number n s a is = by (said_at a.sites s) refl
  where
    by : (o : Option SiteSaid) → said_at a.sites s ≡ o → option_map_or (λ (x : SiteSaid). x.link) o None ≡ Some (Label number) → IsLabelled agents number n s
    by None e label = absurd cc
    by (Some y) e label = let at = said_at-found a.sites s y e in record { agent = a; index = at.0; site = y; is_agent = is; is_site = at.1; named = at.2; label = label }

pub is_paired : (agents : List AgentSaid) (n s : ℕ) (a : AgentSaid) → AreJoined agents → slice_get agents n ≡ Some a → IsPaired agents (link_at a.sites s)
is_paired agents n s a joined is number label = two_places agents number n s joined (labelled_by agents number n s a is label)

pub leads_to_end : (sig : List TypeEntry) (x : SidesParts) (k s : ℕ) (b : AgentSaid) → AreSides sig x → slice_get x.right k ≡ Some b → LeadsToEnd x (k, s) (link_at b.sites s)
leads_to_end sig x k s b sides is number label =
    let here = labelled_by x.right number k s b is label in
    rw sides.numbered.ends_count (other_within x.right number k s (λ j a at. (sides.right j a at).differ) (two_places x.right number k s sides.right_joined here) here)

-- ---- touched sites

pub is_touched-kept : (x : SidesParts) (n s k : ℕ) (a b : AgentSaid) → slice_get x.left n ≡ Some a → slice_get x.after n ≡ Some (Some k) → slice_get x.right k ≡ Some b → is_link_new x (n, s) (link_at a.sites s) (k, s) (link_at b.sites s) ≡ is_touched x n s
unfolding is_touched
is_touched-kept x n s k a b left after right =
    rw (left, after, right) (ap is_some (sym (right_link x k s (link_asked x.left (n, s) (link_at a.sites s)) b.sites) ∙ ap (λ test. link_written_by x k test (said_at b.sites s)) (sym (left_link x.left n s a.sites))))

pub is_touched-deleted : (x : SidesParts) (n s : ℕ) (a : AgentSaid) → slice_get x.left n ≡ Some a → slice_get x.after n ≡ Some None → true ≡ is_touched x n s
unfolding is_touched
is_touched-deleted x n s a left after = rw (left, after) refl

pub is_touched-absent : (x : SidesParts) (n s : ℕ) → slice_get x.left n ≡ None → false ≡ is_touched x n s
unfolding is_touched
is_touched-absent x n s left = rw left refl

pub is_touched-lost : (x : SidesParts) (n s k : ℕ) (a : AgentSaid) → slice_get x.left n ≡ Some a → slice_get x.after n ≡ Some (Some k) → slice_get x.right k ≡ None → false ≡ is_touched x n s
unfolding is_touched
is_touched-lost x n s k a left after right = rw (left, after, right) refl

-- ---- the first of them

module _ (x : SidesParts) (n : ℕ) where
  -- those of some sites of the n-th agent
  abbrev pub half_bonds_in : List SiteSaid → List ℕ
  half_bonds_in sites = flat_map (λ (s : SiteSaid). half_bond_at x n s s.link) sites

-- those of some agents, the first of which has the number n
abbrev pub half_bonds_from : SidesParts → ℕ → List AgentSaid → List ℕ
half_bonds_from x n agents = flat_map (λ offsets. offsets) (map_from n (half_bonds_of x) agents)

pub half_bonds-is : (x : SidesParts) → half_bonds x ≡ half_bonds_from x 0 x.left
unfolding half_bonds
half_bonds-is x = refl

first_or : (os rest : List ℕ) (o : Option ℕ) → o ≡ slice_get os 0 → slice_get (os ++ rest) 0 ≡ (if is_some o then o else slice_get rest 0)
first_or [] rest o e = rw e refl
first_or (y ∷ os) rest o e = rw e refl

pub half_bonds_from-more : (x : SidesParts) (agents : List AgentSaid) (n : ℕ) (a : AgentSaid) (o : Option ℕ) → n < length agents → a ≡ get_or agents n a → o ≡ slice_get (half_bonds_of x n a) 0 → slice_get (half_bonds_from x n (drop n agents)) 0 ≡ (if is_some o then o else slice_get (half_bonds_from x (n + 1) (drop (n + 1) agents)) 0)
half_bonds_from-more x agents n a o within at is =
    let next : suc n ≡ n + 1 = omega arith in
    rw (drop_more agents n a within, ← at, ← next) (first_or (half_bonds_of x n a) (half_bonds_from x (suc n) (drop (suc n) agents)) o is)

-- the answer of the first agent is the answer of all, if there is one
pub half_bonds-found : (x : SidesParts) (n : ℕ) (a : AgentSaid) (agents : List AgentSaid) (o : Option ℕ) → agents ≡ x.left → n < length agents → a ≡ get_or agents n a → o ≡ slice_get (half_bonds_of x n a) 0 → slice_get (half_bonds_from x n (drop n x.left)) 0 ≡ slice_get (half_bonds x) 0 → true ≡ is_some o → o ≡ slice_get (half_bonds x) 0
half_bonds-found x n a agents o same within at is before some = sym (rw (← some) at (half_bonds_from-more x x.left n a o (rw (← same) within) (rw (← same) at) is)) ∙ before

pub half_bonds-later : (x : SidesParts) (n : ℕ) (a : AgentSaid) (agents : List AgentSaid) (o : Option ℕ) → agents ≡ x.left → n < length agents → a ≡ get_or agents n a → o ≡ slice_get (half_bonds_of x n a) 0 → slice_get (half_bonds_from x n (drop n x.left)) 0 ≡ slice_get (half_bonds x) 0 → false ≡ is_some o →
    slice_get (half_bonds_from x (n + 1) (drop (n + 1) x.left)) 0 ≡ slice_get (half_bonds x) 0
half_bonds-later x n a agents o same within at is before none = sym (rw (← none) at (half_bonds_from-more x x.left n a o (rw (← same) within) (rw (← same) at) is)) ∙ before

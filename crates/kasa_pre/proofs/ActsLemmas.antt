-- What a rule that doesn't act on a family yields of it stands in the tables.
use Rattle.std.proofs.Common.{subst, ◌≡◌, ℕ, zero, suc, ◌+◌, ◌<◌, ◌⊎◌, inl, inr, List, [], ◌∷◌, ◌++◌, refl, sym, ap, ◌∙◌, length, arith}
use Rattle.std.specs.Prelude.{Option, Some, None, IsSome, Bool, true, false, IsTrue, ◌↔◌, slice_get, option_map}
use Rattle.std.specs.Bool.{OnFalse}
use Rattle.std.proofs.lemmas.List.{length-map}
use Rattle.std.proofs.lemmas.Option.{slice_get_within}
use Rattle.kasa_graph.specs.declared.pattern.LinkTest.{LinkTest}
use Rattle.kasa_graph.specs.declared.pattern.LinkTest.TheVariants.{Any, Free, Bound, Partner, To}
use Rattle.kasa_graph.specs.declared.pattern.SiteTests.{SiteTests}
use Rattle.kasa_graph.specs.declared.pattern.Node.{Node}
use Rattle.kasa_graph.specs.Signature.{TypeEntry}
use Rattle.kasa_graph.specs.Lists.{Has}
use Rattle.kasa_graph.specs.Signature.{state_counts}
use Rattle.kasa_graph.specs.Pattern.{agent_at, site_at, link_test, types_of, HasNodeSite, LinkImplies}
use Rattle.kasa_families.specs.declared.family.Family.{Family}
use Rattle.kasa_families.specs.declared.family.Family.TheVariants.{Parallel}
use Rattle.kasa_families.specs.declared.row.Row.{Row}
use Rattle.kasa_families.specs.declared.row.Row.TheVariants.{Locals, Same, Different}
use Rattle.kasa_families.specs.Family.{family_types, root}
use Rattle.kasa_families.specs.Row.{IsRow}
use Rattle.kasa_families.specs.Pattern.{row_pattern}
use Rattle.kasa_families.specs.Table.{Table, AreTables, families_of, Holds}
use Rattle.kasa_rules.specs.declared.rule.NodeAction.{NodeAction}
use Rattle.kasa_rules.specs.declared.rule.MadeAgent.{MadeAgent}
use Rattle.kasa_rules.specs.Rule.{RuleParts, fate_at, written_link, action_at, made_type, touched, IsRuleOver}
use Rattle.kasa_graph.proofs.ListLemmas.{some_at, slice_get-append_left, slice_get-append_right}
use Rattle.kasa_pre.specs.declared.Stand.{Stand}
use Rattle.kasa_pre.specs.declared.Stand.TheVariants.{Left, Made, Outside}
use Rattle.kasa_pre.specs.declared.FreedBy.{FreedBy}
use Rattle.kasa_pre.specs.Place.{ImpliesAt, IsPlace}
use Rattle.kasa_pre.specs.Before.{place_from, place_of, outside_types}
use Rattle.kasa_pre.specs.Yields.{Yields}
use Rattle.kasa_pre.specs.Acts.{LeavesOpen, TouchesOpenAt, ActsOn, YieldsNothingNew}
use Rattle.kasa_graph.proofs.ShapeLemmas.{IsShaped, agent_at-node, node_of_agent, node_of_site, site_or_any}
use Rattle.kasa_families.proofs.RowPattern.{length_of, row_types, types_of-row_pattern}
use Rattle.kasa_graph.proofs.TestLemmas.{agent_at-types}
use Rattle.kasa_pre.proofs.RowPlace.{through, IsPlace-through, places, length-places, places-at, places-from, places-different, IsPlace-root}
use Rattle.kasa_families.proofs.TableLemmas.{IsFamily-of_tables}
use Rattle.kasa_pre.proofs.CoverLemmas.{root_size}
use Rattle.kasa_pre.proofs.SameRow.{same_row}

-- ---- nodes that all lie outside

AllOutside : List Stand → Type 0
AllOutside stands = (i : ℕ) (stand : Stand) → slice_get stands i ≡ Some stand → stand ≡ Outside

place_all_outside : (k : ℕ) (stands : List Stand) → AllOutside stands → (i : ℕ) → i < length stands → place_from k stands i ≡ Some (k + i)
unfolding AllOutside
place_all_outside k [] all i within = absurd (omega arith)
place_all_outside k (Left n ∷ stands) all i within = absurd (let e = all zero (Left n) refl in cc)
place_all_outside k (Made n ∷ stands) all i within = absurd (let e = all zero (Made n) refl in cc)
place_all_outside k (Outside ∷ stands) all zero within = ap Some (omega arith)
place_all_outside k (Outside ∷ stands) all (suc i) within = place_all_outside (suc k) stands (λ j. all (suc j)) i (omega arith) ∙ ap Some (omega arith)

types_all_outside : (v : List Node) (stands : List Stand) → AllOutside stands → length stands ≡ length v → outside_types v stands ≡ types_of v
unfolding AllOutside
types_all_outside [] stands all e = refl
types_all_outside (node ∷ v) [] all e = absurd (omega arith)
types_all_outside (node ∷ v) (Left n ∷ stands) all e = absurd (let f = all zero (Left n) refl in cc)
types_all_outside (node ∷ v) (Made n ∷ stands) all e = absurd (let f = all zero (Made n) refl in cc)
types_all_outside (node ∷ v) (Outside ∷ stands) all e = ap (λ (ts : List ℕ). node.agent ∷ ts) (types_all_outside v stands (λ j. all (suc j)) (omega arith))

-- what a rule touches is at a left node
pub touched_within : (r : RuleParts) (n s : ℕ) → touched r n s ≡ true → n < length r.actions
unfolding touched fate_at written_link action_at
touched_within r n s e = by_action (slice_get r.actions n) refl
  where
    by_action : (o : Option NodeAction) → slice_get r.actions n ≡ o → n < length r.actions
    by_action (Some action) f = slice_get_within r.actions n action f
    by_action None f = absurd (let g = rw f at e in cc)

-- a test that is implied by a bond to a node leaves the partner open, or is that bond
open_or_bond : (g : List Node) (b : LinkTest) (m t : ℕ) → LinkImplies g (To m t) b → LeavesOpen b ⊎ (b ≡ To m t)
open_or_bond g Any m t p = inl tt
open_or_bond g Free m t p = absurd p
open_or_bond g Bound m t p = inl tt
open_or_bond g (Partner b y) m t p = inl tt
open_or_bond g (To k u) m t p = inr cc

-- a node of the same type has the same sites
same_site : (sig : List TypeEntry) (g h : List Node) → IsShaped sig g → IsShaped sig h → (n s : ℕ) (x : SiteTests) → agent_at g n ≡ agent_at h n → site_at g n s ≡ Some x → HasNodeSite h n s
unfolding site_at
same_site sig g h shaped shaped' n s x same e =
    let node = node_of_site g n s x e in
    let other = node_of_agent h n node.0.agent (sym same ∙ agent_at-node g n node.0 node.1) in
    let long : length other.0.sites ≡ length node.0.sites =
    sym (length-map other.0.sites (λ (y : SiteTests). y.states)) ∙ ap length (shaped' n other.0 other.1) ∙ ap (λ (a : ℕ). length (state_counts sig a)) other.2
    ∙ sym (ap length (shaped n node.0 node.1)) ∙ length-map node.0.sites (λ (y : SiteTests). y.states) in
    let site = some_at other.0.sites s (rw long (slice_get_within node.0.sites s x node.2)) in
    rw (other.1, site.1) refl

-- a node with a place has a stand
place_within : (k : ℕ) (stands : List Stand) (i p : ℕ) → place_from k stands i ≡ Some p → i < length stands
place_within k [] i p e = absurd cc
place_within k (Left n ∷ stands) zero p e = omega arith
place_within k (Made n ∷ stands) zero p e = omega arith
place_within k (Outside ∷ stands) zero p e = omega arith
place_within k (Left n ∷ stands) (suc i) p e = let h = place_within k stands i p e in omega arith
place_within k (Made n ∷ stands) (suc i) p e = let h = place_within k stands i p e in omega arith
place_within k (Outside ∷ stands) (suc i) p e = let h = place_within (suc k) stands i p e in omega arith

-- the same through another reading of places
pub ImpliesAt-place : (g : List Node) (p q : ℕ → Option ℕ) → ((n k : ℕ) → p n ≡ Some k → q n ≡ Some k) → (a b : LinkTest) → ImpliesAt g p a b → ImpliesAt g q a b
ImpliesAt-place g p q same a Any h = h
ImpliesAt-place g p q same a Free h = h
ImpliesAt-place g p q same a Bound h = h
ImpliesAt-place g p q same a (Partner b y) h = h
ImpliesAt-place g p q same a (To n t) h = (h.0, same n h.0 h.1, h.2)

root_fits : (sig : List TypeEntry) (family : Family) (row : Row) → IsRow sig family row → (i : ℕ) → i < root_size family → i < length (row_pattern sig family row)
root_fits sig family row ok i within = rw (length_of _ (row_types family row) (types_of-row_pattern sig family row ok)) (by_family family row within)
  where
    by_family : (family : Family) (row : Row) → i < root_size family → i < length (row_types family row)
    by_family (Parallel a x u b y w) (Locals ls) h = omega arith
    by_family (Parallel a x u b y w) Same h = omega arith
    by_family (Parallel a x u b y w) Different h = omega arith
    by_family family row h = h

-- the types of a row's nodes are those of its family
row_type : (family : Family) (row : Row) (i a : ℕ) → slice_get (row_types family row) i ≡ Some a → Has (family_types family) a
row_type (Parallel b x u c y w) (Locals ls) i a e = (i, e)
row_type (Parallel b x u c y w) Same i a e = (i, e)
row_type (Parallel b x u c y w) Different zero a e = (0, e)
row_type (Parallel b x u c y w) Different (suc zero) a e = (1, e)
row_type (Parallel b x u c y w) Different (suc (suc zero)) a e = (1, e)
row_type (Parallel b x u c y w) Different (suc (suc (suc i))) a e = absurd cc
row_type family row i a e = (i, e)

module _ (sig : List TypeEntry) (tables : List Table) (ok : AreTables sig tables) (r : RuleParts) (rule : IsRuleOver sig r) (family : Family) (has : Has (families_of tables) family) (row : Row) (row_ok : IsRow sig family row) (not : ¬ ActsOn r family) (yields : Yields sig tables r family row) where
  type_of_node : (i a : ℕ) → agent_at (row_pattern sig family row) i ≡ Some a → Has (family_types family) a
  type_of_node i a e = row_type family row i a (sym (agent_at-types (row_pattern sig family row) i ∙ ap (λ (ts : List ℕ). slice_get ts i) (types_of-row_pattern sig family row row_ok)) ∙ e)

  all_outside : AllOutside yields.stands
  unfolding AllOutside
  all_outside i stand e =
      let node = some_at (row_pattern sig family row) i (rw (← yields.before.stand.count) (slice_get_within yields.stands i stand e)) in
      let typed = agent_at-node (row_pattern sig family row) i node.0 node.1 in
      by_stand stand node.0.agent e typed
    where
      by_stand : (stand : Stand) (a : ℕ) → slice_get yields.stands i ≡ Some stand → agent_at (row_pattern sig family row) i ≡ Some a → stand ≡ Outside
      by_stand (Left n) a f typed = absurd (not (inl (a, type_of_node i a typed, inl (n, (yields.before.stand.fit i a (Left n) f typed).1))))
      by_stand (Made k) a f typed = absurd (not (inl (a, type_of_node i a typed, inr (k, yields.before.stand.fit i a (Made k) f typed))))
      by_stand Outside a f typed = refl

  stand_of_node : (i : ℕ) → i < length (row_pattern sig family row) → (slice_get yields.stands i ≡ Some Outside) × (place_of r yields.stands i ≡ Some (length r.left + i))
  unfolding AllOutside place_of
  stand_of_node i within =
      let inside : i < length yields.stands = rw yields.before.stand.count within in
      let stand = some_at yields.stands i inside in
      (stand.1 ∙ ap Some (all_outside i stand.0 stand.1), place_all_outside (length r.left) yields.stands all_outside i inside)

  types_before : types_of yields.pattern ≡ types_of r.left ++ types_of (row_pattern sig family row)
  types_before = yields.before.types ∙ ap (λ (ts : List ℕ). types_of r.left ++ ts) (types_all_outside (row_pattern sig family row) yields.stands all_outside yields.before.stand.count)

  length-left : length (types_of r.left) ≡ length r.left
  length-left = length-map r.left (λ (x : Node). x.agent)

  type_before : (n : ℕ) → n < length r.left → agent_at yields.pattern n ≡ agent_at r.left n
  type_before n within =
      agent_at-types yields.pattern n
      ∙ ap (λ (ts : List ℕ). slice_get ts n) types_before
      ∙ slice_get-append_left (types_of r.left) (types_of (row_pattern sig family row)) n (rw length-left within)
      ∙ sym (agent_at-types r.left n)

  type_outside : (n p : ℕ) → length r.left + n ≡ p → agent_at yields.pattern p ≡ agent_at (row_pattern sig family row) n
  type_outside n p e =
      agent_at-types yields.pattern p
      ∙ ap (λ (ts : List ℕ). slice_get ts p) types_before
      ∙ slice_get-append_right (types_of r.left) (types_of (row_pattern sig family row)) n p (rw length-left e)
      ∙ sym (agent_at-types (row_pattern sig family row) n)

  -- nothing is freed
  none_freed : (f : FreedBy) → ¬ Has yields.freed f
  unfolding place_of
  none_freed f here =
      let stand = yields.free.unwritten f here in
      let gone = yields.free.by_touched f here in
      let place : place_of r yields.stands f.node ≡ Some (length r.left + f.node) = place_all_outside (length r.left) yields.stands all_outside f.node (slice_get_within yields.stands f.node stand.0 stand.1) in
      let bond = yields.before.sources f here (length r.left + f.node) place in
      let back = yields.before.valid.linked.both_ways (length r.left + f.node) f.site f.from f.«at» bond in
      let within : f.from < length r.left = rw (← rule.is_rule.actions) (touched_within r f.from f.«at» gone) in
      let implied = rw back at (yields.before.left_links f.from f.«at») in
      elim (open_or_bond yields.pattern (link_test r.left f.from f.«at») (length r.left + f.node) f.site implied) [
        | inl leaves ↦ not (inr (f.from, (f.«at», touched_site f back within, gone, leaves)))
        | inr is ↦ no_left_bond f (rule.left.linked.both_ways f.from f.«at» (length r.left + f.node) f.site is)
      ]
    where
      touched_site : (f : FreedBy) → link_test yields.pattern f.from f.«at» ≡ To (length r.left + f.node) f.site → f.from < length r.left → HasNodeSite r.left f.from f.«at»
      touched_site f back within =
          elim (site_or_any yields.pattern f.from f.«at») [
            | inl x ↦ same_site sig yields.pattern r.left yields.before.valid.sites rule.left.sites f.from f.«at» x.0 (type_before f.from within) x.1
            | inr none ↦ absurd (let e = none.1 in cc)
          ]

      no_left_bond : (f : FreedBy) → link_test r.left (length r.left + f.node) f.site ≡ To f.from f.«at» → ⊥
      no_left_bond f is =
          elim (site_or_any r.left (length r.left + f.node) f.site) [
            | inl x ↦
                let node = node_of_site r.left (length r.left + f.node) f.site x.0 x.1 in
                let h = slice_get_within r.left (length r.left + f.node) node.0 node.1 in
                absurd (omega arith)
            | inr none ↦ absurd (let e = none.1 in cc)
          ]

  -- the whole pattern of the row stood there before
  at_before : IsPlace (row_pattern sig family row) yields.pattern (places (length r.left) (length (row_pattern sig family row)))
  unfolding place_of
  at_before = record {
    count = length-places (length r.left) (length (row_pattern sig family row));
    different = places-different (length r.left) (length (row_pattern sig family row));
    types = λ n p a e is.
        let at = places-from (length r.left) (length (row_pattern sig family row)) n p e in
        type_outside n p (sym at.0) ∙ is;
    states = λ n p s e.
        let at = places-from (length r.left) (length (row_pattern sig family row)) n p e in
        let stand = stand_of_node n at.1 in
        let before = yields.before.states n s Outside stand.0 in
        let same : before.0 ≡ p = let a : Some before.0 ≡ Some (length r.left + n) = sym before.1 ∙ stand.1 in let b : before.0 ≡ length r.left + n = cc in b ∙ sym at.0 in
        rw (← same) before.2;
    links = λ n p s e.
        let at = places-from (length r.left) (length (row_pattern sig family row)) n p e in
        let stand = stand_of_node n at.1 in
        let before = yields.before.links n s Outside stand.0 (λ freed. none_freed freed.0 freed.1) in
        let same : before.0 ≡ p = let a : Some before.0 ≡ Some (length r.left + n) = sym before.1 ∙ stand.1 in let b : before.0 ≡ length r.left + n = cc in b ∙ sym at.0 in
        rw (← same) (ImpliesAt-place yields.pattern (place_of r yields.stands) (slice_get (places (length r.left) (length (row_pattern sig family row)))) same_places _ _ before.2);
  }
    where
      same_places : (j q : ℕ) → place_of r yields.stands j ≡ Some q → slice_get (places (length r.left) (length (row_pattern sig family row))) j ≡ Some q
      same_places j q e =
          let within : j < length (row_pattern sig family row) = rw (← yields.before.stand.count) (place_within (length r.left) yields.stands j q e) in
          places-at (length r.left) (length (row_pattern sig family row)) j within ∙ sym (stand_of_node j within).1 ∙ e

  -- the row stands in the tables
  pub Holds-not_acting : Holds tables family row
  Holds-not_acting =
      let valid = IsFamily-of_tables sig tables ok family has in
      let at = IsPlace-through (root sig family) (row_pattern sig family row) yields.pattern (places 0 (root_size family)) (places (length r.left) (length (row_pattern sig family row))) (IsPlace-root sig family row valid row_ok) at_before
      (λ i p e. let f = places-from 0 (root_size family) i p e in let h = root_fits sig family row row_ok i f.1 in let same : p ≡ i = let g = f.0 in omega arith in rw (same, length-places) h) in
      let c = yields.allowed family has (through (places (length r.left) (length (row_pattern sig family row))) (places 0 (root_size family))) at in
      let other_ok : IsRow sig family c.0 = subst (λ (f : Family). IsRow sig f c.0) c.1.of_family (ok.rows c.1.table c.1.among c.0 c.1.has_row) in
      let same = same_row sig yields.pattern (places (length r.left) (length (row_pattern sig family row))) family row c.0 valid row_ok other_ok at_before c.2 in
      subst (λ (x : Row). Holds tables family x) same c.1

pub nothing_new : (r : RuleParts) (family : Family) → ¬ ActsOn r family → YieldsNothingNew r family
nothing_new r family not sig tables row ok rule has valid yields = Holds-not_acting sig tables ok r rule family has row valid not yields

-- ---- what the code reads

-- a created agent exists
pub made_within : (r : RuleParts) (k a : ℕ) → made_type r k ≡ Some a → k < length r.made
unfolding made_type
made_within r k a e = by (slice_get r.made k) refl e
  where
    by : (o : Option MadeAgent) → o ≡ slice_get r.made k → option_map (λ (x : MadeAgent). x.agent) o ≡ Some a → k < length r.made
    by None at e = absurd cc
    by (Some x) at e = slice_get_within r.made k x (sym at)

-- the site of a number of a node's list, and its test
pub site_of_list : (g : List Node) (n : ℕ) (sites : List SiteTests) → ((s : ℕ) → site_at g n s ≡ slice_get sites s) → (s : ℕ) (x : SiteTests) → slice_get sites s ≡ Some x → HasNodeSite g n s × (link_test g n s ≡ x.link)
unfolding link_test
site_of_list g n sites all s x e = rw (all s, e) (refl, refl)

pub site_within : (g : List Node) (n : ℕ) (sites : List SiteTests) → ((s : ℕ) → site_at g n s ≡ slice_get sites s) → (s : ℕ) → HasNodeSite g n s → s < length sites
site_within g n sites all s has = by (slice_get sites s) refl (rw (all s) at has)
  where
    by : (o : Option SiteTests) → slice_get sites s ≡ o → IsSome o → s < length sites
    by None e is = absurd cc
    by (Some x) e is = slice_get_within sites s x e

module _ (r : RuleParts) (n : ℕ) (sites : List SiteTests) (all : (s : ℕ) → site_at r.left n s ≡ slice_get sites s) (s : ℕ) (x : SiteTests) (at : slice_get sites s ≡ Some x) where
  pub open_site : (touched r n s ≡ true) × LeavesOpen x.link → TouchesOpenAt r n
  open_site (touches, leaves) = let site = site_of_list r.left n sites all s x at in (s, site.0, touches, rw site.1 leaves)

  pub no_open_site : ¬ ((touched r n s ≡ true) × LeavesOpen x.link) → touched r n s ≡ true → LeavesOpen (link_test r.left n s) → ⊥
  no_open_site not touches leaves = let site = site_of_list r.left n sites all s x at in not (touches, rw site.1 at leaves)

pub on_false : (P Q : Type 0) (b : Bool) → IsTrue b ↔ P → (¬ P → Q) → OnFalse b Q
on_false P Q true tells f = tt
on_false P Q false tells f = f (λ p. let yes = tells.1 p in absurd cc)

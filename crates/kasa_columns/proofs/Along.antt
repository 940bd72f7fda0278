-- Stands along the bonds of a root, and columns that stay.
use Rattle.std.proofs.Common.{◌≡◌, ℕ, ◌<◌, inl, inr, List, [], ◌∷◌, refl, sym, ap, ◌∙◌, length, Option, Some, None}
use Rattle.std.specs.Prelude.{MatchOption, slice_get}
use Rattle.std.proofs.lemmas.List.{length-map}
use Rattle.std.proofs.lemmas.Option.{same_Some, slice_get_within}
use Rattle.kasa_graph.specs.declared.pattern.Node.{Node}
use Rattle.kasa_graph.specs.declared.pattern.LinkTest.{LinkTest}
use Rattle.kasa_graph.specs.declared.pattern.LinkTest.TheVariants as test
use Rattle.kasa_graph.specs.Signature.{TypeEntry}
use Rattle.kasa_graph.specs.Pattern.{link_test, types_of, LinkImplies}
use Rattle.kasa_graph.proofs.TestLemmas.{agent_at-types}
use Rattle.kasa_graph.proofs.SiteLemmas.{type_of_node_site}
use Rattle.kasa_families.specs.declared.row.Local.{Local}
use Rattle.kasa_families.specs.declared.shape.NodeSite.{NodeSite}
use Rattle.kasa_families.specs.Shape.{Shape, IsShape, pattern_of}
use Rattle.kasa_families.proofs.ColumnLemmas.{nth_of, to_nth}
use Rattle.kasa_rules.specs.declared.rule.Written.{Written}
use Rattle.kasa_rules.specs.declared.rule.Written.TheVariants as written
use Rattle.kasa_rules.specs.Rule.{RuleParts, IsRuleOver}
use Rattle.kasa_pre.specs.declared.Stand.{Stand}
use Rattle.kasa_pre.specs.declared.Stand.TheVariants.{Left, Made, Outside}
use Rattle.kasa_pre.specs.declared.FreedBy.{FreedBy}
use Rattle.kasa_pre.specs.Place.{ImpliesAt}
use Rattle.kasa_pre.specs.Before.{WrittenMeets, place_of, state_written, link_written, IsFreed, AreFreed, IsBefore, LinkBefore}
use Rattle.kasa_pre.proofs.Implied.{To-implied}
use Rattle.kasa_columns.specs.Comes.{Outcome, ColumnComes, ComesOut, local_after}
use Rattle.kasa_columns.specs.Along.{AreJoined, WrittenLeads, TestLeads, StandLeads, LeadsAlong, LeavesColumns}
use Rattle.kasa_columns.proofs.Places.{left_at}
use Rattle.kasa_columns.proofs.AnyLocal.{tested_site}
use Rattle.kasa_columns.proofs.ShapeTests.{first_test, second_test}

-- ---- columns that stay

same_outcome : (r : RuleParts) (c : NodeSite) (l : Local) (rest out : Outcome) (stand : Stand) → (state_written r stand c.site ≡ None) × (link_written r stand c.site ≡ None) → ColumnComes r c l rest out stand → out.freed ≡ [] → (out.locals ≡ l ∷ rest.locals) × (rest.freed ≡ [])
same_outcome r c l rest out stand none (inl e) free =
    let stays : local_after r stand c.site l ≡ l = rw (none.0, none.1) refl in
    (ap (λ (o : Outcome). o.locals) e ∙ ap (λ (x : Local). x ∷ rest.locals) stays, sym (ap (λ (o : Outcome). o.freed) e) ∙ free)
same_outcome r c l rest out stand none (inr (f, source, alone, e)) free = absurd (let some : f ∷ rest.freed ≡ [] = sym (ap (λ (o : Outcome). o.freed) e) ∙ free in cc)

-- what is neither written nor freed shows what it showed
pub stays : (r : RuleParts) (stands : List Stand) (columns : List NodeSite) (shown : List Local) (out : Outcome) → LeavesColumns r columns stands → ComesOut r stands columns shown out → out.freed ≡ [] → out.locals ≡ shown
stays r stands [] [] out leaves comes free = ap (λ (o : Outcome). o.locals) comes
stays r stands [] (l ∷ shown) out leaves comes free = absurd comes
stays r stands (c ∷ columns) [] out leaves comes free = absurd comes
stays r stands (c ∷ columns) (l ∷ shown) out leaves (rest, comes, column) free =
    let one = nth_of stands c.node _ leaves.0 in
    let other = nth_of stands c.node _ column in
    let same : other.0 ≡ one.0 = same_Some other.0 one.0 (sym other.1 ∙ one.1) in
    let first = same_outcome r c l rest out one.0 one.2 (rw same at other.2) free in
    first.0 ∙ ap (λ (ls : List Local). l ∷ ls) (stays r stands columns shown rest leaves.1 comes first.1)

-- ---- along a bond

-- a node that a left node's test names is a left node
pub named_within : (sig : List TypeEntry) (r : RuleParts) → IsRuleOver sig r → (n u m w : ℕ) → link_test r.left n u ≡ test.To m w → m < length r.left
named_within sig r rule n u m w e =
    let back = rule.left.linked.both_ways n u m w e in
    let a = type_of_node_site r.left m w (tested_site r.left m w (test.To n u) back (λ f. absurd cc)) in
    let there : slice_get (types_of r.left) m ≡ Some a.0 = sym (agent_at-types r.left m) ∙ a.1 in
    rw (← length-map r.left (λ (x : Node). x.agent)) (slice_get_within (types_of r.left) m a.0 there)

module _ (sig : List TypeEntry) (r : RuleParts) (rule : IsRuleOver sig r) (shape : Shape) (ok : IsShape sig shape) (locals : List Local) (stands : List Stand) (freed : List FreedBy) (g : List Node) (free : AreFreed r (pattern_of sig shape locals) stands freed) (before : IsBefore sig r (pattern_of sig shape locals) stands freed g) (s t : NodeSite) where
  abbrev v : List Node
  v = pattern_of sig shape locals

  tests_bond : AreJoined shape.bonds s t → link_test v s.node s.site ≡ test.To t.node t.site
  tests_bond (b, has, inl (e, f)) = rw (← e, ← f) (first_test sig shape ok locals b has)
  tests_bond (b, has, inr (e, f)) = rw (← e, ← f) (second_test sig shape ok locals b has)

  not_freed : link_test v s.node s.site ≡ test.To t.node t.site → ¬ IsFreed freed s.node s.site
  not_freed to (f, is, node, site) =
      let there : link_test v s.node s.site ≡ test.Free = ap (λ (u : ℕ). link_test v s.node u) (sym site) ∙ ap (λ (n : ℕ). link_test v n f.site) (sym node) ∙ free.free f is in
      let f : test.To t.node t.site ≡ test.Free = sym to ∙ there in
      cc

  written_leads : (w : Written) → WrittenMeets r stands w (test.To t.node t.site) → WrittenLeads stands t w
  written_leads written.Free met = absurd met
  written_leads (written.To e y) met = (met.1, met.0)

  test_leads : (n : ℕ) (asked : LinkTest) → link_test r.left n s.site ≡ asked → LinkImplies g (link_test g n s.site) asked → (q : ℕ) × (place_of r stands t.node ≡ Some q) × (link_test g n s.site ≡ test.To q t.site) → TestLeads stands t asked
  test_leads n test.Any e implied led = tt
  test_leads n test.Free e implied led = absurd (rw led.2 at implied)
  test_leads n test.Bound e implied led = tt
  test_leads n (test.Partner b y) e implied led = let h = rw led.2 at implied in sym h.1
  test_leads n (test.To m u) e implied led =
      let to : test.To led.0 t.site ≡ test.To m u = sym led.2 ∙ To-implied g (link_test g n s.site) m u implied in
      let node : led.0 ≡ m = cc in
      let site : u ≡ t.site = cc in
      (site, left_at r stands t.node m (led.1 ∙ ap Some node) (named_within sig r rule n s.site m u e))

  leads_from : (stand : Stand) → slice_get stands s.node ≡ Some stand → LinkBefore r g stands (place_of r stands s.node) stand s.site (test.To t.node t.site) → MatchOption (link_written r stand s.site) (StandLeads r stands s t stand) (WrittenLeads stands t)
  leads_from (Left n) at link = by (link_written r (Left n) s.site) link
    where
      by : (w : Option Written) → MatchOption w (ImpliesAt g (place_of r stands) (link_test g n s.site) (test.To t.node t.site)) (λ w. WrittenMeets r stands w (test.To t.node t.site)) → MatchOption w (TestLeads stands t (link_test r.left n s.site)) (WrittenLeads stands t)
      by None led = test_leads n (link_test r.left n s.site) refl (before.left_links n s.site) led
      by (Some w) met = written_leads w met
  leads_from (Made k) at link = written_leads _ link
  leads_from Outside at link = tt

  pub leads_along : AreJoined shape.bonds s t → (stand : Stand) → slice_get stands s.node ≡ Some stand → LeadsAlong r stands s t
  leads_along joined stand at =
      let to = tests_bond joined in
      to_nth stands s.node _ stand at (leads_from stand at (rw to at (before.links s.node s.site stand at (not_freed to))))

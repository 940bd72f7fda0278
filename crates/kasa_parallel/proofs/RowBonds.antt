-- Where a rule writes neither bond of an agent, both were there before, and the row that it yields stood there.
use Rattle.std.proofs.Common.{◌≡◌, ◌≢◌, ℕ, zero, suc, ◌⊎◌, inl, inr, List, [], ◌∷◌, refl, sym, ap, ◌∙◌, Some, None}
use Rattle.std.specs.Prelude.{slice_get}
use Rattle.std.proofs.lemmas.Option.{same_Some}
use Rattle.kasa_graph.specs.declared.pattern.Node.{Node}
use Rattle.kasa_graph.specs.declared.pattern.LinkTest.TheVariants.{Free, To}
use Rattle.kasa_graph.specs.Signature.{TypeEntry}
use Rattle.kasa_graph.specs.Lists.{Has}
use Rattle.kasa_graph.specs.Pattern.{agent_at, link_test}
use Rattle.kasa_graph.proofs.ListLemmas.{same_or_not, AllDifferent-[], AllDifferent-cons}
use Rattle.kasa_graph.proofs.TestLemmas.{agent_at-types}
use Rattle.kasa_families.specs.declared.family.Family.{Family}
use Rattle.kasa_families.specs.declared.family.Family.TheVariants.{Parallel}
use Rattle.kasa_families.specs.declared.row.Row.{Row}
use Rattle.kasa_families.specs.declared.row.Row.TheVariants.{Locals, Same, Different}
use Rattle.kasa_families.specs.Family.{IsFamily, same, different, root}
use Rattle.kasa_families.specs.Row.{IsRow}
use Rattle.kasa_families.specs.Pattern.{row_pattern}
use Rattle.kasa_families.specs.Place.{ImpliesAt, IsPlace}
use Rattle.kasa_families.specs.Compatible.{IsCompatible}
use Rattle.kasa_families.specs.Table.{Table, AreTables, Holds, families_of}
use Rattle.kasa_families.proofs.FamilyShape.{IsShape-same, IsShape-different}
use Rattle.kasa_families.proofs.RowPattern.{types_of-parallel_root, link_test-parallel_root_first, link_test-parallel_root_second, link_test-parallel_root_other, TestsBond-root_of}
use Rattle.kasa_families.proofs.TableLemmas.{IsFamily-of_tables}
use Rattle.kasa_rules.specs.Rule.{RuleParts, IsRuleOver}
use Rattle.kasa_pre.specs.declared.Stand.{Stand}
use Rattle.kasa_pre.specs.declared.Stand.TheVariants.{Left, Made, Outside}
use Rattle.kasa_pre.specs.declared.FreedBy.{FreedBy}
use Rattle.kasa_pre.specs.Before.{place_of, link_written, IsFreed, AreFreed, IsBefore, LinkBefore}
use Rattle.kasa_pre.proofs.AskedLemmas.{place_of-left}
use Rattle.kasa_pre.proofs.CoverLemmas.{length-root}
use Rattle.kasa_pre.proofs.RowPlace.{state_test-root}
use Rattle.kasa_columns.specs.Forward.{YieldsAt}
use Rattle.kasa_columns.proofs.Forward as forward
use Rattle.kasa_columns.proofs.Places.{one_place}
use Rattle.kasa_columns.proofs.ShapeTests.{agent_of}

-- ---- one bond of a row's pattern

-- a bond that was there before: the places of its nodes, and the test at the first
record WasBond (r : RuleParts) (stands : List Stand) (g : List Node) (n s j t : ℕ) : Type 0 where
  from : ℕ
  to : ℕ
  from_is : place_of r stands n ≡ Some from
  to_is : place_of r stands j ≡ Some to
  link : link_test g from s ≡ To to t

module _ (sig : List TypeEntry) (r : RuleParts) (v : List Node) (stands : List Stand) (freed : List FreedBy) (g : List Node) (free : AreFreed r v stands freed) (before : IsBefore sig r v stands freed g) (n s j t : ℕ) (bonded : link_test v n s ≡ To j t) where
  not_freed : ¬ IsFreed freed n s
  not_freed (f, is, node, site) =
      let there : link_test v n s ≡ Free = ap (λ (u : ℕ). link_test v n u) (sym site) ∙ ap (λ (k : ℕ). link_test v k f.site) (sym node) ∙ free.free f is in
      let clash : To j t ≡ Free = sym bonded ∙ there in
      cc

  was_bond : (stand : Stand) → slice_get stands n ≡ Some stand → link_written r stand s ≡ None → LinkBefore r g stands (place_of r stands n) stand s (To j t) → WasBond r stands g n s j t
  was_bond (Left k) at none link =
      let led = rw none at link in
      record { from = k; to = led.0; from_is = place_of-left r stands n k at; to_is = led.1; link = led.2 }
  was_bond (Made k) at none link = absurd cc
  was_bond Outside at none link = record { from = link.0; to = link.2.0; from_is = link.1; to_is = link.2.1; link = link.2.2 }

  -- a bond that the rule doesn't write was there before
  unwritten_bond : (stand : Stand) → slice_get stands n ≡ Some stand → link_written r stand s ≡ None → WasBond r stands g n s j t
  unwritten_bond stand at none = was_bond stand at none (rw bonded at (before.links n s stand at not_freed))

-- ---- the root of a parallel family

module _ (sig : List TypeEntry) (tables : List Table) (ok : AreTables sig tables) (r : RuleParts) (rule : IsRuleOver sig r) (a x u b y w : ℕ) (has : Has (families_of tables) (Parallel a x u b y w)) where
  abbrev family : Family
  family = Parallel a x u b y w

  valid : IsFamily sig family
  valid = IsFamily-of_tables sig tables ok family has

  root_typed : (t : ℕ) → agent_at (root sig family) 0 ≡ Some t → t ≡ a
  root_typed t e =
      let types : slice_get (a ∷ []) 0 ≡ Some t = sym (agent_at-types (root sig family) 0 ∙ ap (λ (ts : List ℕ). slice_get ts 0) (types_of-parallel_root sig a x u b y w)) ∙ e in
      cc

  -- an agent with both bonds is a place of it
  module _ (g : List Node) (p q q' : ℕ) (is_a : agent_at g p ≡ Some a) (is_b : agent_at g q ≡ Some b) (also_b : agent_at g q' ≡ Some b) (first : link_test g p x ≡ To q y) (second : link_test g p u ≡ To q' w) where
    root_links : (s : ℕ) → ImpliesAt g (slice_get (p ∷ [])) (link_test g p s) (link_test (root sig family) 0 s)
    root_links s = by (same_or_not x s) (same_or_not u s)
      where
        by : (x ≡ s) ⊎ (x ≢ s) → (u ≡ s) ⊎ (u ≢ s) → ImpliesAt g (slice_get (p ∷ [])) (link_test g p s) (link_test (root sig family) 0 s)
        by (inl e) other = rw (← e) (rw (link_test-parallel_root_first sig a x u b y w valid, first) (is_b, refl))
        by (inr out) (inl e) = rw (← e) (rw (link_test-parallel_root_second sig a x u b y w valid, second) (also_b, refl))
        by (inr out) (inr out_too) = rw (link_test-parallel_root_other sig a x u b y w valid 0 s (λ _. out) (λ _. out_too)) tt

    is_place : IsPlace (root sig family) g (p ∷ [])
    is_place = record {
      count = sym (length-root sig family);
      different = AllDifferent-cons p [] (λ i h. absurd cc) AllDifferent-[];
      types = types;
      states = λ n q s e. rw (state_test-root sig family n s) tt;
      links = links;
    }
      where
        types : (n q t : ℕ) → slice_get (p ∷ []) n ≡ Some q → agent_at (root sig family) n ≡ Some t → agent_at g q ≡ Some t
        types zero q t e typed = let here : p ≡ q = cc in rw (← here, root_typed t typed) is_a
        types (suc n) q t e typed = absurd cc

        links : (n q s : ℕ) → slice_get (p ∷ []) n ≡ Some q → ImpliesAt g (slice_get (p ∷ [])) (link_test g q s) (link_test (root sig family) n s)
        links zero q s e = let here : p ≡ q = cc in rw (← here) (root_links s)
        links (suc n) q s e = absurd cc

  -- ---- rows

  module _ (stands : List Stand) (freed : List FreedBy) (first : Stand) (begins : slice_get stands 0 ≡ Some first) (no_x : link_written r first x ≡ None) (no_u : link_written r first u ≡ None) where
    same_stood : YieldsAt sig tables r (row_pattern sig family Same) stands freed → Holds tables family Same
    same_stood yields =
        let shaped = IsShape-same sig a x u b y w valid in
        let bonds = TestsBond-root_of sig (same a x u b y w) shaped in
        let v = row_pattern sig family Same in
        let g = yields.pattern in
        let at_x = unwritten_bond sig r v stands freed g yields.free yields.before 0 x 1 y bonds.0.first first begins no_x in
        let at_u = unwritten_bond sig r v stands freed g yields.free yields.before 0 u 1 w bonds.1.0.first first begins no_u in
        let typed = forward.typed_there sig r rule (same a x u b y w) shaped [] tt stands freed g yields.free yields.before in
        let here : at_u.from ≡ at_x.from = same_Some at_u.from at_x.from (sym at_u.from_is ∙ at_x.from_is) in
        let there : at_u.to ≡ at_x.to = same_Some at_u.to at_x.to (sym at_u.to_is ∙ at_x.to_is) in
        let second : link_test g at_x.from u ≡ To at_u.to w = rw (← here) at_u.link in
        let place = is_place g at_x.from at_x.to at_u.to (typed 0 at_x.from a at_x.from_is refl) (typed 1 at_x.to b at_x.to_is refl) (typed 1 at_u.to b at_u.to_is refl) at_x.link second in
        let c = yields.allowed family has (at_x.from ∷ []) place in
        by at_x.from at_x.to at_u.to g at_x.link second (sym there) c.0 c.1 c.2
      where
        by : (p q q' : ℕ) (g : List Node) → link_test g p x ≡ To q y → link_test g p u ≡ To q' w → q ≡ q' → (row : Row) → Holds tables family row → IsCompatible g family (p ∷ []) row → Holds tables family Same
        by p q q' g link second one Same holds c = holds
        by p q q' g link second one Different holds c = absurd (c.two q q' y w link second one)
        by p q q' g link second one (Locals locals) holds c = absurd c

    different_stood : YieldsAt sig tables r (row_pattern sig family Different) stands freed → Holds tables family Different
    different_stood yields =
        let shaped = IsShape-different sig a x u b y w valid in
        let bonds = TestsBond-root_of sig (different a x u b y w) shaped in
        let v = row_pattern sig family Different in
        let g = yields.pattern in
        let at_x = unwritten_bond sig r v stands freed g yields.free yields.before 0 x 1 y bonds.0.first first begins no_x in
        let at_u = unwritten_bond sig r v stands freed g yields.free yields.before 0 u 2 w bonds.1.0.first first begins no_u in
        let typed = forward.typed_there sig r rule (different a x u b y w) shaped [] tt stands freed g yields.free yields.before in
        let here : at_u.from ≡ at_x.from = same_Some at_u.from at_x.from (sym at_u.from_is ∙ at_x.from_is) in
        let second : link_test g at_x.from u ≡ To at_u.to w = rw (← here) at_u.link in
        let place = is_place g at_x.from at_x.to at_u.to (typed 0 at_x.from a at_x.from_is refl) (typed 1 at_x.to b at_x.to_is refl) (typed 2 at_u.to b at_u.to_is refl) at_x.link second in
        let c = yields.allowed family has (at_x.from ∷ []) place in
        let agent = agent_of sig (different a x u b y w) shaped [] in
        let apart : at_x.to ≢ at_u.to = λ one. let number : ◌≡◌ {A = ℕ} 1 2 = one_place r v stands yields.before.stand 1 2 b b at_u.to (agent 1 b refl) (agent 2 b refl) (at_x.to_is ∙ ap Some one) at_u.to_is in cc in
        by at_x.from at_x.to at_u.to g at_x.link second apart c.0 c.1 c.2
      where
        by : (p q q' : ℕ) (g : List Node) → link_test g p x ≡ To q y → link_test g p u ≡ To q' w → q ≢ q' → (row : Row) → Holds tables family row → IsCompatible g family (p ∷ []) row → Holds tables family Different
        by p q q' g link second apart Same holds c = absurd (apart (c.one q q' y w link second))
        by p q q' g link second apart Different holds c = holds
        by p q q' g link second apart (Locals locals) holds c = absurd c

    -- the tables hold the row
    pub Holds-unwritten : (row : Row) → IsRow sig family row → YieldsAt sig tables r (row_pattern sig family row) stands freed → Holds tables family row
    Holds-unwritten Same is yields = same_stood yields
    Holds-unwritten Different is yields = different_stood yields
    Holds-unwritten (Locals locals) is yields = absurd is

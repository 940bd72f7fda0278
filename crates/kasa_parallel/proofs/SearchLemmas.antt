-- The search along the bonds of a parallel family's rows leaves nothing out.
use Rattle.std.proofs.Common.{◌≡◌, ℕ, ◌<◌, ◌↔◌, ◌⊎◌, inl, inr, List, [], ◌∷◌, refl, sym, ap, ◌∙◌, subst, length, arith, Some, Bool, true, false}
use Rattle.std.specs.Prelude.{slice_get, IsTrue}
use Rattle.std.specs.Bool.{OnTrue, OnFalse}
use Rattle.std.proofs.lemmas.Bool.{OnTrue_from}
use Rattle.std.proofs.lemmas.Option.{same_Some}
use Rattle.kasa_graph.specs.declared.pattern.Node.{Node}
use Rattle.kasa_graph.specs.Lists.{Has}
use Rattle.kasa_graph.specs.Pattern.{agent_at}
use Rattle.kasa_graph.specs.Signature.{TypeEntry}
use Rattle.kasa_graph.proofs.ListLemmas.{some_at}
use Rattle.kasa_families.specs.declared.family.Family.{Family}
use Rattle.kasa_families.specs.declared.family.Family.TheVariants.{Parallel}
use Rattle.kasa_families.specs.declared.row.Row.{Row}
use Rattle.kasa_families.specs.declared.row.Row.TheVariants.{Locals, Same, Different}
use Rattle.kasa_families.specs.declared.shape.NodeSite.{NodeSite}
use Rattle.kasa_families.specs.Shape.{Shape, IsShape, AreColumns, at, bond, pattern_of}
use Rattle.kasa_families.specs.Family.{IsFamily, same, different}
use Rattle.kasa_families.specs.Row.{IsRow}
use Rattle.kasa_families.specs.Pattern.{row_pattern}
use Rattle.kasa_families.specs.Table.{Table, rows_of}
use Rattle.kasa_families.proofs.FamilyShape.{IsShape-same, IsShape-different}
use Rattle.kasa_families.proofs.RowPattern.{length_of, types_of-row_pattern}
use Rattle.kasa_families.proofs.TableLemmas.{IsFamily-of_tables}
use Rattle.kasa_rules.specs.Rule.{RuleParts, IsRuleOver}
use Rattle.kasa_pre.specs.declared.Stand.{Stand}
use Rattle.kasa_pre.specs.declared.FreedBy.{FreedBy}
use Rattle.kasa_pre.specs.Allowed.{IsAllowed}
use Rattle.kasa_pre.specs.Before.{FitsStand, IsFreed, IsBefore}
use Rattle.kasa_pre.specs.Yields.{Yields}
use Rattle.kasa_pre.proofs.ActsLemmas.{on_false}
use Rattle.kasa_columns.specs.Along.{AreJoined, LeadsAlong}
use Rattle.kasa_columns.specs.Forward.{YieldsAt}
use Rattle.kasa_columns.specs.Results.{IsResult}
use Rattle.kasa_columns.proofs.Along.{leads_along}
use Rattle.kasa_columns.proofs.Forward as forward
use Rattle.kasa_columns.proofs.Held.{Has-held}
use Rattle.kasa_columns.proofs.ShapeTests.{agent_of}
use Rattle.kasa_parallel.specs.Partners.{IsPartner, WritesPartner, YieldsWith}
use Rattle.kasa_parallel.specs.Sought.{ParallelAsk, IsParallelAsk, IsSought, IsKnownRow, IsRootStand}
use Rattle.kasa_parallel.proofs.PartnerLemmas.{IsPartner-two, IsPartner-second, IsPartner-third, writes_neither, writes_or_not}
use Rattle.kasa_parallel.proofs.RowBonds.{Holds-unwritten}

-- ---- stands

none_of : {X : Type 0} (xs : List X) → length xs ≡ 0 → xs ≡ []
none_of [] e = refl
none_of (x ∷ xs) e = absurd (omega arith)

two_stands : (stands : List Stand) (first : Stand) → length stands ≡ 2 → slice_get stands 0 ≡ Some first → (second : Stand) × (stands ≡ first ∷ second ∷ [])
two_stands [] first count at = absurd cc
two_stands (one ∷ []) first count at = absurd (omega arith)
two_stands (one ∷ two ∷ rest) first count at = let same : one ≡ first = cc in (two, rw (same, none_of rest (omega arith)) refl)

three_stands : (stands : List Stand) (first : Stand) → length stands ≡ 3 → slice_get stands 0 ≡ Some first → (second third : Stand) × (stands ≡ first ∷ second ∷ third ∷ [])
three_stands [] first count at = absurd cc
three_stands (one ∷ []) first count at = absurd (omega arith)
three_stands (one ∷ two ∷ []) first count at = absurd (omega arith)
three_stands (one ∷ two ∷ three ∷ rest) first count at = let same : one ≡ first = cc in (two, three, rw (same, none_of rest (omega arith)) refl)

-- ---- a shape without columns: nothing is freed

module _ (sig : List TypeEntry) (tables : List Table) (r : RuleParts) (rule : IsRuleOver sig r) (shape : Shape) (ok : IsShape sig shape) (row : AreColumns sig shape.types shape.columns []) (bare : (c : NodeSite) → ¬ Has shape.columns c) where
  nothing_freed : (stands : List Stand) (freed : List FreedBy) → YieldsAt sig tables r (pattern_of sig shape []) stands freed → YieldsAt sig tables r (pattern_of sig shape []) stands []
  nothing_freed stands freed y = record {
    free = forward.free-fewer sig r rule shape ok [] row stands freed y.pattern y.free y.before [] none all;
    pattern = y.pattern;
    before = forward.before-fewer sig r rule shape ok [] row stands freed y.pattern y.free y.before [] none all;
    allowed = y.allowed;
  }
    where
      none : (f : FreedBy) → Has [] f → Has freed f
      none f has = absurd (let e = has.1 in cc)

      all : (c : NodeSite) → Has shape.columns c → IsFreed freed c.node c.site → IsFreed [] c.node c.site
      all c has = absurd (bare c has)

  count_of : (stands : List Stand) (freed : List FreedBy) → YieldsAt sig tables r (pattern_of sig shape []) stands freed → length stands ≡ length shape.types
  count_of stands freed y = forward.stands_count sig r rule shape ok [] row stands freed y.pattern y.free y.before

  fits_at : (stands : List Stand) (freed : List FreedBy) → YieldsAt sig tables r (pattern_of sig shape []) stands freed → (n t : ℕ) (stand : Stand) → slice_get stands n ≡ Some stand → slice_get shape.types n ≡ Some t → FitsStand r stand t
  fits_at stands freed y n t stand here is = y.before.stand.fit n t stand here (agent_of sig shape ok [] n t is)

  leads_at : (stands : List Stand) (freed : List FreedBy) → YieldsAt sig tables r (pattern_of sig shape []) stands freed → (s t : NodeSite) → AreJoined shape.bonds s t → (stand : Stand) → slice_get stands s.node ≡ Some stand → LeadsAlong r stands s t
  leads_at stands freed y s t joined stand here = leads_along sig r rule shape ok [] stands freed y.pattern y.free y.before s t joined stand here

-- ---- the two rows

no_columns : (c : NodeSite) → ¬ Has {X = NodeSite} [] c
no_columns c has = let e = has.1 in cc

module _ (sig : List TypeEntry) (tables : List Table) (r : RuleParts) (rule : IsRuleOver sig r) (a x u b y w : ℕ) (valid : IsFamily sig (Parallel a x u b y w)) where
  abbrev family : Family
  family = Parallel a x u b y w

  one_shape : IsShape sig (same a x u b y w)
  one_shape = IsShape-same sig a x u b y w valid

  two_shape : IsShape sig (different a x u b y w)
  two_shape = IsShape-different sig a x u b y w valid

  pub length-same : length (row_pattern sig family Same) ≡ 2
  length-same = length_of (row_pattern sig family Same) (a ∷ b ∷ []) (types_of-row_pattern sig family Same tt)

  pub length-different : length (row_pattern sig family Different) ≡ 3
  length-different = length_of (row_pattern sig family Different) (a ∷ b ∷ b ∷ []) (types_of-row_pattern sig family Different tt)

  -- both bonds lead to the second node
  pub same_partner : (first : Stand) → YieldsWith sig tables r (row_pattern sig family Same) first → (second : Stand) × IsPartner r first x b y second × IsPartner r first u b w second × YieldsAt sig tables r (row_pattern sig family Same) (first ∷ second ∷ []) []
  same_partner first yw =
      let shape = same a x u b y w in
      let plain = nothing_freed sig tables r rule shape one_shape tt no_columns yw.stands yw.freed yw.yields in
      let two = two_stands yw.stands first (count_of sig tables r rule shape one_shape tt no_columns yw.stands [] plain) yw.begins in
      let here : YieldsAt sig tables r (pattern_of sig shape []) (first ∷ two.0 ∷ []) [] = rw two.1 at plain in
      let fits = fits_at sig tables r rule shape one_shape tt no_columns (first ∷ two.0 ∷ []) [] here 1 b two.0 refl refl in
      let leads = leads_at sig tables r rule shape one_shape tt no_columns (first ∷ two.0 ∷ []) [] here in (
        two.0,
        IsPartner-two r x b y first two.0 fits (leads (at 0 x) (at 1 y) (bond 0 x 1 y, (0, refl), inl (refl, refl)) first refl) (leads (at 1 y) (at 0 x) (bond 0 x 1 y, (0, refl), inr (refl, refl)) two.0 refl),
        IsPartner-two r u b w first two.0 fits (leads (at 0 u) (at 1 w) (bond 0 u 1 w, (1, refl), inl (refl, refl)) first refl) (leads (at 1 w) (at 0 u) (bond 0 u 1 w, (1, refl), inr (refl, refl)) two.0 refl),
        here,
      )

  -- the bonds lead to the second and the third
  pub different_partners : (first : Stand) → YieldsWith sig tables r (row_pattern sig family Different) first → (second third : Stand) × IsPartner r first x b y second × IsPartner r first u b w third × YieldsAt sig tables r (row_pattern sig family Different) (first ∷ second ∷ third ∷ []) []
  different_partners first yw =
      let shape = different a x u b y w in
      let plain = nothing_freed sig tables r rule shape two_shape tt no_columns yw.stands yw.freed yw.yields in
      let three = three_stands yw.stands first (count_of sig tables r rule shape two_shape tt no_columns yw.stands [] plain) yw.begins in
      let second = three.0 in
      let third = three.1 in
      let stands = first ∷ second ∷ third ∷ [] in
      let here : YieldsAt sig tables r (pattern_of sig shape []) stands [] = rw three.2 at plain in
      let fits = fits_at sig tables r rule shape two_shape tt no_columns stands [] here in
      let leads = leads_at sig tables r rule shape two_shape tt no_columns stands [] here in (
        second,
        third,
        IsPartner-second r x b y first second third (fits 1 b second refl refl) (leads (at 0 x) (at 1 y) (bond 0 x 1 y, (0, refl), inl (refl, refl)) first refl) (leads (at 1 y) (at 0 x) (bond 0 x 1 y, (0, refl), inr (refl, refl)) second refl),
        IsPartner-third r u b w first second third (fits 2 b third refl refl) (leads (at 0 u) (at 2 w) (bond 0 u 2 w, (1, refl), inl (refl, refl)) first refl) (leads (at 2 w) (at 0 u) (bond 0 u 2 w, (1, refl), inr (refl, refl)) third refl),
        here,
      )

  -- the first node has a stand that its type may have
  pub first_stand : (row : Row) → IsRow sig family row → Yields sig tables r family row → (first : Stand) × FitsStand r first a × YieldsWith sig tables r (row_pattern sig family row) first
  first_stand row is yields =
      let count = yields.before.stand.count in
      let one = some_at yields.stands 0 (rw count (some_node row is)) in (
        one.0,
        yields.before.stand.fit 0 a one.0 one.1 (first_typed row is),
        record { stands = yields.stands; freed = yields.freed; begins = one.1; yields = record { free = yields.free; pattern = yields.pattern; before = yields.before; allowed = yields.allowed } },
      )
    where
      some_node : (row : Row) → IsRow sig family row → 0 < length (row_pattern sig family row)
      some_node Same is = let count = length-same in omega arith
      some_node Different is = let count = length-different in omega arith
      some_node (Locals locals) is = absurd is

      first_typed : (row : Row) → IsRow sig family row → agent_at (row_pattern sig family row) 0 ≡ Some a
      first_typed Same is = agent_of sig (same a x u b y w) one_shape [] 0 a refl
      first_typed Different is = agent_of sig (different a x u b y w) two_shape [] 0 a refl
      first_typed (Locals locals) is = absurd is

pub YieldsWith-stands : (sig : List TypeEntry) (tables : List Table) (r : RuleParts) (v : List Node) (first : Stand) (rest : List Stand) → YieldsAt sig tables r v (first ∷ rest) [] → YieldsWith sig tables r v first
YieldsWith-stands sig tables r v first rest y = record { stands = first ∷ rest; freed = []; begins = refl; yields = y }

-- the stands alone say whether the pattern is yielded: nothing is freed
pub YieldsAt-stands : (sig : List TypeEntry) (tables : List Table) (r : RuleParts) (v : List Node) (stands : List Stand) → ((g : List Node) × IsBefore sig r v stands [] g × IsAllowed sig tables g) ↔ YieldsAt sig tables r v stands []
YieldsAt-stands sig tables r v stands = (
  λ h. record {
    free = record { free = λ f has. absurd (let e = has.1 in cc); unwritten = λ f has. absurd (let e = has.1 in cc); by_touched = λ f has. absurd (let e = has.1 in cc) };
    pattern = h.0;
    before = h.1;
    allowed = h.2;
  },
  λ y. (y.pattern, y.before, y.allowed),
)

-- ---- what is asked for

module _ (k : ParallelAsk) (ok : IsParallelAsk k) where
  pub valid_asked : IsFamily k.sig k.family
  valid_asked = IsFamily-of_tables k.sig k.tables ok.valid k.family (k.number, ok.numbered)

  pub valid_parallel : IsFamily k.sig (Parallel k.a k.x k.u k.b k.y k.w)
  valid_parallel = rw ok.is at valid_asked

  pub IsRow-same : IsRow k.sig k.family Same
  IsRow-same = rw ok.is tt

  pub IsRow-different : IsRow k.sig k.family Different
  IsRow-different = rw ok.is tt

  pub no_locals : (row : Row) → IsRow k.sig k.family row → (row ≡ Same) ⊎ (row ≡ Different)
  no_locals row is = by row (rw ok.is at is)
    where
      by : (row : Row) → IsRow k.sig (Parallel k.a k.x k.u k.b k.y k.w) row → (row ≡ Same) ⊎ (row ≡ Different)
      by Same is = inl refl
      by Different is = inr refl
      by (Locals locals) is = absurd is

  -- a row that is yielded with some stand is sought, if it is new where only those are
  pub IsSought-with : (row : Row) → IsRow k.sig k.family row → (k.only_new ≡ true → ¬ Has (rows_of k.tables k.number) row) → (first : Stand) → YieldsWith k.sig k.tables k.rule (row_pattern k.sig k.family row) first → IsSought k row
  IsSought-with row is new first yw = record {
    result = record {
      family = k.family;
      numbered = ok.numbered;
      valid = is;
      yielded = record { stands = yw.stands; freed = yw.freed; pattern = yw.yields.pattern; free = yw.yields.free; before = yw.yields.before; allowed = yw.yields.allowed };
    };
    new = new;
  }

  -- where no stand that is looked at yields it, the tables have it
  pub IsKnownRow-none : (row : Row) → IsRow k.sig k.family row → (firsts : List Stand) → ((stand : Stand) → Has firsts stand ↔ IsRootStand k stand) → ((first : Stand) → Has firsts first → ¬ YieldsWith k.sig k.tables k.rule (row_pattern k.sig k.family row) first) → IsResult k.sig k.tables k.rule k.number row → IsKnownRow k row
  IsKnownRow-none row is firsts each none result =
      let same : result.family ≡ Parallel k.a k.x k.u k.b k.y k.w = same_Some result.family k.family (sym result.numbered ∙ ok.numbered) ∙ ok.is in
      let yielded : Yields k.sig k.tables k.rule (Parallel k.a k.x k.u k.b k.y k.w) row = subst (λ (f : Family). Yields k.sig k.tables k.rule f row) same result.yielded in
      let one = first_stand k.sig k.tables k.rule ok.over k.a k.x k.u k.b k.y k.w valid_parallel row (rw ok.is at is) yielded in
      by k.only_new refl one.0 one.1 one.2 (writes_or_not k.rule k.x k.u one.0)
    where
      looked : (first : Stand) → IsRootStand k first → YieldsWith k.sig k.tables k.rule (row_pattern k.sig (Parallel k.a k.x k.u k.b k.y k.w) row) first → ⊥
      looked first root yw = none first ((each first).1 root) (rw ok.is yw)

      by : (new : Bool) → new ≡ k.only_new → (first : Stand) → FitsStand k.rule first k.a → YieldsWith k.sig k.tables k.rule (row_pattern k.sig (Parallel k.a k.x k.u k.b k.y k.w) row) first → WritesPartner k.rule k.x k.u first ⊎ (¬ WritesPartner k.rule k.x k.u first) → IsKnownRow k row
      by new e first fits yw (inl writes) = absurd (looked first (fits, λ _. writes) yw)
      by false e first fits yw (inr not) = absurd (looked first (fits, λ yes. absurd (let clash : false ≡ true = e ∙ yes in cc)) yw)
      by true e first fits yw (inr not) =
          let no = writes_neither k.rule k.x k.u first not in
          let holds = Holds-unwritten k.sig k.tables ok.valid k.rule ok.over k.a k.x k.u k.b k.y k.w (k.number, ok.numbered ∙ ap Some ok.is) yw.stands yw.freed first yw.begins no.0 no.1 row (rw ok.is at is) yw.yields in
          (sym e, Has-held k.sig k.tables ok.valid k.number (Parallel k.a k.x k.u k.b k.y k.w) (ok.numbered ∙ ap Some ok.is) row holds)

  pub length-same-asked : length (row_pattern k.sig k.family Same) ≡ 2
  length-same-asked = rw ok.is (length-same k.sig k.tables k.rule ok.over k.a k.x k.u k.b k.y k.w valid_parallel)

  pub length-different-asked : length (row_pattern k.sig k.family Different) ≡ 3
  length-different-asked = rw ok.is (length-different k.sig k.tables k.rule ok.over k.a k.x k.u k.b k.y k.w valid_parallel)

  pub same_asked : (v : List Node) → v ≡ row_pattern k.sig k.family Same → (first : Stand) → YieldsWith k.sig k.tables k.rule v first → (second : Stand) × IsPartner k.rule first k.x k.b k.y second × IsPartner k.rule first k.u k.b k.w second × YieldsAt k.sig k.tables k.rule v (first ∷ second ∷ []) []
  same_asked v e first yw = rw (e, ok.is) (same_partner k.sig k.tables k.rule ok.over k.a k.x k.u k.b k.y k.w valid_parallel first (rw (e, ok.is) at yw))

  pub different_asked : (v : List Node) → v ≡ row_pattern k.sig k.family Different → (first : Stand) → YieldsWith k.sig k.tables k.rule v first → (second third : Stand) × IsPartner k.rule first k.x k.b k.y second × IsPartner k.rule first k.u k.b k.w third × YieldsAt k.sig k.tables k.rule v (first ∷ second ∷ third ∷ []) []
  different_asked v e first yw = rw (e, ok.is) (different_partners k.sig k.tables k.rule ok.over k.a k.x k.u k.b k.y k.w valid_parallel first (rw (e, ok.is) at yw))

  -- what a search through the stands answers
  module _ (row : Row) (is : IsRow k.sig k.family row) (firsts : List Stand) (b : Bool) (told : IsTrue b ↔ ((first : Stand) × Has firsts first × YieldsWith k.sig k.tables k.rule (row_pattern k.sig k.family row) first)) where
    pub IsSought-on : (k.only_new ≡ true → ¬ Has (rows_of k.tables k.number) row) → OnTrue b (IsSought k row)
    IsSought-on new = OnTrue_from b (IsSought k row) (λ yes. let h = told.0 yes in IsSought-with row is new h.0 h.2)

    pub IsKnownRow-on : ((stand : Stand) → Has firsts stand ↔ IsRootStand k stand) → OnFalse b (IsResult k.sig k.tables k.rule k.number row → IsKnownRow k row)
    IsKnownRow-on each = on_false _ _ b told (λ none. IsKnownRow-none row is firsts each (λ first has yw. none (first, has, yw)))

module _ (k : ParallelAsk) (all : List Stand) (each : (stand : Stand) → Has all stand ↔ FitsStand k.rule stand k.a) where
  pub all_firsts : k.only_new ≡ false → (stand : Stand) → Has all stand ↔ IsRootStand k stand
  all_firsts old stand = (λ has. ((each stand).0 has, λ new. absurd (let clash : false ≡ true = sym old ∙ new in cc)), λ root. (each stand).1 root.0)

  pub writing_firsts : k.only_new ≡ true → (firsts : List Stand) → ((stand : Stand) → Has firsts stand ↔ (Has all stand × WritesPartner k.rule k.x k.u stand)) → (stand : Stand) → Has firsts stand ↔ IsRootStand k stand
  writing_firsts new firsts some stand = (
    λ has. let h = (some stand).0 has in ((each stand).0 h.0, λ _. h.1),
    λ root. (some stand).1 ((each stand).1 root.0, root.1 new),
  )

-- Gathering family by family and box by box.
use Rattle.std.proofs.Common.{◌≡◌, ◌+◌, ◌<◌, ◌≤◌, inl, inr, ◌↔◌, Bool, true, false, List, [], ◌∷◌, ◌++◌, length, get_or, remove, refl, sym, subst, ◌∙◌, arith}
use Rattle.std.proofs.lemmas.Grind.{common_steps}
use Rattle.std.proofs.lemmas.List.{length-append}
use Rattle.kasa_lists.specs.Lists.{Has, AllDifferent}
use Rattle.kasa_lists.proofs.Having.{Has-[], Has-push}
use Rattle.kasa_lists.proofs.Different.{AllDifferent-push, AllDifferent-[]}
use Rattle.kasa_rules.specs.declared.model.Model.{Model}
use Rattle.kasa_families.specs.declared.family.Family.{Family}
use Rattle.kasa_families.specs.Family.{IsFamily}
use Rattle.kasa_choose.specs.declared.kind.Kind.{Kind}
use Rattle.kasa_choose.specs.Kind.{is_left_out}
use Rattle.kasa_choose.specs.Kept.{is_among, keep}
use Rattle.kasa_choose.proofs.Keys.{among_told, keep_there, keep_new}
use Rattle.kasa_choose.specs.Gathered.{joined_plans, IsNewFamily, IsTakenOn, AreFirst, IsGathered}

module _ (model : Model) where
  one_taken : (before : List Family) (f : Family) (xs ys : List Family) → IsTakenOn model before f xs → IsTakenOn model before f ys → xs ≡ ys
  one_taken before f xs ys (inl p) (inl q) = p.1 ∙ sym q.1
  one_taken before f xs ys (inl p) (inr q) = absurd (q.0 p.0)
  one_taken before f xs ys (inr p) (inl q) = absurd (p.0 q.0)
  one_taken before f xs ys (inr p) (inr q) = p.1 ∙ sym q.1

  -- no two lists are gathered
  pub one_first : (before planned xs ys : List Family) → AreFirst model before planned xs → AreFirst model before planned ys → xs ≡ ys
  one_first before [] xs ys p q = p ∙ sym q
  one_first before (f ∷ planned) xs ys (a, take, more) (b, taken, rest) =
      one_first b planned xs ys (subst (λ fs. AreFirst model fs planned xs) (one_taken before f a b take taken) more) rest

  taken_more : (before : List Family) (f : Family) (after : List Family) → IsTakenOn model before f after → length before ≤ length after
  taken_more before f after (inl p) = rw p.1 (omega (arith, length-append before (f ∷ [])))
  taken_more before f after (inr p) = rw p.1 (omega arith)

  first_more : (before planned families : List Family) → AreFirst model before planned families → length before ≤ length families
  first_more before [] families e = rw e (omega arith)
  first_more before (f ∷ planned) families (after, take, more) = omega (arith, taken_more before f after take, first_more after planned families more)

  -- the families of one list, and then those of another
  first_append : (before xs ys mid families : List Family) → AreFirst model before xs mid → AreFirst model before (xs ++ ys) families ↔ AreFirst model mid ys families
  first_append before [] ys mid families e = (λ h. subst (λ fs. AreFirst model fs ys families) (sym e) h, λ h. subst (λ fs. AreFirst model fs ys families) e h)
  first_append before (f ∷ xs) ys mid families (after, take, more) = (
    λ (other, taken, rest). (first_append after xs ys mid families more).0 (subst (λ fs. AreFirst model fs (xs ++ ys) families) (one_taken before f other after taken take) rest),
    λ h. (after, take, (first_append after xs ys mid families more).1 h),
  )

  -- ---- one chooser's families, one by one

  -- going on from here leads to the same lists
  abbrev pub LeadsOn : List Family → List Family → List Family → List Family → Type 0
  LeadsOn before planned after left = (families : List Family) → AreFirst model before planned families ↔ AreFirst model after left families

  pub leads_step : (before planned mid left : List Family) (f : Family) (rest after : List Family) → LeadsOn before planned mid left → left ≡ f ∷ rest → IsTakenOn model mid f after → LeadsOn before planned after rest
  leads_step before planned mid left f rest after leads is take families = (
    λ h. own (subst (λ fs. AreFirst model mid fs families) is ((leads families).0 h)),
    λ h. (leads families).1 (subst (λ fs. AreFirst model mid fs families) (sym is) (after, take, h)),
  )
    where
      own : AreFirst model mid (f ∷ rest) families → AreFirst model after rest families
      own (other, taken, more) = subst (λ fs. AreFirst model fs rest families) (one_taken mid f other after taken take) more

  pub leads_end : (before planned after left : List Family) → LeadsOn before planned after left → left ≡ [] → AreFirst model before planned after
  leads_end before planned after left leads none = (leads after).1 (subst (λ fs. AreFirst model after fs after) (sym none) refl)

  -- where the next family is one too many, so are all
  pub too_many : (before planned mid left : List Family) (f : Family) (rest : List Family) → LeadsOn before planned mid left → left ≡ f ∷ rest → IsNewFamily model mid f → length mid ≡ 8000 → (families : List Family) → AreFirst model before planned families → 8000 < length families
  too_many before planned mid left f rest leads is new full families h = own (subst (λ fs. AreFirst model mid fs families) is ((leads families).0 h))
    where
      own : AreFirst model mid (f ∷ rest) families → 8000 < length families
      own (after, inl p, more) =
          let longer : length after ≡ length mid + 1 = rw p.1 (length-append mid (f ∷ [])) in
          omega (arith, first_more after rest families more, longer, full)
      own (after, inr p, more) = absurd (p.0 new)

  -- ---- box by box

  module _ {B : Type 0} (kind : B → Kind) (plan : B → Model → List Family) (without : List Kind) where
    abbrev joined : List B → List Family
    joined boxes = joined_plans kind plan without model boxes

    front : (boxes : List B) (b : B) (rest : List B) → 0 < length boxes → b ≡ get_or boxes 0 b → rest ≡ remove boxes 0 → boxes ≡ b ∷ rest
    front boxes b rest some e r = grind (arith, common_steps)

    pub leads_box : (start : List Family) (all boxes : List B) (b : B) (rest : List B) (mid after : List Family) → 0 < length boxes → b ≡ get_or boxes 0 b → rest ≡ remove boxes 0 → LeadsOn start (joined all) mid (joined boxes) → is_left_out without (kind b) ≡ false → AreFirst model mid (plan b model) after → LeadsOn start (joined all) after (joined rest)
    leads_box start all boxes b rest mid after some e r leads asked first families =
        let is : joined boxes ≡ plan b model ++ joined rest = rw (front boxes b rest some e r, asked) refl in
        let on = first_append mid (plan b model) (joined rest) after families first in (
          λ h. on.0 (subst (λ fs. AreFirst model mid fs families) is ((leads families).0 h)),
          λ h. (leads families).1 (subst (λ fs. AreFirst model mid fs families) (sym is) (on.1 h)),
        )

    pub leads_past : (start : List Family) (all boxes : List B) (b : B) (rest : List B) (mid : List Family) → 0 < length boxes → b ≡ get_or boxes 0 b → rest ≡ remove boxes 0 → LeadsOn start (joined all) mid (joined boxes) → is_left_out without (kind b) ≡ true → LeadsOn start (joined all) mid (joined rest)
    leads_past start all boxes b rest mid some e r leads out =
        let is : joined boxes ≡ joined rest = rw (front boxes b rest some e r, out) refl in
        subst (LeadsOn start (joined all) mid) is leads

    -- where one box's families are too many, so are all
    pub too_many_boxes : (start : List Family) (all boxes : List B) (b : B) (rest : List B) (mid : List Family) → 0 < length boxes → b ≡ get_or boxes 0 b → rest ≡ remove boxes 0 → LeadsOn start (joined all) mid (joined boxes) → is_left_out without (kind b) ≡ false →
        ((families : List Family) → AreFirst model mid (plan b model) families → 8000 < length families) → (families : List Family) → AreFirst model start (joined all) families → 8000 < length families
    too_many_boxes start all boxes b rest mid some e r leads asked many families h =
        let is : joined boxes ≡ plan b model ++ joined rest = rw (front boxes b rest some e r, asked) refl in
        let (own, first, more) = split mid (plan b model) (joined rest) families (subst (λ fs. AreFirst model mid fs families) is ((leads families).0 h)) in
        omega (arith, many own first, first_more own (joined rest) families more)
      where
        split : (before xs ys families : List Family) → AreFirst model before (xs ++ ys) families → (mid : List Family) × AreFirst model before xs mid × AreFirst model mid ys families
        split before [] ys families h = (before, refl, h)
        split before (f ∷ xs) ys families (after, take, more) = let rest = split after xs ys families more in (rest.0, (after, take, rest.1), rest.2)

  -- ---- what is gathered

  abbrev AreValid : List Family → Type 0
  AreValid families = (f : Family) → Has families f → IsFamily model.sig f

  first_valid : (before planned families : List Family) → AreValid before → AreFirst model before planned families → AreValid families
  first_valid before [] families valid e = subst AreValid (sym e) valid
  first_valid before (f ∷ planned) families valid (after, inl p, more) =
      first_valid after planned families (subst AreValid (sym p.1) (λ g h. elim (Has-push before f g h) [ inl old ↦ valid g old | inr is ↦ subst (IsFamily model.sig) (sym is) p.0.0 ])) more
  first_valid before (f ∷ planned) families valid (after, inr p, more) = first_valid after planned families (subst AreValid (sym p.1) valid) more

  first_different : (before planned families : List Family) → AllDifferent before → AreFirst model before planned families → AllDifferent families
  first_different before [] families different e = subst AllDifferent (sym e) different
  first_different before (f ∷ planned) families different (after, inl p, more) =
      first_different after planned families (subst AllDifferent (sym p.1) (AllDifferent-push before f different p.0.1)) more
  first_different before (f ∷ planned) families different (after, inr p, more) = first_different after planned families (subst AllDifferent (sym p.1) different) more

  module _ {B : Type 0} (kind : B → Kind) (plan : B → Model → List Family) (boxes : List B) (without : List Kind) (families : List Family) where
    pub valid_gathered : IsGathered kind plan boxes without model families → AreValid families
    valid_gathered first = first_valid [] (joined_plans kind plan without model boxes) families (λ f h. absurd (Has-[] f h)) first

    pub different_gathered : IsGathered kind plan boxes without model families → AllDifferent families
    different_gathered first = first_different [] (joined_plans kind plan without model boxes) families AllDifferent-[] first

-- ---- one family taken on

-- where the family is valid and kept
pub taken_of : (model : Model) (before : List Family) (f : Family) (after : List Family) → IsFamily model.sig f → length before ≤ 8000 → after ≡ keep before f → IsTakenOn model before f after
taken_of model before f after valid few is = by (is_among before f) refl
  where
    by : (b : Bool) → is_among before f ≡ b → IsTakenOn model before f after
    by true e = inr (λ new. new.1 ((among_told before f).0 e), is ∙ keep_there before f few e)
    by false e = inl ((valid, λ has. let both : true ≡ false = sym ((among_told before f).1 has) ∙ e in absurd cc), is ∙ keep_new before f few e)

pub taken_too_many : (model : Model) (before : List Family) (f : Family) (after : List Family) → IsFamily model.sig f → after ≡ keep before f → length before ≤ 8000 → 8000 < length after → IsNewFamily model before f × (length before ≡ 8000)
taken_too_many model before f after valid is few many = by (taken_of model before f after valid few is)
  where
    by : IsTakenOn model before f after → IsNewFamily model before f × (length before ≡ 8000)
    by (inl (new, e)) = let longer : length after ≡ length before + 1 = rw e (length-append before (f ∷ [])) in (new, omega arith)
    by (inr (old, e)) = let same : length after ≡ length before = rw e refl in absurd (omega arith)

-- Where a bond tells that the partner stands.
use Rattle.std.proofs.Common.{◌≡◌, ◌≢◌, ℕ, zero, suc, ◌⊎◌, inl, inr, List, [], ◌∷◌, refl, ◌∙◌, subst, arith, Option, Some, None}
use Rattle.std.specs.Prelude.{slice_get, MatchOption}
use Rattle.std.proofs.lemmas.Option.{same_Some}
use Rattle.kasa_graph.specs.declared.pattern.LinkTest.{LinkTest}
use Rattle.kasa_graph.specs.declared.pattern.LinkTest.TheVariants as test
use Rattle.kasa_graph.specs.Pattern.{link_test}
use Rattle.kasa_families.specs.declared.shape.NodeSite.{NodeSite}
use Rattle.kasa_families.specs.Shape.{at}
use Rattle.kasa_rules.specs.declared.rule.End.{End}
use Rattle.kasa_rules.specs.declared.rule.Written.{Written}
use Rattle.kasa_rules.specs.declared.rule.Written.TheVariants as written
use Rattle.kasa_rules.specs.Rule.{RuleParts}
use Rattle.kasa_pre.specs.declared.Stand.{Stand}
use Rattle.kasa_pre.specs.declared.Stand.TheVariants.{Left, Made, Outside}
use Rattle.kasa_pre.specs.Asked.{StandExists, StandsExist}
use Rattle.kasa_pre.specs.Before.{FitsStand, stand_of, link_written}
use Rattle.kasa_columns.specs.Along.{WrittenLeads, TestLeads, StandLeads, LeadsAlong}
use Rattle.kasa_parallel.specs.Partners.{test_of, IsPartner, WritesPartner}

-- ---- one bond, from the first of two nodes

module _ (r : RuleParts) (one other : Stand) (x y : ℕ) (leads : LeadsAlong r (one ∷ other ∷ []) (at 0 x) (at 1 y)) where
  pub written_told : (e : End) (z : ℕ) → link_written r one x ≡ Some (written.To e z) → other ≡ stand_of e
  written_told e z is = let led = rw is at leads in same_Some other (stand_of e) led.1

  pub written_free : ¬ (link_written r one x ≡ Some written.Free)
  written_free is = rw is at leads

  unwritten : link_written r one x ≡ None → StandLeads r (one ∷ other ∷ []) (at 0 x) (at 1 y) one
  unwritten none = rw none at leads

  pub named_told : link_written r one x ≡ None → (m z : ℕ) → test_of r one x ≡ test.To m z → other ≡ Left m
  named_told none m z is = by one is (unwritten none)
    where
      by : (stand : Stand) → test_of r stand x ≡ test.To m z → StandLeads r (one ∷ other ∷ []) (at 0 x) (at 1 y) stand → other ≡ Left m
      by (Left n) is led = let there = rw is at led in same_Some other (Left m) there.1
      by (Made k) is led = absurd cc
      by Outside is led = absurd cc

  pub named_free : link_written r one x ≡ None → ¬ (test_of r one x ≡ test.Free)
  named_free none is = by one is (unwritten none)
    where
      by : (stand : Stand) → test_of r stand x ≡ test.Free → StandLeads r (one ∷ other ∷ []) (at 0 x) (at 1 y) stand → ⊥
      by (Left n) is led = rw is at led
      by (Made k) is led = absurd cc
      by Outside is led = absurd cc

-- a bond is followed the same where its ends have the same stands
module _ (r : RuleParts) (stands others : List Stand) (t k : NodeSite) (sited : t.site ≡ k.site) (same : slice_get others k.node ≡ slice_get stands t.node) where
  written_moves : (w : Written) → WrittenLeads stands t w → WrittenLeads others k w
  written_moves written.Free h = absurd h
  written_moves (written.To e y) h = (h.0 ∙ sited, same ∙ h.1)

  test_moves : (x : LinkTest) → TestLeads stands t x → TestLeads others k x
  test_moves test.Any h = tt
  test_moves test.Free h = absurd h
  test_moves test.Bound h = tt
  test_moves (test.Partner b y) h = h ∙ sited
  test_moves (test.To m u) h = (h.0 ∙ sited, same ∙ h.1)

  stand_moves : (s j : NodeSite) (stand : Stand) → s.site ≡ j.site → StandLeads r stands s t stand → StandLeads r others j k stand
  stand_moves s j (Left n) e h = subst (λ (i : ℕ). TestLeads others k (link_test r.left n i)) e (test_moves (link_test r.left n s.site) h)
  stand_moves s j (Made n) e h = tt
  stand_moves s j Outside e h = tt

  pub either_moves : (s j : NodeSite) (stand : Stand) → s.site ≡ j.site → MatchOption (link_written r stand s.site) (StandLeads r stands s t stand) (WrittenLeads stands t) → MatchOption (link_written r stand j.site) (StandLeads r others j k stand) (WrittenLeads others k)
  either_moves s j stand e h = subst (λ (n : ℕ). MatchOption (link_written r stand n) (StandLeads r others j k stand) (WrittenLeads others k)) e (by (link_written r stand s.site) h)
    where
      by : (w : Option Written) → MatchOption w (StandLeads r stands s t stand) (WrittenLeads stands t) → MatchOption w (StandLeads r others j k stand) (WrittenLeads others k)
      by None h = stand_moves s j stand e h
      by (Some w) h = written_moves w h

-- ---- the bonds of rows

module _ (r : RuleParts) (x b y : ℕ) where
  -- two nodes whose bond each of them tells
  pub IsPartner-two : (one other : Stand) → FitsStand r other b → LeadsAlong r (one ∷ other ∷ []) (at 0 x) (at 1 y) → LeadsAlong r (one ∷ other ∷ []) (at 1 y) (at 0 x) → IsPartner r one x b y other
  IsPartner-two one other fits there back = record { fits = fits; follows = λ _ _. (there, back) }

  -- the first and the second of three, and the first and the third
  pub IsPartner-second : (one other third : Stand) → FitsStand r other b → LeadsAlong r (one ∷ other ∷ third ∷ []) (at 0 x) (at 1 y) → LeadsAlong r (one ∷ other ∷ third ∷ []) (at 1 y) (at 0 x) → IsPartner r one x b y other
  IsPartner-second one other third fits there back = IsPartner-two one other fits
      (either_moves r (one ∷ other ∷ third ∷ []) (one ∷ other ∷ []) (at 1 y) (at 1 y) refl refl (at 0 x) (at 0 x) one refl there)
      (either_moves r (one ∷ other ∷ third ∷ []) (one ∷ other ∷ []) (at 0 x) (at 0 x) refl refl (at 1 y) (at 1 y) other refl back)

  pub IsPartner-third : (one other third : Stand) → FitsStand r third b → LeadsAlong r (one ∷ other ∷ third ∷ []) (at 0 x) (at 2 y) → LeadsAlong r (one ∷ other ∷ third ∷ []) (at 2 y) (at 0 x) → IsPartner r one x b y third
  IsPartner-third one other third fits there back = IsPartner-two one third fits
      (either_moves r (one ∷ other ∷ third ∷ []) (one ∷ third ∷ []) (at 2 y) (at 1 y) refl refl (at 0 x) (at 0 x) one refl there)
      (either_moves r (one ∷ other ∷ third ∷ []) (one ∷ third ∷ []) (at 0 x) (at 0 x) refl refl (at 2 y) (at 1 y) third refl back)

  pub leads_partner : (one other : Stand) → IsPartner r one x b y other → LeadsAlong r (one ∷ other ∷ []) (at 0 x) (at 1 y)
  leads_partner one other is = (is.follows (omega arith) (omega arith)).0

-- ---- written or not

none_or_not : {X : Type 0} (o : Option X) → (o ≡ None) ⊎ (o ≢ None)
none_or_not None = inl refl
none_or_not (Some x) = inr (λ e. cc)

pub writes_neither : (r : RuleParts) (x u : ℕ) (stand : Stand) → (¬ WritesPartner r x u stand) → (link_written r stand x ≡ None) × (link_written r stand u ≡ None)
writes_neither r x u stand not = (
  elim (none_or_not (link_written r stand x)) [ inl e ↦ e | inr some ↦ absurd (not (inl some)) ],
  elim (none_or_not (link_written r stand u)) [ inl e ↦ e | inr some ↦ absurd (not (inr some)) ],
)

pub writes_or_not : (r : RuleParts) (x u : ℕ) (stand : Stand) → WritesPartner r x u stand ⊎ (¬ WritesPartner r x u stand)
writes_or_not r x u stand = by (none_or_not (link_written r stand x)) (none_or_not (link_written r stand u))
  where
    by : (link_written r stand x ≡ None) ⊎ (link_written r stand x ≢ None) → (link_written r stand u ≡ None) ⊎ (link_written r stand u ≢ None) → WritesPartner r x u stand ⊎ (¬ WritesPartner r x u stand)
    by (inr some) other = inl (inl some)
    by (inl none) (inr some) = inl (inr some)
    by (inl none) (inl none_too) = inr (λ h. elim h [ inl some ↦ some none | inr some ↦ some none_too ])

-- ---- stands that exist

pub exist_two : (r : RuleParts) (first second : Stand) → StandExists r first → StandExists r second → StandsExist r (first ∷ second ∷ [])
exist_two r first second one two zero stand e = let same : first ≡ stand = cc in rw (← same) one
exist_two r first second one two (suc zero) stand e = let same : second ≡ stand = cc in rw (← same) two
exist_two r first second one two (suc (suc i)) stand e = absurd cc

pub exist_three : (r : RuleParts) (first second third : Stand) → StandExists r first → StandExists r second → StandExists r third → StandsExist r (first ∷ second ∷ third ∷ [])
exist_three r first second third one two three zero stand e = let same : first ≡ stand = cc in rw (← same) one
exist_three r first second third one two three (suc i) stand e = exist_two r second third two three i stand e

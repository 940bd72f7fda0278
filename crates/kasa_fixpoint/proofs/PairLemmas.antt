-- The pairs that act, rules first and then families.
use Rattle.std.proofs.Common.{◌≡◌, ℕ, ◌+◌, ◌⊎◌, inl, inr, List, [], ◌∷◌, ◌++◌, length, refl, arith}
use Rattle.std.specs.Prelude.{Some, slice_get}
use Rattle.std.proofs.lemmas.Option.{slice_get_within}
use Rattle.kasa_lists.proofs.Numbers.{less_or}
use Rattle.kasa_lists.proofs.Elements.{length-push}
use Rattle.kasa_lists.proofs.Having.{Has-[], Has-left, Has-push, Has-last}
use Rattle.kasa_lists.proofs.Different.{AllDifferent-[], AllDifferent-push}
use Rattle.kasa_families.specs.declared.family.Family.{Family}
use Rattle.kasa_rules.specs.declared.model.Model.{Model}
use Rattle.kasa_rules.specs.Rule.{RuleParts}
use Rattle.kasa_pre.specs.Acts.{ActsOn}
use Rattle.kasa_fixpoint.specs.declared.pairs.Pair.{Pair}
use Rattle.kasa_fixpoint.specs.Pairs.{IsActing, AreActingPairs, IsPairBefore, AreActingBefore}

same_pair : (p : Pair) (k f : ℕ) → p.rule ≡ k → p.family ≡ f → p ≡ record { rule = k; family = f }
same_pair p k f e h = rw (← e, ← h) refl

module _ (model : Model) (families : List Family) where
  pub AreActingBefore-none : AreActingBefore model families 0 0 []
  AreActingBefore-none = record {
    different = AllDifferent-[];
    acting = λ pair has. absurd (Has-[] pair has);
    all = λ pair acts before. elim before [ inl less ↦ absurd (omega arith) | inr (e, less) ↦ absurd (omega arith) ];
    few = omega arith;
  }

  later : (p : Pair) (k f : ℕ) → IsPairBefore p k f → IsPairBefore p k (f + 1)
  later p k f before = elim before [ inl less ↦ inl less | inr (e, less) ↦ inr (e, omega arith) ]

  -- the pair of the two numbers, or one before it
  this_or : (p : Pair) (k f : ℕ) → IsPairBefore p k (f + 1) → IsPairBefore p k f ⊎ (p ≡ record { rule = k; family = f })
  this_or p k f before = elim before [
    | inl less ↦ inl (inl less)
    | inr (e, below) ↦ elim (less_or p.family f below) [
      | inl less ↦ inl (inr (e, less))
      | inr h ↦ inr (same_pair p k f e h)
    ]
  ]

  module _ (k f : ℕ) (pairs : List Pair) (before : AreActingBefore model families k f pairs) where
    pub AreActingBefore-push : IsActing model families (record { rule = k; family = f }) → AreActingBefore model families k (f + 1) (pairs ++ record { rule = k; family = f } ∷ [])
    AreActingBefore-push acts = record {
      different = AllDifferent-push pairs (record { rule = k; family = f }) before.different (λ has. absurd (not_yet (before.acting (record { rule = k; family = f }) has).1));
      acting = λ pair has. elim (Has-push pairs (record { rule = k; family = f }) pair has) [
        | inl there ↦ let a = before.acting pair there in (a.0, later pair k f a.1)
        | inr e ↦ rw e (acts, inr (refl, omega arith))
      ];
      all = λ pair its_acts earlier. elim (this_or pair k f earlier) [
        | inl less ↦ Has-left pairs (record { rule = k; family = f } ∷ []) pair (before.all pair its_acts less)
        | inr e ↦ Has-last pairs (record { rule = k; family = f }) pair e
      ];
      few = let more = length-push pairs (record { rule = k; family = f }) in let few = before.few in omega arith;
    }
      where
        not_yet : IsPairBefore (record { rule = k; family = f }) k f → ⊥
        not_yet (inl less) = omega arith
        not_yet (inr (e, less)) = omega arith

    pub AreActingBefore-skip : ¬ IsActing model families (record { rule = k; family = f }) → AreActingBefore model families k (f + 1) pairs
    AreActingBefore-skip not = record {
      different = before.different;
      acting = λ pair has. let a = before.acting pair has in (a.0, later pair k f a.1);
      all = λ pair its_acts earlier. elim (this_or pair k f earlier) [
        | inl less ↦ before.all pair its_acts less
        | inr e ↦ absurd (not (rw e at its_acts))
      ];
      few = let few = before.few in omega arith;
    }

  pub AreActingBefore-rule : (k : ℕ) (pairs : List Pair) → AreActingBefore model families k (length families) pairs → AreActingBefore model families (k + 1) 0 pairs
  AreActingBefore-rule k pairs before = record {
    different = before.different;
    acting = λ pair has. let a = before.acting pair has in (a.0, elim a.1 [ inl less ↦ inl (omega arith) | inr (e, less) ↦ inl (omega arith) ]);
    all = λ pair acts earlier. elim earlier [
      | inl less ↦ elim (less_or pair.rule k less) [
        | inl lower ↦ before.all pair acts (inl lower)
        | inr e ↦ before.all pair acts (inr (e, slice_get_within families pair.family acts.1 acts.2.named))
      ]
      | inr (e, less) ↦ absurd (omega arith)
    ];
    few = let few = before.few in omega arith;
  }

  pub AreActingPairs-all : (pairs : List Pair) → AreActingBefore model families (length model.rules) 0 pairs → AreActingPairs model families pairs
  AreActingPairs-all pairs before = record {
    different = before.different;
    exact = λ pair. (λ has. (before.acting pair has).0, λ acts. before.all pair acts (inl (slice_get_within model.rules pair.rule acts.0 acts.2.ruled)));
  }

-- the pair of two numbers acts where its rule acts on its family
module _ (model : Model) (families : List Family) (k f : ℕ) (r : RuleParts) (family : Family) (ruled : slice_get model.rules k ≡ Some r) (named : slice_get families f ≡ Some family) where
  pub acting_at : ActsOn r family → IsActing model families (record { rule = k; family = f })
  acting_at acts = (r, family, record { ruled = ruled; named = named }, acts)

  pub acting_there : IsActing model families (record { rule = k; family = f }) → ActsOn r family
  acting_there (other, its, is, acts) =
      let first : other ≡ r = let e = is.ruled in cc in
      let second : its ≡ family = let e = is.named in cc in
      rw (first, second) at acts

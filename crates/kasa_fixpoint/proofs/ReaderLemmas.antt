-- Lists of numbers, into which a number is put where it isn't the last one.
use Rattle.std.proofs.Common.{◌≡◌, ◌≢◌, ℕ, zero, suc, ◌+◌, ◌-◌, ◌<◌, inl, inr, List, [], ◌∷◌, ◌++◌, length, get_or, take, refl, sym, ◌∙◌, arith}
use Rattle.std.specs.Prelude.{Some, Ok, Err, Result, IfOk, slice_get, slice_set}
use Rattle.kasa_num.specs.declared.NoMemory.{NoMemory}
use Rattle.std.proofs.lemmas.Option.{slice_get-get_or}
use Rattle.kasa_lists.specs.Lists.{Has}
use Rattle.kasa_lists.proofs.Numbers.{same_or_not, less_or}
use Rattle.kasa_lists.proofs.Elements.{length-push, slice_get-last, take-one_more}
use Rattle.kasa_lists.proofs.Having.{Has-[], Has-head, Has-left, Has-right, Has-append, Has-push, Has-last, Has-cons}
use Rattle.kasa_lists.proofs.Different.{AllDifferent-[], AllDifferent-push}
use Rattle.kasa_worklist.proofs.ListLemmas.{slice_get-set_here, slice_get-set_other, length-slice_set}
use Rattle.kasa_families.specs.declared.family.Family.{Family}
use Rattle.kasa_rules.specs.declared.model.Model.{Model}
use Rattle.kasa_rules.specs.Rule.{RuleParts}
use Rattle.kasa_graph.specs.Pattern.{types_of}
use Rattle.kasa_graph.proofs.ShapeLemmas.{node_of_agent}
use Rattle.kasa_graph.proofs.TestLemmas.{agent_at-types}
use Rattle.kasa_rules.specs.Reached.{IsModel}
use Rattle.kasa_lists.proofs.Every.{AllByRecursion-at}
use Rattle.kasa_families.proofs.FamilyShape.{IsShape-of}
use Rattle.kasa_families.specs.Family.{IsFamily, family_types}
use Rattle.kasa_fixpoint.specs.declared.pairs.Pair.{Pair}
use Rattle.kasa_fixpoint.specs.Pairs.{IsPairOf, IsActing}
use Rattle.kasa_fixpoint.specs.Reads.{ReadsType}
use Rattle.kasa_fixpoint.specs.Readers.{AreUpTo, PutsNumber, of_type, PutsOfTypes, PairReadsType, AreReadersBelow}

-- ---- one list

module _ (p : ℕ) (numbers : List ℕ) (up_to : AreUpTo p numbers) where
  pub PutsNumber-there : Has numbers p → PutsNumber p numbers numbers
  PutsNumber-there there = record {
    up_to = up_to;
    exact = λ k. (λ has. inl has, λ which. elim which [ inl has ↦ has | inr e ↦ rw e there ]);
  }

  pub PutsNumber-push : ¬ Has numbers p → PutsNumber p numbers (numbers ++ p ∷ [])
  PutsNumber-push fresh = record {
    up_to = record {
      different = AllDifferent-push numbers p up_to.different fresh;
      few = λ k has. elim (Has-push numbers p k has) [ inl there ↦ up_to.few k there | inr e ↦ omega (arith, e) ];
      last = λ has. (numbers, refl);
    };
    exact = λ k. (
      Has-push numbers p k,
      λ which. elim which [
        | inl has ↦ Has-left numbers (p ∷ []) k has
        | inr e ↦ Has-last numbers p k e
      ],
    );
  }

  -- where it is there, it is the last one
  pub last_is : Has numbers p → slice_get numbers (length numbers - 1) ≡ Some p
  last_is has =
      let l = up_to.last has in
      let more = length-push l.0 p in
      rw l.1 (slice_get-last l.0 p (length (l.0 ++ p ∷ []) - 1) (omega arith))

-- ---- lists of types

pub of_type-at : (lists : List (List ℕ)) (a : ℕ) (numbers : List ℕ) → slice_get lists a ≡ Some numbers → of_type lists a ≡ numbers
unfolding of_type
of_type-at lists a numbers at = rw at refl

module _ (lists : List (List ℕ)) (a : ℕ) (numbers : List ℕ) (within : a < length lists) where
  of_type-set : of_type (slice_set lists a numbers) a ≡ numbers
  of_type-set = of_type-at (slice_set lists a numbers) a numbers (slice_get-set_here lists a numbers within)

  of_type-set_other : (b : ℕ) → a ≢ b → of_type (slice_set lists a numbers) b ≡ of_type lists b
  unfolding of_type
  of_type-set_other b ne = rw (slice_get-set_other lists a b numbers ne) refl

  pub PutsOfTypes-one : (p : ℕ) → ((b : ℕ) → AreUpTo p (of_type lists b)) → PutsNumber p (of_type lists a) numbers → PutsOfTypes p (a ∷ []) lists (slice_set lists a numbers)
  PutsOfTypes-one p up_to puts = record {
    size = length-slice_set lists a numbers;
    up_to = λ b. elim (same_or_not a b) [
      | inl e ↦ rw (← e, of_type-set) puts.up_to
      | inr ne ↦ rw (of_type-set_other b ne) (up_to b)
    ];
    exact = λ b k. elim (same_or_not a b) [
      | inl e ↦ rw (← e, of_type-set) (
        λ has. elim ((puts.exact k).0 has) [ inl there ↦ inl there | inr is ↦ inr (is, Has-head a []) ],
        λ which. (puts.exact k).1 (elim which [ inl there ↦ inl there | inr (is, listed) ↦ inr is ]),
      )
      | inr ne ↦ rw (of_type-set_other b ne) (
        λ has. inl has,
        λ which. elim which [ inl there ↦ there | inr (is, listed) ↦ absurd (elim (Has-cons a [] b listed) [ inl e ↦ ne (sym e) | inr none ↦ Has-[] b none ]) ],
      )
    ];
  }

-- an answer
pub PutsOfTypes-answer : (p a : ℕ) (lists new : List (List ℕ)) (numbers : List ℕ) → a < length lists → ((b : ℕ) → AreUpTo p (of_type lists b)) → of_type lists a ≡ numbers → (r : Result Unit NoMemory) (put : List ℕ) → new ≡ slice_set lists a put → IfOk r (λ _. PutsNumber p numbers put) → IfOk r (λ _. PutsOfTypes p (a ∷ []) lists new)
PutsOfTypes-answer p a lists new numbers within up_to is (Ok x) put same puts = rw same (PutsOfTypes-one lists a put within p up_to (rw is puts))
PutsOfTypes-answer p a lists new numbers within up_to is (Err e) put same puts = tt

pub PutsOfTypes-none : (p : ℕ) (lists : List (List ℕ)) → ((b : ℕ) → AreUpTo p (of_type lists b)) → PutsOfTypes p [] lists lists
PutsOfTypes-none p lists up_to = record {
  size = refl;
  up_to = up_to;
  exact = λ b k. (λ has. inl has, λ which. elim which [ inl there ↦ there | inr (is, listed) ↦ absurd (Has-[] b listed) ]);
}

pub PutsOfTypes-then : (p : ℕ) (first second : List ℕ) (a b c : List (List ℕ)) → PutsOfTypes p first a b → PutsOfTypes p second b c → PutsOfTypes p (first ++ second) a c
PutsOfTypes-then p first second a b c puts more = record {
  size = more.size ∙ puts.size;
  up_to = more.up_to;
  exact = λ t k. (
    λ has. elim ((more.exact t k).0 has) [
      | inl there ↦ elim ((puts.exact t k).0 there) [ inl before ↦ inl before | inr (is, listed) ↦ inr (is, Has-left first second t listed) ]
      | inr (is, listed) ↦ inr (is, Has-right first second t listed)
    ],
    λ which. (more.exact t k).1 (elim which [
      | inl before ↦ inl ((puts.exact t k).1 (inl before))
      | inr (is, listed) ↦ elim (Has-append first second t listed) [
        | inl here ↦ inl ((puts.exact t k).1 (inr (is, here)))
        | inr there ↦ inr (is, there)
      ]
    ]),
  );
}

pub PutsOfTypes-next : (p : ℕ) (types : List ℕ) (n t : ℕ) (a b c : List (List ℕ)) → slice_get types n ≡ Some t → PutsOfTypes p (take n types) a b → PutsOfTypes p (t ∷ []) b c → PutsOfTypes p (take (n + 1) types) a c
PutsOfTypes-next p types n t a b c at puts more = rw (take-one_more types n t at) (PutsOfTypes-then p (take n types) (t ∷ []) a b c puts more)

-- ---- pairs

module _ (model : Model) (families : List Family) (pairs : List Pair) where
  pub AreReadersBelow-none : (lists : List (List ℕ)) → length lists ≡ length model.sig → ((a : ℕ) → of_type lists a ≡ []) → AreReadersBelow model families pairs 0 lists
  AreReadersBelow-none lists size empty = record {
    size = size;
    different = λ a. rw (empty a) AllDifferent-[];
    exact = λ a k. (λ has. absurd (Has-[] k (rw (empty a) at has)), λ (below, reads). absurd (omega arith));
  }

  pub AreUpTo-below : (p : ℕ) (lists : List (List ℕ)) → AreReadersBelow model families pairs p lists → (a : ℕ) → AreUpTo p (of_type lists a)
  AreUpTo-below p lists below a = record {
    different = below.different a;
    few = λ k has. let less = ((below.exact a k).0 has).0 in omega arith;
    last = λ has. absurd (let less = ((below.exact a p).0 has).0 in omega arith);
  }

  module _ (p : ℕ) (pair : Pair) (at : slice_get pairs p ≡ Some pair) (r : RuleParts) (family : Family) (is : IsPairOf model families pair r family) where
    -- the pair reads just the types of its rule's left side and of its family
    reads_these : (a : ℕ) → PairReadsType model families pairs p a → ReadsType r family a
    reads_these a reads =
        let same : reads.pair ≡ pair = let e = reads.numbered in cc in
        let first : reads.r ≡ r = let e = reads.is.ruled in let h = is.ruled in let c : slice_get model.rules pair.rule ≡ Some reads.r = rw same at e in cc in
        let second : reads.family ≡ family = let e = reads.is.named in let h = is.named in let c : slice_get families pair.family ≡ Some reads.family = rw same at e in cc in
        rw (first, second) at reads.reads

    these_read : (a : ℕ) → ReadsType r family a → PairReadsType model families pairs p a
    these_read a reads = record { pair = pair; numbered = at; r = r; family = family; is = is; reads = reads }

    pub AreReadersBelow-next : (old new : List (List ℕ)) → AreReadersBelow model families pairs p old → PutsOfTypes p (types_of r.left ++ family_types family) old new → AreReadersBelow model families pairs (p + 1) new
    AreReadersBelow-next old new below puts = record {
      size = puts.size ∙ below.size;
      different = λ a. (puts.up_to a).different;
      exact = λ a k. (
        λ has. elim ((puts.exact a k).0 has) [
          | inl before ↦ let b = (below.exact a k).0 before in (omega (arith, b.0), b.1)
          | inr (e, listed) ↦ rw e (omega arith, these_read a (Has-append (types_of r.left) (family_types family) a listed))
        ],
        λ (less, reads). (puts.exact a k).1 (elim (less_or k p less) [
          | inl lower ↦ inl ((below.exact a k).1 (lower, reads))
          | inr e ↦ inr (
            e,
            elim (reads_these a (rw e at reads)) [
              | inl left ↦ Has-left (types_of r.left) (family_types family) a left
              | inr own ↦ Has-right (types_of r.left) (family_types family) a own
            ],
          )
        ]),
      );
    }

-- ---- lists without numbers

pub of_type-none : (a : ℕ) → of_type [] a ≡ []
unfolding of_type
of_type-none a = refl

pub of_type-pushed : (lists : List (List ℕ)) → ((a : ℕ) → of_type lists a ≡ []) → (a : ℕ) → of_type (lists ++ [] ∷ []) a ≡ []
unfolding of_type
of_type-pushed [] empty zero = refl
of_type-pushed [] empty (suc a) = refl
of_type-pushed (xs ∷ lists) empty zero = empty 0
of_type-pushed (xs ∷ lists) empty (suc a) = of_type-pushed lists (λ b. empty (suc b)) a

-- ---- the pair of a number

pub record ReadPair (model : Model) (families : List Family) (pairs : List Pair) (p : ℕ) : Type 0 where
  pub numbered : slice_get pairs p ≡ Some (get_or pairs p (record { rule = 0; family = 0 }))
  pub r : RuleParts
  pub family : Family
  pub is : IsPairOf model families (get_or pairs p (record { rule = 0; family = 0 })) r family

pub read_pair : (model : Model) (families : List Family) (pairs : List Pair) → ((pair : Pair) → Has pairs pair → IsActing model families pair) → (p : ℕ) → p < length pairs → ReadPair model families pairs p
read_pair model families pairs acting p below =
    let at = slice_get-get_or pairs p (record { rule = 0; family = 0 }) below in
    let acts = acting (get_or pairs p (record { rule = 0; family = 0 })) (p, at) in
    record { numbered = at; r = acts.0; family = acts.1; is = acts.2 }

-- its types exist
pub left_within : (model : Model) → IsModel model → (k : ℕ) (r : RuleParts) → slice_get model.rules k ≡ Some r → (a : ℕ) → Has (types_of r.left) a → a < length model.sig
left_within model valid k r ruled a has =
    let node = node_of_agent r.left has.0 a (agent_at-types r.left has.0 ∙ has.1) in
    rw (← node.2) ((valid.rules k r ruled).left.types has.0 node.0 node.1)

pub family_within : (model : Model) (families : List Family) → ((family : Family) → Has families family → IsFamily model.sig family) → (f : ℕ) (family : Family) → slice_get families f ≡ Some family → (a : ℕ) → Has (family_types family) a → a < length model.sig
family_within model families valid f family named a has =
    AllByRecursion-at (λ (b : ℕ). b < length model.sig) (family_types family) has.0 a (IsShape-of model.sig family (valid family (f, named))).types has.1

-- an answer
pub AreReadersBelow-answer : (model : Model) (families : List Family) (pairs : List Pair) (p : ℕ) (pair : Pair) → slice_get pairs p ≡ Some pair → (r : RuleParts) (family : Family) → IsPairOf model families pair r family → (old mid new : List (List ℕ)) → AreReadersBelow model families pairs p old → PutsOfTypes p (types_of r.left) old mid → (answer : Result Unit NoMemory) → IfOk answer (λ _. PutsOfTypes p (family_types family) mid new) → IfOk answer (λ _. AreReadersBelow model families pairs (p + 1) new)
AreReadersBelow-answer model families pairs p pair at r family is old mid new below left (Ok x) own = AreReadersBelow-next model families pairs p pair at r family is old new below (PutsOfTypes-then p (types_of r.left) (family_types family) old mid new left own)
AreReadersBelow-answer model families pairs p pair at r family is old mid new below left (Err e) own = tt

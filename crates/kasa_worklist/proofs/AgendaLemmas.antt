-- A queue of numbers, and of each number whether it stands there.
use Rattle.std.proofs.Common.{◌≡◌, ◌≢◌, ℕ, ◌+◌, ◌<◌, inl, inr, Bool, true, false, List, [], ◌∷◌, ◌++◌, length, get_or, take, refl, sym, ap, ◌∙◌, arith, length-append}
use Rattle.std.specs.Prelude.{Some, slice_get, slice_set}
use Rattle.std.proofs.lemmas.Option.{slice_get-get_or, slice_get_within}
use Rattle.std.proofs.lemmas.List.{take_more}
use Rattle.kasa_lists.specs.Lists.{Has}
use Rattle.kasa_lists.proofs.Numbers.{same_or_not, less_or}
use Rattle.kasa_lists.proofs.Elements.{at_push, slice_get-pushed, slice_get-last}
use Rattle.kasa_lists.proofs.Having.{Has-[], Has-head, Has-later, Has-cons, Has-append, Has-left, Has-right, Has-push, Has-last}
use Rattle.kasa_lists.proofs.Different.{AllDifferent-tail, AllDifferent-head, AllDifferent-push}
use Rattle.kasa_worklist.specs.Agenda.{Waiting, MarksAgree, Takes, Puts}
use Rattle.kasa_worklist.proofs.ListLemmas.{slice_get-set_same, slice_get-set_here, slice_get-set_other, length-slice_set}

-- the first number is taken
module _ (queue old : List ℕ) (on : List Bool) (k : ℕ) (agree : MarksAgree old on) (is : old ≡ k ∷ queue) where
  pub taken_within : k < length on
  taken_within = slice_get_within on k true (agree.marked k (rw is (Has-head k queue)))

  fresh : ¬ Has queue k
  fresh has = AllDifferent-head k queue has.0 (rw is at agree.different) has.1

  pub MarksAgree-taken : MarksAgree queue (slice_set on k false)
  MarksAgree-taken = record {
    listed = λ j at. elim (same_or_not k j) [
      | inl e ↦ absurd (let off = slice_get-set_same on k true false (rw (← e) at at) in cc)
      | inr ne ↦ elim (Has-cons k queue j (rw is at (agree.listed j (rw (slice_get-set_other on k j false ne) at at)))) [
        | inl e ↦ absurd (ne (sym e))
        | inr has ↦ has
      ]
    ];
    marked = λ j has. elim (same_or_not k j) [
      | inl e ↦ absurd (fresh (rw e has))
      | inr ne ↦ rw (slice_get-set_other on k j false ne) (agree.marked j (rw is (Has-later k queue j has)))
    ];
    different = AllDifferent-tail k queue (rw is at agree.different);
  }

  pub Takes-first : Takes k (record { numbers = old; size = length on }) (record { numbers = queue; size = length (slice_set on k false) })
  Takes-first = record {
    size = length-slice_set on k false;
    within = taken_within;
    first = is;
  }

-- a number is put that wasn't there
module _ (queue : List ℕ) (on : List Bool) (k : ℕ) (agree : MarksAgree queue on) (below : k < length on) where
  pub MarksAgree-put : slice_get on k ≢ Some true → MarksAgree (queue ++ k ∷ []) (slice_set on k true)
  MarksAgree-put off = record {
    listed = λ j at. elim (same_or_not k j) [
      | inl e ↦ rw (← e) (Has-right queue (k ∷ []) k (0, refl))
      | inr ne ↦ Has-left queue (k ∷ []) j (agree.listed j (rw (slice_get-set_other on k j true ne) at at))
    ];
    marked = λ j has. elim (Has-push queue k j has) [
      | inl there ↦ elim (same_or_not k j) [
        | inl e ↦ rw (← e) (slice_get-set_here on k true below)
        | inr ne ↦ rw (slice_get-set_other on k j true ne) (agree.marked j there)
      ]
      | inr e ↦ rw e (slice_get-set_here on k true below)
    ];
    different = AllDifferent-push queue k agree.different (λ has. off (agree.marked k has));
  }

  pub Puts-one : Puts (k ∷ []) (record { numbers = queue; size = length on }) (record { numbers = queue ++ k ∷ []; size = length (slice_set on k true) })
  Puts-one = record {
    size = length-slice_set on k true;
    kept = λ j has. Has-left queue (k ∷ []) j has;
    held = λ j has. Has-right queue (k ∷ []) j has;
    low = let e = length-append queue (k ∷ []) in omega arith;
    high = let e = length-append queue (k ∷ []) in omega arith;
  }

pub Puts-there : (a : Waiting) (k : ℕ) → Has a.numbers k → Puts (k ∷ []) a a
Puts-there a k there = record {
  size = refl;
  kept = λ j has. has;
  held = λ j has. elim (Has-cons k [] j has) [ inl e ↦ rw e there | inr none ↦ absurd (Has-[] j none) ];
  low = omega arith;
  high = omega arith;
}

pub Puts-none : (a : Waiting) → Puts [] a a
Puts-none a = record {
  size = refl;
  kept = λ j has. has;
  held = λ j has. absurd (Has-[] j has);
  low = omega arith;
  high = omega arith;
}

pub Puts-then : (numbers : List ℕ) (k : ℕ) (a b c : Waiting) → Puts numbers a b → Puts (k ∷ []) b c → Puts (numbers ++ k ∷ []) a c
Puts-then numbers k a b c first second = record {
  size = second.size ∙ first.size;
  kept = λ j has. second.kept j (first.kept j has);
  held = λ j has. elim (Has-append numbers (k ∷ []) j has) [
    | inl before ↦ second.kept j (first.held j before)
    | inr here ↦ second.held j here
  ];
  low = let l = first.low in let m = second.low in omega arith;
  high = let l = first.high in let m = second.high in let n = length-append numbers (k ∷ []) in omega arith;
}

pub Puts-next : (numbers : List ℕ) (i k : ℕ) (a b c : Waiting) → i < length numbers → get_or numbers i 0 ≡ k → Puts (take i numbers) a b → Puts (k ∷ []) b c → Puts (take (i + 1) numbers) a c
Puts-next numbers i k a b c below is first second =
    let next : take (i + 1) numbers ≡ take i numbers ++ k ∷ [] = rw (take_more numbers i 0 below, is) refl in
    rw next (Puts-then (take i numbers) k a b c first second)

-- ---- all numbers

-- the numbers below k stand in a queue, in order, and all are marked
pub record AreBelow (queue : List ℕ) (on : List Bool) (k : ℕ) : Type 0 where
  pub each : (i j : ℕ) → slice_get queue i ≡ Some j → (i ≡ j) × (j < k)
  pub all : (j : ℕ) → j < k → Has queue j
  pub marks : (j : ℕ) → j < k → slice_get on j ≡ Some true
  pub count : length queue ≡ k
  pub size : length on ≡ k

pub AreBelow-none : AreBelow [] [] 0
AreBelow-none = record {
  each = λ i j at. absurd cc;
  all = λ j below. absurd (omega arith);
  marks = λ j below. absurd (omega arith);
  count = refl;
  size = refl;
}

pub AreBelow-next : (queue next : List ℕ) (on more : List Bool) (k : ℕ) → next ≡ queue ++ k ∷ [] → more ≡ on ++ true ∷ [] → AreBelow queue on k → AreBelow next more (k + 1)
AreBelow-next queue next on more k is_next is_more are = rw (is_next, is_more) (record {
  each = λ i j at. elim (at_push queue k j i at) [
    | inl before ↦ let e = are.each i j before in (e.0, (let b = e.1 in omega arith))
    | inr here ↦ let c = are.count in let p = here.0 in let q = here.1 in (here.0 ∙ are.count ∙ here.1, omega arith)
  ];
  all = λ j below. elim (less_or j k below) [
    | inl b ↦ Has-left queue (k ∷ []) j (are.all j b)
    | inr e ↦ Has-last queue k j e
  ];
  marks = λ j below. elim (less_or j k below) [
    | inl b ↦ slice_get-pushed on true true j (are.marks j b)
    | inr e ↦ rw e (slice_get-last on true k (sym are.size))
  ];
  count = let l = length-append queue (k ∷ []) in let c = are.count in omega arith;
  size = let l = length-append on (true ∷ []) in let c = are.size in omega arith;
})

pub MarksAgree-below : (queue : List ℕ) (on : List Bool) (k : ℕ) → AreBelow queue on k → MarksAgree queue on
MarksAgree-below queue on k are = record {
  listed = λ j at. are.all j (let w = slice_get_within on j true at in let s = are.size in omega arith);
  marked = λ j has. are.marks j (are.each has.0 j has.1).1;
  different = λ i j x p q. (are.each i x p).0 ∙ sym (are.each j x q).0;
}

-- a mark that was read
pub marked_at : (on : List Bool) (k : ℕ) (b : Bool) → k < length on → b ≡ get_or on k b → slice_get on k ≡ Some b
marked_at on k b below is = slice_get-get_or on k b below ∙ ap Some (sym is)

-- The first of some causes, cause by cause.
use Rattle.std.proofs.Common.{◌≡◌, ℕ, ◌≤◌, ◌<◌, nat_le, arith, List, [], ◌∷◌, ◌++◌, Bool, true, false, is_some, Result, Ok, Err, IfOk, Option, Some, None, slice_get, refl, sym, ap, ◌∙◌}
use Rattle.std.specs.Prelude.{option_map}
use Rattle.std.proofs.lemmas.Bool.Decides.{nat_tests}
use Rattle.kasa_num.specs.declared.Place.{Place}
use Rattle.kasa_syntax.specs.Place.{place_at}
use Rattle.kasa_compile.specs.declared.fault.CompileFault.{CompileFault}
use Rattle.kasa_compile.specs.Causes.{Cause, or_else, first_of, if_past}

-- ---- one cause

pub none_found : (xs : List ℕ) → None ≡ slice_get xs 0 → xs ≡ []
none_found [] none = refl
none_found (x ∷ xs) none = absurd (let different : ⊥ = cc in different)

-- the first cause by what was found of it, with what comes later
abbrev found_or : List ℕ → (Place → CompileFault) → Option CompileFault → Option ℕ → Option CompileFault
found_or text fault later found = or_else (option_map (λ o. fault (place_at text o)) found) later

-- a cause that doesn't come
pub passed : (text : List ℕ) (fault : Place → CompileFault) (first : Option ℕ) (causes : List Cause) (found : Option ℕ) (r : Option CompileFault) → found ≡ None → found ≡ first → r ≡ first_of text causes → r ≡ first_of text (record { fault = fault; first = first } ∷ causes)
unfolding first_of
passed text fault first causes found r none is later = later ∙ sym (ap (found_or text fault (first_of text causes)) (sym is ∙ none))

-- the cause that comes
pub stopped : (text : List ℕ) (fault : Place → CompileFault) (first : Option ℕ) (causes : List Cause) (found : Option ℕ) (o : ℕ) (f : CompileFault) → found ≡ Some o → found ≡ first → f ≡ fault (place_at text o) → Some f ≡ first_of text (record { fault = fault; first = first } ∷ causes)
unfolding first_of
stopped text fault first causes found o f some is at = ap Some at ∙ sym (ap (found_or text fault (first_of text causes)) (sym is ∙ some))

pub no_cause : (text : List ℕ) → None ≡ first_of text []
unfolding first_of
no_cause text = refl

-- ---- some causes and some more

pub none_first : (text : List ℕ) (causes more : List Cause) → None ≡ first_of text causes → first_of text (causes ++ more) ≡ first_of text more
unfolding first_of
none_first text [] more none = refl
none_first text (c ∷ causes) more none = by c.first none (none_first text causes more)
  where
    by : (o : Option ℕ) → None ≡ found_or text c.fault (first_of text causes) o → (None ≡ first_of text causes → first_of text (causes ++ more) ≡ first_of text more)
        → found_or text c.fault (first_of text (causes ++ more)) o ≡ first_of text more
    by None none later = later none
    by (Some o) none later = absurd (let different : ⊥ = cc in different)

pub some_first : (text : List ℕ) (causes more : List Cause) (f : CompileFault) → Some f ≡ first_of text causes → Some f ≡ first_of text (causes ++ more)
unfolding first_of
some_first text [] more f some = absurd (let different : ⊥ = cc in different)
some_first text (c ∷ causes) more f some = by c.first some (some_first text causes more f)
  where
    by : (o : Option ℕ) → Some f ≡ found_or text c.fault (first_of text causes) o → (Some f ≡ first_of text causes → Some f ≡ first_of text (causes ++ more))
        → Some f ≡ found_or text c.fault (first_of text (causes ++ more)) o
    by None some later = later some
    by (Some o) some later = some

-- none of them comes
pub none_before : (text : List ℕ) (causes more : List Cause) (o r : Option CompileFault) → o ≡ first_of text causes → is_some o ≡ false → r ≡ first_of text more → r ≡ first_of text (causes ++ more)
none_before text causes more None r is none later = later ∙ sym (none_first text causes more is)
none_before text causes more (Some f) r is none later = absurd (let different : ⊥ = cc in different)

-- one of them comes
pub some_before : (text : List ℕ) (causes more : List Cause) (o : Option CompileFault) → o ≡ first_of text causes → is_some o ≡ true → o ≡ first_of text (causes ++ more)
some_before text causes more None is some = absurd (let different : ⊥ = cc in different)
some_before text causes more (Some f) is some = some_first text causes more f is

-- the same, where what comes behind them may have failed
pub none_before_result : {E : Type 0} (text : List ℕ) (causes more : List Cause) (o : Option CompileFault) (r : Result (Option CompileFault) E)
    → o ≡ first_of text causes → is_some o ≡ false → IfOk r (λ f. f ≡ first_of text more) → IfOk r (λ f. f ≡ first_of text (causes ++ more))
none_before_result text causes more o (Ok f) is none later = none_before text causes more o f is none later
none_before_result text causes more o (Err e) is none later = later

-- ---- limits

-- so many stand before it
pub past-most : (most count start : ℕ) → most ≤ count → Some start ≡ if_past (nat_le most count) start
past-most most count start many = by (nat_le most count) refl
  where
    by : (b : Bool) → b ≡ nat_le most count → Some start ≡ if_past b start
    by true e = refl
    by false e = absurd (grind (arith, nat_tests))

pub within-most : (most count start : ℕ) → count < most → None ≡ if_past (nat_le most count) start
within-most most count start few = by (nat_le most count) refl
  where
    by : (b : Bool) → b ≡ nat_le most count → None ≡ if_past b start
    by true e = absurd (grind (arith, nat_tests))
    by false e = refl

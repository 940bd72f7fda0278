-- Numbers of names, and one more name among some.
use Rattle.std.proofs.Common.{◌≡◌, ◌≢◌, ◌≤◌, ◌<◌, ◌⊎◌, inl, inr, ℕ, Bool, true, false, List, [], length, Option, Some, None, refl, ap, ◌∙◌, arith, get_or}
use Rattle.std.specs.Prelude.{Result, Ok, Err, slice_get, is_some, nat_lt, if◌then◌else◌}
use Rattle.std.specs.List.{position_or_len}
use Rattle.std.specs.Bool.{Decides}
use Rattle.std.specs.Str.{bytes_eq}
use Rattle.std.proofs.lemmas.Bool.Decides.{Decides-ltb}
use Rattle.std.proofs.lemmas.Slice.Eq.{bytes_eq-Decides}
use Rattle.std.proofs.lemmas.Option.{slice_get_within, slice_get-get_or, get_or_from_slice_get}
use Rattle.std.proofs.lemmas.List.Sums.{position_or_len_is, fails_before_first}
use Rattle.std.proofs.lemmas.List.Quantifiers.{position-Some}
use Rattle.kasa_graph.specs.Lists.{Has, AllDifferent}
use Rattle.kasa_graph.specs.Signature.{TypeEntry}
use Rattle.kasa_sig.specs.declared.fault.SigFault.{SigFault}
use Rattle.kasa_sig.specs.Outcome.{number_of, name_at, one_more}

false_of : (b : Bool) (P : Type 0) → Decides b P → ¬ P → b ≡ false
false_of false P d h = refl
false_of true P d h = absurd (h (d.0 refl))

module _ (names : List (List ℕ)) (name : List ℕ) where
  -- a name that is another one at an index
  other : (k : ℕ) → k < length names → slice_get names k ≢ Some name → bytes_eq (get_or names k []) name ≡ false
  other k h ne = false_of (bytes_eq (get_or names k []) name) _ (bytes_eq-Decides (get_or names k []) name) (λ e. ne (slice_get-get_or names k [] h ∙ ap (λ n. Some n) e))

  this : (k : ℕ) → slice_get names k ≡ Some name → bytes_eq (get_or names k []) name ≡ true
  this k at = (bytes_eq-Decides (get_or names k []) name).1 (get_or_from_slice_get names k name [] at)

  -- of different names, the number is that of the only place
  pub number_of-found : (k : ℕ) → AllDifferent names → slice_get names k ≡ Some name → number_of names name ≡ Some k
  unfolding number_of
  number_of-found k differ at =
      let within : k < length names = slice_get_within names k name at in
      let before : (j : ℕ) → j < k → bytes_eq (get_or names j []) name ≡ false = λ j h. other j (omega arith) (λ e. let same : j ≡ k = differ j k name e at in omega arith) in
      let first : position_or_len (λ n. bytes_eq n name) names ≡ k = position_or_len_is (λ n. bytes_eq n name) names k [] (omega arith) before (λ h. this k at) in
      rw (first, (Decides-ltb k (length names)).1 within)

  pub number_of-none : ¬ Has names name → number_of names name ≡ None
  unfolding number_of
  number_of-none absent =
      let before : (j : ℕ) → j < length names → bytes_eq (get_or names j []) name ≡ false = λ j h. other j h (λ e. absent (j, e)) in
      let first : position_or_len (λ n. bytes_eq n name) names ≡ length names = position_or_len_is (λ n. bytes_eq n name) names (length names) [] (omega arith) before (λ h. absurd (omega arith)) in
      let no : nat_lt (length names) (length names) ≡ false = false_of (nat_lt (length names) (length names)) _ (Decides-ltb (length names) (length names)) (λ h. omega arith) in
      rw (first, no)

  pub number_of-at : (k : ℕ) → number_of names name ≡ Some k → slice_get names k ≡ Some name
  unfolding number_of
  number_of-at k e =
      let h = position-Some (λ n. bytes_eq n name) names k [] e in
      slice_get-get_or names k [] h.0 ∙ ap (λ n. Some n) ((bytes_eq-Decides (get_or names k []) name).0 h.1)

  -- a name that stands somewhere has a number
  pub has_number : (k : ℕ) → slice_get names k ≡ Some name → is_some (number_of names name) ≡ true
  unfolding number_of
  has_number k at =
      let within : k < length names = slice_get_within names k name at in
      let no : k < position_or_len (λ n. bytes_eq n name) names → ⊥ = λ h. let fails : bytes_eq (get_or names k []) name ≡ false = fails_before_first (λ n. bytes_eq n name) names k [] h in let passes = this k at in cc in
      let first : position_or_len (λ n. bytes_eq n name) names < length names = omega (arith, no, within) in
      rw ((Decides-ltb (position_or_len (λ n. bytes_eq n name) names) (length names)).1 first)

  number_of-absent : number_of names name ≡ None → ¬ Has names name
  number_of-absent e h = let some = has_number h.0 h.1 in let none : is_some (number_of names name) ≡ false = rw e in cc

  -- ---- one more name

  module _ (most : ℕ) (there : Result (List TypeEntry) SigFault) (refused : SigFault) (added : List TypeEntry) where
    pub one_more-there : (k : ℕ) → slice_get names k ≡ Some name → one_more names name most there refused added ≡ there
    one_more-there k at = rw (has_number k at)

    pub one_more-full : ¬ Has names name → most ≤ length names → one_more names name most there refused added ≡ Err refused
    one_more-full absent full =
        let no : nat_lt (length names) most ≡ false = false_of (nat_lt (length names) most) _ (Decides-ltb (length names) most) (λ h. omega arith) in
        rw (number_of-none absent, no)

    pub one_more-new : ¬ Has names name → length names < most → one_more names name most there refused added ≡ Ok added
    one_more-new absent room = rw (number_of-none absent, (Decides-ltb (length names) most).1 room)

    pub one_more-Ok : (next : List TypeEntry) → one_more names name most there refused added ≡ Ok next → (there ≡ Ok next) ⊎ ((¬ Has names name) × (added ≡ next))
    one_more-Ok next = by (number_of names name) refl (nat_lt (length names) most)
      where
        by : (o : Option ℕ) → number_of names name ≡ o → (room : Bool) → (if is_some o then there else (if room then Ok added else Err refused)) ≡ Ok next → (there ≡ Ok next) ⊎ ((¬ Has names name) × (added ≡ next))
        by (Some k) e room h = inl h
        by None e true h = inr (number_of-absent e, cc)
        by None e false h = absurd cc

pub name_at-named : (names : List (List ℕ)) (k : ℕ) (name : List ℕ) → slice_get names k ≡ Some name → name_at names k ≡ name
unfolding name_at
name_at-named names k name at = rw at

use Rattle.std.proofs.Common.{◌≡◌, ◌≢◌, ℕ, List, [], ◌∷◌, Bool, true, false, cond, refl, sym, ◌∙◌, ◌==◌, Vec, Global, Some, option_map, if◌then◌else◌}
use Rattle.std.specs.Map.{lookup}
use Rattle.std.specs.Cmp.Lexicographic.{pointwise}
use Rattle.std.proofs.lemmas.Bool.Decides.{Decides-eqb}
use Rattle.std.proofs.lemmas.Slice.Eq.{slice_eq-Decides}
use Rattle.indexmap.specs.IndexMap.{insert_entry}
use Rattle.kasa_edge.specs.ShelfMem.{text_at}

-- another name holds what it held
pub text_at-insert_other : (es : List (Vec ℕ Global × Vec ℕ Global)) (key value : Vec ℕ Global) (n : List ℕ) → n ≢ key.items →
    text_at (insert_entry (λ a b. pointwise ◌==◌ a.items b.items) es key value) n ≡ text_at es n
text_at-insert_other [] key value n other = rw (apart n key.items other)
  where
    apart : (xs ys : List ℕ) → xs ≢ ys → pointwise ◌==◌ xs ys ≡ false
    apart xs ys h = by (pointwise ◌==◌ xs ys) refl
      where
        by : (b : Bool) → b ≡ pointwise ◌==◌ xs ys → b ≡ false
        by false e = refl
        by true e = absurd (h ((slice_eq-Decides Decides-eqb xs ys true e).0 refl))
text_at-insert_other (e ∷ es) key value n other =
    by (text_at-insert_other es key value n other) (pointwise ◌==◌ key.items e.0.items) refl (pointwise ◌==◌ n e.0.items) refl
  where
    rest : List (Vec ℕ Global × Vec ℕ Global)
    rest = insert_entry (λ a b. pointwise ◌==◌ a.items b.items) es key value

    by : text_at (insert_entry (λ a b. pointwise ◌==◌ a.items b.items) es key value) n ≡ text_at es n →
        (b : Bool) → b ≡ pointwise ◌==◌ key.items e.0.items → (d : Bool) → d ≡ pointwise ◌==◌ n e.0.items →
        option_map (λ v. v.items) (lookup (λ k. pointwise ◌==◌ n k.items)
        (if b then (e.0, value) ∷ es else e ∷ insert_entry (λ a b. pointwise ◌==◌ a.items b.items) es key value))
        ≡ option_map (λ v. v.items) (cond d (Some e.1) (lookup (λ k. pointwise ◌==◌ n k.items) es))
    by same true is true at =
        let key-is = (slice_eq-Decides Decides-eqb key.items e.0.items true is).0 refl in
        let name-is = (slice_eq-Decides Decides-eqb n e.0.items true at).0 refl in
        absurd (other (name-is ∙ sym key-is))
    by same true is false at = rw (← at)
    by same false is true at = rw (← at)
    by same false is false at = rw (← at) same

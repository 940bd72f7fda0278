-- The two sides of pairs: their agents, and their numbers.
use Rattle.std.proofs.Common.{◌≡◌, ◌<◌, ◌⊎◌, inl, inr, ℕ, suc, List, [], ◌∷◌, ◌++◌, length, Option, Some, None, refl, ap, sym, ◌∙◌, arith}
use Rattle.std.specs.Prelude.{slice_get, nat_eq, true, false, Bool, if◌then◌else◌}
use Rattle.std.specs.List.{flat_map}
use Rattle.std.proofs.lemmas.List.{append-nil, append_assoc}
use Rattle.std.proofs.lemmas.Option.{slice_get_within}
use Rattle.std.proofs.Common.{eq-eqb}
use Rattle.std.proofs.lemmas.Bool.Decides.{Decides-eqb}
use Rattle.kasa_graph.proofs.ListLemmas.{slice_get-append_left, slice_get-append_right, slice_get-pushed}
use Rattle.kasa_graph.proofs.NewNameLemmas.{at_push}
use Rattle.kasa_rules.specs.declared.rule.End.TheVariants.{Left, Made}
use Rattle.kasa_compile.specs.declared.said.AgentSaid.{AgentSaid}
use Rattle.kasa_compile.specs.declared.said.Pair.{Pair}
use Rattle.kasa_compile.specs.Said.{turned}
use Rattle.kasa_compile.specs.Sides.{SidesParts, no_sides, with_pair, with_pairs, sides_of}
use Rattle.kasa_compile.specs.Causes.{mismatch, mismatches}
use Rattle.kasa_compile.specs.Valid.{AreNumbered}
use Rattle.kasa_compile.proofs.PairLemmas.{no_left, no_right}

pub with_pairs-push : (x : SidesParts) (pairs : List Pair) (p : Pair) → with_pairs x (pairs ++ p ∷ []) ≡ with_pair (with_pairs x pairs) p.left p.right
with_pairs-push x [] p = refl
with_pairs-push x (q ∷ pairs) p = with_pairs-push (with_pair x q.left q.right) pairs p

-- ---- the agents of a side

abbrev pub one : Option AgentSaid → List AgentSaid
one None = []
one (Some a) = a ∷ []

abbrev pub lefts_of : List Pair → List AgentSaid
lefts_of pairs = flat_map (λ (p : Pair). one p.left) pairs

abbrev pub rights_of : List Pair → List AgentSaid
rights_of pairs = flat_map (λ (p : Pair). one p.right) pairs

with_pair-left : (x : SidesParts) (l r : Option AgentSaid) → (with_pair x l r).left ≡ x.left ++ one l
with_pair-left x (Some l) (Some r) = refl
with_pair-left x (Some l) None = refl
with_pair-left x None (Some r) = sym (append-nil x.left)
with_pair-left x None None = sym (append-nil x.left)

with_pair-right : (x : SidesParts) (l r : Option AgentSaid) → (with_pair x l r).right ≡ x.right ++ one r
with_pair-right x (Some l) (Some r) = refl
with_pair-right x (Some l) None = sym (append-nil x.right)
with_pair-right x None (Some r) = refl
with_pair-right x None None = sym (append-nil x.right)

with_pairs-left : (x : SidesParts) (pairs : List Pair) → (with_pairs x pairs).left ≡ x.left ++ lefts_of pairs
with_pairs-left x [] = sym (append-nil x.left)
with_pairs-left x (p ∷ pairs) = with_pairs-left (with_pair x p.left p.right) pairs ∙ ap (λ xs. xs ++ lefts_of pairs) (with_pair-left x p.left p.right) ∙ append_assoc x.left (one p.left) (lefts_of pairs)

with_pairs-right : (x : SidesParts) (pairs : List Pair) → (with_pairs x pairs).right ≡ x.right ++ rights_of pairs
with_pairs-right x [] = sym (append-nil x.right)
with_pairs-right x (p ∷ pairs) = with_pairs-right (with_pair x p.left p.right) pairs ∙ ap (λ xs. xs ++ rights_of pairs) (with_pair-right x p.left p.right) ∙ append_assoc x.right (one p.right) (rights_of pairs)

pub sides_of-left : (pairs : List Pair) → (sides_of pairs).left ≡ lefts_of pairs
sides_of-left pairs = with_pairs-left no_sides pairs

pub sides_of-right : (pairs : List Pair) → (sides_of pairs).right ≡ rights_of pairs
sides_of-right pairs = with_pairs-right no_sides pairs

-- ---- numbers, and the types of those that stay

pub record AreTyped (x : SidesParts) : Type 0 where
  pub numbered : AreNumbered x
  pub same : (n k : ℕ) (a b : AgentSaid) → slice_get x.after n ≡ Some (Some k) → slice_get x.left n ≡ Some a → slice_get x.right k ≡ Some b → a.agent ≡ b.agent

last_of : {X : Type 0} (xs : List X) (x : X) (n : ℕ) → n ≡ length xs → slice_get (xs ++ x ∷ []) n ≡ Some x
last_of xs x n e = slice_get-append_right xs (x ∷ []) 0 n (omega arith)

old_of : {X : Type 0} (xs : List X) (x y : X) (n : ℕ) → n < length xs → slice_get (xs ++ x ∷ []) n ≡ Some y → slice_get xs n ≡ Some y
old_of xs x y n h e = sym (slice_get-append_left xs (x ∷ []) n h) ∙ e

length_push : {X : Type 0} (xs : List X) (x : X) → length (xs ++ x ∷ []) ≡ suc (length xs)
length_push [] x = refl
length_push (y ∷ xs) x = ap suc (length_push xs x)

same_type_of : (l r : AgentSaid) → mismatch (Some l) (Some r) ≡ [] → l.agent ≡ r.agent
same_type_of l r e = by (nat_eq l.agent r.agent) refl e
  where
    by : (b : Bool) → nat_eq l.agent r.agent ≡ b → (if b then [] else r.«at» ∷ []) ≡ [] → l.agent ≡ r.agent
    by true h e = (Decides-eqb l.agent r.agent).0 h
    by false h e = absurd cc

module _ (x : SidesParts) (typed : AreTyped x) where
  after_of : (n k : ℕ) → slice_get x.after n ≡ Some (Some k) → (n < length x.left) × (k < length x.right)
  after_of n k h =
      let m : n < length x.after = slice_get_within x.after n (Some k) h in
      let j : k < length x.ends = slice_get_within x.ends k (Left n) ((typed.numbered.stays n k).0 h) in
      (omega (arith, m, typed.numbered.after_count), omega (arith, j, typed.numbered.ends_count))

  -- ---- one more that stays
  module _ (l r : AgentSaid) where
    kept_to : (n k : ℕ) → (slice_get x.after n ≡ Some (Some k)) ⊎ ((n ≡ length x.after) × (Some (length x.right) ≡ Some k)) → slice_get (x.ends ++ Left (length x.left) ∷ []) k ≡ Some (Left n)
    kept_to n k (inl h) = slice_get-pushed x.ends (Left (length x.left)) (Left n) k ((typed.numbered.stays n k).0 h)
    kept_to n k (inr h) =
        let e : k ≡ length x.right = cc in
        last_of x.ends (Left (length x.left)) k (e ∙ sym typed.numbered.ends_count) ∙ ap (λ m. Some (Left m)) (sym (h.0 ∙ typed.numbered.after_count))

    kept_from : (n k : ℕ) → (slice_get x.ends k ≡ Some (Left n)) ⊎ ((k ≡ length x.ends) × (Left (length x.left) ≡ Left n)) → slice_get (x.after ++ Some (length x.right) ∷ []) n ≡ Some (Some k)
    kept_from n k (inl h) = slice_get-pushed x.after (Some (length x.right)) (Some k) n ((typed.numbered.stays n k).1 h)
    kept_from n k (inr h) =
        let e : n ≡ length x.left = cc in
        last_of x.after (Some (length x.right)) n (e ∙ sym typed.numbered.after_count) ∙ ap (λ m. Some (Some m)) (sym (h.0 ∙ typed.numbered.ends_count))

    kept_made : (j k : ℕ) → (slice_get x.ends k ≡ Some (Made j)) ⊎ ((k ≡ length x.ends) × (Left (length x.left) ≡ Made j)) → slice_get x.made j ≡ Some k
    kept_made j k (inl h) = (typed.numbered.is_made j k).1 h
    kept_made j k (inr h) = let e = h.1 in absurd cc

    kept_same : l.agent ≡ r.agent → (n k : ℕ) (a b : AgentSaid) → (slice_get x.after n ≡ Some (Some k)) ⊎ ((n ≡ length x.after) × (Some (length x.right) ≡ Some k)) → slice_get (x.left ++ l ∷ []) n ≡ Some a → slice_get (x.right ++ r ∷ []) k ≡ Some b → a.agent ≡ b.agent
    kept_same e n k a b (inl h) i j =
        let m = after_of n k h in
        typed.same n k a b h (old_of x.left l a n m.0 i) (old_of x.right r b k m.1 j)
    kept_same e n k a b (inr h) i j =
        let u : k ≡ length x.right = cc in
        let p : Some a ≡ Some l = sym i ∙ last_of x.left l n (h.0 ∙ typed.numbered.after_count) in
        let q : Some b ≡ Some r = sym j ∙ last_of x.right r k u in
        let f : a ≡ l = cc in
        let g : b ≡ r = cc in
        ap (λ c. c.agent) f ∙ e ∙ ap (λ c. c.agent) (sym g)

    AreTyped-kept : l.agent ≡ r.agent → AreTyped (with_pair x (Some l) (Some r))
    AreTyped-kept e = record {
      numbered = record {
        after_count = length_push x.after (Some (length x.right)) ∙ ap suc typed.numbered.after_count ∙ sym (length_push x.left l);
        ends_count = length_push x.ends (Left (length x.left)) ∙ ap suc typed.numbered.ends_count ∙ sym (length_push x.right r);
        stays = λ n k. (λ h. kept_to n k (at_push x.after (Some (length x.right)) (Some k) n h), λ h. kept_from n k (at_push x.ends (Left (length x.left)) (Left n) k h));
        is_made = λ j k. (λ h. slice_get-pushed x.ends (Left (length x.left)) (Made j) k ((typed.numbered.is_made j k).0 h), λ h. kept_made j k (at_push x.ends (Left (length x.left)) (Made j) k h));
      };
      same = λ n k a b h. kept_same e n k a b (at_push x.after (Some (length x.right)) (Some k) n h);
    }

  -- ---- one more that is deleted
  module _ (l : AgentSaid) where
    deleted_after : (n k : ℕ) → (slice_get x.after n ≡ Some (Some k)) ⊎ ((n ≡ length x.after) × (None ≡ Some k)) → slice_get x.after n ≡ Some (Some k)
    deleted_after n k (inl h) = h
    deleted_after n k (inr h) = let e = h.1 in absurd cc

    AreTyped-deleted : AreTyped (with_pair x (Some l) None)
    AreTyped-deleted = record {
      numbered = record {
        after_count = length_push x.after None ∙ ap suc typed.numbered.after_count ∙ sym (length_push x.left l);
        ends_count = typed.numbered.ends_count;
        stays = λ n k. (λ h. (typed.numbered.stays n k).0 (deleted_after n k (at_push x.after None (Some k) n h)), λ h. slice_get-pushed x.after None (Some k) n ((typed.numbered.stays n k).1 h));
        is_made = typed.numbered.is_made;
      };
      same = λ n k a b h i j.
          let old = deleted_after n k (at_push x.after None (Some k) n h) in
          typed.same n k a b old (old_of x.left l a n (after_of n k old).0 i) j;
    }

  -- ---- one more that is created
  module _ (r : AgentSaid) where
    created_stays : (n k : ℕ) → (slice_get x.ends k ≡ Some (Left n)) ⊎ ((k ≡ length x.ends) × (Made (length x.made) ≡ Left n)) → slice_get x.after n ≡ Some (Some k)
    created_stays n k (inl h) = (typed.numbered.stays n k).1 h
    created_stays n k (inr h) = let e = h.1 in absurd cc

    created_to : (j k : ℕ) → (slice_get x.made j ≡ Some k) ⊎ ((j ≡ length x.made) × (length x.right ≡ k)) → slice_get (x.ends ++ Made (length x.made) ∷ []) k ≡ Some (Made j)
    created_to j k (inl h) = slice_get-pushed x.ends (Made (length x.made)) (Made j) k ((typed.numbered.is_made j k).0 h)
    created_to j k (inr h) = last_of x.ends (Made (length x.made)) k (sym h.1 ∙ sym typed.numbered.ends_count) ∙ ap (λ m. Some (Made m)) (sym h.0)

    created_from : (j k : ℕ) → (slice_get x.ends k ≡ Some (Made j)) ⊎ ((k ≡ length x.ends) × (Made (length x.made) ≡ Made j)) → slice_get (x.made ++ length x.right ∷ []) j ≡ Some k
    created_from j k (inl h) = slice_get-pushed x.made (length x.right) k j ((typed.numbered.is_made j k).1 h)
    created_from j k (inr h) =
        let e : j ≡ length x.made = cc in
        last_of x.made (length x.right) j e ∙ ap (λ m. Some m) (sym (h.0 ∙ typed.numbered.ends_count))

    AreTyped-created : AreTyped (with_pair x None (Some r))
    AreTyped-created = record {
      numbered = record {
        after_count = typed.numbered.after_count;
        ends_count = length_push x.ends (Made (length x.made)) ∙ ap suc typed.numbered.ends_count ∙ sym (length_push x.right r);
        stays = λ n k. (λ h. slice_get-pushed x.ends (Made (length x.made)) (Left n) k ((typed.numbered.stays n k).0 h), λ h. created_stays n k (at_push x.ends (Made (length x.made)) (Left n) k h));
        is_made = λ j k. (λ h. created_to j k (at_push x.made (length x.right) k j h), λ h. created_from j k (at_push x.ends (Made (length x.made)) (Made j) k h));
      };
      same = λ n k a b h i j. typed.same n k a b h i (old_of x.right r b k (after_of n k h).1 j);
    }

  AreTyped-with_pair : (l r : Option AgentSaid) → mismatch l r ≡ [] → AreTyped (with_pair x l r)
  AreTyped-with_pair (Some l) (Some r) e = AreTyped-kept l r (same_type_of l r e)
  AreTyped-with_pair (Some l) None e = AreTyped-deleted l
  AreTyped-with_pair None (Some r) e = AreTyped-created r
  AreTyped-with_pair None None e = typed

nothing : {X : Type 0} (n : ℕ) (x : X) → slice_get [] n ≡ Some x → ⊥
nothing n x h = let k : n < 0 = slice_get_within [] n x h in omega arith

AreTyped-none : AreTyped no_sides
AreTyped-none = record {
  numbered = record {
    after_count = refl;
    ends_count = refl;
    stays = λ n k. (λ h. absurd (nothing n (Some k) h), λ h. absurd (nothing k (Left n) h));
    is_made = λ j k. (λ h. absurd (nothing j k h), λ h. absurd (nothing k (Made j) h));
  };
  same = λ n k a b h i j. absurd (nothing n (Some k) h);
}

AreTyped-with_pairs : (x : SidesParts) (pairs : List Pair) → AreTyped x → flat_map (λ (p : Pair). mismatch p.left p.right) pairs ≡ [] → AreTyped (with_pairs x pairs)
AreTyped-with_pairs x [] typed e = typed
AreTyped-with_pairs x (p ∷ pairs) typed e =
    let here = no_left (mismatch p.left p.right) (flat_map (λ (q : Pair). mismatch q.left q.right) pairs) e in
    let later = no_right (mismatch p.left p.right) (flat_map (λ (q : Pair). mismatch q.left q.right) pairs) e in
    AreTyped-with_pairs (with_pair x p.left p.right) pairs (AreTyped-with_pair x typed p.left p.right here) later

pub AreTyped-sides_of : (pairs : List Pair) → mismatches pairs ≡ [] → AreTyped (sides_of pairs)
unfolding mismatches
AreTyped-sides_of pairs e = AreTyped-with_pairs no_sides pairs AreTyped-none e

-- ---- the pairs from right to left

same_of_type : (l r : AgentSaid) → l.agent ≡ r.agent → mismatch (Some l) (Some r) ≡ []
same_of_type l r e = rw (eq-eqb l.agent r.agent e)

mismatch-turned : (l r : Option AgentSaid) → mismatch l r ≡ [] → mismatch r l ≡ []
mismatch-turned (Some l) (Some r) e = same_of_type r l (sym (same_type_of l r e))
mismatch-turned (Some l) None e = refl
mismatch-turned None (Some r) e = refl
mismatch-turned None None e = refl

pub mismatches-turned : (pairs : List Pair) → mismatches pairs ≡ [] → mismatches (turned pairs) ≡ []
unfolding mismatches
mismatches-turned [] e = refl
mismatches-turned (p ∷ pairs) e =
    let here = mismatch-turned p.left p.right (no_left (mismatch p.left p.right) (flat_map (λ (q : Pair). mismatch q.left q.right) pairs) e) in
    let later = mismatches-turned pairs (no_right (mismatch p.left p.right) (flat_map (λ (q : Pair). mismatch q.left q.right) pairs) e) in
    rw (here, later)

pub lefts_of-turned : (pairs : List Pair) → lefts_of (turned pairs) ≡ rights_of pairs
lefts_of-turned [] = refl
lefts_of-turned (p ∷ pairs) = ap (λ xs. one p.right ++ xs) (lefts_of-turned pairs)

pub rights_of-turned : (pairs : List Pair) → rights_of (turned pairs) ≡ lefts_of pairs
rights_of-turned [] = refl
rights_of-turned (p ∷ pairs) = ap (λ xs. one p.left ++ xs) (rights_of-turned pairs)

use Rattle.std.proofs.Common.{◌≡◌, ℕ, zero, suc, ◌+◌, ◌<◌, ◌↔◌, List, [], ◌∷◌, length, get_or, Bool, true, false, refl, arith, add-one, IsTrue, nat_lt, rules}
use Rattle.std.specs.List.{IsAllAdjacentAnswer}
use Rattle.std.proofs.lemmas.Grind.{common_steps}
use Rattle.std.proofs.lemmas.List.Sorted.{answers_always}
use Rattle.kasa_families.specs.Family.{Ascends}
use Rattle.kasa_families.proofs.valid.ascends.Goals as goal

less : (x y : ℕ) (b : Bool) → b ≡ nat_lt x y → b ≡ true → x < y
less x y b e h = grind (arith, common_steps)

ascends_from : (xs : List ℕ) → ((k d : ℕ) → k + 1 < length xs → true ≡ nat_lt (get_or xs k d) (get_or xs (k + 1) d)) → Ascends xs
ascends_from [] up = tt
ascends_from (x ∷ []) up = tt
ascends_from (x ∷ y ∷ xs) up = (less x y true (up 0 0 (omega arith)) refl, ascends_from (y ∷ xs) (λ k d h. rw add-one (rw add-one at (up (suc k) d (omega arith)))))

ascends_at : (xs : List ℕ) (k d : ℕ) → Ascends xs → k + 1 < length xs → get_or xs k d < get_or xs (k + 1) d
ascends_at [] k d up h = absurd (omega arith)
ascends_at (x ∷ []) k d up h = absurd (omega arith)
ascends_at (x ∷ y ∷ xs) zero d up h = up.0
ascends_at (x ∷ y ∷ xs) (suc k) d up h = rw add-one (rw add-one at (ascends_at (y ∷ xs) k d up.1 (omega arith)))

told : (xs : List ℕ) (r : Bool) → IsAllAdjacentAnswer (λ x y b. b ≡ nat_lt x y) xs r → IsTrue r ↔ Ascends xs
told xs true h = (λ _. ascends_from xs (λ k d. h k d), λ _. refl)
told xs false h = (λ e. absurd cc, λ up. absurd (let less = ascends_at xs h.0 0 up h.1 in let not = h.2 0 in grind (arith, common_steps)))

pub returns : goal.returns
returns c =
    let sorted : IsAllAdjacentAnswer (λ x y b. b ≡ nat_lt x y) c.args.sites.now c.is_sorted_by.result = c.is_sorted_by.ensures.cases nat_lt (answers_always _ _ _ (λ f a r g called. search (rules, called))) in
    told c.args.sites.now c.is_sorted_by.result sorted

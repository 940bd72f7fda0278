-- A number's text is read back, and so is a local state's.
use Rattle.std.proofs.Common.{◌≡◌, ◌∙◌, ◌<◌, ◌≤◌, ◌+◌, ◌-◌, ◌*◌, ◌/◌, ◌%◌, ◌^◌, ℕ, zero, suc, List, [], ◌∷◌, ◌++◌, Bool, true, false, if◌then◌else◌, length, length-append, refl, ap, arith, Some, None, Option, get_or, ◌==◌, nat_le, ◌&&◌, ◌||◌, not, option_map, codes, decimal, append_assoc}
use Rattle.std.proofs.lemmas.Bool.Decides.{nat_tests}
use Rattle.std.proofs.lemmas.Fmt.{decimal_by_steps, decimal_digit, decimal_nonempty, first_decimal, length-decimal-le}
use Rattle.std.specs.List.{list_all}
use Rattle.std.proofs.lemmas.List.Folds.{list_all-append}
use Rattle.kasa_families.specs.declared.row.LocalLink.{LocalLink}
use Rattle.kasa_families.specs.declared.row.LocalLink.TheVariants.{Free, Partner}
use Rattle.kasa_families.specs.declared.row.Local.{Local}
use Rattle.kasa_tabfile.specs.Word.{is, is_digit, value_from, value, number, cut, state, link, group}
use Rattle.kasa_tabfile.proofs.Long.{is-long}
use Rattle.kasa_tabfile.specs.TablesText.{state_text, link_text, local_text}

-- ---- a number

value-step : (acc : ℕ) (ds : List ℕ) (d m : ℕ) → is_digit d ≡ true → value_from acc ds ≡ Some m → value_from acc (ds ++ d ∷ []) ≡ Some (10 * m + (d - 48))
value-step acc [] d m digit e = rw digit (let same : acc ≡ m = cc in rw same refl)
value-step acc (b ∷ bs) d m digit e = by (is_digit b) (λ f. value-step (10 * acc + (b - 48)) bs d m digit f) e
  where
    by : (s : Bool) → (value_from (10 * acc + (b - 48)) bs ≡ Some m → value_from (10 * acc + (b - 48)) (bs ++ d ∷ []) ≡ Some (10 * m + (d - 48))) →
        (if s then value_from (10 * acc + (b - 48)) bs else None) ≡ Some m →
        (if s then value_from (10 * acc + (b - 48)) (bs ++ d ∷ []) else None) ≡ Some (10 * m + (d - 48))
    by true ih f = ih f
    by false ih f = absurd cc

digit-is : (n : ℕ) → n < 10 → is_digit (48 + n) ≡ true
digit-is n h = grind (arith, nat_tests)

value-decimal : (n : ℕ) → n < 2 ^ 64 → value (decimal n) ≡ Some n
value-decimal n h = decimal_by_steps (λ k ds. value ds ≡ Some k) one more n h
  where
    one : (k : ℕ) → k < 10 → value ((48 + k) ∷ []) ≡ Some k
    one k small = rw (digit-is k small) (ap (λ x. Some x) (omega arith))

    more : (k : ℕ) (ds : List ℕ) → 10 ≤ k → value ds ≡ Some (k / 10) → value (ds ++ ((48 + k % 10) ∷ [])) ≡ Some k
    more k ds big ih = value-step 0 ds (48 + k % 10) (k / 10) (digit-is (k % 10) (omega arith)) ih ∙ ap (λ x. Some x) (omega arith)

pub decimal-digits : (n : ℕ) → n < 2 ^ 64 → list_all is_digit (decimal n) ≡ true
decimal-digits n h = decimal_by_steps (λ k ds. list_all is_digit ds ≡ true) one more n h
  where
    one : (k : ℕ) → k < 10 → list_all is_digit ((48 + k) ∷ []) ≡ true
    one k small = rw (digit-is k small) refl

    more : (k : ℕ) (ds : List ℕ) → 10 ≤ k → list_all is_digit ds ≡ true → list_all is_digit (ds ++ ((48 + k % 10) ∷ [])) ≡ true
    more k ds big ih = rw (list_all-append, ih, digit-is (k % 10) (omega arith)) refl

number-is : (w : List ℕ) (n : ℕ) → value w ≡ Some n → 0 < length w → length w ≤ 5 → (get_or w 0 0 ≡ 48 → length w ≡ 1) → n ≤ 65535 → number w ≡ Some n
number-is [] n v some short lead most = absurd (omega arith)
number-is (b ∷ bs) n v some short lead most =
    let few : nat_le (length bs) 4 ≡ true = grind (arith, nat_tests) in
    let plain : (not (b == 48) || (length bs == 0)) ≡ true = leading (b == 48) (λ e. grind (arith, nat_tests)) in
    let fits : nat_le n 65535 ≡ true = grind (arith, nat_tests) in
    rw (few, plain, v, fits) refl
  where
    leading : (s : Bool) → (s ≡ true → (length bs == 0) ≡ true) → (not s || (length bs == 0)) ≡ true
    leading true h = h refl
    leading false h = refl

lead : (n : ℕ) → n ≤ 65535 → get_or (decimal n) 0 0 ≡ 48 → length (decimal n) ≡ 1
lead zero h e = rw (decimal_digit 0 (omega arith)) refl
lead (suc n) h e = let first = first_decimal (suc n) (omega arith) (omega arith) in absurd (omega arith)

pub number-decimal : (n : ℕ) → n ≤ 65535 → number (decimal n) ≡ Some n
number-decimal n h = number-is (decimal n) n (value-decimal n (omega arith)) (decimal_nonempty n (omega arith)) (length-decimal-le 5 n (omega arith) (omega arith) (omega arith)) (lead n h) h

-- ---- bytes that don't stand in a text

-- no byte is c
abbrev pub lacks : ℕ → List ℕ → Bool
lacks c bs = list_all (λ b. not (b == c)) bs

digits-lack : (c : ℕ) (bs : List ℕ) → c < 48 → list_all is_digit bs ≡ true → lacks c bs ≡ true
digits-lack c [] low h = refl
digits-lack c (b ∷ bs) low h = by (is_digit b) (λ d. grind (arith, nat_tests)) (digits-lack c bs low) h
  where
    by : (s : Bool) → (s ≡ true → not (b == c) ≡ true) → (list_all is_digit bs ≡ true → lacks c bs ≡ true) → (s && list_all is_digit bs) ≡ true → (not (b == c) && lacks c bs) ≡ true
    by true other ih f = rw (other refl, ih f) refl
    by false other ih f = absurd cc

pub decimal-lacks : (c n : ℕ) → c < 48 → n ≤ 65535 → lacks c (decimal n) ≡ true
decimal-lacks c n low h = digits-lack c (decimal n) low (decimal-digits n (omega arith))

pub lacks-append : (c : ℕ) (xs ys : List ℕ) → lacks c xs ≡ true → lacks c ys ≡ true → lacks c (xs ++ ys) ≡ true
lacks-append c xs ys l m = rw (list_all-append, l, m) refl

-- ---- a local state

cut-at : (c : ℕ) (xs ys : List ℕ) → lacks c xs ≡ true → cut c (xs ++ c ∷ ys) ≡ Some (xs, ys)
cut-at c [] ys h = let same : (c == c) ≡ true = grind (arith, nat_tests) in rw same refl
cut-at c (x ∷ xs) ys h = by (x == c) (cut-at c xs ys) h
  where
    by : (s : Bool) → (lacks c xs ≡ true → cut c (xs ++ c ∷ ys) ≡ Some (xs, ys)) → (not s && lacks c xs) ≡ true →
        if◌then◌else◌ {A = Option (List ℕ × List ℕ)} s (Some ([], xs ++ c ∷ ys)) (option_map (λ p. (x ∷ p.0, p.1)) (cut c (xs ++ c ∷ ys))) ≡ Some (x ∷ xs, ys)
    by true ih f = absurd cc
    by false ih f = rw (ih f) refl

-- numbers of types have sixteen bits, those of sites and states eight
abbrev pub FitsState : Option ℕ → Type 0
FitsState None = Unit {0}
FitsState (Some s) = s ≤ 255

abbrev pub FitsLink : LocalLink → Type 0
FitsLink Free = Unit {0}
FitsLink (Partner a x) = (a ≤ 65535) × (x ≤ 255)

abbrev pub FitsLocal : Local → Type 0
FitsLocal l = FitsState l.state × FitsLink l.link

-- a word of digits isn't a sign
not-sign : (w : List ℕ) (c : ℕ) → c < 48 → lacks c w ≡ true → is w (c ∷ []) ≡ false
not-sign [] c low h = refl
not-sign (b ∷ bs) c low h = by (b == c) (is bs []) h
  where
    by : (s r : Bool) → (not s && lacks c bs) ≡ true → (s && r) ≡ false
    by true r f = absurd cc
    by false r f = refl

state-text : (s : Option ℕ) → FitsState s → state (state_text s) ≡ Some s
state-text None h = refl
state-text (Some n) h = let wide : n ≤ 65535 = omega arith in rw (not-sign (decimal n) 45 (omega arith) (decimal-lacks 45 n (omega arith) wide), number-decimal n wide) refl

link-text : (l : LocalLink) → FitsLink l → link (link_text l) ≡ Some l
link-text Free h = refl
link-text (Partner a x) h =
    let wide : x ≤ 65535 = omega (arith, h.1) in
    let long : 1 < length (link_text (Partner a x)) = rw (length-append, length-append) (omega (arith, decimal_nonempty a (omega arith))) in
    let parts : cut 46 (link_text (Partner a x)) ≡ Some (decimal a, decimal x) =
    rw (append_assoc (decimal a) (codes ".") (decimal x)) (cut-at 46 (decimal a) (decimal x) (decimal-lacks 46 a (omega arith) h.0)) in
    rw (is-long (link_text (Partner a x)) (codes ".") long, parts, number-decimal a h.0, number-decimal x wide) refl

state-lacks : (c : ℕ) (s : Option ℕ) → c < 48 → (c ≡ 45 → ⊥) → FitsState s → lacks c (state_text s) ≡ true
state-lacks c None low other h = let dash : (45 == c) ≡ false = grind (arith, nat_tests) in rw dash refl
state-lacks c (Some n) low other h = decimal-lacks c n low (omega arith)

pub group-text : (l : Local) → FitsLocal l → group (local_text l) ≡ Some l
group-text l h =
    let parts : cut 44 (local_text l) ≡ Some (state_text l.state, link_text l.link) =
    rw (append_assoc (state_text l.state) (codes ",") (link_text l.link)) (cut-at 44 (state_text l.state) (link_text l.link) (state-lacks 44 l.state (omega arith) (λ e. omega arith) h.0)) in
    rw (parts, state-text l.state h.0, link-text l.link h.1) refl

-- ---- no space and no LF in a word

pub local-lacks : (c : ℕ) (l : Local) → c < 44 → FitsLocal l → lacks c (local_text l) ≡ true
local-lacks c l low h =
    let comma : (44 == c) ≡ false = grind (arith, nat_tests) in
    lacks-append c (state_text l.state ++ codes ",") (link_text l.link)
    (lacks-append c (state_text l.state) (codes ",") (state-lacks c l.state (omega arith) (λ e. omega arith) h.0) (rw comma refl)) (link-lacks l.link h.1)
  where
    link-lacks : (k : LocalLink) → FitsLink k → lacks c (link_text k) ≡ true
    link-lacks Free f = let dot : (46 == c) ≡ false = grind (arith, nat_tests) in rw dot refl
    link-lacks (Partner a x) f =
        let dot : (46 == c) ≡ false = grind (arith, nat_tests) in
        lacks-append c (decimal a ++ codes ".") (decimal x) (lacks-append c (decimal a) (codes ".") (decimal-lacks c a (omega arith) f.0) (rw dot refl)) (decimal-lacks c x (omega arith) (omega (arith, f.1)))

-- No word of a line has more than seventeen bytes.
use Rattle.std.proofs.Common.{◌≡◌, ◌<◌, ◌≤◌, ◌+◌, ℕ, suc, List, [], ◌∷◌, ◌++◌, Bool, true, false, if◌then◌else◌, length, length-append, refl, arith, Some, None, Option, ◌==◌, nat_eq, option_map, option_and_then, codes}
use Rattle.std.proofs.lemmas.Bool.Decides.{nat_tests}
use Rattle.std.specs.Cmp.Lexicographic.{unequal, as_long}
use Rattle.kasa_families.specs.declared.row.LocalLink.{LocalLink}
use Rattle.kasa_families.specs.declared.row.LocalLink.TheVariants.{Free, Partner}
use Rattle.kasa_families.specs.declared.row.Local.{Local}
use Rattle.kasa_tabfile.specs.declared.head.Head.{Head}
use Rattle.kasa_tabfile.specs.declared.head.Head.TheVariants as head
use Rattle.kasa_tabfile.specs.Word.{is, cut, number, state, link, group}
use Rattle.kasa_tabfile.specs.Text.{parts_from}
use Rattle.kasa_tabfile.specs.inner.Head.{complete}

pub is-long : (w v : List ℕ) → length v < length w → is w v ≡ false
is-long w v h = unequal nat_eq w v (λ e. omega arith)

cut-length : (at : ℕ) (w : List ℕ) (p : List ℕ × List ℕ) → cut at w ≡ Some p → length w ≡ length p.0 + 1 + length p.1
cut-length at [] p e = absurd cc
cut-length at (b ∷ bs) p e = by (b == at) (cut at bs) (λ q. cut-length at bs q) e
  where
    by : (same : Bool) (r : Option (List ℕ × List ℕ)) → ((q : List ℕ × List ℕ) → r ≡ Some q → length bs ≡ length q.0 + 1 + length q.1) →
        (if same then Some ([], bs) else option_map (λ q. (b ∷ q.0, q.1)) r) ≡ Some p → suc (length bs) ≡ length p.0 + 1 + length p.1
    by true r ih f = let same : ([], bs) ≡ p = cc in rw (← same) (omega arith)
    by false None ih f = absurd cc
    by false (Some q) ih f = let same : (b ∷ q.0, q.1) ≡ p = cc in rw (← same) (let h = ih q refl in omega arith)

number-short : (w : List ℕ) (n : ℕ) → number w ≡ Some n → length w ≤ 5
number-short [] n e = absurd cc
number-short (b ∷ bs) n e = grind (arith, nat_tests)

state-short : (w : List ℕ) (s : Option ℕ) → state w ≡ Some s → length w ≤ 5
state-short w s e = by (is w (codes "-")) (number w) (λ h. as_long nat_eq w (codes "-") h) (λ n. number-short w n) e
  where
    by : (dash : Bool) (r : Option ℕ) → (dash ≡ true → length w ≡ 1) → ((n : ℕ) → r ≡ Some n → length w ≤ 5) →
        (if dash then Some None else option_map (λ n. Some n) r) ≡ Some s → length w ≤ 5
    by true r one short f = omega (arith, one refl)
    by false None one short f = absurd cc
    by false (Some n) one short f = short n refl

link-short : (w : List ℕ) (l : LocalLink) → link w ≡ Some l → length w ≤ 11
link-short w l e = by (is w (codes ".")) (cut 46 w) (λ h. as_long nat_eq w (codes ".") h) (λ p. cut-length 46 w p) e
  where
    partner : (p : List ℕ × List ℕ) (t y : Option ℕ) → ((n : ℕ) → t ≡ Some n → length p.0 ≤ 5) → ((n : ℕ) → y ≡ Some n → length p.1 ≤ 5) →
        length w ≡ length p.0 + 1 + length p.1 → option_and_then (λ n. option_map (λ m. Partner n m) y) t ≡ Some l → length w ≤ 11
    partner p None y ts ys len f = absurd cc
    partner p (Some n) None ts ys len f = absurd cc
    partner p (Some n) (Some m) ts ys len f = let a = ts n refl in let b = ys m refl in omega arith

    by : (dot : Bool) (r : Option (List ℕ × List ℕ)) → (dot ≡ true → length w ≡ 1) → ((p : List ℕ × List ℕ) → r ≡ Some p → length w ≡ length p.0 + 1 + length p.1) →
        (if dot then Some Free else option_and_then (λ p. option_and_then (λ t. option_map (λ y. Partner t y) (number p.1)) (number p.0)) r) ≡ Some l → length w ≤ 11
    by true r one len f = omega (arith, one refl)
    by false None one len f = absurd cc
    by false (Some p) one len f = partner p (number p.0) (number p.1) (λ n. number-short p.0 n) (λ n. number-short p.1 n) (len p refl) f

group-short : (w : List ℕ) (g : Local) → group w ≡ Some g → length w ≤ 17
group-short w g e = by (cut 44 w) (λ p. cut-length 44 w p) e
  where
    local : (p : List ℕ × List ℕ) (s : Option (Option ℕ)) (l : Option LocalLink) → ((n : Option ℕ) → s ≡ Some n → length p.0 ≤ 5) → ((n : LocalLink) → l ≡ Some n → length p.1 ≤ 11) →
        length w ≡ length p.0 + 1 + length p.1 → option_and_then (λ n. option_map (λ m. let x : Local = record { state = n; link = m } in x) l) s ≡ Some g → length w ≤ 17
    local p None l ss ls len f = absurd cc
    local p (Some n) None ss ls len f = absurd cc
    local p (Some n) (Some m) ss ls len f = let a = ss n refl in let b = ls m refl in omega arith

    by : (r : Option (List ℕ × List ℕ)) → ((p : List ℕ × List ℕ) → r ≡ Some p → length w ≡ length p.0 + 1 + length p.1) →
        option_and_then (λ p. option_and_then (λ s. option_map (λ l. let x : Local = record { state = s; link = l } in x) (link p.1)) (state p.0)) r ≡ Some g → length w ≤ 17
    by None len f = absurd cc
    by (Some p) len f = local p (state p.0) (link p.1) (λ n. state-short p.0 n) (λ n. link-short p.1 n) (len p refl) f

none-long : {A : Type 0} (w : List ℕ) (most : ℕ) (r : Option A) → ((x : A) → r ≡ Some x → length w ≤ most) → most < length w → r ≡ None
none-long w most None short long = refl
none-long w most (Some x) short long = let h = short x refl in absurd (omega arith)

number-long : (w : List ℕ) → 5 < length w → number w ≡ None
number-long w h = none-long w 5 (number w) (number-short w) h

group-long : (w : List ℕ) → 17 < length w → group w ≡ None
group-long w h = none-long w 17 (group w) (group-short w) h

complete-long : (h : Head) (w : List ℕ) (ws : List (List ℕ)) → 17 < length w → complete h (w ∷ ws) ≡ None
complete-long head.Nothing w ws long =
    rw (is-long w (codes "view") (omega arith), is-long w (codes "across") (omega arith), is-long w (codes "parallel") (omega arith), is-long w (codes "chain") (omega arith), is-long w (codes "r") (omega arith), is-long w (codes "kasa") (omega arith), is-long w (codes "end") (omega arith)) refl
complete-long head.Kasa w ws long = rw (is-long w (codes "tables") (omega arith)) refl
complete-long head.Tables w ws long = rw (is-long w (codes "1") (omega arith), is-long w (codes "2") (omega arith)) refl
complete-long (head.Header v) w ws long = refl
complete-long head.ViewWord w ws long = rw (number-long w (omega arith)) refl
complete-long (head.View a sites) w ws long = rw (number-long w (omega arith)) refl
complete-long (head.Bonds k before) w ws long = rw (number-long w (omega arith)) refl
complete-long head.RowWord w ws long = rw (is-long w (codes "same") (omega arith), is-long w (codes "different") (omega arith), group-long w (omega arith)) refl
complete-long (head.Locals locals) w ws long = rw (group-long w (omega arith)) refl
complete-long head.Same w ws long = refl
complete-long head.Different w ws long = refl
complete-long head.End w ws long = refl
complete-long head.Bad w ws long = refl

pub parts-long : (h : Head) (part bs : List ℕ) → 17 < length part → complete h (parts_from 32 part bs) ≡ None
parts-long h part [] long = complete-long h part [] long
parts-long h part (b ∷ bs) long = by (b == 32) (parts-long h (part ++ b ∷ []) bs (rw length-append (omega arith)))
  where
    by : (s : Bool) → complete h (parts_from 32 (part ++ b ∷ []) bs) ≡ None → complete h (if s then part ∷ parts_from 32 [] bs else parts_from 32 (part ++ b ∷ []) bs) ≡ None
    by true more = complete-long h part _ long
    by false more = more

pub parts-next-long : (h : Head) (part : List ℕ) (b : ℕ) (bs : List ℕ) → (b == 32) ≡ false → 17 ≤ length part → complete h (parts_from 32 part (b ∷ bs)) ≡ None
parts-next-long h part b bs other long = rw other (parts-long h (part ++ b ∷ []) bs (rw length-append (omega arith)))

-- Blank bytes found byte by byte are the blank piece that stands there.
use Rattle.std.proofs.Common.{◌≡◌, ◌<◌, ◌≤◌, ◌+◌, ℕ, suc, List, [], ◌∷◌, ◌++◌, Bool, true, false, not, ◌==◌, ◌&&◌, if◌then◌else◌, Option, Some, None, option_map, take, drop, length, refl, sym, ap, ◌∙◌, inl, inr, arith, append_assoc, length-append}
use Rattle.std.specs.List.{prefix_len}
use Rattle.std.proofs.Math.Seq.{drop-append_seam}
use Rattle.std.proofs.lemmas.Bool.{eqb-true}
use Rattle.std.proofs.lemmas.List.{take-append-drop, length-take-le, drop-drop}
use Rattle.kasa_lexer.specs.Bytes.{Are, is_space}
use Rattle.kasa_lexer.specs.Front.{begins, closes_comment, closing_len, closed_len, comment_len, going_on_len, mark_len, blank_len}
use Rattle.kasa_lexer.specs.Tokens.{IsBlank, IsComment, StandsBlank}
use Rattle.kasa_lexer.proofs.RunLemmas.{false_true, two-more, Are-run, prefix_len-Are, prefix_len-stop, prefix_len-within, begins-at, EndsLine-run, prefix_len-EndsLine, by_form}

-- ---- the end of a comment

-- the first `*/` stands no later than any other one
pub closing-found : (inner rest : List ℕ) → (n : ℕ) × (closing_len (inner ++ 42 ∷ 47 ∷ rest) ≡ Some n) × (n ≤ 2 + length inner)
closing-found [] rest = (2, refl, omega arith)
closing-found (b ∷ inner) rest = by ((b == 42) && begins 47 (inner ++ 42 ∷ 47 ∷ rest)) (closing-found inner rest)
  where
    by : (t : Bool) → (n : ℕ) × (closing_len (inner ++ 42 ∷ 47 ∷ rest) ≡ Some n) × (n ≤ 2 + length inner) →
        (n : ℕ) × ((if t then Some 2 else option_map (λ m. suc m) (closing_len (inner ++ 42 ∷ 47 ∷ rest))) ≡ Some n) × (n ≤ 2 + length (b ∷ inner))
    by true (n, e, within) = (2, refl, omega arith)
    by false (n, e, within) = (suc n, ap (λ o. option_map (λ m. suc m) o) e, omega arith)

-- what is found is a `*/`
pub closing-is : (xs : List ℕ) (n : ℕ) → closing_len xs ≡ Some n → (other later : List ℕ) × (xs ≡ other ++ 42 ∷ 47 ∷ later) × (n ≡ 2 + length other)
closing-is [] n h = absurd (let different : ⊥ = cc in different)
closing-is (b ∷ xs) n h = by xs (b == 42) refl (closing_len xs) refl (closing-is xs) h
  where
    pair : (ys : List ℕ) → b ≡ 42 → true ≡ begins 47 ys → Some 2 ≡ Some n → (other later : List ℕ) × (b ∷ ys ≡ other ++ 42 ∷ 47 ∷ later) × (n ≡ 2 + length other)
    pair [] e t is = false_true t
    pair (c ∷ ys) e t is =
        let same : c ≡ 47 = eqb-true c 47 (sym t) in
        let two : n ≡ 2 = cc in
        ([], ys, rw (e, same) refl, two)

    later_pair : (ys : List ℕ) (m : ℕ) → ((k : ℕ) → closing_len ys ≡ Some k → (other later : List ℕ) × (ys ≡ other ++ 42 ∷ 47 ∷ later) × (k ≡ 2 + length other)) →
        closing_len ys ≡ Some m → n ≡ suc m → (other later : List ℕ) × (b ∷ ys ≡ other ++ 42 ∷ 47 ∷ later) × (n ≡ 2 + length other)
    later_pair ys m found is more =
        let r = found m is in
        (b ∷ r.0, r.1, ap {B = List ℕ} (λ zs. b ∷ zs) r.2, omega (arith, r.3, more))

    rest : (ys : List ℕ) (o : Option ℕ) → o ≡ closing_len ys →
        ((k : ℕ) → closing_len ys ≡ Some k → (other later : List ℕ) × (ys ≡ other ++ 42 ∷ 47 ∷ later) × (k ≡ 2 + length other)) →
        option_map (λ m. suc m) o ≡ Some n → (other later : List ℕ) × (b ∷ ys ≡ other ++ 42 ∷ 47 ∷ later) × (n ≡ 2 + length other)
    rest ys None o found is = absurd (let different : ⊥ = cc in different)
    rest ys (Some m) o found is = later_pair ys m found (sym o) (let more : n ≡ suc m = cc in more)

    by : (ys : List ℕ) (t : Bool) → t ≡ (b == 42) → (o : Option ℕ) → o ≡ closing_len ys →
        ((k : ℕ) → closing_len ys ≡ Some k → (other later : List ℕ) × (ys ≡ other ++ 42 ∷ 47 ∷ later) × (k ≡ 2 + length other)) →
        (if t && begins 47 ys then Some 2 else option_map (λ m. suc m) o) ≡ Some n → (other later : List ℕ) × (b ∷ ys ≡ other ++ 42 ∷ 47 ∷ later) × (n ≡ 2 + length other)
    by ys false e o is found h = rest ys o is found h
    by ys true e o is found h = behind (begins 47 ys) refl h
      where
        behind : (u : Bool) → u ≡ begins 47 ys → (if u then Some 2 else option_map (λ m. suc m) o) ≡ Some n →
            (other later : List ℕ) × (b ∷ ys ≡ other ++ 42 ∷ 47 ∷ later) × (n ≡ 2 + length other)
        behind true u h = pair ys (eqb-true b 42 (sym e)) u h
        behind false u h = rest ys o is found h

-- ---- a blank piece is found

going_on-found : (spaces rest : List ℕ) → Are is_space spaces → going_on_len (spaces ++ 10 ∷ rest) ≡ 2 + length spaces
going_on-found spaces rest h = rw (prefix_len-stop is_space spaces 10 rest h refl, begins-seam-here) refl
  where
    begins-seam-here : begins 10 (drop (length spaces) (spaces ++ 10 ∷ rest)) ≡ true
    begins-seam-here = rw (drop-append_seam spaces (10 ∷ rest)) refl

comment-found : (text inner rest : List ℕ) → text ≡ 47 ∷ 42 ∷ inner ++ 42 ∷ 47 ∷ rest →
    ((other later : List ℕ) → text ≡ 47 ∷ 42 ∷ other ++ 42 ∷ 47 ∷ later → length inner ≤ length other) →
    closed_len (closing_len (inner ++ 42 ∷ 47 ∷ rest)) ≡ 4 + length inner
comment-found text inner rest split first =
    let found = closing-found inner rest in
    let is = closing-is (inner ++ 42 ∷ 47 ∷ rest) found.0 found.1 in
    let least = first is.0 is.1 (split ∙ ap {B = List ℕ} (λ xs. 47 ∷ 42 ∷ xs) is.2) in
    let closed : closed_len (Some found.0) ≡ 4 + length inner = omega (arith, found.2, is.3, least) in
    ap closed_len found.1 ∙ closed

-- the piece of a blank is as long as what is found
pub blank-found : (at : ℕ) (text piece rest : List ℕ) → text ≡ piece ++ rest → IsBlank at text piece rest → blank_len at text ≡ length piece
blank-found at text piece rest split (inl (b, space, is)) =
    by_form (blank_len at) text piece rest (b ∷ []) split is (rw space refl)
blank-found at text piece rest split (inr (inl (spaces, are, is))) =
    by_form (blank_len at) text piece rest (92 ∷ spaces ++ 10 ∷ []) split is
    (ap going_on_len (append_assoc spaces (10 ∷ []) rest) ∙ going_on-found spaces rest are ∙ omega (arith, length-append spaces (10 ∷ [])))
blank-found at text piece rest split (inr (inr (inl comment))) =
    let inner = comment.inner in
    let form : List ℕ = 47 ∷ 42 ∷ inner ++ 42 ∷ 47 ∷ [] in
    let reads : (inner ++ 42 ∷ 47 ∷ []) ++ rest ≡ inner ++ 42 ∷ 47 ∷ rest = append_assoc inner (42 ∷ 47 ∷ []) rest in
    let whole : text ≡ 47 ∷ 42 ∷ inner ++ 42 ∷ 47 ∷ rest =
    split ∙ ap {B = List ℕ} (λ xs. xs ++ rest) comment.closed ∙ ap {B = List ℕ} (λ xs. 47 ∷ 42 ∷ xs) reads in
    by_form (blank_len at) text piece rest form split comment.closed
    (ap {B = ℕ} (λ xs. closed_len (closing_len xs)) reads ∙ comment-found text inner rest whole comment.first ∙ omega (arith, length-append inner (42 ∷ 47 ∷ [])))
blank-found at text piece rest split (inr (inr (inr (inl (bytes, is, are, ends))))) =
    by_form (blank_len at) text piece rest (47 ∷ 47 ∷ bytes) split is
    (let run = prefix_len-Are (λ c. not (c == 10)) bytes rest are in
    let stops = prefix_len-EndsLine rest ends in
    omega (arith, run, stops))
blank-found at text piece rest split (inr (inr (inr (inr (first, is))))) =
    by_form (blank_len at) text piece rest (239 ∷ 187 ∷ 191 ∷ []) split is (rw first refl)

pub blank-only : (at : ℕ) (text : List ℕ) (n : ℕ) → StandsBlank at text n → blank_len at text ≡ n
blank-only at text n (some, within, blank) =
    blank-found at text (take n text) (drop n text) (sym (take-append-drop n text)) blank ∙ length-take-le n text within

-- ---- what is found is a blank piece

going_on-stands : (at : ℕ) (b : ℕ) (bs : List ℕ) → b ≡ 92 → 0 < going_on_len bs → StandsBlank at (b ∷ bs) (going_on_len bs)
going_on-stands at b bs is some = by (begins 10 (drop (prefix_len is_space bs) bs)) refl some
  where
    by : (t : Bool) → t ≡ begins 10 (drop (prefix_len is_space bs) bs) → 0 < (if t then 2 + prefix_len is_space bs else 0) →
        StandsBlank at (b ∷ bs) (if t then 2 + prefix_len is_space bs else 0)
    by false e h = absurd (omega arith)
    by true e h =
        let ends = begins-at 10 (prefix_len is_space bs) bs e in
        let piece : b ∷ take (suc (prefix_len is_space bs)) bs ≡ 92 ∷ take (prefix_len is_space bs) bs ++ 10 ∷ [] = rw (is, ends.1) refl in
        rw (two-more (prefix_len is_space bs)) (omega arith, omega (arith, ends.0), inr (inl (take (prefix_len is_space bs) bs, Are-run is_space bs, piece)))

line-stands : (at : ℕ) (b c : ℕ) (cs : List ℕ) → b ≡ 47 → c ≡ 47 → StandsBlank at (b ∷ c ∷ cs) (2 + prefix_len (λ d. not (d == 10)) cs)
line-stands at b c cs first second =
    let n = prefix_len (λ d. not (d == 10)) cs in
    let within = prefix_len-within (λ d. not (d == 10)) cs in
    let piece : b ∷ c ∷ take n cs ≡ 47 ∷ 47 ∷ take n cs = rw (first, second) refl in
    rw (two-more (prefix_len (λ d. not (d == 10)) cs)) (omega arith, omega (arith, within), inr (inr (inr (inl (take n cs, piece, Are-run (λ d. not (d == 10)) cs, EndsLine-run cs)))))

closed-stands : (at : ℕ) (b c : ℕ) (cs : List ℕ) → b ≡ 47 → c ≡ 42 → 0 < closed_len (closing_len cs) → StandsBlank at (b ∷ c ∷ cs) (closed_len (closing_len cs))
closed-stands at b c cs first second some = by (closing_len cs) refl some
  where
    tails : (o : List ℕ) (later : List ℕ) → b ∷ c ∷ cs ≡ 47 ∷ 42 ∷ o ++ 42 ∷ 47 ∷ later → cs ≡ o ++ 42 ∷ 47 ∷ later
    tails o later e = ap {A = List ℕ} {B = List ℕ} (λ xs. drop 2 xs) e

    by : (o : Option ℕ) → o ≡ closing_len cs → 0 < closed_len o → StandsBlank at (b ∷ c ∷ cs) (closed_len o)
    by None e h = absurd (omega arith)
    by (Some n) e h =
        let is = closing-is cs n (sym e) in
        let other = is.0 in
        let seam : take (2 + length other) cs ≡ other ++ 42 ∷ 47 ∷ [] = ap {A = List ℕ} {B = List ℕ} (λ xs. take (2 + length other) xs) is.2 ∙ front other is.1 in
        let piece : b ∷ c ∷ take n cs ≡ 47 ∷ 42 ∷ other ++ 42 ∷ 47 ∷ [] =
        rw (first, second) (ap {B = List ℕ} (λ ys. 47 ∷ 42 ∷ ys) (ap {A = ℕ} {B = List ℕ} (λ m. take m cs) is.3 ∙ seam)) in
        let within : n ≤ length cs = omega (arith, is.3, ap {A = List ℕ} {B = ℕ} (λ xs. length xs) is.2, length-append other (42 ∷ 47 ∷ is.1)) in
        let least : (o later : List ℕ) → b ∷ c ∷ cs ≡ 47 ∷ 42 ∷ o ++ 42 ∷ 47 ∷ later → length other ≤ length o =
        λ o later whole. least_of n other o later is.3 e (tails o later whole) in
        let comment : IsComment (b ∷ c ∷ cs) (b ∷ c ∷ take n cs) = record { inner = other; closed = piece; first = least } in
        rw (two-more n) (omega arith, omega (arith, within), inr (inr (inl comment)))
      where
        front : (xs later : List ℕ) → take (2 + length xs) (xs ++ 42 ∷ 47 ∷ later) ≡ xs ++ 42 ∷ 47 ∷ []
        front [] later = refl
        front (x ∷ xs) later =
            let more : 2 + length (x ∷ xs) ≡ suc (2 + length xs) = omega arith in
            rw more (ap {B = List ℕ} (λ ys. x ∷ ys) (front xs later))

        least_of : (n : ℕ) (other o later : List ℕ) → n ≡ 2 + length other → Some n ≡ closing_len cs → cs ≡ o ++ 42 ∷ 47 ∷ later → length other ≤ length o
        least_of n other o later size e split =
            let found = closing-found o later in
            let same : Some n ≡ Some found.0 = e ∙ ap closing_len split ∙ found.1 in
            let number : n ≡ found.0 = cc in
            omega (arith, size, number, found.2)

comment-stands : (at : ℕ) (b : ℕ) (bs : List ℕ) → b ≡ 47 → 0 < comment_len bs → StandsBlank at (b ∷ bs) (comment_len bs)
comment-stands at b [] is some = absurd (omega arith)
comment-stands at b (c ∷ cs) is some = by (c == 47) refl (c == 42) refl some
  where
    by : (t : Bool) → t ≡ (c == 47) → (u : Bool) → u ≡ (c == 42) →
        0 < (if t then 2 + prefix_len (λ d. not (d == 10)) cs else (if u then closed_len (closing_len cs) else 0)) →
        StandsBlank at (b ∷ c ∷ cs) (if t then 2 + prefix_len (λ d. not (d == 10)) cs else (if u then closed_len (closing_len cs) else 0))
    by true e u f h = line-stands at b c cs is (eqb-true c 47 (sym e))
    by false e true f h = closed-stands at b c cs is (eqb-true c 42 (sym f)) h
    by false e false f h = absurd (omega arith)

mark-stands : (at : ℕ) (b : ℕ) (bs : List ℕ) → b ≡ 239 → at ≡ 0 → 0 < mark_len bs → StandsBlank at (b ∷ bs) (mark_len bs)
mark-stands at b bs is first some = by bs (begins 187 bs) refl (begins 191 (drop 1 bs)) refl some
  where
    marks : (xs : List ℕ) → true ≡ begins 187 xs → true ≡ begins 191 (drop 1 xs) → StandsBlank at (b ∷ xs) 3
    marks [] e f = false_true e
    marks (c ∷ []) e f = false_true f
    marks (c ∷ d ∷ xs) e f =
        let second : c ≡ 187 = eqb-true c 187 (sym e) in
        let third : d ≡ 191 = eqb-true d 191 (sym f) in
        let piece : b ∷ c ∷ d ∷ [] ≡ 239 ∷ 187 ∷ 191 ∷ [] = rw (is, second, third) refl in
        (omega arith, omega arith, inr (inr (inr (inr (first, piece)))))

    by : (xs : List ℕ) (t : Bool) → t ≡ begins 187 xs → (u : Bool) → u ≡ begins 191 (drop 1 xs) → 0 < (if t && u then 3 else 0) →
        StandsBlank at (b ∷ xs) (if t && u then 3 else 0)
    by xs true e true f h = marks xs e f
    by xs true e false f h = absurd (omega arith)
    by xs false e u f h = absurd (omega arith)

pub both-true : (a b : Bool) → true ≡ (a && b) → (a ≡ true) × (b ≡ true)
both-true true true e = (refl, refl)
both-true true false e = false_true e
both-true false b e = false_true e

-- as many bytes as are found stand there as a blank
pub blank-stands : (at : ℕ) (text : List ℕ) → 0 < blank_len at text → StandsBlank at text (blank_len at text)
blank-stands at [] some = absurd (omega arith)
blank-stands at (b ∷ bs) some = by (is_space b) refl (b == 92) refl (b == 47) refl ((b == 239) && (at == 0)) refl some
  where
    by : (s : Bool) → s ≡ is_space b → (t : Bool) → t ≡ (b == 92) → (u : Bool) → u ≡ (b == 47) → (v : Bool) → v ≡ ((b == 239) && (at == 0)) →
        0 < (if s then 1 else (if t then going_on_len bs else (if u then comment_len bs else (if v then mark_len bs else 0)))) →
        StandsBlank at (b ∷ bs) (if s then 1 else (if t then going_on_len bs else (if u then comment_len bs else (if v then mark_len bs else 0))))
    by true e t f u g v h some = (omega arith, omega arith, inl (b, sym e, refl))
    by false e true f u g v h some = going_on-stands at b bs (eqb-true b 92 (sym f)) some
    by false e false f true g v h some = comment-stands at b bs (eqb-true b 47 (sym g)) some
    by false e false f false g true h some =
        let parts = both-true (b == 239) (at == 0) h in
        mark-stands at b bs (eqb-true b 239 parts.0) (eqb-true at 0 parts.1) some
    by false e false f false g false h some = absurd (omega arith)

-- ---- the end of a comment, byte by byte

pub closing-step : (xs : List ℕ) → closing_len xs ≡ (if closes_comment xs then Some 2 else option_map (λ n. suc n) (closing_len (drop 1 xs)))
closing-step [] = refl
closing-step (b ∷ xs) = refl

pub closing-more : (text : List ℕ) (i : ℕ) (o : Option ℕ) → o ≡ option_map (λ n. i + n) (closing_len (drop i text)) → closes_comment (drop i text) ≡ false →
    o ≡ option_map (λ n. (i + 1) + n) (closing_len (drop (i + 1) text))
closing-more text i o so_far open_still =
    so_far ∙ ap (option_map (λ n. i + n)) (closing-step (drop i text) ∙ rw open_still refl) ∙ sums (closing_len (drop 1 (drop i text))) ∙ ap {A = List ℕ} {B = Option ℕ} (λ xs. option_map (λ n. (i + 1) + n) (closing_len xs)) (drop-drop 1 i text)
  where
    sums : (p : Option ℕ) → option_map (λ n. i + n) (option_map (λ n. suc n) p) ≡ option_map (λ n. (i + 1) + n) p
    sums None = refl
    sums (Some n) = let same : i + suc n ≡ (i + 1) + n = omega arith in ap {B = Option ℕ} (λ m. Some m) same

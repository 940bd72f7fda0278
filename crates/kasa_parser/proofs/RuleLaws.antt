-- The law of each part of a grammar: reading gives what the part says, or the first fault.
use Rattle.std.proofs.Common.{◌≡◌, ◌⊎◌, inl, inr, ℕ, zero, suc, List, [], ◌∷◌, ◌++◌, length, Bool, true, false, ◌&&◌, ◌==◌, if◌then◌else◌, Option, Some, None, refl, sym, ap, ◌∙◌, append_assoc, append-nil, arith, ◌≤◌, ◌<◌, length-append}
use Rattle.kasa_syntax.specs.declared.tokens.TokenKind.{TokenKind}
use Rattle.kasa_syntax.specs.declared.tokens.TokenKind.TheVariants.{Symbol}
use Rattle.kasa_parser.specs.Words.{Word, Kinds, only, ◌or◌, has, same_kind, starts, a_word}
use Rattle.kasa_parser.specs.Rules.{Outcome, got, stuck, behind, Rule, give, word, one_word, at_first, ◌▹◌, by_first, AreMany, read_many, many, as_long_as, symbol_at, symbol, maybe, behind_comma, listed_some, listed}
use Rattle.kasa_parser.proofs.KindSets.{false_true, disjoint, within, starts-within, starts-outside, starts-neither, starts-left, starts-right, starts-append, starts-not}

-- ---- what may stand in place of what is left

-- where reading stopped: words that begin with the same kind, or none
abbrev pub Alike : List Word → List Word → Type 0
Alike [] [] = Unit {0}
Alike (v ∷ vs) (w ∷ ws) = v.kind ≡ w.kind
Alike [] (w ∷ ws) = ⊥
Alike (v ∷ vs) [] = ⊥

-- where reading was stuck: words that begin with the same word, or none
abbrev pub IsRefused : List Word → List Word → Type 0
IsRefused [] [] = Unit {0}
IsRefused (v ∷ vs) (w ∷ ws) = v ≡ w
IsRefused [] (w ∷ ws) = ⊥
IsRefused (v ∷ vs) [] = ⊥

-- ---- the law

pub record IsGot {A : Type 0} (r : Rule A) (ws : List Word) (x : A) (left : List Word) : Type 0 where
  pub used : List Word
  pub cut : ws ≡ used ++ left
  pub is : r.Is used x
  pub same : (other : List Word) → Alike left other → r.read (used ++ other) ≡ got x other

-- the rule's words can begin with these
abbrev pub CanBegin : {A : Type 0} → Rule A → List Word → Type 0
CanBegin {A} r used = (more : List Word) × (tree : A) × r.Is (used ++ more) tree

pub record IsStuck {A : Type 0} (r : Rule A) (ws : List Word) (left : List Word) : Type 0 where
  pub used : List Word
  pub cut : ws ≡ used ++ left
  pub can : CanBegin r used
  pub same : (other : List Word) → IsRefused left other → r.read (used ++ other) ≡ stuck other

abbrev pub Reads : {A : Type 0} → Rule A → List Word → Outcome A → Type 0
Reads r ws (got x left) = IsGot r ws x left
Reads r ws (stuck left) = IsStuck r ws left

abbrev pub Begun : Bool → Kinds → List Word → Type 0
Begun true begins ws = (ws ≡ []) ⊎ (starts begins ws ≡ true)
Begun false begins ws = starts begins ws ≡ true

-- A rule is read: whether it may have no words, the kinds that it begins with, and those that may go on behind it.
pub record IsReader {A : Type 0} (r : Rule A) (empty : Bool) (begins goes_on : Kinds) : Type 0 where
  pub reads : (ws : List Word) → Reads r ws (r.read ws)
  pub whole : (used others : List Word) (x : A) → r.Is used x → starts goes_on others ≡ false → r.read (used ++ others) ≡ got x others
  pub begun : (used : List Word) (x : A) → r.Is used x → Begun empty begins used

-- ---- no word

pub give-law : {A : Type 0} (x : A) → IsReader (give x) true (only []) (only [])
give-law x = record {
  reads = λ ws. record { used = []; cut = refl; is = (refl, refl); same = λ other a. refl };
  whole = λ used others y i s. rw (i.0, i.1) refl;
  begun = λ used y i. inl i.0;
}

-- ---- one word

-- words that are taken are of these kinds, and some are taken
pub word-law : {A : Type 0} (take : Word → Option A) (kinds : Kinds) → ((w : Word) (x : A) → take w ≡ Some x → has kinds w.kind ≡ true) → (v : Word) (y : A) → take v ≡ Some y →
    IsReader (word take) false kinds (only [])
word-law {A} take kinds begun v y some = record {
  reads = λ ws. reads ws;
  whole = λ used others x i s. whole used others x i;
  begun = λ used x i. starts_so used x i;
}
  where
    can : CanBegin (word take) []
    can = (v ∷ [], y, (v, some, refl))

    by : (w : Word) (ws : List Word) (o : Option A) → take w ≡ o → Reads (word take) (w ∷ ws) (one_word o (w ∷ ws))
    by w ws None e = record { used = []; cut = refl; can = can; same = λ other a. same other a }
      where
        same : (other : List Word) → IsRefused (w ∷ ws) other → one_word (at_first take other) other ≡ stuck other
        same [] a = absurd a
        same (u ∷ vs) a = rw (← a, e) refl
    by w ws (Some x) e = record { used = w ∷ []; cut = refl; is = (w, e, refl); same = λ other a. rw e refl }

    reads : (ws : List Word) → Reads (word take) ws (one_word (at_first take ws) ws)
    reads [] = record { used = []; cut = refl; can = can; same = λ other a. same other a }
      where
        same : (other : List Word) → IsRefused [] other → one_word (at_first take other) other ≡ stuck other
        same [] a = refl
        same (u ∷ vs) a = absurd a
    reads (w ∷ ws) = by w ws (take w) refl

    whole : (used others : List Word) (x : A) → (word take).Is used x → one_word (at_first take (used ++ others)) (used ++ others) ≡ got x others
    whole used others x (w, e, cut) = rw (cut, e) refl

    starts_so : (used : List Word) (x : A) → (word take).Is used x → starts kinds used ≡ true
    starts_so used x (w, e, cut) = rw cut (begun w x e)

-- ---- one after another

pub refused-alike : (left other : List Word) → IsRefused left other → Alike left other
refused-alike [] [] a = tt
refused-alike (v ∷ vs) (w ∷ ws) e = ap (λ x. x.kind) e
refused-alike [] (w ∷ ws) a = absurd a
refused-alike (v ∷ vs) [] a = absurd a

-- behind the same words, or at words alike, words are alike
alike-behind : (used left other : List Word) → Alike left other → Alike (used ++ left) (used ++ other)
alike-behind [] left other a = a
alike-behind (w ∷ ws) left other a = refl

-- a rule has some words
inhabited : {A : Type 0} {r : Rule A} {empty : Bool} {begins goes_on : Kinds} → IsReader r empty begins goes_on → (ws : List Word) × (x : A) × r.Is ws x
inhabited {A} {r} h = by (r.read []) (h.reads [])
  where
    by : (o : Outcome A) → Reads r [] o → (ws : List Word) × (x : A) × r.Is ws x
    by (got x left) g = (g.used, x, g.is)
    by (stuck left) s = (s.used ++ s.can.0, s.can.1, s.can.2)

at_second : {A B : Type 0} (r : Rule A) (s : A → Rule B) (x : A) (a b others : List Word) → r.read (a ++ (b ++ others)) ≡ got x (b ++ others) →
    (r ▹ s).read ((a ++ b) ++ others) ≡ (s x).read (b ++ others)
at_second r s x a b others e = rw (append_assoc a b others, e) refl

abbrev pub if_empty : Bool → Kinds → Kinds
if_empty true kinds = kinds
if_empty false kinds = only []

begun-both : (e f : Bool) (b c : Kinds) (u v : List Word) → Begun e b u → Begun f c v → Begun (e && f) (b or if_empty e c) (u ++ v)
begun-both false f b c u v i j = starts-append (b or only []) u v (starts-left b (only []) u i)
begun-both true true b c u v (inl i) (inl j) = inl (rw (i, j) refl)
begun-both true true b c u v (inl i) (inr j) = inr (rw i (starts-right b c v j))
begun-both true true b c u v (inr i) j = inr (starts-append (b or c) u v (starts-left b c u i))
begun-both true false b c u v (inl i) j = rw i (starts-right b c v j)
begun-both true false b c u v (inr i) j = starts-append (b or c) u v (starts-left b c u i)

-- the second begins with no word that goes on behind the first
stops-first : (f : Bool) (c g h : Kinds) (v others : List Word) → disjoint g c ≡ true → Begun f c v → starts (h or if_empty f g) others ≡ false → starts g (v ++ others) ≡ false
stops-first true c g h v others d (inl i) s = rw i (starts-neither h g others s).1
stops-first true c g h v others d (inr i) s = starts-not g c (v ++ others) d (starts-append c v others i)
stops-first false c g h v others d i s = starts-not g c (v ++ others) d (starts-append c v others i)

pub then-law : {A B : Type 0} {r : Rule A} {s : A → Rule B} {e f : Bool} {b c g h : Kinds} → disjoint g c ≡ true →
    IsReader r e b g → ((x : A) → IsReader (s x) f c h) → IsReader (r ▹ s) (e && f) (b or if_empty e c) (h or if_empty f g)
then-law {A} {B} {r} {s} {e} {f} {b} {c} {g} {h} d one two = record {
  reads = λ ws. first ws (r.read ws) (one.reads ws);
  whole = λ used others y i stops. whole used others y i stops;
  begun = λ used y i. begun used y i;
}
  where
    second : (ws : List Word) (x : A) (left : List Word) → IsGot r ws x left → (o : Outcome B) → Reads (s x) left o → Reads (r ▹ s) ws o
    second ws x left i (got y last) j = record {
      used = i.used ++ j.used;
      cut = i.cut ∙ ap (λ l. i.used ++ l) j.cut ∙ sym (append_assoc i.used j.used last);
      is = (x, i.used, j.used, i.is, j.is, refl);
      same = λ other a.
          let at : Alike left (j.used ++ other) = rw j.cut (alike-behind j.used last other a) in
          at_second r s x i.used j.used other (i.same (j.used ++ other) at) ∙ j.same other a;
    }
    second ws x left i (stuck last) j = record {
      used = i.used ++ j.used;
      cut = i.cut ∙ ap (λ l. i.used ++ l) j.cut ∙ sym (append_assoc i.used j.used last);
      can = (j.can.0, j.can.1, (x, i.used, j.used ++ j.can.0, i.is, j.can.2, append_assoc i.used j.used j.can.0));
      same = λ other a.
          let at : Alike left (j.used ++ other) = rw j.cut (alike-behind j.used last other (refused-alike last other a)) in
          at_second r s x i.used j.used other (i.same (j.used ++ other) at) ∙ j.same other a;
    }

    stuck_first : (ws : List Word) (left : List Word) → IsStuck r ws left → IsStuck (r ▹ s) ws left
    stuck_first ws left i = record {
      used = i.used;
      cut = i.cut;
      can = let (v, y, is) = inhabited (two i.can.1) in (i.can.0 ++ v, y, (i.can.1, i.used ++ i.can.0, v, i.can.2, is, sym (append_assoc i.used i.can.0 v)));
      same = λ other a. rw (i.same other a) refl;
    }

    first : (ws : List Word) (o : Outcome A) → Reads r ws o → Reads (r ▹ s) ws (behind o (λ x left. (s x).read left))
    first ws (got x left) i = second ws x left i ((s x).read left) ((two x).reads left)
    first ws (stuck left) i = stuck_first ws left i

    whole : (used others : List Word) (y : B) → (r ▹ s).Is used y → starts (h or if_empty f g) others ≡ false → (r ▹ s).read (used ++ others) ≡ got y others
    whole used others y (x, u, v, i, j, cut) stops =
        rw cut (at_second r s x u v others (one.whole u (v ++ others) x i (stops-first f c g h v others d ((two x).begun v y j) stops))
        ∙ (two x).whole v others y j (starts-neither h (if_empty f g) others stops).0)

    begun : (used : List Word) (y : B) → (r ▹ s).Is used y → Begun (e && f) (b or if_empty e c) used
    begun used y (x, u, v, i, j, cut) = rw cut (begun-both e f b c u v (one.begun u x i) ((two x).begun v y j))

-- ---- one or the other

alike-starts : (kinds : Kinds) (u v : List Word) → Alike u v → starts kinds u ≡ starts kinds v
alike-starts kinds [] [] a = refl
alike-starts kinds (x ∷ u) (y ∷ v) a = ap (has kinds) a
alike-starts kinds [] (y ∷ v) a = absurd a
alike-starts kinds (x ∷ u) [] a = absurd a

-- what is alike begins alike
starts-same : (kinds : Kinds) (t : Bool) (ws used left other : List Word) → starts kinds ws ≡ t → ws ≡ used ++ left → Alike left other → starts kinds (used ++ other) ≡ t
starts-same kinds t ws used left other e cut a = sym (alike-starts kinds (used ++ left) (used ++ other) (alike-behind used left other a)) ∙ rw (← cut) e

begun-left : (f : Bool) (b c : Kinds) (u : List Word) → starts b u ≡ true → Begun f (b or c) u
begun-left true b c u i = inr (starts-left b c u i)
begun-left false b c u i = starts-left b c u i

begun-right : (f : Bool) (b c : Kinds) (u : List Word) → Begun f c u → Begun f (b or c) u
begun-right true b c u (inl i) = inl i
begun-right true b c u (inr i) = inr (starts-right b c u i)
begun-right false b c u i = starts-right b c u i

-- a rule that holds what another one holds, and reads as it does at some words, gives what it gives there
carry : {A : Type 0} (r q : Rule A) (ws : List Word) → ((u : List Word) (x : A) → r.Is u x → q.Is u x) →
    ((used left other : List Word) → ws ≡ used ++ left → Alike left other → q.read (used ++ other) ≡ r.read (used ++ other)) → (o : Outcome A) → Reads r ws o → Reads q ws o
carry r q ws holds reads (got x left) i = record {
  used = i.used;
  cut = i.cut;
  is = holds i.used x i.is;
  same = λ other a. reads i.used left other i.cut a ∙ i.same other a;
}
carry r q ws holds reads (stuck left) i = record {
  used = i.used;
  cut = i.cut;
  can = (i.can.0, i.can.1, holds (i.used ++ i.can.0) i.can.1 i.can.2);
  same = λ other a. reads i.used left other i.cut (refused-alike left other a) ∙ i.same other a;
}

pub first-law : {A : Type 0} {r s : Rule A} {f : Bool} {b c g h : Kinds} (kinds : Kinds) → within b kinds ≡ true → disjoint kinds c ≡ true →
    IsReader r false b g → IsReader s f c h → IsReader (by_first kinds r s) f (b or c) (g or (h or if_empty f kinds))
first-law {A} {r} {s} {f} {b} {c} {g} {h} kinds w d one two = record {
  reads = λ ws. by ws (starts kinds ws) refl;
  whole = λ used others x i stops. whole used others x i (starts-neither g (h or if_empty f kinds) others stops);
  begun = λ used x i. begun used x i;
}
  where
    by : (ws : List Word) (t : Bool) → starts kinds ws ≡ t → Reads (by_first kinds r s) ws (if t then r.read ws else s.read ws)
    by ws true e = carry r (by_first kinds r s) ws (λ u x i. inl i) (λ used left other cut a. rw (starts-same kinds true ws used left other e cut a) refl) (r.read ws) (one.reads ws)
    by ws false e = carry s (by_first kinds r s) ws (λ u x i. inr i) (λ used left other cut a. rw (starts-same kinds false ws used left other e cut a) refl) (s.read ws) (two.reads ws)

    whole : (used others : List Word) (x : A) → (by_first kinds r s).Is used x → (starts g others ≡ false) × (starts (h or if_empty f kinds) others ≡ false) → (by_first kinds r s).read (used ++ others) ≡ got x others
    whole used others x (inl i) stops = rw (starts-append kinds used others (starts-within b kinds used w (one.begun used x i))) (one.whole used others x i stops.0)
    whole used others x (inr i) stops =
        rw (stops-first f c kinds h used others d (two.begun used x i) stops.1) (two.whole used others x i (starts-neither h (if_empty f kinds) others stops.1).0)

    begun : (used : List Word) (x : A) → (by_first kinds r s).Is used x → Begun f (b or c) used
    begun used x (inl i) = begun-left f b c used (one.begun used x i)
    begun used x (inr i) = begun-right f b c used (two.begun used x i)

-- ---- one after another of the same rule, with any bound on their number that is large enough

-- A test of the words to come tells where an element of the rule begins, and nothing goes on behind an element where it does.
-- It tells so too where other words stand behind the one at which the rule is stuck.
pub record IsChoice {A : Type 0} (r : Rule A) (g : Kinds) (goes : List Word → Bool) : Type 0 where
  pub none : goes [] ≡ false
  pub begins : (used others : List Word) (x : A) → r.Is used x → goes (used ++ others) ≡ true
  pub stops : (ws : List Word) → goes ws ≡ true → starts g ws ≡ false
  pub refuses : (used left other : List Word) → ((other : List Word) → IsRefused left other → r.read (used ++ other) ≡ stuck other) → IsRefused left other → goes (used ++ left) ≡ true → goes (used ++ other) ≡ true

-- the kinds of first words are such a test
pub by_kinds : {A : Type 0} {r : Rule A} {b g : Kinds} (kinds : Kinds) → within b kinds ≡ true → disjoint g kinds ≡ true → IsReader r false b g → IsChoice r g (starts kinds)
by_kinds {A} {r} {b} {g} kinds w d one = record {
  none = refl;
  begins = λ used others x i. starts-append kinds used others (starts-within b kinds used w (one.begun used x i));
  stops = λ ws e. starts-not g kinds ws d e;
  refuses = λ used left other same a e. starts-same kinds true (used ++ left) used left other e refl (refused-alike left other a);
}

pub record IsGotMany {A : Type 0} (r : Rule A) (goes : List Word → Bool) (ws : List Word) (xs : List A) (left : List Word) : Type 0 where
  pub used : List Word
  pub cut : ws ≡ used ++ left
  pub is : AreMany r.Is used xs
  pub halts : goes left ≡ false
  pub same : (other : List Word) (most : ℕ) → Alike left other → goes other ≡ false → length (used ++ other) ≤ most → read_many goes r.read most (used ++ other) ≡ got xs other

pub record IsStuckMany {A : Type 0} (r : Rule A) (goes : List Word → Bool) (ws : List Word) (left : List Word) : Type 0 where
  pub used : List Word
  pub cut : ws ≡ used ++ left
  pub can : (more : List Word) × (xs : List A) × AreMany r.Is (used ++ more) xs
  pub same : (other : List Word) (most : ℕ) → IsRefused left other → length (used ++ other) ≤ most → read_many goes r.read most (used ++ other) ≡ stuck other

abbrev pub ReadsMany : {A : Type 0} → Rule A → (List Word → Bool) → List Word → Outcome (List A) → Type 0
ReadsMany r goes ws (got xs left) = IsGotMany r goes ws xs left
ReadsMany r goes ws (stuck left) = IsStuckMany r goes ws left

pub longer : (b : Kinds) (used left : List Word) → starts b used ≡ true → length left < length (used ++ left)
longer b [] left e = false_true e
longer b (w ∷ ws) left e = omega (arith, length-append ws left)

pub one_more : (goes : List Word → Bool) → goes [] ≡ false → (ws : List Word) (most : ℕ) → goes ws ≡ true → length ws ≤ most → (m : ℕ) × (most ≡ suc m)
one_more goes none [] most e l = false_true (sym none ∙ e)
one_more goes none (w ∷ ws) zero e l = absurd (omega arith)
one_more goes none (w ∷ ws) (suc m) e l = (m, refl)

-- where no element begins there are none
pub none_begins : {A : Type 0} (goes : List Word → Bool) (one : List Word → Outcome A) (ws : List Word) (most : ℕ) → goes ws ≡ false → read_many goes one most ws ≡ got [] ws
none_begins goes one ws zero e = refl
none_begins goes one ws (suc m) e = rw e refl

-- where one begins it is read
pub one_begins : {A : Type 0} (goes : List Word → Bool) (one : List Word → Outcome A) (ws left : List Word) (x : A) (most : ℕ) → goes ws ≡ true → one ws ≡ got x left →
    read_many goes one (suc most) ws ≡ behind (read_many goes one most left) (λ xs last. got (x ∷ xs) last)
one_begins goes one ws left x most e o = rw (e, o) refl

-- words that are refused are refused in place of themselves
refused-self : (ws : List Word) → IsRefused ws ws
refused-self [] = tt
refused-self (x ∷ ws) = refl

module _ {A : Type 0} (r : Rule A) (b g : Kinds) (goes : List Word → Bool) (choice : IsChoice r g goes) (one : IsReader r false b g) where
  -- what is read behind an element is read behind it in place of other words too
  behind_one : (u v other : List Word) (x : A) (most : ℕ) (o : Outcome (List A)) → r.Is u x → r.read (u ++ (v ++ other)) ≡ got x (v ++ other) →
      ((m : ℕ) → length (v ++ other) ≤ m → read_many goes r.read m (v ++ other) ≡ o) → length ((u ++ v) ++ other) ≤ most →
      read_many goes r.read most ((u ++ v) ++ other) ≡ behind o (λ xs last. got (x ∷ xs) last)
  behind_one u v other x most o i e more l =
      let same_words = append_assoc u v other in
      let begins = choice.begins u (v ++ other) x i in
      let short = longer b u (v ++ other) (one.begun u x i) in
      let m = one_more goes choice.none (u ++ (v ++ other)) most begins (rw same_words at l) in
      let enough : length (v ++ other) ≤ m.0 = omega (arith, rw same_words at l, m.1) in
      rw (same_words, m.1) (one_begins goes r.read (u ++ (v ++ other)) (v ++ other) x m.0 begins e ∙ rw (more m.0 enough) refl)

  later : (ws left : List Word) (x : A) → IsGot r ws x left → (o : Outcome (List A)) → ReadsMany r goes left o → ReadsMany r goes ws (behind o (λ xs last. got (x ∷ xs) last))
  later ws left x i (got xs last) j = record {
    used = i.used ++ j.used;
    cut = i.cut ∙ ap (λ l. i.used ++ l) j.cut ∙ sym (append_assoc i.used j.used last);
    is = (i.used, j.used, i.is, j.is, refl);
    halts = j.halts;
    same = λ other most a e l.
        let at : Alike left (j.used ++ other) = rw j.cut (alike-behind j.used last other a) in
        behind_one i.used j.used other x most (got xs other) i.is (i.same (j.used ++ other) at) (λ m enough. j.same other m a e enough) l;
  }
  later ws left x i (stuck last) j = record {
    used = i.used ++ j.used;
    cut = i.cut ∙ ap (λ l. i.used ++ l) j.cut ∙ sym (append_assoc i.used j.used last);
    can = (j.can.0, x ∷ j.can.1, (i.used, j.used ++ j.can.0, i.is, j.can.2, append_assoc i.used j.used j.can.0));
    same = λ other most a l.
        let at : Alike left (j.used ++ other) = rw j.cut (alike-behind j.used last other (refused-alike last other a)) in
        behind_one i.used j.used other x most (stuck other) i.is (i.same (j.used ++ other) at) (λ m enough. j.same other m a enough) l;
  }

  stuck_there : (ws left : List Word) → IsStuck r ws left → goes ws ≡ true → IsStuckMany r goes ws left
  stuck_there ws left i e = record {
    used = i.used;
    cut = i.cut;
    can = (i.can.0, i.can.1 ∷ [], (i.used ++ i.can.0, [], i.can.2, refl, sym (append-nil (i.used ++ i.can.0))));
    same = λ other most a l.
        let begins = choice.refuses i.used left other i.same a (rw i.cut at e) in
        let m = one_more goes choice.none (i.used ++ other) most begins l in
        rw (m.1, begins, i.same other a) refl;
  }

  at_one : (n : ℕ) → ((left : List Word) → length left ≤ n → ReadsMany r goes left (read_many goes r.read n left)) → (ws : List Word) → length ws ≤ suc n → goes ws ≡ true →
      (o : Outcome A) → Reads r ws o → ReadsMany r goes ws (behind o (λ x left. behind (read_many goes r.read n left) (λ xs last. got (x ∷ xs) last)))
  at_one n more ws l e (stuck left) i = stuck_there ws left i e
  at_one n more ws l e (got x left) i =
      let short = longer b i.used left (one.begun i.used x i.is) in
      later ws left x i (read_many goes r.read n left) (more left (omega (arith, rw i.cut at l)))

  at_none : (ws : List Word) → goes ws ≡ false → IsGotMany r goes ws [] ws
  at_none ws e = record {
    used = [];
    cut = refl;
    is = refl;
    halts = e;
    same = λ other most a e l. none_begins goes r.read other most e;
  }

  at_words : (n : ℕ) → ((left : List Word) → length left ≤ n → ReadsMany r goes left (read_many goes r.read n left)) → (ws : List Word) → length ws ≤ suc n → (t : Bool) → goes ws ≡ t →
      ReadsMany r goes ws (if t then behind (r.read ws) (λ x left. behind (read_many goes r.read n left) (λ xs last. got (x ∷ xs) last)) else got [] ws)
  at_words n more ws l true e = at_one n more ws l e (r.read ws) (one.reads ws)
  at_words n more ws l false e = at_none ws e

  pub many-reads : (n : ℕ) (ws : List Word) → length ws ≤ n → ReadsMany r goes ws (read_many goes r.read n ws)
  many-reads zero [] l = at_none [] choice.none
  many-reads zero (w ∷ ws) l = absurd (omega arith)
  many-reads (suc n) ws l = at_words n (λ left short. many-reads n left short) ws l (goes ws) refl

  stops-many : (u others : List Word) (xs : List A) → AreMany r.Is u xs → starts g others ≡ false → starts g (u ++ others) ≡ false
  stops-many u others [] i stops = rw i stops
  stops-many u others (x ∷ xs) (a, c, i, j, cut) stops = rw (cut, append_assoc a c others) (choice.stops (a ++ (c ++ others)) (choice.begins a (c ++ others) x i))

  pub whole-many : (u others : List Word) (xs : List A) (most : ℕ) → AreMany r.Is u xs → starts g others ≡ false → goes others ≡ false → length (u ++ others) ≤ most → read_many goes r.read most (u ++ others) ≡ got xs others
  whole-many u others [] most i stops none l = rw i (none_begins goes r.read others most none)
  whole-many u others (x ∷ xs) most (a, c, i, j, cut) stops none l =
      rw cut (behind_one a c others x most (got xs others) i (one.whole a (c ++ others) x i (stops-many c others xs j stops))
      (λ m enough. whole-many c others xs m j stops none enough) (rw cut at l))

  pub begun-many : (u : List Word) (xs : List A) → AreMany r.Is u xs → Begun true b u
  begun-many u [] i = inl i
  begun-many u (x ∷ xs) (a, c, i, j, cut) = inr (rw cut (starts-append b a c (one.begun a x i)))

  alike-self : (ws : List Word) → Alike ws ws
  alike-self [] = tt
  alike-self (x ∷ ws) = refl

  most-by : (ws : List Word) (o : Outcome (List A)) (most : ℕ) → ReadsMany r goes ws o → length ws ≤ most → read_many goes r.read most ws ≡ o
  most-by ws (got xs left) most i l = rw i.cut (i.same left most (alike-self left) i.halts (rw i.cut at l))
  most-by ws (stuck left) most i l = rw i.cut (i.same left most (refused-self left) (rw i.cut at l))

  -- any bound on their number that is large enough gives the same
  pub any_most : (ws : List Word) (most : ℕ) → length ws ≤ most → read_many goes r.read most ws ≡ read_many goes r.read (length ws) ws
  any_most ws most l = most-by ws (read_many goes r.read (length ws) ws) most (many-reads (length ws) ws (omega arith)) l

pub many-law : {A : Type 0} (r : Rule A) (b g kinds : Kinds) → within b kinds ≡ true → disjoint g kinds ≡ true → IsReader r false b g → IsReader (many kinds r) true b (kinds or g)
many-law {A} r b g kinds w d one = record {
  reads = λ ws. as_rule ws (read_many (starts kinds) r.read (length ws) ws) (many-reads r b g (starts kinds) choice one (length ws) ws (omega arith));
  whole = λ used others xs i stops.
      let neither = starts-neither kinds g others stops in
      whole-many r b g (starts kinds) choice one used others xs (length (used ++ others)) i neither.1 neither.0 (omega arith);
  begun = λ used xs i. begun-many r b g (starts kinds) choice one used xs i;
}
  where
    choice : IsChoice r g (starts kinds)
    choice = by_kinds kinds w d one

    as_rule : (ws : List Word) (o : Outcome (List A)) → ReadsMany r (starts kinds) ws o → Reads (many kinds r) ws o
    as_rule ws (got xs left) i = record {
      used = i.used;
      cut = i.cut;
      is = i.is;
      same = λ other a. i.same other (length (i.used ++ other)) a (sym (alike-starts kinds left other a) ∙ i.halts) (omega arith);
    }
    as_rule ws (stuck left) i = record { used = i.used; cut = i.cut; can = i.can; same = λ other a. i.same other (length (i.used ++ other)) a (omega arith) }

-- ---- as long as a test of the words to come says so

-- The words behind the elements are always read, as far as words of some kinds go, and what stands behind these is nothing to
-- the test.
pub record Closes (s : Rule (Unit {0})) (kinds : Kinds) (goes : List Word → Bool) : Type 0 where
  pub empty : s.Is [] tt
  pub ends : (ws : List Word) → (left : List Word) × (s.read ws ≡ got tt left) × (starts kinds left ≡ false)
  pub near : (used left : List Word) → starts kinds left ≡ false → goes (used ++ left) ≡ goes used

pub as_long_as-law : {A : Type 0} {r : Rule A} {s : Rule (Unit {0})} {b c h : Kinds} (goes : List Word → Bool) (kinds : Kinds) → IsChoice r (only []) goes → Closes s kinds goes →
    IsReader r false b (only []) → IsReader s true c h → IsReader (as_long_as goes r s) true (b or c) (h or kinds)
as_long_as-law {A} {r} {s} {b} {c} {h} goes kinds choice closes one two = record {
  reads = λ ws. first ws (read_many goes r.read (length ws) ws) (many-reads r b (only []) goes choice one (length ws) ws (omega arith));
  whole = λ used others xs i stops. whole used others xs i (starts-neither h kinds others stops);
  begun = λ used xs i. rw i.5 (begun-both true true b c i.0 i.1 (begun-many r b (only []) goes choice one i.0 xs i.2) (two.begun i.1 tt i.3));
}
  where
    no_kinds : (ws : List Word) → starts (only []) ws ≡ false
    no_kinds [] = refl
    no_kinds (w ∷ ws) = refl

    -- the words behind the elements are read
    at_end : (ws left : List Word) (xs : List A) → IsGotMany r goes ws xs left → (last : List Word) → s.read left ≡ got tt last → starts kinds last ≡ false → IsGot s left tt last → IsGot (as_long_as goes r s) ws xs last
    at_end ws left xs i last read ended j = record {
      used = i.used ++ j.used;
      cut = i.cut ∙ ap (λ l. i.used ++ l) j.cut ∙ sym (append_assoc i.used j.used last);
      is = (i.used, j.used, i.is, j.is, sym (closes.near j.used last ended) ∙ rw (← j.cut) i.halts, refl);
      same = λ other a.
          let at : Alike left (j.used ++ other) = rw j.cut (alike-behind j.used last other a) in
          let also : starts kinds other ≡ false = sym (alike-starts kinds last other a) ∙ ended in
          let halts : goes (j.used ++ other) ≡ false = closes.near j.used other also ∙ sym (closes.near j.used last ended) ∙ rw (← j.cut) i.halts in
          rw (append_assoc i.used j.used other, i.same (j.used ++ other) (length (i.used ++ (j.used ++ other))) at halts (omega arith), j.same other a) refl;
    }

    behind_them : (ws left : List Word) (xs : List A) → IsGotMany r goes ws xs left → (o : Outcome (Unit {0})) → s.read left ≡ o → Reads s left o → Reads (as_long_as goes r s) ws (behind o (λ none last. got xs last))
    behind_them ws left xs i (got tt last) e j =
        let end = closes.ends left in
        let same : end.0 ≡ last = (let outcome : got tt end.0 ≡ got tt last = sym end.1 ∙ e in cc) in
        at_end ws left xs i last e (rw (← same) end.2) j
    behind_them ws left xs i (stuck last) e j =
        let end = closes.ends left in
        absurd (let outcome : got tt end.0 ≡ stuck last = sym end.1 ∙ e in let different : ⊥ = cc in different)

    first : (ws : List Word) (o : Outcome (List A)) → ReadsMany r goes ws o → Reads (as_long_as goes r s) ws (behind o (λ xs left. behind (s.read left) (λ none last. got xs last)))
    first ws (got xs left) i = behind_them ws left xs i (s.read left) refl (two.reads left)
    first ws (stuck left) i = record {
      used = i.used;
      cut = i.cut;
      can = (i.can.0, i.can.1, (i.used ++ i.can.0, [], i.can.2, closes.empty, choice.none, sym (append-nil (i.used ++ i.can.0))));
      same = λ other a. rw (i.same other (length (i.used ++ other)) a (omega arith)) refl;
    }

    whole : (used others : List Word) (xs : List A) → (as_long_as goes r s).Is used xs → (starts h others ≡ false) × (starts kinds others ≡ false) → (as_long_as goes r s).read (used ++ others) ≡ got xs others
    whole used others xs (u, v, are, is, halts, cut) stops =
        let here : goes (v ++ others) ≡ false = closes.near v others stops.1 ∙ halts in
        rw (cut, append_assoc u v others, whole-many r b (only []) goes choice one u (v ++ others) xs (length (u ++ (v ++ others))) are (no_kinds (v ++ others)) here (omega arith), two.whole v others tt is stops.0) refl

-- ---- what is made of these

pub weaken : {A : Type 0} {r : Rule A} {e : Bool} {b g : Kinds} (more_b more_g : Kinds) → within b more_b ≡ true → within g more_g ≡ true →
    IsReader r e b g → IsReader r e more_b more_g
weaken {A} {r} {e} {b} {g} more_b more_g w v one = record {
  reads = λ ws. one.reads ws;
  whole = λ used others x i stops. one.whole used others x i (starts-outside g more_g others v stops);
  begun = λ used x i. more e used (one.begun used x i);
}
  where
    more : (f : Bool) (used : List Word) → Begun f b used → Begun f more_b used
    more true used (inl i) = inl i
    more true used (inr i) = inr (starts-within b more_b used w i)
    more false used i = starts-within b more_b used w i

symbol-kind : (b : ℕ) (k : TokenKind) → same_kind (Symbol b) k ≡ true → has (only (Symbol b ∷ [])) k ≡ true
symbol-kind b k e = rw e refl

symbol-begun : (b : ℕ) (w : Word) (x : Unit {0}) → symbol_at b w ≡ Some x → has (only (Symbol b ∷ [])) w.kind ≡ true
symbol-begun b w x e = by (same_kind (Symbol b) w.kind) refl e
  where
    by : (t : Bool) → same_kind (Symbol b) w.kind ≡ t → (if t then Some tt else None) ≡ Some x → has (only (Symbol b ∷ [])) w.kind ≡ true
    by true i e = symbol-kind b w.kind i
    by false i e = absurd (let different : ⊥ = cc in different)

pub symbol-law : (b : ℕ) → (b == b) ≡ true → IsReader (symbol b) false (only (Symbol b ∷ [])) (only [])
symbol-law b same = word-law (symbol_at b) (only (Symbol b ∷ [])) (symbol-begun b) (a_word (Symbol b)) tt (rw same refl)

pub maybe-law : {A : Type 0} {r : Rule A} {b g : Kinds} (kinds : Kinds) → within (b or only []) kinds ≡ true → disjoint kinds (only []) ≡ true → disjoint g (only []) ≡ true →
    IsReader r false b g → IsReader (maybe kinds r) true ((b or only []) or only []) ((only [] or g) or (only [] or kinds))
maybe-law {A} {r} kinds w d n one = first-law kinds w d (then-law n one (λ x. give-law (Some x))) (give-law None)

-- behind the comma, or with none
pub comma-law : {A : Type 0} {r : Rule A} {b g : Kinds} (more_g : Kinds) → disjoint (only (Symbol 44 ∷ [])) b ≡ true → within ((g or only []) or (g or only [])) more_g ≡ true → within (only (Symbol 44 ∷ []) or b) (only (Symbol 44 ∷ []) or b) ≡ true →
    IsReader r false b g → IsReader (behind_comma r) false (only (Symbol 44 ∷ []) or b) more_g
comma-law {A} {r} {b} {g} more_g d v w one =
    weaken (only (Symbol 44 ∷ []) or b) more_g w v (first-law (only (Symbol 44 ∷ [])) refl d (then-law refl (symbol-law 44 refl) (λ comma. one)) one)

-- what goes on behind a list, which none of its elements begins with
pub some-law : {A : Type 0} {r : Rule A} {b g : Kinds} (kinds : Kinds) →
    disjoint (only (Symbol 44 ∷ [])) b ≡ true → within ((g or only []) or (g or only [])) g ≡ true → within (only (Symbol 44 ∷ []) or b) (only (Symbol 44 ∷ []) or b) ≡ true →
    within (only (Symbol 44 ∷ []) or b) (only (Symbol 44 ∷ []) or kinds) ≡ true → disjoint g (only (Symbol 44 ∷ []) or kinds) ≡ true →
    disjoint ((only (Symbol 44 ∷ []) or kinds) or g) (only []) ≡ true → disjoint g ((only (Symbol 44 ∷ []) or b) or only []) ≡ true →
    within (b or only []) b ≡ true → within ((only [] or ((only (Symbol 44 ∷ []) or kinds) or g)) or g) ((only (Symbol 44 ∷ []) or kinds) or g) ≡ true →
    IsReader r false b g → IsReader (listed_some kinds r) false b ((only (Symbol 44 ∷ []) or kinds) or g)
some-law {A} {r} {b} {g} kinds d1 w1 w2 w3 d2 d3 d4 w4 w5 one =
    weaken b ((only (Symbol 44 ∷ []) or kinds) or g) w4 w5 (then-law d4 one (λ x. then-law d3
    (many-law (behind_comma r) (only (Symbol 44 ∷ []) or b) g (only (Symbol 44 ∷ []) or kinds) w3 d2 (comma-law g d1 w1 w2 one)) (λ xs. give-law (x ∷ xs))))

pub listed-law : {A : Type 0} {b g : Kinds} (r : Rule A) (kinds more : Kinds) → within b kinds ≡ true → disjoint kinds (only []) ≡ true → within (b or only []) b ≡ true →
    within (g or (only [] or kinds)) more ≡ true → IsReader (listed_some kinds r) false b g → IsReader (listed kinds r) true b more
listed-law {A} {b} {g} r kinds more w d w2 w3 some = weaken b more w2 w3 (first-law kinds w d some (give-law []))

pub maybe_none : {A : Type 0} {r : Rule A} {b g : Kinds} → IsReader r false b g → IsReader r true b g
maybe_none one = record { reads = λ ws. one.reads ws; whole = λ used others x i s. one.whole used others x i s; begun = λ used x i. inr (one.begun used x i) }

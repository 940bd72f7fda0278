-- The text of a line is read back.
use Rattle.std.proofs.Common.{◌≡◌, ◌∙◌, ◌<◌, ◌≤◌, ℕ, suc, zero, List, [], ◌∷◌, ◌++◌, Bool, true, false, if◌then◌else◌, length, refl, sym, ap, arith, Some, None, Option, ◌==◌, nat_le, ◌&&◌, not, option_and_then, codes, decimal, append_assoc, map}
use Rattle.std.specs.Prelude.{slice_get}
use Rattle.std.proofs.lemmas.Bool.Decides.{nat_tests}
use Rattle.std.proofs.lemmas.List.{append-nil}
use Rattle.std.proofs.lemmas.Option.{slice_get-map}
use Rattle.std.proofs.lemmas.Slice.Zip.{AllZip-long}
use Rattle.std.specs.Cmp.Lexicographic.{bytes_decides}
use Rattle.std.specs.List.{list_all, AllByRecursion}
use Rattle.kasa_lists.proofs.Every.{AllByRecursion-of, AllByRecursion-weaker}
use Rattle.kasa_lists.proofs.Maps.{length-map}
use Rattle.kasa_lists.proofs.Options.{some_map}
use Rattle.kasa_graph.specs.Signature.{TypeEntry, SiteEntry, HasSite, IsSignature, sites_of, state_names, state_counts}
use Rattle.kasa_graph.proofs.SignatureLemmas.{site_within, type_of_site}
use Rattle.kasa_families.specs.declared.row.LocalLink.{LocalLink}
use Rattle.kasa_families.specs.declared.row.LocalLink.TheVariants.{Free, Partner}
use Rattle.kasa_families.specs.declared.row.Local.{Local}
use Rattle.kasa_families.specs.declared.row.Row.{Row}
use Rattle.kasa_families.specs.declared.row.Row.TheVariants.{Locals, Same, Different}
use Rattle.kasa_families.specs.declared.family.Family.{Family}
use Rattle.kasa_families.specs.declared.family.Family.TheVariants.{View, Across, Parallel, Chain}
use Rattle.kasa_families.specs.declared.shape.NodeSite.{NodeSite}
use Rattle.kasa_families.specs.Local.{IsLocalState, IsLocalLink, IsLocal}
use Rattle.kasa_families.specs.Shape.{Nth, AreColumns}
use Rattle.kasa_families.specs.Family.{IsFamily, shape_of}
use Rattle.kasa_families.specs.Row.{IsRow}
use Rattle.kasa_families.proofs.FamilyShape.{few_columns}
use Rattle.kasa_tabfile.specs.declared.line.Line.{Line}
use Rattle.kasa_tabfile.specs.declared.line.Line.TheVariants as line
use Rattle.kasa_tabfile.specs.Text.{parts_from, words}
use Rattle.kasa_tabfile.specs.Word.{is, group}
use Rattle.kasa_tabfile.specs.Line.{is_small, is_small_state, is_small_link, is_small_local, numbers, groups, over_sites, across_of, parallel_of, chain_of, row, line_of}
use Rattle.kasa_tabfile.specs.TablesText.{local_text, spaced, family_line, row_line}
use Rattle.kasa_tabfile.proofs.WordTexts.{lacks, lacks-append, decimal-lacks, local-lacks, FitsLocal, FitsState, FitsLink, number-decimal, group-text}

-- ---- parts

pub parts-at : (c : ℕ) (p x y : List ℕ) → lacks c x ≡ true → parts_from c p (x ++ c ∷ y) ≡ (p ++ x) ∷ parts_from c [] y
parts-at c p [] y h = let same : (c == c) ≡ true = grind (arith, nat_tests) in rw (same, append-nil p) refl
parts-at c p (b ∷ x) y h = by (b == c) h (λ l. rw (append_assoc p (b ∷ []) x) at (parts-at c (p ++ b ∷ []) x y l))
  where
    by : (s : Bool) → (not s && lacks c x) ≡ true → (lacks c x ≡ true → parts_from c (p ++ b ∷ []) (x ++ c ∷ y) ≡ (p ++ b ∷ x) ∷ parts_from c [] y) →
        (if s then p ∷ parts_from c [] (x ++ c ∷ y) else parts_from c (p ++ b ∷ []) (x ++ c ∷ y)) ≡ (p ++ b ∷ x) ∷ parts_from c [] y
    by true f ih = absurd cc
    by false f ih = ih f

parts-whole : (c : ℕ) (p x : List ℕ) → lacks c x ≡ true → parts_from c p x ≡ (p ++ x) ∷ []
parts-whole c p [] h = rw (append-nil p) refl
parts-whole c p (b ∷ x) h = by (b == c) h (λ l. rw (append_assoc p (b ∷ []) x) at (parts-whole c (p ++ b ∷ []) x l))
  where
    by : (s : Bool) → (not s && lacks c x) ≡ true → (lacks c x ≡ true → parts_from c (p ++ b ∷ []) x ≡ (p ++ b ∷ x) ∷ []) →
        (if s then p ∷ parts_from c [] x else parts_from c (p ++ b ∷ []) x) ≡ (p ++ b ∷ x) ∷ []
    by true f ih = absurd cc
    by false f ih = ih f

pub words-spaced : {A : Type 0} (text : A → List ℕ) (w : List ℕ) (xs : List A) → lacks 32 w ≡ true → AllByRecursion (λ x. lacks 32 (text x) ≡ true) xs →
    words (w ++ spaced text xs) ≡ w ∷ map text xs
words-spaced text w [] l h = rw (append-nil w) (parts-whole 32 [] w l)
words-spaced text w (x ∷ xs) l h = parts-at 32 [] w (text x ++ spaced text xs) l ∙ ap (λ ws. w ∷ ws) (words-spaced text (text x) xs h.0 h.1)

pub spaced-lacks : {A : Type 0} (c : ℕ) (text : A → List ℕ) (xs : List A) → (32 == c) ≡ false → AllByRecursion (λ x. lacks c (text x) ≡ true) xs → lacks c (spaced text xs) ≡ true
spaced-lacks c text [] o h = refl
spaced-lacks c text (x ∷ xs) o h = rw o (lacks-append c (text x) (spaced text xs) h.0 (spaced-lacks c text xs o h.1))

-- ---- numbers and groups

pub numbers-map : (ns : List ℕ) → AllByRecursion (λ n. n ≤ 65535) ns → numbers (map decimal ns) ≡ Some ns
numbers-map [] h = refl
numbers-map (n ∷ ns) h = rw (number-decimal n h.0, numbers-map ns h.1) refl

pub groups-map : (locals : List Local) → AllByRecursion FitsLocal locals → groups (map local_text locals) ≡ Some locals
groups-map [] h = refl
groups-map (l ∷ ls) h = rw (group-text l h.0, groups-map ls h.1) refl

pub numbers-lack : (c : ℕ) (ns : List ℕ) → c < 44 → AllByRecursion (λ n. n ≤ 65535) ns → AllByRecursion (λ n. lacks c (decimal n) ≡ true) ns
numbers-lack c [] low h = tt
numbers-lack c (n ∷ ns) low h = (decimal-lacks c n (omega arith) h.0, numbers-lack c ns low h.1)

pub groups-lack : (c : ℕ) (locals : List Local) → c < 44 → AllByRecursion FitsLocal locals → AllByRecursion (λ l. lacks c (local_text l) ≡ true) locals
groups-lack c [] low h = tt
groups-lack c (l ∷ ls) low h = (local-lacks c l low h.0, groups-lack c ls low h.1)

-- ---- numbers of a signature are small

pub site-fits : (sig : List TypeEntry) (a x : ℕ) → IsSignature sig → HasSite sig a x → (a ≤ 65535) × (x ≤ 255)
site-fits sig a x is has =
    let type = type_of_site sig a x has in
    let site = site_within sig a x has in
    let types : length sig ≤ 500 = rw length-map at is.types.few in
    let sites : length (sites_of sig a) ≤ 32 = rw length-map at (is.sites a).few in
    (omega arith, omega arith)

wide : (x : ℕ) → x ≤ 255 → x ≤ 65535
wide x h = omega arith

small : (x : ℕ) → x ≤ 255 → is_small x ≡ true
small x h = grind (arith, nat_tests)

counts-few : (sig : List TypeEntry) (a s k : ℕ) → IsSignature sig → slice_get (state_counts sig a) s ≡ Some k → k ≤ 32
unfolding state_counts state_names
counts-few sig a s k is at =
    let found = some_map (λ (e : SiteEntry). length e.states) (slice_get (sites_of sig a) s) k (sym (slice_get-map (λ (e : SiteEntry). length e.states) (sites_of sig a) s) ∙ at) in
    let few : length found.0.states ≤ 32 = rw found.1 at (is.states a s).few in
    rw (← found.2) few

state-fits : (sig : List TypeEntry) (a s : ℕ) (count : Option ℕ) (u : Option ℕ) → IsSignature sig → slice_get (state_counts sig a) s ≡ count → IsLocalState count u → FitsState u
state-fits sig a s None u is at h = absurd h
state-fits sig a s (Some zero) None is at h = tt
state-fits sig a s (Some zero) (Some u) is at h = absurd cc
state-fits sig a s (Some (suc k)) None is at h = tt
state-fits sig a s (Some (suc k)) (Some u) is at h =
    let few = counts-few sig a s (suc k) is at in
    let same : u ≡ h.0 = let e = h.1 in cc in
    let low : h.0 < suc k = h.2 in omega arith

link-fits : (sig : List TypeEntry) (l : LocalLink) → IsSignature sig → IsLocalLink sig l → FitsLink l
link-fits sig Free is h = tt
link-fits sig (Partner b y) is h = site-fits sig b y is h

local-fits : (sig : List TypeEntry) (a s : ℕ) (l : Local) → IsSignature sig → IsLocal sig a s l → FitsLocal l
local-fits sig a s l is h = (state-fits sig a s (slice_get (state_counts sig a) s) l.state is refl h.state, link-fits sig l.link is h.link)

at-type : (sig : List TypeEntry) (types : List ℕ) (n s : ℕ) (l : Local) → IsSignature sig → Nth types n (λ a. IsLocal sig a s l) → FitsLocal l
at-type sig [] n s l is h = absurd h
at-type sig (a ∷ types) zero s l is h = local-fits sig a s l is h
at-type sig (a ∷ types) (suc n) s l is h = at-type sig types n s l is h

locals-fit : (sig : List TypeEntry) (types : List ℕ) (columns : List NodeSite) (locals : List Local) → IsSignature sig → AreColumns sig types columns locals → AllByRecursion FitsLocal locals
locals-fit sig types [] [] is h = tt
locals-fit sig types [] (l ∷ ls) is h = absurd h
locals-fit sig types (s ∷ columns) [] is h = absurd h
locals-fit sig types (s ∷ columns) (l ∷ ls) is h = (at-type sig types s.node s.site l is h.0, locals-fit sig types columns ls is h.1)

small-local : (l : Local) → FitsLocal l → is_small_local l ≡ true
small-local l h = rw (state l.state h.0, link l.link h.1) refl
  where
    state : (s : Option ℕ) → FitsState s → is_small_state s ≡ true
    state None f = refl
    state (Some s) f = small s f

    link : (k : LocalLink) → FitsLink k → is_small_link k ≡ true
    link Free f = refl
    link (Partner b y) f = small y f.1

all-small : (sites : List ℕ) → AllByRecursion (λ x. x ≤ 255) sites → list_all is_small sites ≡ true
all-small [] h = refl
all-small (x ∷ xs) h = rw (small x h.0, all-small xs h.1) refl

all-small-local : (locals : List Local) → AllByRecursion FitsLocal locals → list_all is_small_local locals ≡ true
all-small-local [] h = refl
all-small-local (l ∷ ls) h = rw (small-local l h.0, all-small-local ls h.1) refl

-- ---- lines

-- these bytes are a line without LF, which says this
pub record Reads (text : List ℕ) (l : Line) : Type 0 where
  pub line : line_of (words text) ≡ Some l
  pub whole : lacks 10 text ≡ true

-- the line of a family
abbrev pub said : Family → Line
said (Chain a x p b y z c w q) = line.Chain (Some (Chain a x p b y z c w q))
said family = line.Family (Some family)

view-reads : (a : ℕ) (sites : List ℕ) → a ≤ 65535 → AllByRecursion (λ n. n ≤ 255) sites → length sites ≤ 16 → Reads (family_line (View a sites)) (said (View a sites))
view-reads a sites low fits few =
    let some : nat_le (length sites) 16 ≡ true = grind (arith, nat_tests) in
    let wide : AllByRecursion (λ n. n ≤ 65535) sites = AllByRecursion-weaker (λ n. n ≤ 255) (λ n. n ≤ 65535) (λ n h. omega arith) sites fits in
    record {
      line = ap line_of (words-spaced decimal (codes "view") (a ∷ sites) refl (numbers-lack 32 (a ∷ sites) (omega arith) (low, wide))) ∙ rw (number-decimal a low, numbers-map sites wide, some, all-small sites fits) refl;
      whole = lacks-append 10 (codes "view") (spaced decimal (a ∷ sites)) refl (spaced-lacks 10 decimal (a ∷ sites) refl (numbers-lack 10 (a ∷ sites) (omega arith) (low, wide)));
    }

-- a line of a first word and numbers
numbers-read : (word : List ℕ) (ns : List ℕ) (of : List ℕ → Option Line) (l : Line) → lacks 32 word ≡ true → lacks 10 word ≡ true → AllByRecursion (λ n. n ≤ 65535) ns →
    ((ws : List (List ℕ)) → line_of (word ∷ ws) ≡ option_and_then of (numbers ws)) → of ns ≡ Some l → Reads (word ++ spaced decimal ns) l
numbers-read word ns of l apart whole fits begins is = record {
  line = ap line_of (words-spaced decimal word ns apart (numbers-lack 32 ns (omega arith) fits)) ∙ begins (map decimal ns) ∙ ap (option_and_then of) (numbers-map ns fits) ∙ is;
  whole = lacks-append 10 word (spaced decimal ns) whole (spaced-lacks 10 decimal ns refl (numbers-lack 10 ns (omega arith) fits));
}

over : (sites : List ℕ) (f : Family) → AllByRecursion (λ x. x ≤ 255) sites → over_sites sites f ≡ Some f
over sites f h = rw (all-small sites h) refl

-- ---- the lines of valid families and rows

pub family-reads : (sig : List TypeEntry) (f : Family) → IsSignature sig → IsFamily sig f → Reads (family_line f) (said f)
family-reads sig (View a sites) is h =
    let types : length sig ≤ 500 = rw length-map at is.types.few in
    let low : a < length sig = h.0 in
    view-reads a sites (omega arith) (AllByRecursion-of (λ x. x ≤ 255) sites (λ k x at. (site-fits sig a x is (h.1 k x at)).1)) h.3
family-reads sig (Across a x p b y q) is h =
    let first = site-fits sig a x is h.0 in
    let further = site-fits sig a p is h.1 in
    let second = site-fits sig b y is h.2 in
    let other = site-fits sig b q is h.3 in
    numbers-read (codes "across") (a ∷ x ∷ p ∷ b ∷ y ∷ q ∷ []) across_of _ refl refl
    (first.0, (wide x first.1, (wide p further.1, (second.0, (wide y second.1, (wide q other.1, tt))))))
    (λ ws. refl)
    (ap (λ f. Some (line.Family f)) (over (x ∷ p ∷ y ∷ q ∷ []) (Across a x p b y q) (first.1, (further.1, (second.1, (other.1, tt))))))
family-reads sig (Parallel a x u b y w) is h =
    let first = site-fits sig a x is h.0 in
    let further = site-fits sig a u is h.1 in
    let second = site-fits sig b y is h.2 in
    let other = site-fits sig b w is h.3 in
    numbers-read (codes "parallel") (a ∷ x ∷ u ∷ b ∷ y ∷ w ∷ []) parallel_of _ refl refl
    (first.0, (wide x first.1, (wide u further.1, (second.0, (wide y second.1, (wide w other.1, tt))))))
    (λ ws. refl)
    (ap (λ f. Some (line.Family f)) (over (x ∷ u ∷ y ∷ w ∷ []) (Parallel a x u b y w) (first.1, (further.1, (second.1, (other.1, tt))))))
family-reads sig (Chain a x p b y z c w q) is h =
    let first = site-fits sig a x is h.0 in
    let outer = site-fits sig a p is h.1 in
    let second = site-fits sig b y is h.2 in
    let third = site-fits sig b z is h.3 in
    let last = site-fits sig c w is h.4 in
    let other = site-fits sig c q is h.5 in
    numbers-read (codes "chain") (a ∷ x ∷ p ∷ b ∷ y ∷ z ∷ c ∷ w ∷ q ∷ []) chain_of _ refl refl
    (first.0, (wide x first.1, (wide p outer.1, (second.0, (wide y second.1, (wide z third.1, (last.0, (wide w last.1, (wide q other.1, tt)))))))))
    (λ ws. refl)
    (ap (λ f. Some (line.Chain f)) (over (x ∷ p ∷ y ∷ z ∷ w ∷ q ∷ []) (Chain a x p b y z c w q) (first.1, (outer.1, (second.1, (third.1, (last.1, (other.1, tt))))))))

-- a row with local states: its first word isn't the one of a parallel family's row
not-word : (l : Local) (v : List ℕ) → FitsLocal l → group v ≡ None → is (local_text l) v ≡ false
not-word l v fits none = by (is (local_text l) v) (λ e. (bytes_decides (local_text l) v).0 e)
  where
    by : (b : Bool) → (b ≡ true → local_text l ≡ v) → b ≡ false
    by true same = absurd (let clash : None ≡ Some l = sym none ∙ ap group (sym (same refl)) ∙ group-text l fits in cc)
    by false same = refl

row-of : (locals : List Local) → AllByRecursion FitsLocal locals → length locals ≤ 16 → row (map local_text locals) ≡ Some (line.Row (Some (Locals locals)))
row-of [] fits few = refl
row-of (l ∷ ls) fits few =
    let some : nat_le (length (l ∷ ls)) 16 ≡ true = grind (arith, nat_tests) in
    rw (not-word l (codes "same") fits.0 refl, not-word l (codes "different") fits.0 refl, groups-map (l ∷ ls) fits, some, all-small-local (l ∷ ls) fits) refl

locals-read : (locals : List Local) → AllByRecursion FitsLocal locals → length locals ≤ 16 → Reads (row_line (Locals locals)) (line.Row (Some (Locals locals)))
locals-read locals fits few = record {
  line = ap line_of (words-spaced local_text (codes "r") locals refl (groups-lack 32 locals (omega arith) fits)) ∙ row-of locals fits few;
  whole = lacks-append 10 (codes "r") (spaced local_text locals) refl (spaced-lacks 10 local_text locals refl (groups-lack 10 locals (omega arith) fits));
}

columns-read : (sig : List TypeEntry) (f : Family) (locals : List Local) → IsSignature sig → IsFamily sig f → AreColumns sig (shape_of f).types (shape_of f).columns locals →
    Reads (row_line (Locals locals)) (line.Row (Some (Locals locals)))
columns-read sig f locals is valid h =
    let few = few_columns sig f valid in
    let long = AllZip-long (λ (s : NodeSite) (l : Local). Nth (shape_of f).types s.node (λ a. IsLocal sig a s.site l)) (shape_of f).columns locals h in
    locals-read locals (locals-fit sig (shape_of f).types (shape_of f).columns locals is h) (omega arith)

pub row-reads : (sig : List TypeEntry) (f : Family) (row : Row) → IsSignature sig → IsFamily sig f → IsRow sig f row → Reads (row_line row) (line.Row (Some row))
row-reads sig f Same is valid h = record { line = refl; whole = refl }
row-reads sig f Different is valid h = record { line = refl; whole = refl }
row-reads sig (View a sites) (Locals locals) is valid h = columns-read sig (View a sites) locals is valid h
row-reads sig (Across a x p b y q) (Locals locals) is valid h = columns-read sig (Across a x p b y q) locals is valid h
row-reads sig (Parallel a x u b y w) (Locals locals) is valid h = absurd h
row-reads sig (Chain a x p b y z c w q) (Locals locals) is valid h = columns-read sig (Chain a x p b y z c w q) locals is valid h

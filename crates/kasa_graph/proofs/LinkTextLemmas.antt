-- The text of a link is of one link, up to the far end of a bond, of which only the number stands there.
use Rattle.std.proofs.Common.{◌≡◌, ◌∙◌, ◌<◌, ◌^◌, ℕ, List, [], ◌∷◌, ◌++◌, Bool, true, false, length, refl, sym, ap, arith, decimal, append_assoc, inr}
use Rattle.std.specs.List.{AllByRecursion}
use Rattle.kasa_graph.specs.declared.pattern.LinkTest.{LinkTest}
use Rattle.kasa_graph.specs.declared.pattern.LinkTest.TheVariants.{Any, Free, Bound, Partner, To}
use Rattle.kasa_graph.specs.declared.pattern.Node.{Node}
use Rattle.kasa_graph.specs.Signature.{TypeEntry, type_names, site_names, IsNameByte, IsSignature}
use Rattle.kasa_graph.specs.PatternText.{bond_number, name_at, link_text, tests_link}
use Rattle.kasa_lists.proofs.Every.{AllByRecursion-append, AllByRecursion-weaker}
use Rattle.kasa_graph.proofs.SplitLemmas.{split-same, IsInside}
use Rattle.kasa_graph.proofs.NameTextLemmas.{name_at-bytes, name_at-same, name_at-some, no_name_byte, no_closing, decimal-bytes, decimal-same, decimal-no_underscore}

-- ---- bytes of names and brackets are no commas

pub no_separator : (b : ℕ) → 44 < b → IsInside b
no_separator b h = (λ e. omega arith, λ e. omega arith)

pub names_inside : (bs : List ℕ) → AllByRecursion IsNameByte bs → AllByRecursion IsInside bs
names_inside bs all = AllByRecursion-weaker IsNameByte IsInside (λ (b : ℕ) (p : IsNameByte b). (λ e. no_name_byte 44 (omega arith) (rw e at p), λ e. no_name_byte 41 (omega arith) (rw e at p))) bs all

-- ---- links

-- a link as it is read: the number of a bond stands in place of its far end
abbrev pub numbered : List Node → ℕ → ℕ → LinkTest → LinkTest
numbered g n s (To m t) = To (bond_number g n s m t) 0
numbered g n s Any = Any
numbered g n s Free = Free
numbered g n s Bound = Bound
numbered g n s (Partner b y) = Partner b y

-- the numbers in such a link exist, and that of a bond is not too large to be written
abbrev pub IsRead : List TypeEntry → LinkTest → Type 0
IsRead sig (Partner b y) = (b < length (type_names sig)) × (y < length (site_names sig b))
IsRead sig (To k t) = (k < 10 ^ 64) × (t ≡ 0)
IsRead sig _ = Unit {0}

-- what stands in the brackets: a word, and what follows
abbrev word : List TypeEntry → LinkTest → List ℕ
word sig Any = []
word sig Free = []
word sig Bound = 95 ∷ []
word sig (Partner b y) = name_at (site_names sig b) y
word sig (To k t) = decimal k

abbrev sign : LinkTest → ℕ
sign Any = 93
sign Free = 46
sign Bound = 93
sign (Partner b y) = 46
sign (To k t) = 93

abbrev behind : List TypeEntry → LinkTest → List ℕ
behind sig Any = []
behind sig Free = 93 ∷ []
behind sig Bound = []
behind sig (Partner b y) = name_at (type_names sig) b ++ 93 ∷ []
behind sig (To k t) = []

abbrev pub read_text : List TypeEntry → LinkTest → List ℕ
read_text sig Any = []
read_text sig x = 91 ∷ (word sig x ++ sign x ∷ behind sig x)

pub link_text-is : (sig : List TypeEntry) (g : List Node) (n s : ℕ) (x : LinkTest) → link_text sig g n s x ≡ read_text sig (numbered g n s x)
link_text-is sig g n s Any = refl
link_text-is sig g n s Free = refl
link_text-is sig g n s Bound = refl
link_text-is sig g n s (Partner b y) = simp append_assoc
link_text-is sig g n s (To m t) = refl

-- a link that is tested is read as one
pub tests_link-numbered : (g : List Node) (n s : ℕ) (x : LinkTest) → tests_link (numbered g n s x) ≡ tests_link x
tests_link-numbered g n s Any = refl
tests_link-numbered g n s Free = refl
tests_link-numbered g n s Bound = refl
tests_link-numbered g n s (Partner b y) = refl
tests_link-numbered g n s (To m t) = refl

pub untested : (x : LinkTest) → tests_link x ≡ false → x ≡ Any
untested Any none = refl
untested Free none = absurd cc
untested Bound none = absurd cc
untested (Partner b y) none = absurd cc
untested (To k t) none = absurd cc

pub read_text-some : (sig : List TypeEntry) (x : LinkTest) → tests_link x ≡ true → read_text sig x ≡ 91 ∷ (word sig x ++ sign x ∷ behind sig x)
read_text-some sig Any some = absurd cc
read_text-some sig Free some = refl
read_text-some sig Bound some = refl
read_text-some sig (Partner b y) some = refl
read_text-some sig (To k t) some = refl

module _ (sig : List TypeEntry) (names : IsSignature sig) where
  word-bytes : (x : LinkTest) → IsRead sig x → AllByRecursion IsNameByte (word sig x)
  word-bytes Any read = tt
  word-bytes Free read = tt
  word-bytes Bound read = (inr (inr (inr refl)), tt)
  word-bytes (Partner b y) read = name_at-bytes 32 (site_names sig b) (names.sites b) y
  word-bytes (To k t) read = decimal-bytes k read.0

  no_sign : (x : LinkTest) → ¬ IsNameByte (sign x)
  no_sign Any = no_closing
  no_sign Free = no_name_byte 46 (omega arith)
  no_sign Bound = no_closing
  no_sign (Partner b y) = no_name_byte 46 (omega arith)
  no_sign (To k t) = no_closing

  -- the parts in the brackets tell the test
  parts_tell : (x y : LinkTest) → tests_link x ≡ true → tests_link y ≡ true → IsRead sig x → IsRead sig y → word sig x ≡ word sig y → sign x ≡ sign y → behind sig x ≡ behind sig y → x ≡ y
  parts_tell Any y some also read same w s b = absurd cc
  parts_tell x Any some also read same w s b = absurd cc
  parts_tell Free Free some also read same w s b = refl
  parts_tell Free Bound some also read same w s b = absurd (omega arith)
  parts_tell Free (Partner c v) some also read same w s b = absurd (name_at-some 32 (site_names sig c) v (names.sites c) same.1 (sym w))
  parts_tell Free (To j t) some also read same w s b = absurd (omega arith)
  parts_tell Bound Free some also read same w s b = absurd (omega arith)
  parts_tell Bound Bound some also read same w s b = refl
  parts_tell Bound (Partner c v) some also read same w s b = absurd (omega arith)
  parts_tell Bound (To j t) some also read same w s b = absurd (decimal-no_underscore j same.0 w)
  parts_tell (Partner c v) Free some also read same w s b = absurd (name_at-some 32 (site_names sig c) v (names.sites c) read.1 w)
  parts_tell (Partner c v) Bound some also read same w s b = absurd (omega arith)
  parts_tell (Partner c v) (Partner d u) some also read same w s b =
      let types = split-same IsNameByte (name_at (type_names sig) c) (name_at (type_names sig) d) 93 93 [] [] (name_at-bytes 500 (type_names sig) names.types c) (name_at-bytes 500 (type_names sig) names.types d) no_closing no_closing b in
      let type = name_at-same 500 (type_names sig) c d names.types read.0 same.0 types.0 in
      let within : v < length (site_names sig d) = rw (← type) read.1 in
      let there : name_at (site_names sig d) v ≡ name_at (site_names sig d) u = rw type at w in
      let site = name_at-same 32 (site_names sig d) v u (names.sites d) within same.1 there in
      cc
  parts_tell (Partner c v) (To j t) some also read same w s b = absurd (omega arith)
  parts_tell (To k t) Free some also read same w s b = absurd (omega arith)
  parts_tell (To k t) Bound some also read same w s b = absurd (decimal-no_underscore k read.0 (sym w))
  parts_tell (To k t) (Partner c v) some also read same w s b = absurd (omega arith)
  parts_tell (To k t) (To j u) some also read same w s b = let number = decimal-same k j read.0 same.0 w in let one = read.1 in let other = same.1 in cc

  -- the text of a link is of one link
  pub link-same : (x y : LinkTest) → IsRead sig x → IsRead sig y → read_text sig x ≡ read_text sig y → x ≡ y
  link-same x y read same e = by (tests_link x) (tests_link y) refl refl
    where
      by : (a b : Bool) → tests_link x ≡ a → tests_link y ≡ b → x ≡ y
      by false false none also = untested x none ∙ sym (untested y also)
      by false true none also = let empty = untested x none in let full = read_text-some sig y also in absurd (nil_not e (ap (read_text sig) empty) full)
        where
          nil_not : {b : ℕ} {bs : List ℕ} → read_text sig x ≡ read_text sig y → read_text sig x ≡ [] → read_text sig y ≡ b ∷ bs → ⊥
          nil_not e f g = cc
      by true false some none = let empty = untested y none in let full = read_text-some sig x some in absurd (nil_not e full (ap (read_text sig) empty))
        where
          nil_not : {b : ℕ} {bs : List ℕ} → read_text sig x ≡ read_text sig y → read_text sig x ≡ b ∷ bs → read_text sig y ≡ [] → ⊥
          nil_not e f g = cc
      by true true some also =
          let full = read_text-some sig x some in
          let other = read_text-some sig y also in
          let inner : word sig x ++ sign x ∷ behind sig x ≡ word sig y ++ sign y ∷ behind sig y = cc in
          let parts = split-same IsNameByte (word sig x) (word sig y) (sign x) (sign y) (behind sig x) (behind sig y) (word-bytes x read) (word-bytes y same) (no_sign x) (no_sign y) inner in
          parts_tell x y some also read same parts.0 parts.1 parts.2

  -- it has no comma and no closing bracket
  pub link-bytes : (x : LinkTest) → IsRead sig x → AllByRecursion IsInside (read_text sig x)
  link-bytes x read = by (tests_link x) refl
    where
      end : (x : LinkTest) → AllByRecursion IsInside (behind sig x)
      end Any = tt
      end Free = (no_separator 93 (omega arith), tt)
      end Bound = tt
      end (Partner b y) = AllByRecursion-append IsInside (name_at (type_names sig) b) (93 ∷ []) (names_inside _ (name_at-bytes 500 (type_names sig) names.types b)) (no_separator 93 (omega arith), tt)
      end (To k t) = tt

      sign_inside : (x : LinkTest) → IsInside (sign x)
      sign_inside Any = no_separator 93 (omega arith)
      sign_inside Free = no_separator 46 (omega arith)
      sign_inside Bound = no_separator 93 (omega arith)
      sign_inside (Partner b y) = no_separator 46 (omega arith)
      sign_inside (To k t) = no_separator 93 (omega arith)

      by : (b : Bool) → tests_link x ≡ b → AllByRecursion IsInside (read_text sig x)
      by false none = let empty = untested x none in rw empty tt
      by true some = rw (read_text-some sig x some) (no_separator 91 (omega arith), AllByRecursion-append IsInside (word sig x) (sign x ∷ behind sig x) (names_inside (word sig x) (word-bytes x read)) (sign_inside x, end x))

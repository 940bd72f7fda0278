-- Sets of what rows have at a position, each once.
use Rattle.std.proofs.Common.{◌≡◌, ℕ, ◌+◌, ◌≤◌, ◌⊎◌, inl, inr, Bool, true, List, [], ◌∷◌, ◌++◌, length, take, refl, sym, ap, subst, ◌∙◌, arith}
use Rattle.std.specs.Prelude.{Option, Some, None, slice_get, ◌↔◌, nat_eq, ◌==◌, ◌&&◌}
use Rattle.std.specs.Bool.{Decides}
use Rattle.std.specs.List.{list_any}
use Rattle.std.specs.Option.{option_eq}
use Rattle.std.proofs.lemmas.Bool.{cases_Bool}
use Rattle.std.proofs.lemmas.List.{take_all}
use Rattle.std.proofs.lemmas.Bool.Decides.{Decides-eqb, Decides-and}
use Rattle.indexmap.specs.IndexSet.{insert_key}
use Rattle.kasa_lists.specs.Lists.{Has, AllDifferent}
use Rattle.kasa_lists.proofs.Elements.{length-push, take-one_more}
use Rattle.kasa_lists.proofs.Having.{Has-[], Has-later, Has-cons, Has-push, Has-left, Has-last}
use Rattle.kasa_lists.proofs.Different.{AllDifferent-[], AllDifferent-push}
use Rattle.kasa_families.specs.declared.row.Local.{Local}
use Rattle.kasa_families.specs.declared.row.LocalLink.{LocalLink}
use Rattle.kasa_families.specs.declared.row.LocalLink.TheVariants.{Free, Partner}
use Rattle.kasa_families.specs.declared.row.Row.{Row}
use Rattle.kasa_families.specs.declared.row.Row.TheVariants.{Locals, Same, Different}
use Rattle.kasa_families.specs.contracts.row.LocalLinkPartialEq.TheImpl as link
use Rattle.kasa_report.specs.Product.{SomeLocal}
use Rattle.kasa_report.specs.inner.Mixed.{local_of, AreStatesAt, AreLinksAt}

-- ---- the tests of equality

told : {P Q : Type 0} (b : Bool) → Decides b P → (P → Q) → (Q → P) → Decides b Q
told b h to from = (λ e. to (h.0 e), λ q. h.1 (from q))

pub same_state : (s t : Option ℕ) → Decides (option_eq nat_eq s t) (s ≡ t)
same_state None None = (λ e. refl, λ e. refl)
same_state None (Some w) = (λ e. absurd cc, λ e. absurd cc)
same_state (Some u) None = (λ e. absurd cc, λ e. absurd cc)
same_state (Some u) (Some w) = told (u == w) (Decides-eqb u w) (λ e. ap Some e) (λ e. cc)

pub same_link : (s t : LocalLink) → Decides ((link.ghosts).eq s t) (s ≡ t)
same_link Free Free = (λ e. refl, λ e. refl)
same_link Free (Partner b y) = (λ e. absurd cc, λ e. absurd cc)
same_link (Partner a x) Free = (λ e. absurd cc, λ e. absurd cc)
same_link (Partner a x) (Partner b y) =
    told ((a == b) && (x == y)) (Decides-and (a == b) (x == y) (Decides-eqb a b) (Decides-eqb x y)) (λ e. λ i. Partner (e.0 i) (e.1 i)) (λ e. (cc, cc))

-- ---- what an insertion adds

module _ {Y : Type 0} (eq : Y → Y → Bool) (same : (x y : Y) → Decides (eq x y) (x ≡ y)) where
  any_has : (keys : List Y) (y : Y) → list_any (eq y) keys ≡ true → Has keys y
  any_has [] y is = absurd cc
  any_has (x ∷ keys) y is = elim (cases_Bool (eq y x)) [
    | inl e ↦ (0, ap Some (sym ((same y x).0 e)))
    | inr e ↦ Has-later x keys y (any_has keys y (rw e at is))
  ]

  has_any : (keys : List Y) (y : Y) → Has keys y → list_any (eq y) keys ≡ true
  has_any [] y h = absurd (Has-[] y h)
  has_any (x ∷ keys) y h = elim (cases_Bool (eq y x)) [
    | inl e ↦ rw e refl
    | inr e ↦ elim (Has-cons x keys y h) [
      | inl is ↦ (let yes = (same y x).1 is in absurd cc)
      | inr later ↦ rw e (has_any keys y later)
    ]
  ]

  inserted : (keys : List Y) (x y : Y) → Has (insert_key eq keys x) y ↔ (Has keys y ⊎ (y ≡ x))
  inserted keys x y = elim (cases_Bool (list_any (eq x) keys)) [
    | inl e ↦ rw e (λ h. inl h, λ h. elim h [ inl old ↦ old | inr is ↦ subst (Has keys) (sym is) (any_has keys x e) ])
    | inr e ↦ rw e (λ h. Has-push keys x y h, λ h. elim h [ inl old ↦ Has-left keys (x ∷ []) y old | inr is ↦ Has-last keys x y is ])
  ]

  different : (keys : List Y) (x : Y) → AllDifferent keys → AllDifferent (insert_key eq keys x)
  different keys x apart = elim (cases_Bool (list_any (eq x) keys)) [
    | inl e ↦ rw e apart
    | inr e ↦ rw e (AllDifferent-push keys x apart (λ h. let yes = has_any keys x h in cc))
  ]

  few : (keys : List Y) (x : Y) (n : ℕ) → length keys ≤ n → length (insert_key eq keys x) ≤ n + 1
  few keys x n h = elim (cases_Bool (list_any (eq x) keys)) [
    | inl e ↦ rw e (omega arith)
    | inr e ↦ rw e (let more = length-push keys x in omega arith)
  ]

-- ---- what the first n rows have at a position

pub record AreKeys {Y : Type 0} (rows : List Row) (k : ℕ) (h : Local → Y) (n : ℕ) (keys : List Y) : Type 0 where
  pub different : AllDifferent keys
  pub each : (y : Y) → Has keys y ↔ SomeLocal (take n rows) k (λ l. h l ≡ y)
  pub few : length keys ≤ n

local_pushed : (rows : List Row) (row : Row) (k : ℕ) (P : Local → Type 0) → SomeLocal (rows ++ row ∷ []) k P → SomeLocal rows k P ⊎ ((l : Local) × (local_of row k ≡ Some l) × P l)
local_pushed rows row k P (ls, has, l) = elim (Has-push rows row (Locals ls) has) [
  | inl old ↦ inl (ls, old, l)
  | inr is ↦ inr (l.0, subst (λ (r : Row). local_of r k ≡ Some l.0) is l.1, l.2)
]

local_kept : (rows : List Row) (row : Row) (k : ℕ) (P : Local → Type 0) → SomeLocal rows k P → SomeLocal (rows ++ row ∷ []) k P
local_kept rows row k P (ls, has, l) = (ls, Has-left rows (row ∷ []) (Locals ls) has, l)

local_last : (rows : List Row) (row : Row) (k : ℕ) (P : Local → Type 0) (l : Local) → local_of row k ≡ Some l → P l → SomeLocal (rows ++ row ∷ []) k P
local_last rows (Locals ls) k P l at p = (ls, Has-last rows (Locals ls) (Locals ls) refl, (l, at, p))
local_last rows Same k P l at p = absurd cc
local_last rows Different k P l at p = absurd cc

module _ {Y : Type 0} (rows : List Row) (k : ℕ) (h : Local → Y) where
  pub keys_none : AreKeys rows k h 0 []
  keys_none = record { different = AllDifferent-[]; each = λ y. (λ has. absurd (Has-[] y has), λ (ls, has, l). absurd (Has-[] (Locals ls) has)); few = omega arith }

  pub keys_skip : (n : ℕ) (row : Row) (keys : List Y) → slice_get rows n ≡ Some row → None ≡ local_of row k → AreKeys rows k h n keys → AreKeys rows k h (n + 1) keys
  keys_skip n row keys at none before = record {
    different = before.different;
    each = λ y. rw (take-one_more rows n row at) (
      λ has. local_kept (take n rows) row k (λ l. h l ≡ y) ((before.each y).0 has),
      λ some. elim (local_pushed (take n rows) row k (λ l. h l ≡ y) some) [
        | inl old ↦ (before.each y).1 old
        | inr (l, here, is) ↦ absurd (let clash : None ≡ Some l = none ∙ here in cc)
      ],
    );
    few = let few = before.few in omega arith;
  }

  pub keys_more : (eq : Y → Y → Bool) (same : (x y : Y) → Decides (eq x y) (x ≡ y)) (n : ℕ) (row : Row) (l : Local) (keys new : List Y) → slice_get rows n ≡ Some row → Some l ≡ local_of row k → new ≡ insert_key eq keys (h l) →
      AreKeys rows k h n keys → AreKeys rows k h (n + 1) new
  keys_more eq same n row l keys new at here inserts before = rw inserts record {
    different = different eq same keys (h l) before.different;
    each = λ y. rw (take-one_more rows n row at) (
      (λ has. elim ((inserted eq same keys (h l) y).0 has) [
        | inl old ↦ local_kept (take n rows) row k (λ o. h o ≡ y) ((before.each y).0 old)
        | inr is ↦ local_last (take n rows) row k (λ o. h o ≡ y) l (sym here) (sym is)
      ]),
      (λ some. (inserted eq same keys (h l) y).1 (elim (local_pushed (take n rows) row k (λ o. h o ≡ y) some) [
        | inl old ↦ inl ((before.each y).1 old)
        | inr (o, there, is) ↦ (let twice : Some l ≡ Some o = here ∙ there in let one : l ≡ o = cc in inr (sym is ∙ ap h (sym one)))
      ])),
    );
    few = few eq same keys (h l) n before.few;
  }

-- ---- all rows

pub states_found : (rows : List Row) (k n : ℕ) (keys : List (Option ℕ)) (count : ℕ) → length rows ≤ n → AreKeys rows k (λ (l : Local). l.state) n keys → count ≡ length keys → (states : List (Option ℕ)) × AreStatesAt rows k states × (count ≡ length states)
states_found rows k n keys count end found size = (keys, record { different = found.different; each = λ s. rw (take_all n rows end) at (found.each s) }, size)

pub links_found : (rows : List Row) (k n : ℕ) (keys : List LocalLink) (count : ℕ) → length rows ≤ n → AreKeys rows k (λ (l : Local). l.link) n keys → count ≡ length keys → (links : List LocalLink) × AreLinksAt rows k links × (count ≡ length links)
links_found rows k n keys count end found size = (keys, record { different = found.different; each = λ s. rw (take_all n rows end) at (found.each s) }, size)

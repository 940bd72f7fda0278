-- The tests of equality on sites, families and rows answer whether the two are equal.
use Rattle.std.specs.Prelude.{◌≡◌, ℕ, List, Option, Some, None, refl, Bool, nat_eq, ◌==◌, ◌&&◌}
use Rattle.std.specs.Bool.{Decides}
use Rattle.std.specs.Cmp.Lexicographic.{pointwise, pointwise_decides, bytes_decides}
use Rattle.std.specs.Option.{option_eq}
use Rattle.std.proofs.Common.{ap}
use Rattle.std.proofs.lemmas.Bool.Decides.{Decides-eqb, Decides-and}
use Rattle.kasa_families.specs.declared.family.Family.{Family}
use Rattle.kasa_families.specs.declared.family.Family.TheVariants.{View, Across, Parallel, Chain}
use Rattle.kasa_families.specs.declared.row.LocalLink.{LocalLink}
use Rattle.kasa_families.specs.declared.row.LocalLink.TheVariants.{Free, Partner}
use Rattle.kasa_families.specs.declared.row.Local.{Local}
use Rattle.kasa_families.specs.declared.row.Row.{Row}
use Rattle.kasa_families.specs.declared.row.Row.TheVariants.{Locals, Same, Different}
use Rattle.kasa_families.specs.contracts.row.RowPartialEq.TheImpl as rows
use Rattle.kasa_families.specs.contracts.row.LocalPartialEq.TheImpl as local
use Rattle.kasa_families.specs.contracts.row.LocalLinkPartialEq.TheImpl as link
use Rattle.kasa_families.specs.contracts.family.FamilyPartialEq.TheImpl as families

-- a test of one fact decides another that is equivalent to it
told : {P Q : Type 0} (b : Bool) → Decides b P → (P → Q) → (Q → P) → Decides b Q
told b h to from = (λ e. to (h.0 e), λ q. h.1 (from q))

-- ---- rows

same_state : (l k : Option ℕ) → Decides (option_eq nat_eq l k) (l ≡ k)
same_state None None = (λ e. refl, λ e. refl)
same_state None (Some w) = (λ e. absurd cc, λ e. absurd cc)
same_state (Some u) None = (λ e. absurd cc, λ e. absurd cc)
same_state (Some u) (Some w) = told (u == w) (Decides-eqb u w) (λ e. ap Some e) (λ e. cc)

same_link : (l k : LocalLink) → Decides ((link.ghosts).eq l k) (l ≡ k)
same_link Free Free = (λ e. refl, λ e. refl)
same_link Free (Partner b y) = (λ e. absurd cc, λ e. absurd cc)
same_link (Partner a x) Free = (λ e. absurd cc, λ e. absurd cc)
same_link (Partner a x) (Partner b y) =
    told ((a == b) && (x == y)) (Decides-and (a == b) (x == y) (Decides-eqb a b) (Decides-eqb x y)) (λ e. λ i. Partner (e.0 i) (e.1 i)) (λ e. (cc, cc))

pub same_local : (l k : Local) → Decides ((local.ghosts).eq l k) (l ≡ k)
same_local l k =
    told ((local.ghosts).eq l k) (Decides-and _ _ (same_state l.state k.state) (same_link l.link k.link))
    (λ e. λ i. record { state = e.0 i; link = e.1 i }) (λ e. (ap (λ (l : Local). l.state) e, ap (λ (l : Local). l.link) e))

pub same_row : (row other : Row) → Decides ((rows.ghosts).eq row other) (row ≡ other)
same_row (Locals ls) (Locals ks) = told (pointwise (local.ghosts).eq ls ks) (pointwise_decides same_local ls ks) (λ e. ap Locals e) (λ e. cc)
same_row (Locals ls) Same = (λ e. absurd cc, λ e. absurd cc)
same_row (Locals ls) Different = (λ e. absurd cc, λ e. absurd cc)
same_row Same (Locals ks) = (λ e. absurd cc, λ e. absurd cc)
same_row Same Same = (λ e. refl, λ e. refl)
same_row Same Different = (λ e. absurd cc, λ e. absurd cc)
same_row Different (Locals ks) = (λ e. absurd cc, λ e. absurd cc)
same_row Different Same = (λ e. absurd cc, λ e. absurd cc)
same_row Different Different = (λ e. refl, λ e. refl)

-- ---- families

pub same_sites : (sites others : List ℕ) → Decides (pointwise nat_eq sites others) (sites ≡ others)
same_sites = bytes_decides

six : (a x p b y q a' x' p' b' y' q' : ℕ) → Decides ((a == a') && ((x == x') && ((p == p') && ((b == b') && ((y == y') && (q == q')))))) ((a ≡ a') × ((x ≡ x') × ((p ≡ p') × ((b ≡ b') × ((y ≡ y') × (q ≡ q'))))))
six a x p b y q a' x' p' b' y' q' =
    Decides-and _ _ (Decides-eqb a a') (Decides-and _ _ (Decides-eqb x x') (Decides-and _ _ (Decides-eqb p p') (Decides-and _ _ (Decides-eqb b b') (Decides-and _ _ (Decides-eqb y y') (Decides-eqb q q')))))

nine : (a x p b y z c w q a' x' p' b' y' z' c' w' q' : ℕ) → Decides ((a == a') && ((x == x') && ((p == p') && ((b == b') && ((y == y') && ((z == z') && ((c == c') && ((w == w') && (q == q')))))))))
    ((a ≡ a') × ((x ≡ x') × ((p ≡ p') × ((b ≡ b') × ((y ≡ y') × ((z ≡ z') × ((c ≡ c') × ((w ≡ w') × (q ≡ q')))))))))
nine a x p b y z c w q a' x' p' b' y' z' c' w' q' =
    Decides-and _ _ (Decides-eqb a a') (Decides-and _ _ (Decides-eqb x x') (Decides-and _ _ (Decides-eqb p p') (Decides-and _ _ (Decides-eqb b b') (Decides-and _ _ (Decides-eqb y y') (Decides-and _ _ (Decides-eqb z z') (Decides-and _ _ (Decides-eqb c c') (Decides-and _ _ (Decides-eqb w w') (Decides-eqb q q'))))))))

pub same_family : (family other : Family) → Decides ((families.ghosts).eq family other) (family ≡ other)
same_family (View a sites) (View b others) =
    told ((a == b) && pointwise nat_eq sites others) (Decides-and _ _ (Decides-eqb a b) (same_sites sites others)) (λ e. λ i. View (e.0 i) (e.1 i)) (λ e. (cc, cc))
same_family (Across a x p b y q) (Across a' x' p' b' y' q') =
    told ((families.ghosts).eq (Across a x p b y q) (Across a' x' p' b' y' q')) (six a x p b y q a' x' p' b' y' q') (λ e. λ i. Across (e.0 i) (e.1.0 i) (e.1.1.0 i) (e.1.1.1.0 i) (e.1.1.1.1.0 i) (e.1.1.1.1.1 i)) (λ e. (cc, (cc, (cc, (cc, (cc, cc))))))
same_family (Parallel a x p b y q) (Parallel a' x' p' b' y' q') =
    told ((families.ghosts).eq (Parallel a x p b y q) (Parallel a' x' p' b' y' q')) (six a x p b y q a' x' p' b' y' q') (λ e. λ i. Parallel (e.0 i) (e.1.0 i) (e.1.1.0 i) (e.1.1.1.0 i) (e.1.1.1.1.0 i) (e.1.1.1.1.1 i)) (λ e. (cc, (cc, (cc, (cc, (cc, cc))))))
same_family (Chain a x p b y z c w q) (Chain a' x' p' b' y' z' c' w' q') =
    told ((families.ghosts).eq (Chain a x p b y z c w q) (Chain a' x' p' b' y' z' c' w' q')) (nine a x p b y z c w q a' x' p' b' y' z' c' w' q')
    (λ e. λ i. Chain (e.0 i) (e.1.0 i) (e.1.1.0 i) (e.1.1.1.0 i) (e.1.1.1.1.0 i) (e.1.1.1.1.1.0 i) (e.1.1.1.1.1.1.0 i) (e.1.1.1.1.1.1.1.0 i) (e.1.1.1.1.1.1.1.1 i)) (λ e. (cc, (cc, (cc, (cc, (cc, (cc, (cc, (cc, cc)))))))))
-- two kinds
same_family family other = (λ e. absurd cc, λ e. absurd cc)

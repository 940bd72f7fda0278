-- The shapes of valid families are valid. Here alone each kind has a case of its own.
use Rattle.std.proofs.Common.{◌≡◌, ◌≢◌, ℕ, zero, suc, ◌<◌, ◌≤◌, List, [], ◌∷◌, length, map, refl, sym, ap, arith}
use Rattle.std.specs.Prelude.{Some, slice_get}
use Rattle.std.specs.List.{AllByRecursion}
use Rattle.std.specs.Option.{option_map_or}
use Rattle.std.proofs.lemmas.List.{length-map}
use Rattle.kasa_graph.specs.Signature.{TypeEntry, sites_of, state_counts, HasSite}
use Rattle.kasa_graph.specs.Lists.{AllDifferent}
use Rattle.kasa_graph.proofs.ListLemmas.{AllDifferent-head, AllDifferent-tail}
use Rattle.kasa_families.specs.declared.family.Family.{Family}
use Rattle.kasa_families.specs.declared.family.Family.TheVariants.{View, Across, Parallel, Chain}
use Rattle.kasa_families.specs.declared.shape.NodeSite.{NodeSite}
use Rattle.kasa_families.specs.declared.shape.Bond.{Bond}
use Rattle.kasa_families.specs.Shape.{Nth, at, bond, AreApart, IsReached, IsShape}
use Rattle.kasa_families.specs.Family.{IsFamily, shape_of, same, different}
use Rattle.kasa_families.proofs.RowTests.{AllDifferent-ascends}

-- a type that has a site is one of the signature's
pub HasSite-known : (sig : List TypeEntry) (a s : ℕ) → HasSite sig a s → a < length sig
unfolding state_counts sites_of
HasSite-known sig a s has = known sig a has
  where
    known : (types : List TypeEntry) (i : ℕ) → s < length (map (λ x. length x.states) (option_map_or (λ t. t.sites) (slice_get types i) [])) → i < length types
    known [] i h = absurd (omega arith)
    known (t ∷ types) zero h = omega arith
    known (t ∷ types) (suc i) h = let below = known types i h in omega arith

-- sites of two nodes are different, and so are two sites
node_ne : (n s m t : ℕ) → n ≢ m → at n s ≢ at m t
node_ne n s m t ne e = ne (ap (λ (r : NodeSite). r.node) e)

pub site_ne : (n s m t : ℕ) → s ≢ t → at n s ≢ at m t
site_ne n s m t ne e = ne (ap (λ (r : NodeSite). r.site) e)

view_sites : (sig : List TypeEntry) (a : ℕ) (sites : List ℕ) → ((k s : ℕ) → slice_get sites k ≡ Some s → HasSite sig a s) → AllByRecursion (λ s. Nth (a ∷ []) s.node (λ a. HasSite sig a s.site)) (map (at 0) sites)
view_sites sig a [] has = tt
view_sites sig a (s ∷ sites) has = (has 0 s refl, view_sites sig a sites (λ k. has (suc k)))

view_apart : (sites : List ℕ) → AllDifferent sites → AreApart (map (at 0) sites)
view_apart [] different = tt
view_apart (s ∷ sites) different = (out sites (λ i. AllDifferent-head s sites i different), view_apart sites (AllDifferent-tail s sites different))
  where
    out : (others : List ℕ) → ((i : ℕ) → slice_get others i ≢ Some s) → AllByRecursion (λ t. at 0 s ≢ t) (map (at 0) others)
    out [] ne = tt
    out (t ∷ others) ne = (site_ne 0 s 0 t (λ e. ne 0 (ap Some (sym e))), out others (λ i. ne (suc i)))

two_nodes : (bonds : List Bond) → IsReached bonds 1 → (n : ℕ) → suc n < 2 → IsReached bonds (suc n)
two_nodes bonds first zero h = first
two_nodes bonds first (suc n) h = absurd (omega arith)

three_nodes : (bonds : List Bond) → IsReached bonds 1 → IsReached bonds 2 → (n : ℕ) → suc n < 3 → IsReached bonds (suc n)
three_nodes bonds first second zero h = first
three_nodes bonds first second (suc zero) h = second
three_nodes bonds first second (suc (suc n)) h = absurd (omega arith)

pub IsShape-same : (sig : List TypeEntry) (a x u b y w : ℕ) → IsFamily sig (Parallel a x u b y w) → IsShape sig (same a x u b y w)
IsShape-same sig a x u b y w ok = record {
  some = omega arith;
  types = (HasSite-known sig a x ok.0, (HasSite-known sig b y ok.2, tt));
  sites = (ok.0, (ok.2, (ok.1, (ok.3, tt))));
  apart = (
    (node_ne 0 x 1 y (λ e. cc), (site_ne 0 x 0 u ok.5, (node_ne 0 x 1 w (λ e. cc), tt))),
    ((node_ne 1 y 0 u (λ e. cc), (site_ne 1 y 1 w ok.6, tt)), ((node_ne 0 u 1 w (λ e. cc), tt), (tt, tt))),
  );
  joined = two_nodes (same a x u b y w).bonds (bond 0 x 1 y, (0, refl), refl, omega arith);
}

pub IsShape-different : (sig : List TypeEntry) (a x u b y w : ℕ) → IsFamily sig (Parallel a x u b y w) → IsShape sig (different a x u b y w)
IsShape-different sig a x u b y w ok = record {
  some = omega arith;
  types = (HasSite-known sig a x ok.0, (HasSite-known sig b y ok.2, (HasSite-known sig b y ok.2, tt)));
  sites = (ok.0, (ok.2, (ok.1, (ok.3, tt))));
  apart = (
    (node_ne 0 x 1 y (λ e. cc), (site_ne 0 x 0 u ok.5, (node_ne 0 x 2 w (λ e. cc), tt))),
    ((node_ne 1 y 0 u (λ e. cc), (node_ne 1 y 2 w (λ e. cc), tt)), ((node_ne 0 u 2 w (λ e. cc), tt), (tt, tt))),
  );
  joined = three_nodes (different a x u b y w).bonds (bond 0 x 1 y, (0, refl), refl, omega arith) (bond 0 u 2 w, (1, refl), refl, omega arith);
}

pub IsShape-of : (sig : List TypeEntry) (family : Family) → IsFamily sig family → IsShape sig (shape_of family)
IsShape-of sig (View a sites) ok = record {
  some = omega arith;
  types = (ok.0, tt);
  sites = view_sites sig a sites ok.1;
  apart = view_apart sites (AllDifferent-ascends sites ok.2);
  joined = λ n h. absurd (omega arith);
}
IsShape-of sig (Across a x p b y q) ok = record {
  some = omega arith;
  types = (HasSite-known sig a x ok.0, (HasSite-known sig b y ok.2, tt));
  sites = (ok.0, (ok.2, (ok.1, (ok.3, tt))));
  apart = (
    (node_ne 0 x 1 y (λ e. cc), (site_ne 0 x 0 p (λ e. ok.4 (sym e)), (node_ne 0 x 1 q (λ e. cc), tt))),
    ((node_ne 1 y 0 p (λ e. cc), (site_ne 1 y 1 q (λ e. ok.5 (sym e)), tt)), ((node_ne 0 p 1 q (λ e. cc), tt), (tt, tt))),
  );
  joined = two_nodes (shape_of (Across a x p b y q)).bonds (bond 0 x 1 y, (0, refl), refl, omega arith);
}
IsShape-of sig (Parallel a x u b y w) ok = IsShape-same sig a x u b y w ok
IsShape-of sig (Chain a x p b y z c w q) ok = record {
  some = omega arith;
  types = (HasSite-known sig a x ok.0, (HasSite-known sig b y ok.2, (HasSite-known sig c w ok.4, tt)));
  sites = (ok.0, (ok.2, (ok.3, (ok.4, (ok.1, (ok.5, tt))))));
  apart = (
    (node_ne 0 x 1 y (λ e. cc), (node_ne 0 x 1 z (λ e. cc), (node_ne 0 x 2 w (λ e. cc), (site_ne 0 x 0 p (λ e. ok.6 (sym e)), (node_ne 0 x 2 q (λ e. cc), tt))))),
    (
      (site_ne 1 y 1 z ok.7, (node_ne 1 y 2 w (λ e. cc), (node_ne 1 y 0 p (λ e. cc), (node_ne 1 y 2 q (λ e. cc), tt)))),
      (
        (node_ne 1 z 2 w (λ e. cc), (node_ne 1 z 0 p (λ e. cc), (node_ne 1 z 2 q (λ e. cc), tt))),
        ((node_ne 2 w 0 p (λ e. cc), (site_ne 2 w 2 q (λ e. ok.8 (sym e)), tt)), ((node_ne 0 p 2 q (λ e. cc), tt), (tt, tt))),
      ),
    ),
  );
  joined = three_nodes (shape_of (Chain a x p b y z c w q)).bonds (bond 0 x 1 y, (0, refl), refl, omega arith) (bond 1 z 2 w, (1, refl), refl, omega arith);
}

pub few_types : (family : Family) → length (shape_of family).types ≤ 3
few_types (View a sites) = omega arith
few_types (Across a x p b y q) = omega arith
few_types (Parallel a x u b y w) = omega arith
few_types (Chain a x p b y z c w q) = omega arith

pub some_types : (family : Family) → 0 < length (shape_of family).types
some_types (View a sites) = omega arith
some_types (Across a x p b y q) = omega arith
some_types (Parallel a x u b y w) = omega arith
some_types (Chain a x p b y z c w q) = omega arith

-- a valid family has few columns
pub few_columns : (sig : List TypeEntry) (family : Family) → IsFamily sig family → length (shape_of family).columns ≤ 16
few_columns sig (View a sites) valid = rw (length-map sites (at 0)) valid.3
few_columns sig (Across a x p b y q) valid = omega arith
few_columns sig (Parallel a x u b y w) valid = omega arith
few_columns sig (Chain a x p b y z c w q) valid = omega arith

-- By which open sites a test can be freed.
use Rattle.std.proofs.Common.{◌≡◌, ◌≢◌, ℕ, ◌+◌, ◌≤◌, ◌↔◌, true, false, List, [], ◌∷◌, ◌++◌, length, refl, sym, ◌∙◌, arith}
use Rattle.std.specs.Prelude.{Option, Some, None, slice_get, is_some}
use Rattle.std.proofs.lemmas.Option.{slice_get_within, same_Some}
use Rattle.kasa_graph.specs.declared.pattern.Node.{Node}
use Rattle.kasa_graph.specs.declared.pattern.LinkTest.TheVariants.{Free}
use Rattle.kasa_graph.specs.Lists.{Has}
use Rattle.kasa_graph.specs.Pattern.{link_test}
use Rattle.kasa_families.specs.declared.shape.NodeSite.{NodeSite}
use Rattle.kasa_rules.specs.declared.rule.Written.{Written}
use Rattle.kasa_pre.specs.declared.Stand.{Stand}
use Rattle.kasa_pre.specs.declared.FreedBy.{FreedBy}
use Rattle.kasa_pre.specs.Before.{link_written}
use Rattle.kasa_influence.specs.inner.Ask.{Asked, IsAsked}
use Rattle.kasa_influence.specs.inner.Makes.{AreFrom, source_of, IsSource}
use Rattle.kasa_influence.specs.inner.Search.{Adds}
use Rattle.kasa_influence.proofs.AddsLemmas.{Below, Adds-push, Adds-more, Adds-all, Adds-same}

-- the source by the open site of a number
abbrev pub SourceOf : List NodeSite → ℕ → ℕ → FreedBy → Type 0
SourceOf xs s k f = (x : NodeSite) × (slice_get xs k ≡ Some x) × (f ≡ source_of s x)

module _ (xs : List NodeSite) (s : ℕ) where
  pub source-more : (k : ℕ) (x : NodeSite) (found : List FreedBy) → slice_get xs k ≡ Some x → Adds (Below (SourceOf xs s) k) [] found → Adds (Below (SourceOf xs s) (k + 1)) [] (found ++ source_of s x ∷ [])
  source-more k x found at before =
      Adds-more (SourceOf xs s) k [] found _ before (Adds-push (SourceOf xs s k) found (source_of s x) (λ f. (
        λ p. (let same : p.0 ≡ x = same_Some p.0 x (sym p.1 ∙ at) in rw (← same) (sym p.2)),
        λ e. (x, at, sym e),
      )))

  pub source-all : (k : ℕ) (found : List FreedBy) → length xs ≤ k → Adds (Below (SourceOf xs s) k) [] found → (f : FreedBy) → Has found f ↔ AreFrom (λ x f. f ≡ source_of s x) xs f
  source-all k found past added = Adds-all (AreFrom (λ x f. f ≡ source_of s x) xs) found (Adds-same (Below (SourceOf xs s) k) (AreFrom (λ x f. f ≡ source_of s x) xs) [] found (λ f. (
    λ b. (b.2.0, (b.0, b.2.1), b.2.2),
    λ from. (from.1.0, (let within = slice_get_within xs from.1.0 from.0 from.1.1 in omega arith), (from.0, from.1.1, from.2)),
  )) added)

module _ (a : Asked) (ok : IsAsked a) (v : List Node) (stand : Stand) (s : ℕ) where
  pub sources-all : link_test v 0 s ≡ Free → link_written a.rule stand s ≡ None → (f : FreedBy) → AreFrom (λ x f. f ≡ source_of s x) a.open_sites f ↔ IsSource a.rule v stand s f
  sources-all test unwritten f = (there, back)
    where
      there : AreFrom (λ x f. f ≡ source_of s x) a.open_sites f → IsSource a.rule v stand s f
      there (x, has, e) = rw e (record { first = refl; at_site = refl; test = test; unwritten = unwritten; opened = (ok.listed x).0 has })

      back : IsSource a.rule v stand s f → AreFrom (λ x f. f ≡ source_of s x) a.open_sites f
      back is = (record { node = f.from; site = f.«at» }, (ok.listed _).1 is.opened, λ i. record { node = is.first i; site = is.at_site i; from = f.from; «at» = f.«at» })

pub no_source : {P : FreedBy → Type 0} → ((f : FreedBy) → ¬ P f) → (f : FreedBy) → Has [] f ↔ P f
no_source none f = (λ has. absurd (let e = has.1 in cc), λ p. absurd (none f p))

pub not_written : (o : Option Written) → is_some o ≡ false → o ≡ None
not_written None e = refl
not_written (Some w) e = absurd cc

pub was_written : (o : Option Written) → is_some o ≡ true → o ≢ None
was_written None e f = cc
was_written (Some w) e f = cc

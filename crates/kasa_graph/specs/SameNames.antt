-- When two signatures have the same names in the same order, as tests.
use Rattle.std.specs.Prelude.{ℕ, Bool, List, nat_eq}
use Rattle.std.specs.Ordering.{on, eq_of_both}
use Rattle.std.specs.Cmp.{IsEquivalence, and_equiv, on_equiv, nat_eq_equiv}
use Rattle.std.specs.Cmp.Lexicographic.{pointwise, lists_equiv}
use Rattle.kasa_graph.specs.Signature.{SiteEntry, TypeEntry}

abbrev pub same_name : List ℕ → List ℕ → Bool
same_name = pointwise nat_eq

-- sites of one name, with the same states
abbrev pub same_site : SiteEntry → SiteEntry → Bool
same_site = eq_of_both (on (λ x. x.name) same_name) (on (λ x. x.states) (pointwise same_name))

-- types of one name, with the same sites
abbrev pub same_type : TypeEntry → TypeEntry → Bool
same_type = eq_of_both (on (λ x. x.name) same_name) (on (λ x. x.sites) (pointwise same_site))

-- ---- these tests are equivalences

same_name_equiv : IsEquivalence same_name
same_name_equiv = lists_equiv nat_eq_equiv

same_site_equiv : IsEquivalence same_site
same_site_equiv = and_equiv (on_equiv (λ x. x.name) same_name_equiv) (on_equiv (λ x. x.states) (lists_equiv same_name_equiv))

pub same_types_equiv : IsEquivalence (pointwise same_type)
same_types_equiv = lists_equiv (and_equiv (on_equiv (λ x. x.name) same_name_equiv) (on_equiv (λ x. x.sites) (lists_equiv same_site_equiv)))

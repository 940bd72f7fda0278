use Rattle.std.proofs.Common.{◌≡◌, sym, ap, ◌∙◌, Some, rules, ℕ}
use Rattle.std.specs.Prelude.{slice_get}
use Rattle.kasa_families.specs.declared.family.Family.TheVariants.{View}
use Rattle.kasa_families.specs.Table.{families_of}
use Rattle.kasa_columns.specs.Ask.{Ask, IsAsk}
use Rattle.kasa_columns.proofs.Held.{lists_in_view}
use Rattle.kasa_columns.proofs.Pushing.{both_ways}
use Rattle.kasa_columns.proofs.chosen.states_in.Goals as goal

pub returns-in_ok-states_at-in-Some : goal.returns-in_ok-states_at-in-Some
returns-in_ok-states_at-in-Some g c =
    let ok : IsAsk c.args.search.now = rw (← c.search.view_is) c.search.invariant in
    let tables = ap (λ (a : Ask). a.tables) c.search.view_is in
    let agent : c.in-Some-View.of ≡ c.args.agent = search rules in
    let named : slice_get (families_of c.args.search.now.tables) c.args.f ≡ Some (View c.args.agent c.in-Some-View.sites) = rw (← tables) (sym c.in-Some-View.ensures ∙ ap Some c.in-Some-View.field-0-is ∙ ap (λ (a : ℕ). Some (View a c.in-Some-View.sites)) agent) in
    let at : slice_get c.in-Some-View.sites c.in-Some.place ≡ Some c.args.site = rw c.as_slice.ensures at (rw c.in-Some.is at c.place_in.ensures) in (
      c.in-Some-View.sites,
      (c.in-Some.place, at),
      (c.args.f, named),
      λ l. both_ways (c.in_ok-states_at-in-Some.ensures l) (lists_in_view c.args.search.now.sig c.args.search.now.tables ok.valid c.args.f c.args.agent c.args.site c.in-Some.place c.in-Some-View.sites named at l),
    )

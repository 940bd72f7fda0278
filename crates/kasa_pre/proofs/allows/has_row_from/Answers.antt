use Rattle.std.proofs.Common.{◌≡◌, sym}
use Rattle.std.specs.Prelude.{Some, slice_get}
use Rattle.kasa_families.specs.Table.{families_of}
use Rattle.kasa_families.proofs.TableLemmas.{IsFamily-of_tables}
use Rattle.kasa_pre.proofs.SpotPlaces.{HasNamedSites-over}
use Rattle.kasa_pre.proofs.AllowsLemmas.{IsNumberAllowedFrom-spot}
use Rattle.kasa_pre.proofs.allows.has_row_from.Goals as goal

pub spot_from-requires-clause-family : goal.spot_from-requires-clause-family
spot_from-requires-clause-family g c =
    let named : slice_get (families_of (g.R.Rows.tables c.args.rows.now)) c.args.f ≡ Some c.in-Some.family.now = sym (rw c.in-Some.is at c.family.ensures) in
    IsFamily-of_tables c.args.sig.now (g.R.Rows.tables c.args.rows.now) c.requires.tables c.in-Some.family.now (c.args.f, named)

pub has_row_at-requires : goal.has_row_at-requires
has_row_at-requires g c =
    let named : slice_get (families_of (g.R.Rows.tables c.args.rows.now)) c.args.f ≡ Some c.in-Some.family.now = sym (rw c.in-Some.is at c.family.ensures) in
    let valid = IsFamily-of_tables c.args.sig.now (g.R.Rows.tables c.args.rows.now) c.requires.tables c.in-Some.family.now (c.args.f, named) in (
      c.in-Some.family.now,
      named,
      record { sig = c.args.sig.now; valid = valid; stands = c.in-Some-spot_from.ensures.0.stands },
      HasNamedSites-over c.args.sig.now c.args.g.now c.in-Some.family.now c.requires.over valid,
    )

pub returns-in-Some-spot_from : goal.returns-in-Some-spot_from
returns-in-Some-spot_from g c =
    let named : slice_get (families_of (g.R.Rows.tables c.args.rows.now)) c.args.f ≡ Some c.in-Some.family.now = sym (rw c.in-Some.is at c.family.ensures) in
    IsNumberAllowedFrom-spot c.args.sig.now (g.R.Rows.tables c.args.rows.now) c.requires.tables c.args.g.now c.args.node c.args.f c.in-Some.family.now c.in-Some-spot_from.spot c.has_row_at.result named c.in-Some-spot_from.ensures c.has_row_at.ensures

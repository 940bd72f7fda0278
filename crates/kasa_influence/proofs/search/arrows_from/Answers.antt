use Rattle.std.proofs.Common.{◌≡◌, ◌<◌, length, refl, ap}
use Rattle.std.specs.Prelude.{Some, slice_get}
use Rattle.std.proofs.lemmas.Option.{slice_get_read}
use Rattle.std.proofs.lemmas.Result.{IfOk-weaker}
use Rattle.kasa_rules.specs.declared.model.Model.{Model}
use Rattle.kasa_pre.specs.Allowed.{IsAllowed}
use Rattle.kasa_influence.specs.inner.Ask.{Asked}
use Rattle.kasa_influence.specs.inner.Search.{IsGainFrom, IsLossFrom, IsGainAmong, IsLossAmong, Adds}
use Rattle.kasa_influence.proofs.AddsLemmas.{Adds-none, Adds-same}
use Rattle.kasa_influence.proofs.ArrowLemmas.{no_gains, no_losses, gains_found, losses_found, gains_all, losses_all}
use Rattle.kasa_influence.proofs.search.arrows_from.Goals as goal

pub is_live-requires-clause-over : goal.is_live-requires-clause-over
is_live-requires-clause-over g c =
    let within : c.args.from < length c.as_slice.result.now = rw c.as_slice.ensures (rw (← c.model.view_is) at c.requires.exists) in
    let here : slice_get c.as_slice.result.now c.args.from ≡ Some c.index-as_slice-from.result = slice_get_read c.as_slice.result.now _ c.args.from c.index-as_slice-from.result refl within (rw c.from.view_is at c.index-as_slice-from.is) in
    let at : slice_get c.model.inside.rules c.args.from ≡ Some c.index-as_slice-from.result = rw c.as_slice.ensures at here in
    c.model.invariant.0.rules c.args.from c.index-as_slice-from.result at

pub open_sites-requires : goal.open_sites-requires
open_sites-requires g c =
    let within : c.args.from < length c.as_slice.result.now = rw c.as_slice.ensures (rw (← c.model.view_is) at c.requires.exists) in
    let here : slice_get c.as_slice.result.now c.args.from ≡ Some c.index-as_slice-from.result = slice_get_read c.as_slice.result.now _ c.args.from c.index-as_slice-from.result refl within (rw c.from.view_is at c.index-as_slice-from.is) in
    let at : slice_get c.model.inside.rules c.args.from ≡ Some c.index-as_slice-from.result = rw c.as_slice.ensures at here in
    c.model.invariant.0.rules c.args.from c.index-as_slice-from.result at

pub returns-then-not-is_live-clause-positive : goal.returns-then-not-is_live-clause-positive
returns-then-not-is_live-clause-positive g c =
    let within : c.args.from < length c.as_slice.result.now = rw c.as_slice.ensures (rw (← c.model.view_is) at c.requires.exists) in
    let here : slice_get c.as_slice.result.now c.args.from ≡ Some c.index-as_slice-from.result = slice_get_read c.as_slice.result.now _ c.args.from c.index-as_slice-from.result refl within (rw c.from.view_is at c.index-as_slice-from.is) in
    let at : slice_get c.model.inside.rules c.args.from ≡ Some c.index-as_slice-from.result = rw c.as_slice.ensures at here in
    Adds-none (IsGainFrom c.args.model.now (g.R.Rows.tables c.args.rows.now) c.args.from) c.args.found.now.positive.items
    (rw (← c.model.view_is) (no_gains (record { sig = c.model.inside.sig; inits = c.model.inside.inits; added = c.model.inside.added; rules = c.model.inside.rules }) (g.R.Rows.tables c.args.rows.now) c.args.from c.index-as_slice-from.result at (c.if-not-is_live.ensures.dead)))

pub returns-then-not-is_live-clause-negative : goal.returns-then-not-is_live-clause-negative
returns-then-not-is_live-clause-negative g c =
    let within : c.args.from < length c.as_slice.result.now = rw c.as_slice.ensures (rw (← c.model.view_is) at c.requires.exists) in
    let here : slice_get c.as_slice.result.now c.args.from ≡ Some c.index-as_slice-from.result = slice_get_read c.as_slice.result.now _ c.args.from c.index-as_slice-from.result refl within (rw c.from.view_is at c.index-as_slice-from.is) in
    let at : slice_get c.model.inside.rules c.args.from ≡ Some c.index-as_slice-from.result = rw c.as_slice.ensures at here in
    Adds-none (IsLossFrom c.args.model.now (g.R.Rows.tables c.args.rows.now) c.args.from) c.args.found.now.negative.items
    (rw (← c.model.view_is) (no_losses (record { sig = c.model.inside.sig; inits = c.model.inside.inits; added = c.model.inside.added; rules = c.model.inside.rules }) (g.R.Rows.tables c.args.rows.now) c.args.from c.index-as_slice-from.result at (c.if-not-is_live.ensures.dead)))

pub invariant_of-ask : goal.invariant_of-ask
invariant_of-ask g c =
    let within : c.args.from < length c.as_slice.result.now = rw c.as_slice.ensures (rw (← c.model.view_is) at c.requires.exists) in
    let here : slice_get c.as_slice.result.now c.args.from ≡ Some c.index-as_slice-from.result = slice_get_read c.as_slice.result.now _ c.args.from c.index-as_slice-from.result refl within (rw c.from.view_is at c.index-as_slice-from.is) in
    let at : slice_get c.model.inside.rules c.args.from ≡ Some c.index-as_slice-from.result = rw c.as_slice.ensures at here in
    record {
      valid = rw (← c.model.view_is) at c.requires.tables;
      over = c.model.invariant.0.rules c.args.from c.index-as_slice-from.result at;
      few = (c.model.invariant.1.few_agents c.args.from c.index-as_slice-from.result at).few_left;
      listed = rw c.as_slice-2.ensures.value c.in_ok-open_sites.ensures;
    }

pub try_lones-requires-clause-lones : goal.try_lones-requires-clause-lones
try_lones-requires-clause-lones g c = λ l has. (c.requires.lones l).0 has

pub returns-clause-positive : goal.returns-clause-positive
returns-clause-positive g c =
    let within : c.args.from < length c.as_slice.result.now = rw c.as_slice.ensures (rw (← c.model.view_is) at c.requires.exists) in
    let here : slice_get c.as_slice.result.now c.args.from ≡ Some c.index-as_slice-from.result = slice_get_read c.as_slice.result.now _ c.args.from c.index-as_slice-from.result refl within (rw c.from.view_is at c.index-as_slice-from.is) in
    let at : slice_get c.model.inside.rules c.args.from ≡ Some c.index-as_slice-from.result = rw c.as_slice.ensures at here in
    let there : slice_get c.args.model.now.rules c.args.from ≡ Some c.index-as_slice-from.result = rw (← c.model.view_is) at in
    let asked : Asked = record { sig = c.model.inside.sig; tables = g.R.Rows.tables c.args.rows.now; rule = c.index-as_slice-from.result; open_sites = c.as_slice-2.result.now } in
    let sig : asked.sig ≡ c.args.model.now.sig = ap (λ (m : Model). m.sig) c.model.view_is in
    let live : IsAllowed c.args.model.now.sig (g.R.Rows.tables c.args.rows.now) c.index-as_slice-from.result.left = rw (← c.model.view_is) (c.if-not-is_live.ensures.alive) in
    IfOk-weaker c.try_lones.result (λ _. Adds (IsGainAmong asked c.args.from c.args.lones.now) c.args.found.now.positive.items c.try_lones.new.found.positive.items) (λ _. Adds (IsGainFrom c.args.model.now (g.R.Rows.tables c.args.rows.now) c.args.from) c.args.found.now.positive.items c.try_lones.new.found.positive.items)
    (λ _. Adds-same (IsGainAmong asked c.args.from c.args.lones.now) (IsGainFrom c.args.model.now (g.R.Rows.tables c.args.rows.now) c.args.from) c.args.found.now.positive.items c.try_lones.new.found.positive.items (λ arrow. (
      gains_found c.args.model.now (g.R.Rows.tables c.args.rows.now) c.args.from c.index-as_slice-from.result there asked sig refl refl live c.args.lones.now (λ l has. (c.requires.lones l).0 has) arrow,
      gains_all c.args.model.now (g.R.Rows.tables c.args.rows.now) c.args.from c.index-as_slice-from.result there asked sig refl refl live c.args.lones.now (λ l lone makes. (c.requires.lones l).1 lone) arrow,
    )))
    c.try_lones.ensures.positive

pub returns-clause-negative : goal.returns-clause-negative
returns-clause-negative g c =
    let within : c.args.from < length c.as_slice.result.now = rw c.as_slice.ensures (rw (← c.model.view_is) at c.requires.exists) in
    let here : slice_get c.as_slice.result.now c.args.from ≡ Some c.index-as_slice-from.result = slice_get_read c.as_slice.result.now _ c.args.from c.index-as_slice-from.result refl within (rw c.from.view_is at c.index-as_slice-from.is) in
    let at : slice_get c.model.inside.rules c.args.from ≡ Some c.index-as_slice-from.result = rw c.as_slice.ensures at here in
    let there : slice_get c.args.model.now.rules c.args.from ≡ Some c.index-as_slice-from.result = rw (← c.model.view_is) at in
    let asked : Asked = record { sig = c.model.inside.sig; tables = g.R.Rows.tables c.args.rows.now; rule = c.index-as_slice-from.result; open_sites = c.as_slice-2.result.now } in
    let sig : asked.sig ≡ c.args.model.now.sig = ap (λ (m : Model). m.sig) c.model.view_is in
    let live : IsAllowed c.args.model.now.sig (g.R.Rows.tables c.args.rows.now) c.index-as_slice-from.result.left = rw (← c.model.view_is) (c.if-not-is_live.ensures.alive) in
    IfOk-weaker c.try_lones.result (λ _. Adds (IsLossAmong asked c.args.model.now c.args.from c.args.lones.now) c.args.found.now.negative.items c.try_lones.new.found.negative.items) (λ _. Adds (IsLossFrom c.args.model.now (g.R.Rows.tables c.args.rows.now) c.args.from) c.args.found.now.negative.items c.try_lones.new.found.negative.items)
    (λ _. Adds-same (IsLossAmong asked c.args.model.now c.args.from c.args.lones.now) (IsLossFrom c.args.model.now (g.R.Rows.tables c.args.rows.now) c.args.from) c.args.found.now.negative.items c.try_lones.new.found.negative.items (λ arrow. (
      losses_found c.args.model.now (g.R.Rows.tables c.args.rows.now) c.args.from c.index-as_slice-from.result there asked sig refl refl live c.args.lones.now (λ l has. (c.requires.lones l).0 has) arrow,
      losses_all c.args.model.now (g.R.Rows.tables c.args.rows.now) c.args.from c.index-as_slice-from.result there asked sig refl refl live c.args.lones.now (λ l r2 lone at2 stops. (c.requires.lones l).1 lone) arrow,
    )))
    c.try_lones.ensures.negative

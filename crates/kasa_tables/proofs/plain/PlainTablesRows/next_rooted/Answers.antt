use Rattle.std.proofs.Common.{◌≡◌, ◌≢◌, ◌<◌, sym, ap, ◌∙◌, arith, length, eq-eqb}
use Rattle.std.specs.Prelude.{slice_get, Some}
use Rattle.std.proofs.lemmas.Option.{slice_get-get_or}
use Rattle.kasa_families.specs.Table.{Table}
use Rattle.kasa_tables.proofs.PlainLemmas.{none_rooted, none_at_all}
use Rattle.kasa_tables.proofs.plain.PlainTablesRows.next_rooted.Goals as goal

pub loop-k-preserved : goal.loop-k-preserved
loop-k-preserved c =
    let t : Table = record { family = c.behind-self.inside.family; rows = c.behind-self.inside.rows.keys } in
    let within : c.loop-k.k < length c.self.inside.tables.items = omega arith in
    let at : Some t ≡ slice_get c.args.self.now c.loop-k.k =
    rw (← c.self.view_is) (ap Some (c.behind-self.view_is ∙ c.index.ensures) ∙ sym (slice_get-get_or c.self.inside.tables.items c.loop-k.k c.index.result.now within)) in
    let other : c.first_type.result ≢ c.args.agent = λ e. let yes = eq-eqb c.first_type.result c.args.agent e in let no = c.if-eq.ensures in cc in
    none_rooted c.args.self.now c.args.agent c.args.from c.loop-k.k t c.first_type.result at c.first_type.ensures other c.loop-k.invariant

pub returns : goal.returns
returns c = none_at_all c.args.self.now c.args.agent c.args.from c.loop-k.k (rw (← c.self.view_is) (omega arith)) c.loop-k.invariant

use Rattle.std.proofs.Common.{refl, sym, ◌∙◌}
use Rattle.std.specs.Prelude.{slice_index_or}
use Rattle.kasa_compile.proofs.TwiceLemmas.{blank_site, twice_none, twice_first}
use Rattle.kasa_compile.proofs.names.site_twice.Goals as goal

pub returns-then-has_name : goal.returns-then-has_name
returns-then-has_name c = twice_first c.args.text.now c.args.sites.now c.loop-number.number (slice_index_or c.args.sites.now c.loop-number.number blank_site) blank_site c.loop-number.invariant c.loop-number-test.true refl (sym c.has_name.ensures ∙ c.if-has_name.true)

pub loop-number-preserved : goal.loop-number-preserved
loop-number-preserved c = twice_none c.args.text.now c.args.sites.now c.loop-number.number (slice_index_or c.args.sites.now c.loop-number.number blank_site) blank_site c.loop-number.invariant c.loop-number-test.true refl (sym c.has_name.ensures ∙ c.if-has_name.false)

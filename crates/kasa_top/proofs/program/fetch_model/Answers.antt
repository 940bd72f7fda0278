use Rattle.kasa_top.proofs.FetchedLemmas.{fetched}
use Rattle.kasa_top.proofs.program.fetch_model.Goals as goal

pub returns-in-Ok-clause-text : goal.returns-in-Ok-clause-text
returns-in-Ok-clause-text g c = fetched (g.S.Shelf.held c.args.shelf.now) c.args.name.now c.in-Ok.text.items c.in-Ok.ensures.few c.in-Ok.ensures.bytes

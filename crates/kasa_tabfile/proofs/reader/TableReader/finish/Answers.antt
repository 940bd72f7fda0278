use Rattle.kasa_tabfile.proofs.ReaderLemmas.{finished}
use Rattle.kasa_tabfile.proofs.reader.TableReader.finish.Goals as goal

pub returns : goal.returns
returns c sig text taken = finished sig c.args.self.reading text c.finish.result taken.come c.finish.ensures

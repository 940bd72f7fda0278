use Rattle.kasa_parser.proofs.CodeWords.{span_is}
use Rattle.kasa_parser.proofs.reader.Reader.span.Goals as goal

pub returns : goal.returns
returns c = span_is _ _ _ _ c.self.view_is c.requires

-- A line that isn't ended yet.
use Rattle.std.specs.Prelude.{ℕ, List, Option}
use Rattle.kasa_tabfile.specs.Text.{parts_from}
use Rattle.kasa_tabfile.specs.declared.line.Line.{Line}
use Rattle.kasa_tabfile.specs.declared.head.Head.{Head}
use Rattle.kasa_tabfile.specs.inner.Head.{complete}

-- the line whose words have this head, and then a word that has begun, if it goes on and ends so
abbrev pub ended_by : Head → List ℕ → List ℕ → Option Line
ended_by head word bs = complete head (parts_from 32 word bs)

use Rattle.std.proofs.Common.{◌≡◌, sym}
use Rattle.kasa_tables.proofs.search.agrees_here.Goals as goal

pub returns-in-Some : goal.returns-in-Some
returns-in-Some c = (
  λ yes. (c.in-Some.local, (sym c.in-Some.ensures, c.agrees_at.ensures.0 yes)),
  λ (l, here). c.agrees_at.ensures.1 (let same : l ≡ c.in-Some.local = let e = c.in-Some.ensures in let f = here.0 in cc in rw same at here.1),
)

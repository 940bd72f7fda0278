use Rattle.std.proofs.Common.{Some, None, arith}
use Rattle.kasa_tables.proofs.PlainLemmas.{rooted_within}
use Rattle.kasa_tables.proofs.RootLemmas.{IsLeastFrom-rooted, IsRising-listed}
use Rattle.kasa_tables.proofs.indexed.IndexedTablesRows.next_rooted.Goals as goal

pub first_from-requires : goal.first_from-requires
first_from-requires c = IsRising-listed c.self.inside.tables.items c.self.inside.roots c.self.invariant.2 c.args.agent

pub returns-in_err-k : goal.returns-in_err-k
returns-in_err-k c =
    rw (c.from_residual.ensures, ← c.self.view_is) (IsLeastFrom-rooted c.self.inside.tables.items c.self.inside.roots c.self.invariant.2 c.args.agent c.args.from None c.in_err-k.ensures)

pub overflow_cast-result : goal.overflow_cast-result
overflow_cast-result c =
    let least = IsLeastFrom-rooted c.self.inside.tables.items c.self.inside.roots c.self.invariant.2 c.args.agent c.args.from (Some c.in_ok-k.k) c.in_ok-k.ensures in
    let within = rooted_within c.self.inside.tables.items c.args.agent c.in_ok-k.k least.1 in
    let few = c.self.invariant.0.few in
    omega arith

pub returns : goal.returns
returns c =
    rw (← c.self.view_is) (IsLeastFrom-rooted c.self.inside.tables.items c.self.inside.roots c.self.invariant.2 c.args.agent c.args.from (Some c.in_ok-k.k) c.in_ok-k.ensures)

use Rattle.std.proofs.Common.{rules}
use Rattle.kasa_graph.proofs.CellLemmas.{cell_bound, site_bound, no_empty_cell, with_agent_site-slice_set}
use Rattle.kasa_graph.proofs.mixture.put_site.Goals as goal

pub offset_bounds-cells-c : goal.offset_bounds-cells-c
offset_bounds-cells-c c = let within = cell_bound c.args.cells.now c.args.c c.args.s c.requires in search rules

pub bounds-cells-c : goal.bounds-cells-c
bounds-cells-c c = cell_bound c.args.cells.now c.args.c c.args.s c.requires

pub set-requires : goal.set-requires
set-requires c = site_bound c.args.cells.now c.args.c c.args.s c.in-Some.agent _ c.requires c.in-Some.is

pub returns-in-Some : goal.returns-in-Some
returns-in-Some c = rw c.set.ensures (with_agent_site-slice_set c.args.cells.now c.args.c c.args.s c.in-Some.agent _ c.args.with c.requires c.in-Some.is)

pub returns-in_default : goal.returns-in_default
returns-in_default c = absurd (no_empty_cell c.args.cells.now c.args.c c.args.s _ c.requires c.in_default.not-Some)

use Rattle.std.proofs.Common.{◌≡◌}
use Rattle.kasa_compile.proofs.AskedLemmas.{one_site}
use Rattle.kasa_compile.proofs.DueLemmas.{IsLinked-says}
use Rattle.kasa_compile.proofs.WrittenSite.{end_within, site_exists, node_exists, state_known, site_exists_after, may_write, later_site, waits_site, done_site}
use Rattle.kasa_compile.proofs.rule.write_site.Goals as goal

pub end_of-end-requires-clause-within : goal.end_of-end-requires-clause-within
end_of-end-requires-clause-within c = let can = c.requires.can in end_within can.0 c.args.sides.now c.args.left.now c.args.draft.now can.1 c.args.k c.args.i c.right_said-said.result c.right_said-said.ensures

pub state_due-state-requires : goal.state_due-state-requires
state_due-state-requires c = record {
  exists = let can = c.requires.can in node_exists can.0 c.args.sides.now c.args.left.now c.args.draft.now can.1 c.args.k c.args.i c.right_said-said.result c.right_said-said.ensures c.end_of-end.result c.end_of-end.ensures;
}

pub put_state_due-requires-clause-exists : goal.put_state_due-requires-clause-exists
put_state_due-requires-clause-exists c = let can = c.requires.can in site_exists can.0 c.args.sides.now c.args.left.now c.args.draft.now can.1 c.args.k c.args.i c.right_said-said.result c.right_said-said.ensures c.end_of-end.result c.end_of-end.ensures

pub put_state_due-requires-clause-known : goal.put_state_due-requires-clause-known
put_state_due-requires-clause-known c = let can = c.requires.can in state_known can.0 c.args.sides.now c.args.left.now c.args.draft.now can.1 c.args.k c.args.i c.right_said-said.result c.right_said-said.ensures c.end_of-end.result c.end_of-end.ensures c.state_due-state.result c.state_due-state.ensures

pub link_due-link-requires-clause-linked : goal.link_due-link-requires-clause-linked
link_due-link-requires-clause-linked c = let can = c.requires.can in let sides = (can.1).sides in IsLinked-says can.0 c.args.sides.now sides c.args.k c.args.i c.right_said-said.result c.right_said-said.ensures

pub link_due-link-requires-clause-exists : goal.link_due-link-requires-clause-exists
link_due-link-requires-clause-exists c = let can = c.requires.can in node_exists can.0 c.args.sides.now c.args.left.now c.args.draft.now can.1 c.args.k c.args.i c.right_said-said.result c.right_said-said.ensures c.end_of-end.result c.end_of-end.ensures

pub put_link_due-requires-clause-exists : goal.put_link_due-requires-clause-exists
put_link_due-requires-clause-exists c =
    let can = c.requires.can in
    site_exists_after can.0 c.args.sides.now c.args.left.now c.args.draft.now can.1 c.args.k c.args.i c.right_said-said.result c.right_said-said.ensures c.end_of-end.result c.end_of-end.ensures
    c.state_due-state.result c.state_due-state.ensures c.put_state_due.new.draft c.put_state_due.ensures.draft (c.put_state_due.ensures.over can.0 (can.1).over)

pub put_link_due-requires-clause-may : goal.put_link_due-requires-clause-may
put_link_due-requires-clause-may c =
    let can = c.requires.can in
    may_write can.0 c.args.sides.now c.args.left.now c.args.draft.now can.1 c.args.k c.args.i c.right_said-said.result c.right_said-said.ensures c.end_of-end.result c.end_of-end.ensures
    c.state_due-state.result c.state_due-state.ensures c.put_state_due.new.draft c.put_state_due.ensures.draft (c.put_state_due.ensures.over can.0 (can.1).over)
    c.link_due-link.result c.link_due-link.ensures c.requires.waits

pub returns-clause-over : goal.returns-clause-over
returns-clause-over c = λ sig over. c.put_link_due.ensures.over sig (c.put_state_due.ensures.over sig over)

pub returns-clause-later : goal.returns-clause-later
returns-clause-later c = λ sig can.
    later_site sig c.args.sides.now c.args.left.now c.args.draft.now can c.args.k c.args.i c.right_said-said.result c.right_said-said.ensures c.end_of-end.result c.end_of-end.ensures
    c.state_due-state.result c.state_due-state.ensures c.put_state_due.new.draft c.put_state_due.ensures.draft (c.put_state_due.ensures.over sig can.over)
    c.link_due-link.result c.link_due-link.ensures c.requires.waits c.put_link_due.new.draft c.put_link_due.ensures.draft

pub returns-clause-waits : goal.returns-clause-waits
returns-clause-waits c =
    let can = c.requires.can in
    waits_site can.0 c.args.sides.now c.args.left.now c.args.draft.now can.1 c.args.k c.args.i c.right_said-said.result c.right_said-said.ensures c.end_of-end.result c.end_of-end.ensures
    c.state_due-state.result c.state_due-state.ensures c.put_state_due.new.draft c.put_state_due.ensures.draft (c.put_state_due.ensures.over can.0 (can.1).over)
    c.link_due-link.result c.link_due-link.ensures c.requires.waits c.put_link_due.new.draft c.put_link_due.ensures.draft

pub returns-clause-done : goal.returns-clause-done
returns-clause-done c = λ sig can s says.
    let same : s ≡ c.right_said-said.result = one_site says c.right_said-said.ensures in
    rw same (done_site sig c.args.sides.now c.args.left.now c.args.draft.now can c.args.k c.args.i c.right_said-said.result c.right_said-said.ensures c.end_of-end.result c.end_of-end.ensures
    c.state_due-state.result c.state_due-state.ensures c.put_state_due.new.draft c.put_state_due.ensures.draft (c.put_state_due.ensures.over sig can.over)
    c.link_due-link.result c.link_due-link.ensures c.requires.waits c.put_link_due.new.draft c.put_link_due.ensures.draft)

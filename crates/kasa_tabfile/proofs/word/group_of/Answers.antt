use Rattle.kasa_tabfile.proofs.HeadLemmas.{group-read}
use Rattle.kasa_tabfile.proofs.word.group_of.Goals as goal

pub returns : goal.returns
returns c = group-read c.args.word.now c.in_ok-state.state.now c.in_ok-state.link.now c.in_ok-state-2.state c.small_state.result c.in_ok-link.link c.local_of.result
    c.in_ok-state.ensures c.in_ok-state-2.ensures c.in_ok-link.ensures c.small_state.ensures c.local_of.ensures

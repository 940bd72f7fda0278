use Rattle.kasa_rules.specs.Draft.{delete_node}
use Rattle.kasa_lists.proofs.Updates.{slice_set-read}
use Rattle.kasa_rules.proofs.draft.put_deleted.Goals as goal

pub returns : goal.returns
returns c = slice_set-read c.args.actions.now c.args.n c.index-actions-n.result delete_node c.requires

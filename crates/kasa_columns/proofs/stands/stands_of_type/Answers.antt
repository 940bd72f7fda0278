use Rattle.kasa_columns.proofs.StandLemmas.{all_of_type}
use Rattle.kasa_columns.proofs.stands.stands_of_type.Goals as goal

pub returns : goal.returns
returns c =
    all_of_type c.args.rule.now c.args.agent c.push_left.new.found.items c.push_made.new.found.items (rw (c.in_ok-push.ensures.items, c.new-found.ensures.items) at c.in_ok-push_left.ensures) c.in_ok-push_made.ensures

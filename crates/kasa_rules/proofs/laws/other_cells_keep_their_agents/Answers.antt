use Rattle.kasa_rules.proofs.ElsewhereLemmas.{type_in-elsewhere, state_in-elsewhere, partner_in-elsewhere}
use Rattle.kasa_rules.proofs.laws.other_cells_keep_their_agents.Goals as goal

pub returns-clause-types : goal.returns-clause-types
returns-clause-types c = λ r cells m d within elsewhere. type_in-elsewhere r cells m d within elsewhere

pub returns-clause-states : goal.returns-clause-states
returns-clause-states c = λ r cells m d within elsewhere s. state_in-elsewhere r cells m d within elsewhere s

pub returns-clause-partners : goal.returns-clause-partners
returns-clause-partners c = λ r cells m d within elsewhere s. partner_in-elsewhere r cells m d within elsewhere s

use Rattle.kasa_families.proofs.SpotLemmas.{HasNodeSite-first_bond, HasNodeSite-second_bond, HasNodeSite-first_far, HasNodeSite-second_far, not_fits}
use Rattle.kasa_families.proofs.compatible.fits.Goals as goal

pub can_be_same-requires-clause-first : goal.can_be_same-requires-clause-first
can_be_same-requires-clause-first c = HasNodeSite-first_bond _ _ _ _ _ _ _ _ (rw (c.in-Parallel.is, c.in-One.is) at c.requires.stands) (rw c.in-Parallel.is at c.requires.named)

pub can_be_same-requires-clause-second : goal.can_be_same-requires-clause-second
can_be_same-requires-clause-second c = HasNodeSite-second_bond _ _ _ _ _ _ _ _ (rw (c.in-Parallel.is, c.in-One.is) at c.requires.stands) (rw c.in-Parallel.is at c.requires.named)

pub can_be_same-requires-clause-first_far : goal.can_be_same-requires-clause-first_far
can_be_same-requires-clause-first_far c = HasNodeSite-first_far _ _ _ _ _ _ _ _ (rw (c.in-Parallel.is, c.in-One.is) at c.requires.stands) (rw c.in-Parallel.is at c.requires.named)

pub can_be_same-requires-clause-second_far : goal.can_be_same-requires-clause-second_far
can_be_same-requires-clause-second_far c = HasNodeSite-second_far _ _ _ _ _ _ _ _ (rw (c.in-Parallel.is, c.in-One.is) at c.requires.stands) (rw c.in-Parallel.is at c.requires.named)

pub can_be_different-requires-clause-first : goal.can_be_different-requires-clause-first
can_be_different-requires-clause-first c = HasNodeSite-first_bond _ _ _ _ _ _ _ _ (rw (c.in-Parallel.is, c.in-One.is) at c.requires.stands) (rw c.in-Parallel.is at c.requires.named)

pub can_be_different-requires-clause-second : goal.can_be_different-requires-clause-second
can_be_different-requires-clause-second c = HasNodeSite-second_bond _ _ _ _ _ _ _ _ (rw (c.in-Parallel.is, c.in-One.is) at c.requires.stands) (rw c.in-Parallel.is at c.requires.named)

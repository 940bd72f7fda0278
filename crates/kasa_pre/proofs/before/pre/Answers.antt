use Rattle.std.proofs.Common.{◌≡◌, ◌∙◌}
use Rattle.std.specs.Prelude.{Some, None}
use Rattle.kasa_pre.specs.Before.{place_of}
use Rattle.kasa_pre.specs.Asked.{HasNodes, SameTests}
use Rattle.kasa_pre.proofs.MostGeneral.{IsMostGeneralBefore-narrowed, none-before, stood-before, allowed-answer}
use Rattle.kasa_pre.proofs.before.pre.Goals as goal

pub returns-then-not-are_stands-clause-stood : goal.returns-then-not-are_stands-clause-stood
returns-then-not-are_stands-clause-stood c = stood-before c.args.sig.now c.args.rule.now c.args.v.now c.args.spots.now c.args.freed.now c.requires.rule c.requires.over None
    (λ h before. let yes' = c.are_stands.ensures.1 before.stand in let against = c.if-not-are_stands.true in absurd cc)

pub narrow_all-requires-clause-asked : goal.narrow_all-requires-clause-asked
unfolding place_of
narrow_all-requires-clause-asked c =
    let left : c.in_ok-g.g ≡ c.args.rule.now.left = c.in_ok-g.ensures ∙ c.left.ensures.pattern in
    record {
      rule = c.requires.rule;
      over = c.requires.over;
      stand = c.are_stands.ensures.0 c.if-not-are_stands.false;
      placed = rw c.as_slice.ensures.value (c.in_ok-places.ensures.count, λ i within. rw left at (c.in_ok-places.ensures.places i within));
    }

pub returns-then-narrow_all-clause-most_general : goal.returns-then-narrow_all-clause-most_general
returns-then-narrow_all-clause-most_general c =
    let left : c.in_ok-g.g ≡ c.args.rule.now.left = c.in_ok-g.ensures ∙ c.left.ensures.pattern in
    let stand = c.are_stands.ensures.0 c.if-not-are_stands.false in
    let nodes : HasNodes c.args.sig.now c.args.rule.now c.args.v.now c.args.spots.now c.add_outside.new.g = record { valid = c.in_ok-places.ensures.over; types = rw left at c.in_ok-places.ensures.types } in
    let tests : SameTests c.add_outside.new.g c.args.rule.now.left = rw left at c.in_ok-places.ensures.tests in
    IsMostGeneralBefore-narrowed c.args.sig.now c.args.rule.now c.args.v.now c.args.spots.now c.args.freed.now c.add_outside.new.g stand nodes tests c.narrow_all.new.g (rw c.if-narrow_all.true at c.narrow_all.ensures)

pub returns-then-narrow_all-clause-stood : goal.returns-then-narrow_all-clause-stood
returns-then-narrow_all-clause-stood c =
    let left : c.in_ok-g.g ≡ c.args.rule.now.left = c.in_ok-g.ensures ∙ c.left.ensures.pattern in
    let stand = c.are_stands.ensures.0 c.if-not-are_stands.false in
    let nodes : HasNodes c.args.sig.now c.args.rule.now c.args.v.now c.args.spots.now c.add_outside.new.g = record { valid = c.in_ok-places.ensures.over; types = rw left at c.in_ok-places.ensures.types } in
    let tests : SameTests c.add_outside.new.g c.args.rule.now.left = rw left at c.in_ok-places.ensures.tests in
    stood-before c.args.sig.now c.args.rule.now c.args.v.now c.args.spots.now c.args.freed.now c.requires.rule c.requires.over (Some c.narrow_all.new.g)
    (IsMostGeneralBefore-narrowed c.args.sig.now c.args.rule.now c.args.v.now c.args.spots.now c.args.freed.now c.add_outside.new.g stand nodes tests c.narrow_all.new.g (rw c.if-narrow_all.true at c.narrow_all.ensures))

pub returns-else-narrow_all-clause-most_general : goal.returns-else-narrow_all-clause-most_general
returns-else-narrow_all-clause-most_general c =
    let left : c.in_ok-g.g ≡ c.args.rule.now.left = c.in_ok-g.ensures ∙ c.left.ensures.pattern in
    let stand = c.are_stands.ensures.0 c.if-not-are_stands.false in
    let nodes : HasNodes c.args.sig.now c.args.rule.now c.args.v.now c.args.spots.now c.add_outside.new.g = record { valid = c.in_ok-places.ensures.over; types = rw left at c.in_ok-places.ensures.types } in
    let tests : SameTests c.add_outside.new.g c.args.rule.now.left = rw left at c.in_ok-places.ensures.tests in
    none-before c.args.sig.now c.args.rule.now c.args.v.now c.args.spots.now c.args.freed.now c.add_outside.new.g stand nodes tests (rw c.if-narrow_all.false at c.narrow_all.ensures)

pub returns-else-narrow_all-clause-stood : goal.returns-else-narrow_all-clause-stood
returns-else-narrow_all-clause-stood c =
    let left : c.in_ok-g.g ≡ c.args.rule.now.left = c.in_ok-g.ensures ∙ c.left.ensures.pattern in
    let stand = c.are_stands.ensures.0 c.if-not-are_stands.false in
    let nodes : HasNodes c.args.sig.now c.args.rule.now c.args.v.now c.args.spots.now c.add_outside.new.g = record { valid = c.in_ok-places.ensures.over; types = rw left at c.in_ok-places.ensures.types } in
    let tests : SameTests c.add_outside.new.g c.args.rule.now.left = rw left at c.in_ok-places.ensures.tests in
    stood-before c.args.sig.now c.args.rule.now c.args.v.now c.args.spots.now c.args.freed.now c.requires.rule c.requires.over None
    (none-before c.args.sig.now c.args.rule.now c.args.v.now c.args.spots.now c.args.freed.now c.add_outside.new.g stand nodes tests (rw c.if-narrow_all.false at c.narrow_all.ensures))

pub returns-then-not-are_stands-clause-allowed : goal.returns-then-not-are_stands-clause-allowed
returns-then-not-are_stands-clause-allowed c = allowed-answer c.args.sig.now c.args.rule.now c.args.v.now c.args.spots.now c.args.freed.now None
    (λ h before. let yes' = c.are_stands.ensures.1 before.stand in let against = c.if-not-are_stands.true in absurd cc)

pub returns-then-narrow_all-clause-allowed : goal.returns-then-narrow_all-clause-allowed
returns-then-narrow_all-clause-allowed c =
    let left : c.in_ok-g.g ≡ c.args.rule.now.left = c.in_ok-g.ensures ∙ c.left.ensures.pattern in
    let stand = c.are_stands.ensures.0 c.if-not-are_stands.false in
    let nodes : HasNodes c.args.sig.now c.args.rule.now c.args.v.now c.args.spots.now c.add_outside.new.g = record { valid = c.in_ok-places.ensures.over; types = rw left at c.in_ok-places.ensures.types } in
    let tests : SameTests c.add_outside.new.g c.args.rule.now.left = rw left at c.in_ok-places.ensures.tests in
    allowed-answer c.args.sig.now c.args.rule.now c.args.v.now c.args.spots.now c.args.freed.now (Some c.narrow_all.new.g)
    (IsMostGeneralBefore-narrowed c.args.sig.now c.args.rule.now c.args.v.now c.args.spots.now c.args.freed.now c.add_outside.new.g stand nodes tests c.narrow_all.new.g (rw c.if-narrow_all.true at c.narrow_all.ensures))

pub returns-else-narrow_all-clause-allowed : goal.returns-else-narrow_all-clause-allowed
returns-else-narrow_all-clause-allowed c =
    let left : c.in_ok-g.g ≡ c.args.rule.now.left = c.in_ok-g.ensures ∙ c.left.ensures.pattern in
    let stand = c.are_stands.ensures.0 c.if-not-are_stands.false in
    let nodes : HasNodes c.args.sig.now c.args.rule.now c.args.v.now c.args.spots.now c.add_outside.new.g = record { valid = c.in_ok-places.ensures.over; types = rw left at c.in_ok-places.ensures.types } in
    let tests : SameTests c.add_outside.new.g c.args.rule.now.left = rw left at c.in_ok-places.ensures.tests in
    allowed-answer c.args.sig.now c.args.rule.now c.args.v.now c.args.spots.now c.args.freed.now None
    (none-before c.args.sig.now c.args.rule.now c.args.v.now c.args.spots.now c.args.freed.now c.add_outside.new.g stand nodes tests (rw c.if-narrow_all.false at c.narrow_all.ensures))

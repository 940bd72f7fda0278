use Rattle.std.proofs.Common.{◌≡◌, ℕ, ◌+◌, ◌<◌, ◌≤◌, add-one, length, sym, arith}
use Rattle.kasa_families.specs.Family.{shape_of}
use Rattle.kasa_families.specs.Spot.{nodes_of, root_bonds}
use Rattle.kasa_pre.proofs.SpotPlaces.{Along, Along-first, Along-next, Along-not, InOrder-root, AlongRoot, Along-stands, IsOnlySpot-along, few_root_bonds, HasNamedSites-over}
use Rattle.kasa_pre.proofs.spots.spot_from.Goals as goal

pub asks_are_met-requires-clause-named : goal.asks_are_met-requires-clause-named
asks_are_met-requires-clause-named c = HasNamedSites-over c.args.sig.now c.args.g.now c.args.family.now c.requires.over c.requires.family

pub returns-then-not-asks_are_met : goal.returns-then-not-asks_are_met
returns-then-not-asks_are_met c = λ place at.
    let r = c.requires.rooted in
    let along = Along-stands c.args.sig.now c.args.g.now c.requires.over c.args.family.now c.requires.family c.args.node r.0 r.1 r.2 place at in
    let yes = c.asks_are_met.ensures.1 along.0 in
    let no = c.if-not-asks_are_met.true in absurd cc

pub loop-k-init : goal.loop-k-init
loop-k-init c = let r = c.requires.rooted in Along-first c.args.g.now (shape_of c.args.family.now).types (root_bonds c.args.family.now) (InOrder-root c.args.family.now) c.args.node r.0 r.1 r.2

pub follow-requires-clause-typed : goal.follow-requires-clause-typed
follow-requires-clause-typed c = c.loop-k.invariant.typed

pub follow-requires-clause-few : goal.follow-requires-clause-few
follow-requires-clause-few c = let count = c.loop-k.invariant.count in let few = few_root_bonds c.args.family.now in let low = c.loop-k-test.true in let all = c.root_bonds-k-end.ensures in omega arith

pub returns-in-None : goal.returns-in-None
returns-in-None c = λ place at.
    let r = c.requires.rooted in
    let h = Along-stands c.args.sig.now c.args.g.now c.requires.over c.args.family.now c.requires.family c.args.node r.0 r.1 r.2 place at in
    let told = c.in-None.ensures in
    let low : c.loop-k.k ≤ length (root_bonds c.args.family.now) = let below = c.loop-k-test.true in let all = c.root_bonds-k-end.ensures in omega arith in
    absurd (Along-not c.args.g.now (shape_of c.args.family.now).types (root_bonds c.args.family.now) (InOrder-root c.args.family.now) c.args.node c.loop-k.k (nodes_of c.loop-k.place) c.loop-k.invariant place h.1 low told.0 told.1 told.2)

pub loop-k-preserved : goal.loop-k-preserved
loop-k-preserved c =
    let told = c.in-Some.ensures in
    let leads = told.2 in
    rw (add-one, leads.2) (Along-next c.args.g.now (shape_of c.args.family.now).types (root_bonds c.args.family.now) (InOrder-root c.args.family.now) c.args.node c.loop-k.k (nodes_of c.loop-k.place) c.loop-k.invariant told.0 told.1 leads.0 leads.1)

pub returns : goal.returns
returns c =
    let r = c.requires.rooted in
    let whole : c.loop-k.k ≡ length (root_bonds c.args.family.now) = let past = c.loop-k-test.false in let within = c.loop-k.auto.k-end in let all = c.root_bonds-k-end.ensures in omega arith in
    IsOnlySpot-along c.args.sig.now c.args.g.now c.requires.over c.args.family.now c.requires.family c.args.node r.0 r.1 r.2 (c.asks_are_met.ensures.0 c.if-not-asks_are_met.false) c.loop-k.place c.spot.result (rw whole at c.loop-k.invariant) c.spot.ensures.first c.spot.ensures.second

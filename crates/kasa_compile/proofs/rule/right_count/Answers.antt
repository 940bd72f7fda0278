use Rattle.std.proofs.Common.{◌≡◌, ℕ, ◌<◌, List, rules}
use Rattle.kasa_compile.specs.declared.said.SiteSaid.{SiteSaid as Site}
use Rattle.kasa_compile.specs.declared.said.AgentSaid.{AgentSaid as Said}
use Rattle.kasa_compile.specs.Building.{Says}
use Rattle.kasa_compile.proofs.rule.right_count.Goals as goal

all_there : (agents right : List Said) (k count : ℕ) → agents ≡ right → ((i : ℕ) → i < count → (s : Site) × Says agents k i s) → (i : ℕ) → i < count → (s : Site) × Says right k i s
all_there agents right k count same all = rw (← same) all

no_others : (agents right : List Said) (k count : ℕ) → agents ≡ right → ((i : ℕ) (s : Site) → Says agents k i s → i < count) → (i : ℕ) (s : Site) → Says right k i s → i < count
no_others agents right k count same none = rw (← same) none

pub returns-clause-all_said : goal.returns-clause-all_said
returns-clause-all_said c =
    let same : c.deref.result.now ≡ c.args.sides.now.right = search rules in
    all_there c.deref.result.now c.args.sides.now.right c.args.k c.count_said.result same c.count_said.ensures.all_said

pub returns-clause-no_more : goal.returns-clause-no_more
returns-clause-no_more c =
    let same : c.deref.result.now ≡ c.args.sides.now.right = search rules in
    no_others c.deref.result.now c.args.sides.now.right c.args.k c.count_said.result same c.count_said.ensures.no_more

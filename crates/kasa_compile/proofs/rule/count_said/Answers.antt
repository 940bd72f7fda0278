use Rattle.std.proofs.Common.{◌≡◌, ℕ, ◌<◌, List, length, refl, rules}
use Rattle.std.specs.Prelude.{Some, slice_get}
use Rattle.std.proofs.lemmas.Option.{slice_get_within, slice_get_read}
use Rattle.kasa_graph.proofs.ListLemmas.{some_at}
use Rattle.kasa_compile.specs.declared.said.SiteSaid.{SiteSaid as Site}
use Rattle.kasa_compile.specs.declared.said.AgentSaid.{AgentSaid as Said}
use Rattle.kasa_compile.specs.Building.{Says}
use Rattle.kasa_compile.proofs.rule.count_said.Goals as goal

all_said : (agents : List Said) (n count : ℕ) (a : Said) → slice_get agents n ≡ Some a → count ≡ length a.sites → (i : ℕ) → i < count → (s : Site) × Says agents n i s
all_said agents n count a is e i within =
    let site = some_at a.sites i (rw (← e) within) in
    (site.0, record { agent = a; is_agent = is; is_site = site.1 })

no_more : (agents : List Said) (n count : ℕ) (a : Said) → slice_get agents n ≡ Some a → count ≡ length a.sites → (i : ℕ) (s : Site) → Says agents n i s → i < count
no_more agents n count a is e i s says =
    let there = says.is_agent in
    let same : says.agent ≡ a = cc in
    let site : slice_get a.sites i ≡ Some s = rw (← same) says.is_site in
    rw e (slice_get_within a.sites i s site)

pub returns-clause-all_said : goal.returns-clause-all_said
returns-clause-all_said c = all_said c.args.agents.now c.args.n c.len.result c.index-agents-n.result (slice_get_read c.args.agents.now _ c.args.n c.index-agents-n.result refl c.requires c.index-agents-n.is) (search rules)

pub returns-clause-no_more : goal.returns-clause-no_more
returns-clause-no_more c = no_more c.args.agents.now c.args.n c.len.result c.index-agents-n.result (slice_get_read c.args.agents.now _ c.args.n c.index-agents-n.result refl c.requires c.index-agents-n.is) (search rules)

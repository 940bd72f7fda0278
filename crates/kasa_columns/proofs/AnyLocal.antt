-- At each site of a pattern over a signature some local state doesn't contradict it.
use Rattle.std.proofs.Common.{◌≡◌, ◌≢◌, ℕ, zero, suc, ◌<◌, List, refl, sym, arith}
use Rattle.std.specs.Prelude.{Option, Some, None, IsSome, slice_get}
use Rattle.std.specs.Option.{option_map_or}
use Rattle.kasa_graph.specs.declared.pattern.SiteTests.{SiteTests}
use Rattle.kasa_graph.specs.declared.pattern.Node.{Node}
use Rattle.kasa_graph.specs.declared.pattern.StateTest.{StateTest}
use Rattle.kasa_graph.specs.declared.pattern.StateTest.TheVariants as state
use Rattle.kasa_graph.specs.declared.pattern.LinkTest.{LinkTest}
use Rattle.kasa_graph.specs.declared.pattern.LinkTest.TheVariants.{Any, Free, Bound, Partner, To}
use Rattle.kasa_graph.specs.Signature.{TypeEntry, state_counts, HasSite}
use Rattle.kasa_graph.specs.Pattern.{agent_at, site_at, state_test, link_test, HasNodeSite, IsPatternOver, StatesAgree, LinksAgree}
use Rattle.kasa_graph.proofs.ListLemmas.{some_at}
use Rattle.kasa_graph.proofs.SiteLemmas.{HasSite-over, type_of_node_site}
use Rattle.kasa_families.specs.declared.row.LocalLink.{LocalLink}
use Rattle.kasa_families.specs.declared.row.LocalLink.TheVariants as local
use Rattle.kasa_families.specs.declared.row.Local.{Local}
use Rattle.kasa_families.specs.Local.{IsLocalState, IsLocalLink, IsLocal, LocalAgrees, local_state_test, local_link_test}

pub tested_site : (g : List Node) (n s : ℕ) (t : LinkTest) → link_test g n s ≡ t → t ≢ Any → HasNodeSite g n s
unfolding link_test
tested_site g n s t e ne = by (site_at g n s) e
  where
    by : (x : Option SiteTests) → option_map_or (λ x. x.link) x Any ≡ t → IsSome x
    by (Some x) e = refl
    by None e = absurd (ne (sym e))

any_state : (count : Option ℕ) (k : ℕ) (t : StateTest) → count ≡ Some k → ((u : ℕ) → t ≡ state.Is u → (n : ℕ) × (count ≡ Some n) × (u < n)) → (u : Option ℕ) × IsLocalState count u × StatesAgree t (local_state_test u)
any_state (Some zero) k state.Any e known = (None, refl, tt)
any_state (Some (suc n)) k state.Any e known = (Some 0, (0, refl, omega arith), tt)
any_state (Some zero) k (state.Is u) e known = let n = known u refl in absurd (let z : zero ≡ n.0 = (let f = n.1 in cc) in let small = n.2 in omega arith)
any_state (Some (suc m)) k (state.Is u) e known = let n = known u refl in (Some u, (u, refl, let z : suc m ≡ n.0 = (let f = n.1 in cc) in let small = n.2 in omega arith), refl)
any_state None k t e known = absurd cc

module _ (sig : List TypeEntry) (g : List Node) (over : IsPatternOver sig g) (p s a : ℕ) (typed : agent_at g p ≡ Some a) (has : HasSite sig a s) where
  any_link : (t : LinkTest) → link_test g p s ≡ t → (l : LocalLink) × IsLocalLink sig l × LinksAgree g t (local_link_test l)
  any_link Any e = (local.Free, tt, tt)
  any_link Free e = (local.Free, tt, tt)
  any_link Bound e = (local.Partner a s, has, tt)
  any_link (Partner b y) e = (local.Partner b y, over.partners p s b y e, (refl, refl))
  any_link (To m t) e =
      let back = over.linked.both_ways p s m t e in
      let there = tested_site g m t (To p s) back (λ f. absurd cc) in
      let b = type_of_node_site g m t there in
      (local.Partner b.0 t, HasSite-over sig g over m b.0 t b.1 there, (b.1, refl))

  pub any_local : (o : Local) × IsLocal sig a s o × LocalAgrees g p s o
  any_local =
      let count = some_at (state_counts sig a) s has in
      let u = any_state (slice_get (state_counts sig a) s) count.0 (state_test g p s) count.1 (λ u e. over.states p s u a typed e) in
      let l = any_link (link_test g p s) refl in
      (record { state = u.0; link = l.0 }, record { state = u.1; link = l.1 }, record { state = u.2; link = l.2 })

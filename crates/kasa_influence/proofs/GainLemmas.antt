-- What a firing makes an embedding of another rule's left pattern was one before, or the first rule has a gain for the other.
use Rattle.std.proofs.Common.{◌≡◌, ◌≢◌, ℕ, zero, suc, ◌<◌, ◌⊎◌, inl, inr, Bool, true, false, List, [], ◌∷◌, refl, sym, ap, ◌∙◌, length}
use Rattle.std.specs.Prelude.{Option, Some, None, slice_get}
use Rattle.kasa_graph.specs.declared.pattern.Node.{Node}
use Rattle.kasa_graph.specs.declared.mixture.Agent.{Agent}
use Rattle.kasa_graph.specs.Signature.{TypeEntry}
use Rattle.kasa_graph.specs.declared.pattern.StateTest.{StateTest}
use Rattle.kasa_graph.specs.declared.pattern.StateTest.TheVariants as state
use Rattle.kasa_graph.specs.declared.pattern.LinkTest.{LinkTest}
use Rattle.kasa_graph.specs.declared.pattern.LinkTest.TheVariants as test
use Rattle.kasa_graph.specs.Lists.{Has}
use Rattle.kasa_graph.specs.Pattern.{state_test, link_test}
use Rattle.kasa_graph.specs.Mixture.{type_in, state_in, partner_in, IsMixtureOver}
use Rattle.kasa_graph.specs.Embedding.{IsEmbedding, MeetsState, MeetsLink}
use Rattle.kasa_lists.proofs.Options.{some_then}
use Rattle.kasa_lists.proofs.Numbers.{below_or}
use Rattle.kasa_families.specs.Table.{Table, AreTables}
use Rattle.kasa_rules.specs.declared.rule.Fate.TheVariants.{Deleted}
use Rattle.kasa_rules.specs.declared.rule.Written.{Written}
use Rattle.kasa_rules.specs.Rule.{RuleParts, written_state, written_link, IsRuleOver}
use Rattle.kasa_rules.specs.Firing.{fire, node_on, fate_on, state_on, link_on, touched_on, unless, kept_partner}
use Rattle.kasa_rules.proofs.FiringLemmas.{node_on-found, node_on-at}
use Rattle.kasa_rules.proofs.FiredLemmas.{type_in-fire_old}
use Rattle.kasa_pre.specs.declared.Stand.{Stand}
use Rattle.kasa_pre.specs.declared.Stand.TheVariants.{Left, Made, Outside}
use Rattle.kasa_pre.specs.declared.FreedBy.{FreedBy}
use Rattle.kasa_pre.specs.LiesOn.{LiesOn, AllLieOn, cells_before, AreJustFreed}
use Rattle.kasa_pre.specs.Closed.{Cover}
use Rattle.kasa_graph.proofs.ShapeLemmas.{IsShaped}
use Rattle.kasa_graph.proofs.ShapeLemmas.{agent_at-node}
use Rattle.kasa_pre.proofs.BeforeLemmas.{left_touched}
use Rattle.kasa_pre.proofs.StandLemmas.{freed_exist}
use Rattle.kasa_pre.proofs.StoodBefore.{StoodBefore-given}
use Rattle.kasa_pre.proofs.CoverLemmas.{IsAllowed-cover}
use Rattle.kasa_influence.specs.Alone.{alone, unnamed}
use Rattle.kasa_influence.specs.Gain.{MeetsWritten, Gains}
use Rattle.kasa_influence.proofs.SearchLemmas.{IsEmbedding-or}
use Rattle.kasa_influence.proofs.AloneLemmas.{state_test-alone, link_test-alone, IsShaped-alone, unnamed_asks, IsEmbedding-alone}
use Rattle.kasa_influence.proofs.AfterLemmas.{state_in-stays, partner_in-stays, met_before, partner_below}

-- the stand of a cell of before
stand_below : (cells : List ℕ) (first c : ℕ) → c < first → (o : Option ℕ) → node_on cells c ≡ o → ((k : ℕ) → slice_get cells k ≡ Some c → (n : ℕ) × (node_on cells c ≡ Some n)) → (stand : Stand) × LiesOn cells first stand c
stand_below cells first c within (Some n) e on = (Left n, node_on-found cells c n e)
stand_below cells first c within None e on = (Outside, (within, λ has. let some = (on has.0 has.1).1 in cc))

module _ (sig : List TypeEntry) (tables : List Table) (r r2 : RuleParts) (cells : List ℕ) (m : List (Option Agent)) (ok : AreTables sig tables) (over : IsMixtureOver sig m) (cover : Cover sig tables m) (rule : IsRuleOver sig r) (at : IsEmbedding r.left m cells) (shaped : IsShaped sig r2.left) (after : List ℕ) (later : IsEmbedding r2.left (fire r cells m) after) where
  -- a node of the pattern, and its cell
  module _ (i c : ℕ) (node : Node) (here : slice_get after i ≡ Some c) (is : slice_get r2.left i ≡ Some node) where
    one_lies : (stand : Stand) → LiesOn cells (length m) stand c → AllLieOn cells (length m) (stand ∷ []) (c ∷ [])
    one_lies stand lies = record { count = refl; each = each }
      where
        each : (j d : ℕ) (other : Stand) → slice_get (stand ∷ []) j ≡ Some other → slice_get (c ∷ []) j ≡ Some d → LiesOn cells (length m) other d
        each zero d other e f = let same : stand ≡ other = cc in let cell : c ≡ d = cc in rw (← same, ← cell) lies
        each (suc j) d other e f = absurd cc

    -- a gain at the node, by its stand
    gains : (stand : Stand) → LiesOn cells (length m) stand c → ((freed : List FreedBy) → AreJustFreed r cells m (alone r2.left node) (c ∷ []) freed → MeetsWritten r (alone r2.left node) stand ⊎ ((f : FreedBy) × Has freed f)) → Gains sig tables r r2
    gains stand lies gained =
        let freed = freed_exist r cells at.different m (alone r2.left node) (c ∷ []) refl in
        let stood = StoodBefore-given sig r cells m over rule at (alone r2.left node) (IsShaped-alone r2.left i node is sig shaped) (c ∷ []) (IsEmbedding-alone r2.left (fire r cells m) after later i c node here is) (stand ∷ []) freed.0 (one_lies stand lies) freed.1 in
        record {
          live = IsAllowed-cover sig tables m r.left cells ok over cover at;
          number = i;
          node = node;
          «at» = is;
          stand = stand;
          freed = freed.0;
          makes = record {
            pattern = stood.pattern;
            free = stood.free;
            before = stood.before;
            allowed = IsAllowed-cover sig tables m stood.pattern (cells_before cells (stand ∷ []) (c ∷ [])) ok over cover stood.stood;
            gained = gained freed.0 freed.1;
          };
        }

    below : (c < length m) ⊎ Gains sig tables r r2
    below =
        elim (below_or c (length m)) [
          | inl within ↦ inl within
          | inr k ↦ inr (gains (Made k.0) k.1 (λ freed just. inl (inl (k.0, refl))))
        ]

    module _ (within : c < length m) where
      lived : (type_in m c ≡ Some node.agent) × (fate_on r cells c ≢ Some Deleted)
      lived = type_in-fire_old r cells m c node.agent within (later.types i c node.agent here (agent_at-node r2.left i node is))

      state_or : (s : ℕ) → MeetsState (state_in m c s) (state_test r2.left i s) ⊎ Gains sig tables r r2
      state_or s = by_test (state_test r2.left i s) refl (state_on r cells c s) refl
        where
          by_test : (b : StateTest) → state_test r2.left i s ≡ b → (o : Option ℕ) → state_on r cells c s ≡ o → MeetsState (state_in m c s) (state_test r2.left i s) ⊎ Gains sig tables r r2
          by_test state.Any e o f = inl (rw e tt)
          by_test (state.Is w) e None f = inl (rw (← state_in-stays r cells m c s within lived.1 f) (later.states i c s here))
          by_test (state.Is w) e (Some u) f =
              let on = some_then (λ n. written_state r n s) (node_on cells c) u f in
              inr (gains (Left on.0) (node_on-found cells c on.0 on.1) (λ freed just. inl (inr (inl (s, u, w, state_test-alone r2.left i node is s ∙ e, on.2)))))

      freed_gains : (s d t : ℕ) → link_test r2.left i s ≡ test.Free → link_on r cells c s ≡ None → partner_in m c s ≡ Some (d, t) → touched_on r cells d t ≡ true → Gains sig tables r r2
      freed_gains s d t e none was gone =
          let source = left_touched r cells d t gone in
          let stand = stand_below cells (length m) c within (node_on cells c) refl (λ k f. (k, node_on-at cells c k at.different f)) in
          gains stand.0 stand.1 (λ freed just.
          let by : FreedBy = record { node = 0; site = s; from = source.0; «at» = t } in
          inr (
            by,
            (just.just by).1 (record {
              test = link_test-alone r2.left i node is s ∙ ap (unnamed r2.left) e;
              cell = c;
              lies = refl;
              source = d;
              source_lies = source.1;
              was = was;
              unwritten = none;
              source_touched = source.2;
            }),
          ))

      link_or : (s : ℕ) → MeetsLink m after (partner_in m c s) (link_test r2.left i s) ⊎ Gains sig tables r r2
      link_or s = by_test (link_test r2.left i s) refl
        where
          written : (w : Written) → link_on r cells c s ≡ Some w → link_test r2.left i s ≢ test.Any → Gains sig tables r r2
          written w f asks =
              let on = some_then (λ n. written_link r n s) (node_on cells c) w f in
              let asks' : link_test (alone r2.left node) 0 s ≢ test.Any = rw (link_test-alone r2.left i node is s) (unnamed_asks r2.left (link_test r2.left i s) asks) in
              gains (Left on.0) (node_on-found cells c on.0 on.1) (λ freed just. inl (inr (inr (s, w, asks', on.2))))

          none_met : (d t : ℕ) (b : LinkTest) → link_test r2.left i s ≡ b → link_on r cells c s ≡ None → partner_in m c s ≡ Some (d, t) → touched_on r cells d t ≡ true → MeetsLink (fire r cells m) after None b → MeetsLink m after (partner_in m c s) b ⊎ Gains sig tables r r2
          none_met d t test.Any e none was gone met = inl tt
          none_met d t test.Free e none was gone met = inr (freed_gains s d t e none was gone)
          none_met d t test.Bound e none was gone met = absurd (let f = met.2 in cc)
          none_met d t (test.Partner b y) e none was gone met = absurd (let f = met.1 in cc)
          none_met d t (test.To n y) e none was gone met = absurd (let f = met.1 in cc)

          by_touched : (d t : ℕ) → link_on r cells c s ≡ None → partner_in m c s ≡ Some (d, t) → (b : Bool) → touched_on r cells d t ≡ b → MeetsLink (fire r cells m) after (unless b (d, t)) (link_test r2.left i s) → MeetsLink m after (partner_in m c s) (link_test r2.left i s) ⊎ Gains sig tables r r2
          by_touched d t none was true f met = none_met d t (link_test r2.left i s) refl none was f met
          by_touched d t none was false f met = inl (rw was (met_before r cells m after (Some (d, t)) (link_test r2.left i s) (λ e u g. partner_below sig r cells m over rule at c s e u (was ∙ g)) met))

          by_partner : link_on r cells c s ≡ None → (o : Option (ℕ × ℕ)) → partner_in m c s ≡ o → MeetsLink (fire r cells m) after (kept_partner r cells o) (link_test r2.left i s) → MeetsLink m after (partner_in m c s) (link_test r2.left i s) ⊎ Gains sig tables r r2
          by_partner none None was met = inl (rw was (met_before r cells m after None (link_test r2.left i s) (λ e u g. absurd cc) met))
          by_partner none (Some p) was met = by_touched p.0 p.1 none was (touched_on r cells p.0 p.1) refl met

          by_written : (o : Option Written) → link_on r cells c s ≡ o → link_test r2.left i s ≢ test.Any → MeetsLink m after (partner_in m c s) (link_test r2.left i s) ⊎ Gains sig tables r r2
          by_written (Some w) f asks = inr (written w f asks)
          by_written None f asks = by_partner f (partner_in m c s) refl (rw (← partner_in-stays r cells m c s within lived.1 f) (later.links i c s here))

          by_test : (b : LinkTest) → link_test r2.left i s ≡ b → MeetsLink m after (partner_in m c s) (link_test r2.left i s) ⊎ Gains sig tables r r2
          by_test test.Any e = inl (rw e tt)
          by_test test.Free e = by_written (link_on r cells c s) refl (λ f. let g : test.Free ≡ test.Any = sym e ∙ f in cc)
          by_test test.Bound e = by_written (link_on r cells c s) refl (λ f. let g : test.Bound ≡ test.Any = sym e ∙ f in cc)
          by_test (test.Partner b y) e = by_written (link_on r cells c s) refl (λ f. let g : test.Partner b y ≡ test.Any = sym e ∙ f in cc)
          by_test (test.To n y) e = by_written (link_on r cells c s) refl (λ f. let g : test.To n y ≡ test.Any = sym e ∙ f in cc)

  -- an embedding afterwards was one before, or there is a gain
  pub before_or_gains : IsEmbedding r2.left m after ⊎ Gains sig tables r r2
  before_or_gains = IsEmbedding-or r2.left m after (Gains sig tables r r2) types states links later.count later.different
    where
      types : (n c : ℕ) (node : Node) → slice_get after n ≡ Some c → slice_get r2.left n ≡ Some node → (type_in m c ≡ Some node.agent) ⊎ Gains sig tables r r2
      types n c node e is = elim (below n c node e is) [ inl within ↦ inl (lived n c node e is within).0 | inr found ↦ inr found ]

      states : (n c s : ℕ) (node : Node) → slice_get after n ≡ Some c → slice_get r2.left n ≡ Some node → MeetsState (state_in m c s) (state_test r2.left n s) ⊎ Gains sig tables r r2
      states n c s node e is = elim (below n c node e is) [ inl within ↦ state_or n c node e is within s | inr found ↦ inr found ]

      links : (n c s : ℕ) (node : Node) → slice_get after n ≡ Some c → slice_get r2.left n ≡ Some node → MeetsLink m after (partner_in m c s) (link_test r2.left n s) ⊎ Gains sig tables r r2
      links n c s node e is = elim (below n c node e is) [ inl within ↦ link_or n c node e is within s | inr found ↦ inr found ]

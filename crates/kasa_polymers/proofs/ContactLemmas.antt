-- Each bond and each state of a reached mixture is in the contact map.
use Rattle.std.proofs.Common.{◌≡◌, ◌≢◌, ℕ, zero, suc, ◌+◌, ◌<◌, ◌⊎◌, inl, inr, Bool, true, false, List, [], ◌∷◌, refl, sym, ap, ◌∙◌, length}
use Rattle.std.specs.Prelude.{Option, Some, None, slice_get}
use Rattle.std.specs.Option.{option_map_or}
use Rattle.std.proofs.lemmas.Option.{some_pair_parts}
use Rattle.kasa_graph.specs.declared.mixture.Agent.{Agent}
use Rattle.kasa_graph.specs.Signature.{TypeEntry}
use Rattle.kasa_graph.specs.Mixture.{agent_in, type_in, partner_in, beside, IsMixtureOver}
use Rattle.kasa_graph.specs.Embedding.{IsEmbedding}
use Rattle.kasa_graph.proofs.ListLemmas.{some_then, some_map, below_or}
use Rattle.kasa_graph.proofs.BesideLemmas.{type_in-beside_left, state_in-beside_left, partner_in-beside_left, type_in-beside_right, state_in-beside_right, partner_of_right}
use Rattle.kasa_families.specs.Table.{Table, AreTables}
use Rattle.kasa_rules.specs.declared.rule.End.{End}
use Rattle.kasa_rules.specs.declared.rule.End.TheVariants.{Left, Made}
use Rattle.kasa_rules.specs.declared.rule.Written.{Written}
use Rattle.kasa_rules.specs.declared.rule.Written.TheVariants.{Free, To}
use Rattle.kasa_rules.specs.declared.model.Model.{Model}
use Rattle.kasa_rules.specs.Rule.{RuleParts, written_state, written_link, made_link, end_link, IsRuleOver}
use Rattle.kasa_rules.specs.Firing.{fire, node_on, state_on, link_on, touched_on, end_cell, partner_at, target, unless, kept_partner}
use Rattle.kasa_rules.specs.Reached.{Event, Step, Run, declared_complex, copies_of, Reached, IsModel}
use Rattle.kasa_rules.specs.Reached.Event.{fires, adds}
use Rattle.kasa_rules.proofs.FiringLemmas.{node_on-found}
use Rattle.kasa_rules.proofs.FiredLemmas.{partner_within, type_in-fire_old, type_in-fire_new, state_in-fire_new, partner_in-fire_made}
use Rattle.kasa_rules.proofs.ReachedLemmas.{init_valid, IsMixtureOver-copies, IsMixtureOver-step}
use Rattle.kasa_pre.specs.Allowed.{IsAllowed}
use Rattle.kasa_pre.specs.Closed.{Cover, IsClosed}
use Rattle.kasa_pre.proofs.BeforeLemmas.{made_end}
use Rattle.kasa_pre.proofs.LeftLemmas.{typed_node, type_of_end}
use Rattle.kasa_pre.proofs.CoverLemmas.{IsAllowed-cover}
use Rattle.kasa_pre.proofs.StepLemmas.{Cover-step}
use Rattle.kasa_pre.proofs.SoundLemmas.{Cover-reached}
use Rattle.kasa_polymers.specs.declared.map.Bond.{Bond}
use Rattle.kasa_polymers.specs.declared.map.StateSeen.{StateSeen}
use Rattle.kasa_polymers.specs.Contact.{turned, HasBond, HasStateSeen, WritesBond, WritesState, IsContactBond, IsContactState}
use Rattle.kasa_polymers.proofs.AfterLemmas.{state_in-stays, state_in-of_written, partner_in-stays, partner_below, partner_in-written}

kept_was : (r : RuleParts) (cells : List ℕ) (o : Option (ℕ × ℕ)) (p : ℕ × ℕ) → kept_partner r cells o ≡ Some p → o ≡ Some p
kept_was r cells None p e = absurd cc
kept_was r cells (Some q) p e = by_touched (touched_on r cells q.0 q.1) e
  where
    by_touched : (b : Bool) → unless b q ≡ Some p → Some q ≡ Some p
    by_touched true f = absurd cc
    by_touched false f = f

-- ---- a firing

module _ (sig : List TypeEntry) (r : RuleParts) (cells : List ℕ) (m : List (Option Agent)) (over : IsMixtureOver sig m) (rule : IsRuleOver sig r) (at : IsEmbedding r.left m cells) where
  writes : (bond : Bond) (e : End) (c d : ℕ) (w : Written) → end_link r e bond.x ≡ Some w → end_cell cells (length m) e ≡ Some c → target cells (length m) w ≡ Some (d, bond.y) → type_in (fire r cells m) c ≡ Some bond.a → type_in (fire r cells m) d ≡ Some bond.b → WritesBond r bond
  writes bond e c d Free is here to first second = absurd cc
  writes bond e c d (To f t) is here to first second =
      let there = some_map (partner_at t) (end_cell cells (length m) f) (d, bond.y) to in
      let same = some_pair_parts there.0 d t bond.y (ap Some there.2) in
      record {
        first = e;
        second = f;
        first_type = type_of_end r cells m at e c bond.a here first;
        link = is ∙ ap (λ (u : ℕ). Some (To f u)) same.1;
        second_type = type_of_end r cells m at f d bond.b (there.1 ∙ ap Some same.0) second;
      }

  -- a bond after a firing was there before, or is written
  HasBond-fire : (bond : Bond) → HasBond (fire r cells m) bond → HasBond m bond ⊎ WritesBond r bond
  HasBond-fire bond has =
      elim (below_or has.first (length m)) [
        | inl within ↦ old within (link_on r cells has.first bond.x) refl
        | inr k ↦ made k.0 k.1 (made_link r k.0 bond.x) refl
      ]
    where
      made : (k : ℕ) → length m + k ≡ has.first → (w : Written) → made_link r k bond.x ≡ w → HasBond m bond ⊎ WritesBond r bond
      made k is Free e = absurd (let none : None ≡ Some (has.second, bond.y) = rw e at (sym (partner_in-fire_made r cells m k has.first bond.x is) ∙ has.partner) in cc)
      made k is (To f t) e =
          inr (writes bond (Made k) has.first has.second (To f t) (made_end r k bond.x f t e) (ap Some is) (rw e at (sym (partner_in-fire_made r cells m k has.first bond.x is) ∙ has.partner)) has.first_type has.second_type)

      old : has.first < length m → (o : Option Written) → link_on r cells has.first bond.x ≡ o → HasBond m bond ⊎ WritesBond r bond
      old within None e =
          let first = type_in-fire_old r cells m has.first bond.a within has.first_type in
          let was = kept_was r cells (partner_in m has.first bond.x) (has.second, bond.y) (sym (partner_in-stays r cells m has.first bond.x within first.1 e) ∙ has.partner) in
          inl (record {
            first = has.first;
            second = has.second;
            first_type = first.0;
            partner = was;
            second_type = (type_in-fire_old r cells m has.second bond.b (partner_below sig r cells m over rule at has.first bond.x has.second bond.y was) has.second_type).0;
          })
      old within (Some w) e =
          let first = type_in-fire_old r cells m has.first bond.a within has.first_type in
          let on = some_then (λ n. written_link r n bond.x) (node_on cells has.first) w e in
          let here = node_on-found cells has.first on.0 on.1 in
          inr (writes bond (Left on.0) has.first has.second w on.2 here (sym (partner_in-written sig r cells m over rule at on.0 has.first bond.x w here first.1 on.2) ∙ has.partner) has.first_type has.second_type)

  -- so is a state
  HasStateSeen-fire : (seen : StateSeen) → HasStateSeen (fire r cells m) seen → HasStateSeen m seen ⊎ WritesState r seen
  HasStateSeen-fire seen has =
      elim (below_or has.cell (length m)) [
        | inl within ↦ old within (state_on r cells has.cell seen.x) refl
        | inr k ↦ inr (record { at = Made k.0; of_type = sym (type_in-fire_new r cells m k.0 has.cell k.1) ∙ has.of_type; state = sym (state_in-fire_new r cells m k.0 has.cell seen.x k.1) ∙ has.state })
      ]
    where
      old : has.cell < length m → (o : Option ℕ) → state_on r cells has.cell seen.x ≡ o → HasStateSeen m seen ⊎ WritesState r seen
      old within None e =
          let lived = type_in-fire_old r cells m has.cell seen.a within has.of_type in
          inl (record { cell = has.cell; of_type = lived.0; state = sym (state_in-stays r cells m has.cell seen.x within lived.1 e) ∙ has.state })
      old within (Some u) e =
          let lived = type_in-fire_old r cells m has.cell seen.a within has.of_type in
          let on = some_then (λ n. written_state r n seen.x) (node_on cells has.cell) u e in
          let left = typed_node r.left m cells at on.0 has.cell (node_on-found cells has.cell on.0 on.1) in
          let same = state_in-of_written r cells m has.cell seen.x u seen.u within lived.1 e has.state in
          inr (record { at = Left on.0; of_type = left.1 ∙ sym left.2 ∙ lived.0; state = on.2 ∙ ap Some same })

-- ---- side by side

HasBond-beside : (sig : List TypeEntry) (m k : List (Option Agent)) → IsMixtureOver sig m → (bond : Bond) → HasBond (beside m k) bond → HasBond m bond ⊎ HasBond k bond
HasBond-beside sig m k over bond has =
    elim (below_or has.first (length m)) [
      | inl within ↦
          let was = sym (partner_in-beside_left m k has.first bond.x within) ∙ has.partner in
          let below = below_partner has.first bond.x has.second bond.y was in
          inl (record {
            first = has.first;
            second = has.second;
            first_type = sym (type_in-beside_left m k has.first within) ∙ has.first_type;
            partner = was;
            second_type = sym (type_in-beside_left m k has.second below) ∙ has.second_type;
          })
      | inr j ↦
          let there = partner_of_right m k has.first j.0 bond.x has.second bond.y j.1 has.partner in
          inr (record {
            first = j.0;
            second = there.0;
            first_type = sym (type_in-beside_right m k has.first j.0 j.1) ∙ has.first_type;
            partner = there.2;
            second_type = sym (type_in-beside_right m k has.second there.0 there.1) ∙ has.second_type;
          })
    ]
  where
    below_partner : (c s d t : ℕ) → partner_in m c s ≡ Some (d, t) → d < length m
    below_partner c s d t e = partner_within m d t c s (over.linked.both_ways c s d t e)

HasStateSeen-beside : (m k : List (Option Agent)) (seen : StateSeen) → HasStateSeen (beside m k) seen → HasStateSeen m seen ⊎ HasStateSeen k seen
HasStateSeen-beside m k seen has =
    elim (below_or has.cell (length m)) [
      | inl within ↦ inl (record { cell = has.cell; of_type = sym (type_in-beside_left m k has.cell within) ∙ has.of_type; state = sym (state_in-beside_left m k has.cell seen.x within) ∙ has.state })
      | inr j ↦ inr (record { cell = j.0; of_type = sym (type_in-beside_right m k has.cell j.0 j.1) ∙ has.of_type; state = sym (state_in-beside_right m k has.cell j.0 seen.x j.1) ∙ has.state })
    ]

no_type : (c a : ℕ) → type_in [] c ≢ Some a
unfolding type_in agent_in
no_type c a e = cc

-- ---- reached mixtures

module _ (model : Model) (valid : IsModel model) (tables : List Table) (ok : AreTables model.sig tables) (closed : IsClosed model tables) where
  -- the bonds and the states of a mixture are in the map
  record AreMapped (m : List (Option Agent)) : Type 0 where
    bonds : (bond : Bond) → HasBond m bond → IsContactBond model tables bond
    states : (seen : StateSeen) → HasStateSeen m seen → IsContactState model tables seen

  AreMapped-[] : AreMapped []
  AreMapped-[] = record { bonds = λ bond has. absurd (no_type has.first bond.a has.first_type); states = λ seen has. absurd (no_type has.cell seen.a has.of_type) }

  AreMapped-init : (i : ℕ) (o : Option (List (Option Agent))) → slice_get model.inits i ≡ o → AreMapped (option_map_or (λ (m : List (Option Agent)). m) o [])
  AreMapped-init i None e = AreMapped-[]
  AreMapped-init i (Some m) e = record { bonds = λ bond has. inl (m, (i, e), has); states = λ seen has. inl (m, (i, e), has) }

  AreMapped-declared : (n : ℕ) (k : List (Option Agent)) → declared_complex model n ≡ Some k → AreMapped k
  AreMapped-declared zero k is = absurd cc
  AreMapped-declared (suc i) k is = AreMapped-init i (Some k) is

  AreMapped-beside : (m k : List (Option Agent)) → IsMixtureOver model.sig m → AreMapped m → AreMapped k → AreMapped (beside m k)
  AreMapped-beside m k over first second = record {
    bonds = λ bond has. elim (HasBond-beside model.sig m k over bond has) [ inl was ↦ first.bonds bond was | inr new ↦ second.bonds bond new ];
    states = λ seen has. elim (HasStateSeen-beside m k seen has) [ inl was ↦ first.states seen was | inr new ↦ second.states seen new ];
  }

  AreMapped-copies : (copies : List ℕ) → AreMapped (copies_of model copies)
  AreMapped-copies [] = AreMapped-[]
  AreMapped-copies (i ∷ copies) = AreMapped-beside _ (copies_of model copies) (init_valid model valid (slice_get model.inits i) (λ m e. valid.inits i m e)) (AreMapped-init i (slice_get model.inits i) refl) (AreMapped-copies copies)

  AreMapped-step : (m next : List (Option Agent)) (event : Event) → IsMixtureOver model.sig m → Cover model.sig tables m → AreMapped m → Step model m event next → AreMapped next
  AreMapped-step m next (fires k cells) over cover mapped (r, is, at, e) = rw e (record {
    bonds = λ bond has. elim (HasBond-fire model.sig r cells m over (valid.rules k r is) at bond has) [ inl was ↦ mapped.bonds bond was | inr new ↦ inr (r, (k, is), live, new) ];
    states = λ seen has. elim (HasStateSeen-fire model.sig r cells m over (valid.rules k r is) at seen has) [ inl was ↦ mapped.states seen was | inr new ↦ inr (r, (k, is), live, new) ];
  })
    where
      live : IsAllowed model.sig tables r.left
      live = IsAllowed-cover model.sig tables m r.left cells ok over cover at
  AreMapped-step m next (adds n) over cover mapped (added, k, is, e) = rw e (AreMapped-beside m k over mapped (AreMapped-declared n k is))

  AreMapped-run : (events : List Event) (m last : List (Option Agent)) → IsMixtureOver model.sig m → Cover model.sig tables m → AreMapped m → Run model m events last → AreMapped last
  AreMapped-run [] m last over cover mapped run = rw run mapped
  AreMapped-run (event ∷ events) m last over cover mapped (next, step, run) =
      AreMapped-run events next last (IsMixtureOver-step model valid m next event over step) (Cover-step model tables m next event ok valid closed over cover step) (AreMapped-step m next event over cover mapped step) run

  AreMapped-reached : (m : List (Option Agent)) → Reached model m → AreMapped m
  AreMapped-reached m reached =
      let first : Reached model (copies_of model reached.copies) = record { copies = reached.copies; no_additions = reached.no_additions; events = []; run = refl } in
      AreMapped-run reached.events (copies_of model reached.copies) m (IsMixtureOver-copies model valid reached.copies) (Cover-reached model valid tables ok closed (copies_of model reached.copies) first) (AreMapped-copies reached.copies) reached.run

  pub IsContactBond-reached : (m : List (Option Agent)) → Reached model m → (bond : Bond) → HasBond m bond → IsContactBond model tables bond
  IsContactBond-reached m reached = (AreMapped-reached m reached).bonds

  pub IsContactState-reached : (m : List (Option Agent)) → Reached model m → (seen : StateSeen) → HasStateSeen m seen → IsContactState model tables seen
  IsContactState-reached m reached = (AreMapped-reached m reached).states

-- the bond read from its other end
pub HasBond-back : (sig : List TypeEntry) (m : List (Option Agent)) → IsMixtureOver sig m → (bond : Bond) → HasBond m bond → HasBond m (turned bond)
HasBond-back sig m over bond has = record {
  first = has.second;
  second = has.first;
  first_type = has.second_type;
  partner = over.linked.both_ways has.first bond.x has.second bond.y has.partner;
  second_type = has.first_type;
}

WritesBond-back : (sig : List TypeEntry) (r : RuleParts) → IsRuleOver sig r → (bond : Bond) → WritesBond r bond → WritesBond r (turned bond)
WritesBond-back sig r rule bond writes = record {
  first = writes.second;
  second = writes.first;
  first_type = writes.second_type;
  link = rule.is_rule.both_ways writes.first writes.second bond.x bond.y writes.link;
  second_type = writes.first_type;
}

-- the contact map has each bond in both directions
pub IsContactBond-back : (model : Model) (tables : List Table) → IsModel model → (bond : Bond) → IsContactBond model tables bond → IsContactBond model tables (turned bond)
IsContactBond-back model tables valid bond (inl (m, (i, e), has)) = inl (m, (i, e), HasBond-back model.sig m (valid.inits i m e) bond has)
IsContactBond-back model tables valid bond (inr (r, (k, e), live, writes)) = inr (r, (k, e), live, WritesBond-back model.sig r (valid.rules k r e) bond writes)

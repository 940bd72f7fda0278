-- What cells of complexes and ends of rules show, site by site.
use Rattle.std.proofs.Common.{◌≡◌, ◌≢◌, ℕ, ◌<◌, ◌≤◌, ◌⊎◌, inl, inr, List, length, refl, sym, ap, subst, ◌∙◌, arith}
use Rattle.std.specs.Prelude.{Option, Some, None, IsSome, slice_get, option_map, ◌↔◌}
use Rattle.std.specs.Option.{option_map_or}
use Rattle.std.proofs.lemmas.Option.{slice_get_within, some_pair_parts}
use Rattle.kasa_graph.specs.declared.mixture.Agent.{Agent}
use Rattle.kasa_graph.specs.declared.mixture.AgentSite.{AgentSite}
use Rattle.kasa_graph.specs.declared.pattern.Node.{Node}
use Rattle.kasa_graph.specs.Lists.{Has}
use Rattle.kasa_graph.specs.Signature.{TypeEntry, state_counts, HasSite}
use Rattle.kasa_graph.specs.Pattern.{agent_at}
use Rattle.kasa_graph.specs.Mixture.{type_in, site_in, state_in, partner_in, IsMixtureOver}
use Rattle.kasa_graph.proofs.ListLemmas.{some_map, some_then, some_at}
use Rattle.kasa_graph.proofs.SiteLemmas.{HasNodeSite-over}
use Rattle.kasa_rules.specs.declared.rule.End.{End}
use Rattle.kasa_rules.specs.declared.rule.End.TheVariants.{Left, Made}
use Rattle.kasa_rules.specs.declared.rule.Written.TheVariants.{Free, To}
use Rattle.kasa_rules.specs.declared.rule.Written.{Written}
use Rattle.kasa_rules.specs.declared.rule.SiteAction.{SiteAction}
use Rattle.kasa_rules.specs.declared.rule.NodeAction.{NodeAction}
use Rattle.kasa_rules.specs.declared.rule.MadeSite.{MadeSite}
use Rattle.kasa_rules.specs.declared.rule.MadeAgent.{MadeAgent}
use Rattle.kasa_rules.specs.Rule.{RuleParts, IsRule, IsRuleOver, action_at, written_link, made_type, made_site, made_link, end_type, end_link}
use Rattle.kasa_rules.proofs.FiredLemmas.{site_of_partner, type_within}
use Rattle.kasa_pre.proofs.ShapeLemmas.{count_of_site}
use Rattle.kasa_pre.proofs.AskedLemmas.{made_site_exists}
use Rattle.kasa_polymers.specs.declared.map.Bond.{Bond}
use Rattle.kasa_polymers.specs.declared.map.StateSeen.{StateSeen}
use Rattle.kasa_polymers.specs.Contact.{HasBond, HasStateSeen, WritesBond, WritesState, end_state}
use Rattle.kasa_polymers.specs.inner.Gather.{Below, IsBondOf, IsStateOf, IsBondAt, IsStateAt, IsBondOfEnd, IsStateOfEnd, IsBondAtEnd, IsStateAtEnd, HasEndSite}
use Rattle.kasa_polymers.proofs.OrderLemmas.{bond_same}
use Rattle.kasa_polymers.proofs.ContactSites.{site_of_end, state_of_end}

-- ---- one site of a cell

module _ (m : List (Option Agent)) (c a s : ℕ) (typed : type_in m c ≡ Some a) where
  pub no_bond : (p : Bond) → partner_in m c s ≡ None → ¬ IsBondAt m c s p
  no_bond p none (at, (is, (d, to, other))) = let e : None ≡ Some (d, p.y) = sym none ∙ ap (partner_in m c) (sym at) ∙ to in cc

  pub no_second : (p : Bond) (d y : ℕ) → partner_in m c s ≡ Some (d, y) → type_in m d ≡ None → ¬ IsBondAt m c s p
  no_second p d y to none (at, (is, (e, to', other))) =
      let same = some_pair_parts d e y p.y (sym to ∙ ap (partner_in m c) (sym at) ∙ to') in
      let gone : None ≡ Some p.b = sym none ∙ ap (type_in m) same.0 ∙ other in cc

  pub one_bond : (p : Bond) (d b y : ℕ) → partner_in m c s ≡ Some (d, y) → type_in m d ≡ Some b → (let q : Bond = record { a = a; x = s; b = b; y = y } in Some q ≡ Some p) ↔ IsBondAt m c s p
  one_bond p d b y to second = (
    (λ e.
        let q : Bond = record { a = a; x = s; b = b; y = y } in
        let same : q ≡ p = cc in
        let P : Bond → Type 0 = λ r. IsBondAt m c s r in
        subst P same (refl, (typed, (d, to, second)))),
    (λ (at, (is, (e, to', other))).
        let first : Some a ≡ Some p.a = sym typed ∙ is in
        let pair = some_pair_parts d e y p.y (sym to ∙ ap (partner_in m c) (sym at) ∙ to') in
        let far : Some b ≡ Some p.b = sym second ∙ ap (type_in m) pair.0 ∙ other in
        let type : a ≡ p.a = cc in let other_type : b ≡ p.b = cc in ap Some (bond_same (record { a = a; x = s; b = b; y = y }) p type (sym at) other_type pair.1)),
  )

  pub no_state : (q : StateSeen) → state_in m c s ≡ None → ¬ IsStateAt m c s q
  no_state q none (at, (is, state)) = let e : None ≡ Some q.u = sym none ∙ ap (state_in m c) (sym at) ∙ state in cc

  pub one_state : (q : StateSeen) (u : ℕ) → state_in m c s ≡ Some u → (let r : StateSeen = record { a = a; x = s; u = u } in Some r ≡ Some q) ↔ IsStateAt m c s q
  one_state q u here = (
    (λ e.
        let r : StateSeen = record { a = a; x = s; u = u } in
        let same : r ≡ q = cc in
        let P : StateSeen → Type 0 = λ t. IsStateAt m c s t in
        subst P same (refl, (typed, here))),
    (λ (at, (is, state)).
        let first : Some a ≡ Some q.a = sym typed ∙ is in
        let now : Some u ≡ Some q.u = sym here ∙ ap (state_in m c) (sym at) ∙ state in
        let type : a ≡ q.a = cc in
        let value : u ≡ q.u = cc in
        λ i. Some (record { a = type i; x = sym at i; u = value i })),
  )

-- ---- all sites of a cell, and all cells

module _ (sig : List TypeEntry) (m : List (Option Agent)) (over : IsMixtureOver sig m) where
  site_there : (c a s : ℕ) (x : AgentSite) → type_in m c ≡ Some a → site_in m c s ≡ Some x → HasSite sig a s
  site_there c a s x typed is = slice_get_within (state_counts sig a) s x.states (count_of_site sig m over c s a x is typed)

  pub cell_bonds : (c a n : ℕ) → type_in m c ≡ Some a → length (state_counts sig a) ≤ n → (p : Bond) → Below (IsBondAt m c) n p ↔ IsBondOf m c p
  cell_bonds c a n typed count p = (
    λ (s, h, at). at.1,
    λ (is, (d, to, second)).
        let x = site_of_partner m c p.x d p.y to in
        let there = site_there c a p.x x.0 typed x.1 in
        (p.x, (omega arith), (refl, (is, (d, to, second)))),
  )

  pub cell_states : (c a n : ℕ) → type_in m c ≡ Some a → length (state_counts sig a) ≤ n → (q : StateSeen) → Below (IsStateAt m c) n q ↔ IsStateOf m c q
  unfolding state_in
  cell_states c a n typed count q = (
    λ (s, h, at). at.1,
    λ (is, state).
        let x = some_then (λ (y : AgentSite). y.state) (site_in m c q.x) q.u state in
        let there = site_there c a q.x x.0 typed x.1 in
        (q.x, (omega arith), (refl, (is, state))),
  )

module _ (m : List (Option Agent)) where
  pub no_cell_bond : (c : ℕ) → type_in m c ≡ None → (p : Bond) → ¬ IsBondOf m c p
  no_cell_bond c none p (is, there) = let e : None ≡ Some p.a = sym none ∙ is in cc

  pub no_cell_state : (c : ℕ) → type_in m c ≡ None → (q : StateSeen) → ¬ IsStateOf m c q
  no_cell_state c none q (is, state) = let e : None ≡ Some q.a = sym none ∙ is in cc

  pub complex_bonds : (n : ℕ) → length m ≤ n → (p : Bond) → Below (IsBondOf m) n p ↔ HasBond m p
  complex_bonds n all p = (
    λ (c, h, (is, (d, to, second))). record { first = c; second = d; first_type = is; partner = to; second_type = second },
    λ has. (has.first, (let h = type_within m has.first p.a has.first_type in omega arith), (has.first_type, (has.second, has.partner, has.second_type))),
  )

  pub complex_states : (n : ℕ) → length m ≤ n → (q : StateSeen) → Below (IsStateOf m) n q ↔ HasStateSeen m q
  complex_states n all q = (
    λ (c, h, (is, state)). record { cell = c; of_type = is; state = state },
    λ has. (has.cell, (let h = type_within m has.cell q.a has.of_type in omega arith), (has.of_type, has.state)),
  )

-- what holds of some element of a list holds at some place below its length
pub some_place : {X Y : Type 0} (xs : List X) (P : X → Y → Type 0) (n : ℕ) → length xs ≤ n → (y : Y) → Below (λ k z. (x : X) × (slice_get xs k ≡ Some x) × P x z) n y ↔ ((x : X) × Has xs x × P x y)
some_place xs P n all y = (
  λ (k, h, (x, at, p)). (x, (k, at), p),
  λ (x, (k, at), p). (k, (let h = slice_get_within xs k x at in omega arith), (x, at, p)),
)

-- ---- one site of an end

module _ (r : RuleParts) (e : End) (a s : ℕ) (typed : end_type r e ≡ Some a) where
  pub no_link : (p : Bond) → ((f : End) (t : ℕ) → end_link r e s ≢ Some (To f t)) → ¬ IsBondAtEnd r e s p
  no_link p none (at, (is, (f, to, other))) = none f p.y (ap (end_link r e) (sym at) ∙ to)

  pub one_link : (p : Bond) (f : End) (b y : ℕ) → end_link r e s ≡ Some (To f y) → end_type r f ≡ Some b → (let q : Bond = record { a = a; x = s; b = b; y = y } in Some q ≡ Some p) ↔ IsBondAtEnd r e s p
  one_link p f b y to second = (
    (λ same.
        let q : Bond = record { a = a; x = s; b = b; y = y } in
        let one : q ≡ p = cc in
        let P : Bond → Type 0 = λ t. IsBondAtEnd r e s t in
        subst P one (refl, (typed, (f, to, second)))),
    (λ (at, (is, (g, to', other))).
        let first : Some a ≡ Some p.a = sym typed ∙ is in
        let link : Some (To f y) ≡ Some (To g p.y) = sym to ∙ ap (end_link r e) (sym at) ∙ to' in
        let end : f ≡ g = cc in
        let far : y ≡ p.y = cc in
        let last : Some b ≡ Some p.b = sym second ∙ ap (end_type r) end ∙ other in
        let type : a ≡ p.a = cc in let other_type : b ≡ p.b = cc in ap Some (bond_same (record { a = a; x = s; b = b; y = y }) p type (sym at) other_type far)),
  )

  pub no_end_state : (q : StateSeen) → end_state r e s ≡ None → ¬ IsStateAtEnd r e s q
  no_end_state q none (at, (is, state)) = let same : None ≡ Some q.u = sym none ∙ ap (end_state r e) (sym at) ∙ state in cc

  pub one_end_state : (q : StateSeen) (u : ℕ) → end_state r e s ≡ Some u → (let t : StateSeen = record { a = a; x = s; u = u } in Some t ≡ Some q) ↔ IsStateAtEnd r e s q
  one_end_state q u here = (
    (λ same.
        let t : StateSeen = record { a = a; x = s; u = u } in
        let one : t ≡ q = cc in
        let P : StateSeen → Type 0 = λ z. IsStateAtEnd r e s z in
        subst P one (refl, (typed, here))),
    (λ (at, (is, state)).
        let first : Some a ≡ Some q.a = sym typed ∙ is in
        let now : Some u ≡ Some q.u = sym here ∙ ap (end_state r e) (sym at) ∙ state in
        let type : a ≡ q.a = cc in
        let value : u ≡ q.u = cc in
        λ i. Some (record { a = type i; x = sym at i; u = value i })),
  )

-- ---- ends

-- the far end of a link is there
pub end_exists : (r : RuleParts) → IsRule r → (e f : End) (s t : ℕ) → end_link r e s ≡ Some (To f t) → IsSome (end_type r f)
unfolding written_link action_at made_type made_site agent_at
end_exists r rule e f s t is = by_end f (rule.both_ways e f s t is)
  where
    by_end : (f : End) → end_link r f t ≡ Some (To e s) → IsSome (end_type r f)
    by_end (Left n) back =
        let site = some_then (λ (x : SiteAction). x.link) (action_at r n t) (To e s) back in
        let node = some_then (λ (x : NodeAction). slice_get x.sites t) (slice_get r.actions n) site.0 site.1 in
        let left = some_at r.left n (rw (← rule.actions) (slice_get_within r.actions n node.0 node.1)) in
        rw left.1 refl
    by_end (Made k) back =
        let site = some_map (λ (x : MadeSite). x.link) (made_site r k t) (To e s) back in
        let agent = some_then (λ (x : MadeAgent). slice_get x.sites t) (slice_get r.made k) site.0 site.1 in
        rw agent.1 refl

module _ (sig : List TypeEntry) (r : RuleParts) (over : IsRuleOver sig r) where
  pub HasEndSite-over : (e : End) (a s : ℕ) → end_type r e ≡ Some a → HasSite sig a s → HasEndSite r e s
  HasEndSite-over (Left n) a s typed has = HasNodeSite-over sig r.left over.over.left n a s typed has
  HasEndSite-over (Made k) a s typed has = made_site_exists sig r over k a s typed has

  pub end_bonds : (e : End) (a n : ℕ) → end_type r e ≡ Some a → length (state_counts sig a) ≤ n → (p : Bond) → Below (IsBondAtEnd r e) n p ↔ IsBondOfEnd r e p
  end_bonds e a n typed count p = (
    λ (s, h, at). at.1,
    λ (is, (f, to, second)). let there = site_of_end sig r over e a p.x (To f p.y) typed to in (p.x, (omega arith), (refl, (is, (f, to, second)))),
  )

  pub end_states : (e : End) (a n : ℕ) → end_type r e ≡ Some a → length (state_counts sig a) ≤ n → (q : StateSeen) → Below (IsStateAtEnd r e) n q ↔ IsStateOfEnd r e q
  end_states e a n typed count q = (
    λ (s, h, at). at.1,
    λ (is, state). let there = state_of_end sig r over e a q.x q.u typed state in (q.x, (omega arith), (refl, (is, state))),
  )

left_within : (r : RuleParts) (n a : ℕ) → agent_at r.left n ≡ Some a → n < length r.left
unfolding agent_at
left_within r n a is = let node = some_map (λ (x : Node). x.agent) (slice_get r.left n) a is in slice_get_within r.left n node.0 node.1

made_within : (r : RuleParts) (k a : ℕ) → made_type r k ≡ Some a → k < length r.made
unfolding made_type
made_within r k a is = let agent = some_map (λ (x : MadeAgent). x.agent) (slice_get r.made k) a is in slice_get_within r.made k agent.0 agent.1

module _ (r : RuleParts) where
  pub left_bonds : (n : ℕ) → length r.left ≤ n → (p : Bond) → Below (λ k. IsBondOfEnd r (Left k)) n p ↔ ((n : ℕ) × IsBondOfEnd r (Left n) p)
  left_bonds n all p = (λ (k, h, is). (k, is), λ (k, is). (k, (let h = left_within r k p.a is.0 in omega arith), is))

  pub left_states : (n : ℕ) → length r.left ≤ n → (q : StateSeen) → Below (λ k. IsStateOfEnd r (Left k)) n q ↔ ((n : ℕ) × IsStateOfEnd r (Left n) q)
  left_states n all q = (λ (k, h, is). (k, is), λ (k, is). (k, (let h = left_within r k q.a is.0 in omega arith), is))

  pub made_bonds : (n : ℕ) → length r.made ≤ n → (p : Bond) → Below (λ k. IsBondOfEnd r (Made k)) n p ↔ ((k : ℕ) × IsBondOfEnd r (Made k) p)
  made_bonds n all p = (λ (k, h, is). (k, is), λ (k, is). (k, (let h = made_within r k p.a is.0 in omega arith), is))

  pub made_states : (n : ℕ) → length r.made ≤ n → (q : StateSeen) → Below (λ k. IsStateOfEnd r (Made k)) n q ↔ ((k : ℕ) × IsStateOfEnd r (Made k) q)
  made_states n all q = (λ (k, h, is). (k, is), λ (k, is). (k, (let h = made_within r k q.a is.0 in omega arith), is))

  -- a rule writes what it writes at left nodes and creates
  written_at : (p : Bond) (e : End) → IsBondOfEnd r e p → ((n : ℕ) × IsBondOfEnd r (Left n) p) ⊎ ((k : ℕ) × IsBondOfEnd r (Made k) p)
  written_at p (Left n) is = inl (n, is)
  written_at p (Made k) is = inr (k, is)

  from_end : (p : Bond) (e : End) → IsBondOfEnd r e p → WritesBond r p
  from_end p e (is, (f, to, second)) = record { first = e; second = f; first_type = is; link = to; second_type = second }

  pub rule_bonds : (p : Bond) → (((n : ℕ) × IsBondOfEnd r (Left n) p) ⊎ ((k : ℕ) × IsBondOfEnd r (Made k) p)) ↔ WritesBond r p
  rule_bonds p = (
    λ o. elim o [ inl (n, is) ↦ from_end p (Left n) is | inr (k, is) ↦ from_end p (Made k) is ],
    λ writes. written_at p writes.first (writes.first_type, (writes.second, writes.link, writes.second_type)),
  )

  state_at : (q : StateSeen) (e : End) → IsStateOfEnd r e q → ((n : ℕ) × IsStateOfEnd r (Left n) q) ⊎ ((k : ℕ) × IsStateOfEnd r (Made k) q)
  state_at q (Left n) is = inl (n, is)
  state_at q (Made k) is = inr (k, is)

  pub rule_states : (q : StateSeen) → (((n : ℕ) × IsStateOfEnd r (Left n) q) ⊎ ((k : ℕ) × IsStateOfEnd r (Made k) q)) ↔ WritesState r q
  rule_states q = (
    λ o. elim o [
      | inl (n, is) ↦ record { at = Left n; of_type = is.0; state = is.1 }
      | inr (k, is) ↦ record { at = Made k; of_type = is.0; state = is.1 }
    ],
    λ writes. state_at q writes.at (writes.of_type, writes.state),
  )

-- what holds of the element at a place
pub one_place : {X Y : Type 0} (xs : List X) (P : X → Y → Type 0) (k : ℕ) (x : X) → slice_get xs k ≡ Some x → (y : Y) → P x y ↔ ((z : X) × (slice_get xs k ≡ Some z) × P z y)
one_place xs P k x at y = (
  λ p. (x, at, p),
  λ (z, there, p). let twice : Some z ≡ Some x = sym there ∙ at in let one : z ≡ x = cc in subst (λ w. P w y) one p,
)

-- ---- ends that are there

pub left_exists : (r : RuleParts) (n : ℕ) → n < length r.left → IsSome (end_type r (Left n))
unfolding agent_at
left_exists r n h = let node = some_at r.left n h in rw node.1 refl

pub made_exists : (r : RuleParts) (k : ℕ) → k < length r.made → IsSome (end_type r (Made k))
unfolding made_type
made_exists r k h = let agent = some_at r.made k h in rw agent.1 refl

pub left_there : (r : RuleParts) (e : End) (n : ℕ) → e ≡ Left n → IsSome (end_type r e) → n < length r.left
left_there r e n is has = by_agent (agent_at r.left n) refl (rw is at has)
  where
    by_agent : (o : Option ℕ) → agent_at r.left n ≡ o → IsSome o → n < length r.left
    by_agent None at some = absurd cc
    by_agent (Some a) at some = left_within r n a at

pub made_there : (r : RuleParts) (e : End) (k : ℕ) → e ≡ Made k → IsSome (end_type r e) → k < length r.made
made_there r e k is has = by_type (made_type r k) refl (rw is at has)
  where
    by_type : (o : Option ℕ) → made_type r k ≡ o → IsSome o → k < length r.made
    by_type None at some = absurd cc
    by_type (Some a) at some = made_within r k a at

pub made_link_there : (r : RuleParts) (e : End) (k s : ℕ) (w : Written) → e ≡ Made k → HasEndSite r e s → w ≡ made_link r k s → Some w ≡ end_link r e s
unfolding made_link
made_link_there r e k s w is has link = rw (link, is) (by_site (made_site r k s) (rw is at has))
  where
    by_site : (o : Option MadeSite) → IsSome o → Some (option_map_or (λ (x : MadeSite). x.link) o Free) ≡ option_map (λ (x : MadeSite). x.link) o
    by_site None some = absurd cc
    by_site (Some x) some = refl

-- What stands in a mixture from which a cell was removed, and how its partners are freed one by one.
use Rattle.std.proofs.Common.{◌≡◌, ◌≢◌, ℕ, ◌+◌, ◌<◌, ◌≤◌, inl, inr, Bool, true, false, List, refl, ap, sym, ◌∙◌, map, length, arith, eq-eqb}
use Rattle.std.proofs.lemmas.Bool.{eqb-true}
use Rattle.std.specs.Prelude.{Option, Some, None, ◌==◌, if◌then◌else◌, slice_get, option_map, option_and_then}
use Rattle.std.proofs.lemmas.List.{length-map}
use Rattle.std.proofs.lemmas.Option.{slice_get-map, slice_get_within, some_pair_parts}
use Rattle.kasa_graph.specs.declared.mixture.Agent.{Agent}
use Rattle.kasa_graph.specs.declared.mixture.AgentSite.{AgentSite}
use Rattle.kasa_lists.specs.Lists.{update}
use Rattle.kasa_graph.specs.Mixture.{agent_in, site_in, partner_in, HasAgentSite, IsMixture, change_site, with_partner, partner_without, site_without, agent_without, removed}
use Rattle.kasa_lists.proofs.Numbers.{same_or_not, same_both_or_not}
use Rattle.kasa_lists.proofs.Options.{some_then}
use Rattle.kasa_lists.proofs.Updates.{slice_get-update_same, slice_get-update_other, map-update_same, length-update}
use Rattle.kasa_lists.proofs.Maps.{map-same}
use Rattle.kasa_graph.proofs.CellLemmas.{cell_at, has_agent, has_partner, HasAgentSite-of, partner_in-with_partner_same, partner_in-with_partner_other}

-- ---- a partner outside a cell

pub partner_without_inside : (c t : ℕ) → partner_without c (c, t) ≡ None
partner_without_inside c t = rw (eq-eqb c c refl) refl

pub partner_without_outside : (c d t : ℕ) → d ≢ c → partner_without c (d, t) ≡ Some (d, t)
partner_without_outside c d t ne = by_test (d == c) refl
  where
    by_test : (b : Bool) → (d == c) ≡ b → (let o : Option (ℕ × ℕ) = if b then None else Some (d, t) in o) ≡ Some (d, t)
    by_test true e = absurd (ne (eqb-true d c e))
    by_test false e = refl

pub of_partner_without : (c d t e u : ℕ) → partner_without c (d, t) ≡ Some (e, u) → (d ≢ c) × (d ≡ e) × (t ≡ u)
of_partner_without c d t e u is =
    elim (same_or_not d c) [
      | inl same ↦ absurd (none_some (ap (λ x. partner_without c (x, t)) same ∙ partner_without_inside c t) is)
      | inr ne ↦ let both = some_pair_parts d e t u (sym (partner_without_outside c d t ne) ∙ is) in (ne, both.0, both.1)
    ]
  where
    none_some : {o : Option (ℕ × ℕ)} → o ≡ None → o ≡ Some (e, u) → ⊥
    none_some p q = cc

-- ---- a removed cell

site_in-emptied : (m : List (Option Agent)) (c d t : ℕ) → c ≢ d → site_in (update m c (λ _. None)) d t ≡ site_in m d t
unfolding site_in agent_in
site_in-emptied m c d t ne = rw (slice_get-update_other m c d (λ _. None) ne) refl

agent_in-emptied : (m : List (Option Agent)) (c : ℕ) → agent_in (update m c (λ _. None)) c ≡ None
unfolding agent_in
agent_in-emptied m c = rw (slice_get-update_same m c (λ _. None)) (by_cell (slice_get m c))
  where
    by_cell : (o : Option (Option Agent)) → option_and_then (λ (cell : Option Agent). cell) (option_map (λ (_ : Option Agent). None) o) ≡ None
    by_cell None = refl
    by_cell (Some cell) = refl

site_in-without : (m : List (Option Agent)) (c d t : ℕ) → site_in (map (option_map (agent_without c)) m) d t ≡ option_map (site_without c) (site_in m d t)
unfolding site_in agent_in
site_in-without m c d t = rw (slice_get-map (option_map (agent_without c)) m d) (by_cell (slice_get m d))
  where
    by_agent : (o : Option Agent) → option_and_then (λ (a : Agent). slice_get a.sites t) (option_map (agent_without c) o) ≡ option_map (site_without c) (option_and_then (λ (a : Agent). slice_get a.sites t) o)
    by_agent None = refl
    by_agent (Some a) = slice_get-map (site_without c) a.sites t

    by_cell : (o : Option (Option Agent)) → option_and_then (λ (a : Agent). slice_get a.sites t) (option_and_then (λ (cell : Option Agent). cell) (option_map (option_map (agent_without c)) o)) ≡ option_map (site_without c) (option_and_then (λ (a : Agent). slice_get a.sites t) (option_and_then (λ (cell : Option Agent). cell) o))
    by_cell None = refl
    by_cell (Some cell) = by_agent cell

partner_in-without : (m : List (Option Agent)) (c d t : ℕ) → partner_in (map (option_map (agent_without c)) m) d t ≡ option_and_then (partner_without c) (partner_in m d t)
unfolding partner_in
partner_in-without m c d t = rw (site_in-without m c d t) (by_site (site_in m d t))
  where
    by_site : (o : Option AgentSite) → option_and_then (λ (x : AgentSite). x.partner) (option_map (site_without c) o) ≡ option_and_then (partner_without c) (option_and_then (λ (x : AgentSite). x.partner) o)
    by_site None = refl
    by_site (Some x) = refl

partner_in-emptied_same : (m : List (Option Agent)) (c t : ℕ) → partner_in (update m c (λ _. None)) c t ≡ None
unfolding partner_in site_in
partner_in-emptied_same m c t = rw (agent_in-emptied m c) refl

partner_in-emptied_other : (m : List (Option Agent)) (c d t : ℕ) → c ≢ d → partner_in (update m c (λ _. None)) d t ≡ partner_in m d t
unfolding partner_in
partner_in-emptied_other m c d t ne = rw (site_in-emptied m c d t ne) refl

pub partner_in-removed_same : (m : List (Option Agent)) (c t : ℕ) → partner_in (removed m c) c t ≡ None
unfolding removed
partner_in-removed_same m c t = partner_in-without (update m c (λ _. None)) c c t ∙ rw (partner_in-emptied_same m c t) refl

pub partner_in-removed_other : (m : List (Option Agent)) (c d t : ℕ) → c ≢ d → partner_in (removed m c) d t ≡ option_and_then (partner_without c) (partner_in m d t)
unfolding removed
partner_in-removed_other m c d t ne = partner_in-without (update m c (λ _. None)) c d t ∙ rw (partner_in-emptied_other m c d t ne) refl

-- a partner after the removal was there before, and neither end lies in the cell
partner_of_removed : (m : List (Option Agent)) (c d t e u : ℕ) → partner_in (removed m c) d t ≡ Some (e, u) → (c ≢ d) × (e ≢ c) × (partner_in m d t ≡ Some (e, u))
partner_of_removed m c d t e u is =
    elim (same_or_not c d) [
      | inl same ↦ absurd (none_some (ap (λ x. partner_in (removed m c) x t) (sym same) ∙ partner_in-removed_same m c t) is)
      | inr ne ↦
          let old = some_then (partner_without c) (partner_in m d t) (e, u) (sym (partner_in-removed_other m c d t ne) ∙ is) in
          let out = of_partner_without c old.0.0 old.0.1 e u old.2 in
          (ne, (λ (same : e ≡ c). out.0 (out.1 ∙ same)), old.1 ∙ pair old.0.0 old.0.1 out.1 out.2)
    ]
  where
    none_some : {o : Option (ℕ × ℕ)} → o ≡ None → o ≡ Some (e, u) → ⊥
    none_some p q = cc

    pair : (a b : ℕ) → a ≡ e → b ≡ u → (let o : Option (ℕ × ℕ) = Some (a, b) in o) ≡ Some (e, u)
    pair a b p q = rw (p, q) refl

partner_kept : (m : List (Option Agent)) (c d t e u : ℕ) → c ≢ d → e ≢ c → partner_in m d t ≡ Some (e, u) → partner_in (removed m c) d t ≡ Some (e, u)
partner_kept m c d t e u ne out is = partner_in-removed_other m c d t ne ∙ rw is (partner_without_outside c e u out)

pub length-removed : (m : List (Option Agent)) (c : ℕ) → length (removed m c) ≡ length m
unfolding removed
length-removed m c = length-map (update m c (λ _. None)) (option_map (agent_without c)) ∙ length-update m c (λ _. None)

pub IsMixture-removed : (m : List (Option Agent)) (c : ℕ) → IsMixture m → IsMixture (removed m c)
IsMixture-removed m c ok = record {
  both_ways = λ d t e u is.
      let old = partner_of_removed m c d t e u is in
      partner_kept m c e u d t (λ same. old.1 (sym same)) (λ same. old.0 (sym same)) (ok.both_ways d t e u old.2);
  apart = λ d t is. ok.apart d t (partner_of_removed m c d t d t is).2;
}

-- ---- freed one by one

-- of the sites that had a partner in the emptied cell c, those whose partner has a number below k are free
pub record IsFreeing (m cells : List (Option Agent)) (c k : ℕ) : Type 0 where
  pub same : map (option_map (agent_without c)) cells ≡ removed m c
  pub bound : (e u s : ℕ) → partner_in cells e u ≡ Some (c, s) → (e ≢ c) × (k ≤ s) × (partner_in m e u ≡ Some (c, s))
  pub left : (e u s : ℕ) → e ≢ c → k ≤ s → partner_in m e u ≡ Some (c, s) → partner_in cells e u ≡ Some (c, s)

pub IsFreeing-start : (m : List (Option Agent)) (c : ℕ) → IsFreeing m (update m c (λ _. None)) c 0
unfolding removed
IsFreeing-start m c = record {
  same = refl;
  bound = λ e u s is. elim (same_or_not c e) [
    | inl same ↦ absurd (none_some (ap (λ x. partner_in (update m c (λ _. None)) x u) (sym same) ∙ partner_in-emptied_same m c u) is)
    | inr ne ↦ ((λ (same : e ≡ c). ne (sym same)), (omega arith), sym (partner_in-emptied_other m c e u ne) ∙ is)
  ];
  left = λ e u s ne below is. partner_in-emptied_other m c e u (λ same. ne (sym same)) ∙ is;
}
  where
    none_some : {o : Option (ℕ × ℕ)} {p : ℕ × ℕ} → o ≡ None → o ≡ Some p → ⊥
    none_some p q = cc

-- a site whose partner lies in no other cell
pub IsFreeing-skip : (m cells : List (Option Agent)) (c k : ℕ) → IsMixture m → ((d t : ℕ) → partner_in m c k ≡ Some (d, t) → d ≡ c) → IsFreeing m cells c k → IsFreeing m cells c (k + 1)
IsFreeing-skip m cells c k ok inside was = record {
  same = was.same;
  bound = λ e u s is.
      let old = was.bound e u s is in
      (old.0, more e u s old.0 old.1 old.2, old.2);
  left = λ e u s ne below is. was.left e u s ne (omega arith) is;
}
  where
    more : (e u s : ℕ) → e ≢ c → k ≤ s → partner_in m e u ≡ Some (c, s) → k + 1 ≤ s
    more e u s ne below is = elim (same_or_not k s) [
      | inl same ↦ absurd (ne (inside e u (ap (partner_in m c) same ∙ ok.both_ways e u c s is)))
      | inr differ ↦ omega arith
    ]

site_without-freed : (c s : ℕ) (x : AgentSite) → x.partner ≡ Some (c, s) → site_without c (record x { partner = None }) ≡ site_without c x
site_without-freed c s x is =
    let with_partner_of : Option (ℕ × ℕ) → AgentSite = λ p. record x { partner = p } in
    ap with_partner_of (sym (ap (λ (o : Option (ℕ × ℕ)). option_and_then (partner_without c) o) is ∙ partner_without_inside c s))

without_freed : (cells : List (Option Agent)) (c d t s : ℕ) → partner_in cells d t ≡ Some (c, s) → map (option_map (agent_without c)) (with_partner cells d t None) ≡ map (option_map (agent_without c)) cells
unfolding with_partner
without_freed cells c d t s is =
    let site = has_partner cells d t (c, s) is in
    let agent = has_agent cells d t site.0 site.1 in
    map-update_same (option_map (agent_without c)) (option_map (change_site t (λ x. record x { partner = None }))) cells d (Some agent.0) (cell_at cells d agent.0 agent.1)
    (let with_sites : List AgentSite → Option Agent = λ xs. Some (record agent.0 { sites = xs }) in
    ap with_sites (map-update_same (site_without c) (λ x. record x { partner = None }) agent.0.sites t site.0 agent.2 (site_without-freed c s site.0 site.2)))

-- the partner that is freed next
still_bound : (m cells : List (Option Agent)) (c k d t : ℕ) → IsMixture m → partner_in m c k ≡ Some (d, t) → d ≢ c → IsFreeing m cells c k → partner_in cells d t ≡ Some (c, k)
still_bound m cells c k d t ok is ne was = was.left d t k ne (omega arith) (ok.both_ways c k d t is)

pub partner_has_site : (m cells : List (Option Agent)) (c k d t : ℕ) → IsMixture m → partner_in m c k ≡ Some (d, t) → d ≢ c → IsFreeing m cells c k → HasAgentSite cells d t
partner_has_site m cells c k d t ok is ne was = let site = has_partner cells d t (c, k) (still_bound m cells c k d t ok is ne was) in HasAgentSite-of cells d t site.0 site.1

-- a site whose partner lies in another cell, and is freed
pub IsFreeing-free : (m cells : List (Option Agent)) (c k d t : ℕ) → IsMixture m → partner_in m c k ≡ Some (d, t) → d ≢ c → IsFreeing m cells c k → IsFreeing m (with_partner cells d t None) c (k + 1)
IsFreeing-free m cells c k d t ok is ne was = record {
  same = without_freed cells c d t k here ∙ was.same;
  bound = bound;
  left = left;
}
  where
    here : partner_in cells d t ≡ Some (c, k)
    here = still_bound m cells c k d t ok is ne was

    has : HasAgentSite cells d t
    has = partner_has_site m cells c k d t ok is ne was

    none_some : {o : Option (ℕ × ℕ)} {p : ℕ × ℕ} → o ≡ None → o ≡ Some p → ⊥
    none_some p q = cc

    other : (e u s : ℕ) → (d ≡ e → t ≢ u) → k ≤ s → partner_in m e u ≡ Some (c, s) → k + 1 ≤ s
    other e u s differ below back = elim (same_or_not k s) [
      | inl same ↦
          let both = some_pair_parts d e t u (sym is ∙ ap (partner_in m c) same ∙ ok.both_ways e u c s back) in
          absurd (differ both.0 both.1)
      | inr ne' ↦ omega arith
    ]

    bound : (e u s : ℕ) → partner_in (with_partner cells d t None) e u ≡ Some (c, s) → (e ≢ c) × (k + 1 ≤ s) × (partner_in m e u ≡ Some (c, s))
    bound e u s at = elim (same_both_or_not d t e u) [
      | inl same ↦ absurd (none_some (partner_in-with_partner_same cells d t None has) (rw (← same.0, ← same.1) at at))
      | inr differ ↦
          let old = was.bound e u s (sym (partner_in-with_partner_other cells d t e u None differ) ∙ at) in
          (old.0, other e u s differ old.1 old.2, old.2)
    ]

    left : (e u s : ℕ) → e ≢ c → k + 1 ≤ s → partner_in m e u ≡ Some (c, s) → partner_in (with_partner cells d t None) e u ≡ Some (c, s)
    left e u s out below back = elim (same_both_or_not d t e u) [
      | inl same ↦
          let both = some_pair_parts c c k s (sym (ok.both_ways c k d t is) ∙ (rw (← same.0, ← same.1) at back)) in
          absurd (let e = both.1 in omega arith)
      | inr differ ↦ partner_in-with_partner_other cells d t e u None differ ∙ was.left e u s out (omega arith) back
    ]

-- no site is left
pub IsFreeing-end : (m cells : List (Option Agent)) (c k : ℕ) (a : Agent) → IsMixture m → agent_in m c ≡ Some a → length a.sites ≤ k → IsFreeing m cells c k → cells ≡ removed m c
unfolding partner_in site_in agent_in
IsFreeing-end m cells c k a ok is all was = sym (map-same (option_map (agent_without c)) cells (λ d cell at. by_cell d cell at)) ∙ was.same
  where
    outside : (d t : ℕ) (x : AgentSite) → site_in cells d t ≡ Some x → (s : ℕ) → x.partner ≡ Some (c, s) → ⊥
    outside d t x at s e =
        let back = was.bound d t s (ap (λ (o : Option AgentSite). option_and_then (λ (y : AgentSite). y.partner) o) at ∙ e) in
        let site = has_partner m c s (d, t) (ok.both_ways d t c s back.2) in
        let agent = has_agent m c s site.0 site.1 in
        let same : agent.0 ≡ a = (let p = agent.1 in cc) in
        let within : s < length a.sites = slice_get_within a.sites s site.0 (ap (λ (b : Agent). slice_get b.sites s) (sym same) ∙ agent.2) in
        let below = back.1 in omega arith

    by_partner : (o : Option (ℕ × ℕ)) → ((s : ℕ) → o ≡ Some (c, s) → ⊥) → option_and_then (partner_without c) o ≡ o
    by_partner None out = refl
    by_partner (Some p) out = partner_without_outside c p.0 p.1 (λ e. out p.1 (ap (λ (d : ℕ). let o : Option (ℕ × ℕ) = Some (d, p.1) in o) e))

    by_site : (x : AgentSite) → ((s : ℕ) → x.partner ≡ Some (c, s) → ⊥) → site_without c x ≡ x
    by_site x out = let with_partner_of : Option (ℕ × ℕ) → AgentSite = λ p. record x { partner = p } in ap with_partner_of (by_partner x.partner out)

    by_cell : (d : ℕ) (cell : Option Agent) → slice_get cells d ≡ Some cell → option_map (agent_without c) cell ≡ cell
    by_cell d None at = refl
    by_cell d (Some b) at =
        let with_sites : List AgentSite → Option Agent = λ xs. Some (record b { sites = xs }) in
        ap with_sites (map-same (site_without c) b.sites (λ t x here. by_site x (outside d t x (ap (λ (o : Option (Option Agent)). option_and_then (λ (y : Agent). slice_get y.sites t) (option_and_then (λ (y : Option Agent). y) o)) at ∙ here))))

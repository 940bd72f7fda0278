-- The local state that a site of a mixture has, and that just this one is met there.
use Rattle.std.proofs.Common.{◌≡◌, ℕ, zero, suc, ◌<◌, List, [], refl, sym, ◌∙◌, arith}
use Rattle.std.specs.Prelude.{Option, Some, None, IsSome, slice_get}
use Rattle.kasa_graph.specs.declared.mixture.Agent.{Agent}
use Rattle.kasa_graph.specs.declared.pattern.Node.{Node}
use Rattle.kasa_graph.specs.Signature.{TypeEntry}
use Rattle.kasa_graph.specs.Signature.{state_counts, HasSite}
use Rattle.kasa_graph.specs.Pattern.{HasNodeSite}
use Rattle.kasa_graph.specs.Mixture.{type_in, state_in, partner_in, IsMixtureOver}
use Rattle.kasa_graph.specs.Embedding.{IsEmbedding, MeetsState, MeetsLink}
use Rattle.kasa_graph.proofs.MixtureLemmas.{site_of_type, type_of_partner}
use Rattle.kasa_graph.proofs.TestLemmas.{HasNodeSite-with_state}
use Rattle.kasa_graph.proofs.EmbeddingLemmas.{IsEmbedding-with_state, IsEmbedding-with_link}
use Rattle.kasa_families.specs.declared.row.LocalLink.{LocalLink}
use Rattle.kasa_families.specs.declared.row.LocalLink.TheVariants.{Free, Partner}
use Rattle.kasa_families.specs.declared.row.Local.{Local}
use Rattle.kasa_families.specs.Local.{IsLocalState, IsLocalLink, IsLocal, local_state_test, local_link_test, with_local}
use Rattle.kasa_families.specs.Seen.{link_seen, local_in}

-- a local state is met at a site
pub record MeetsLocal (m : List (Option Agent)) (cells : List ℕ) (c s : ℕ) (l : Local) : Type 0 where
  pub state : MeetsState (state_in m c s) (local_state_test l.state)
  pub link : MeetsLink m cells (partner_in m c s) (local_link_test l.link)

-- ---- states

state_is_local : (k : ℕ) (state : Option ℕ) → ((u : ℕ) → state ≡ Some u → u < k) → (0 < k → IsSome state) → IsLocalState (Some k) state
state_is_local zero None within given = refl
state_is_local zero (Some u) within given = let h = within u refl in absurd (omega arith)
state_is_local (suc k) None within given = absurd (let h = given (omega arith) in cc)
state_is_local (suc k) (Some u) within given = (u, refl, within u refl)

state_is_met : (state : Option ℕ) → MeetsState state (local_state_test state)
state_is_met None = tt
state_is_met (Some u) = refl

same_state : (k state l : Option ℕ) → IsLocalState k state → IsLocalState k l → MeetsState state (local_state_test l) → l ≡ state
same_state None state l is has met = absurd is
same_state (Some zero) state l is has met = has ∙ sym is
same_state (Some (suc k)) state None is has met = let e = has.1 in absurd cc
same_state (Some (suc k)) state (Some u) is has met = sym met

-- ---- links

same_link : (m : List (Option Agent)) (cells : List ℕ) (at : Option (ℕ × ℕ)) (l : LocalLink) → MeetsLink m cells at (local_link_test l) → l ≡ link_seen m at
same_link m cells None Free met = refl
same_link m cells None (Partner b y) met = let e = met.1 in absurd cc
same_link m cells (Some p) Free met = absurd cc
same_link m cells (Some p) (Partner b y) met =
    let same : p ≡ (met.0, y) = let e = met.1 in cc in
    rw (same, met.2) refl

module _ (sig : List TypeEntry) (m : List (Option Agent)) (over : IsMixtureOver sig m) where
  state_in-local : (c a s : ℕ) → type_in m c ≡ Some a → HasSite sig a s → IsLocalState (slice_get (state_counts sig a) s) (state_in m c s)
  unfolding state_in
  state_in-local c a s typed has =
      let x = site_of_type sig m over c a s typed has in
      let ok = over.states c s x.0 x.1 in
      rw (x.1, x.2) (state_is_local x.0.states x.0.state ok.within ok.given)

  link_in : (cells : List ℕ) (c s : ℕ) (at : Option (ℕ × ℕ)) → partner_in m c s ≡ at → IsLocalLink sig (link_seen m at) × MeetsLink m cells at (local_link_test (link_seen m at))
  link_in cells c s None e = (tt, refl)
  link_in cells c s (Some p) e = let b = type_of_partner sig m over c s p.0 p.1 e in rw b.1 (b.2, (p.0, refl, b.1))

  pub IsLocal-local_in : (c a s : ℕ) → type_in m c ≡ Some a → HasSite sig a s → IsLocal sig a s (local_in m c s)
  IsLocal-local_in c a s typed has = record { state = state_in-local c a s typed has; link = (link_in [] c s (partner_in m c s) refl).0 }

  pub MeetsLocal-local_in : (cells : List ℕ) (c s : ℕ) → MeetsLocal m cells c s (local_in m c s)
  MeetsLocal-local_in cells c s = record { state = state_is_met (state_in m c s); link = (link_in cells c s (partner_in m c s) refl).1 }

  -- no other valid local state is met
  pub local_in-only : (cells : List ℕ) (c a s : ℕ) (l : Local) → type_in m c ≡ Some a → HasSite sig a s → IsLocal sig a s l → MeetsLocal m cells c s l → l ≡ local_in m c s
  local_in-only cells c a s l typed has ok met =
      let state = same_state (slice_get (state_counts sig a) s) (state_in m c s) l.state (state_in-local c a s typed has) ok.state met.state in
      let link = same_link m cells (partner_in m c s) l.link met.link in
      λ i. record { state = state i; link = link i }

-- ---- embeddings

pub IsEmbedding-with_local : (g : List Node) (m : List (Option Agent)) (cells : List ℕ) (n s c : ℕ) (l : Local) → HasNodeSite g n s → slice_get cells n ≡ Some c → MeetsLocal m cells c s l → IsEmbedding g m cells → IsEmbedding (with_local g n s l) m cells
IsEmbedding-with_local g m cells n s c l has here met emb =
    IsEmbedding-with_link _ m cells
    (IsEmbedding-with_state g m cells emb n s (local_state_test l.state) has (λ d there. let same : c ≡ d = cc in rw same at met.state))
    n s (local_link_test l.link) (HasNodeSite-with_state g n s n s (local_state_test l.state) has) (λ d there. let same : c ≡ d = cc in rw same at met.link)

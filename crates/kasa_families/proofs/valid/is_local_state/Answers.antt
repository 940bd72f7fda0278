use Rattle.std.proofs.Common.{◌≡◌, ℕ, zero, suc, ◌<◌, List, [], ◌∷◌, length, map, refl, sym, ap, ◌∙◌, arith, IsTrue, ◌↔◌, nat_eq, nat_lt}
use Rattle.std.specs.Prelude.{Option, Some, None, slice_get}
use Rattle.std.specs.Option.{option_map_or}
use Rattle.std.proofs.lemmas.Grind.{common_steps}
use Rattle.kasa_graph.specs.Signature.{SiteEntry, TypeEntry, sites_of, state_names, state_counts, HasSite}
use Rattle.kasa_families.specs.Local.{IsLocalState}
use Rattle.kasa_families.proofs.valid.is_local_state.Goals as goal

count_at : (sig : List TypeEntry) (a s : ℕ) → HasSite sig a s → slice_get (state_counts sig a) s ≡ Some (length (state_names sig a s))
unfolding state_counts state_names
count_at sig a s has = at_site (sites_of sig a) s has
  where
    at_site : (es : List SiteEntry) (i : ℕ) → i < length (map (λ (e : SiteEntry). length e.states) es) → slice_get (map (λ (e : SiteEntry). length e.states) es) i ≡ Some (length (option_map_or (λ (e : SiteEntry). e.states) (slice_get es i) []))
    at_site [] i h = absurd (omega arith)
    at_site (e ∷ es) zero h = refl
    at_site (e ∷ es) (suc i) h = at_site es i (omega arith)

without : (k : Option ℕ) (n : ℕ) → k ≡ Some n → IsTrue (nat_eq n 0) ↔ IsLocalState k None
without None n e = absurd cc
without (Some zero) n e = (λ h. refl, λ h. let same : zero ≡ n = cc in rw (← same) refl)
without (Some (suc k)) n e = (λ h. absurd (let same : suc k ≡ n = cc in grind (arith, common_steps)), λ h. absurd (let none = h.1 in cc))

with_state : (k : Option ℕ) (n u : ℕ) → k ≡ Some n → IsTrue (nat_lt u n) ↔ IsLocalState k (Some u)
with_state None n u e = absurd cc
with_state (Some zero) n u e = (λ h. absurd (let same : zero ≡ n = cc in grind (arith, common_steps)), λ h. absurd cc)
with_state (Some (suc k)) n u e = (λ h. (u, refl, let same : suc k ≡ n = cc in grind (arith, common_steps)), λ h. let same : suc k ≡ n = cc in let is : u ≡ h.0 = let some = h.1 in cc in let less = h.2 in grind (arith, common_steps))

pub returns-in-None : goal.returns-in-None
returns-in-None c =
    let has : HasSite c.args.sig.now c.args.agent c.args.site = c.if-not-has_site.ensures.0 refl in
    rw c.in-None.is (without _ c.states.result (count_at c.args.sig.now c.args.agent c.args.site has ∙ ap Some (sym c.states.ensures.count)))

pub returns-in-Some : goal.returns-in-Some
returns-in-Some c =
    let has : HasSite c.args.sig.now c.args.agent c.args.site = c.if-not-has_site.ensures.0 refl in
    rw (c.in-Some.is, c.state.view_is) (with_state _ c.states-in-Some.result c.in-Some.state (count_at c.args.sig.now c.args.agent c.args.site has ∙ ap Some (sym c.states-in-Some.ensures.count)))

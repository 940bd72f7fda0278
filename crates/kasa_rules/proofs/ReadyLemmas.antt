-- Where a draft may be changed.
use Rattle.std.proofs.Common.{◌≡◌, ℕ, zero, List, [], ◌∷◌, ◌++◌, length, map, arith, refl, ap, sym, ◌∙◌}
use Rattle.std.specs.Prelude.{Option, Some, None, IsSome, slice_get, option_map}
use Rattle.std.proofs.lemmas.Option.{slice_get-map}
use Rattle.kasa_graph.specs.declared.pattern.Node.{Node}
use Rattle.kasa_graph.specs.declared.pattern.SiteTests.{SiteTests}
use Rattle.kasa_graph.specs.Signature.{TypeEntry, state_counts, HasSite, HasState}
use Rattle.kasa_graph.specs.Pattern.{agent_at, site_at, HasNodeSite, IsPatternOver}
use Rattle.kasa_lists.proofs.Elements.{some_at, slice_get-append_right}
use Rattle.kasa_rules.specs.declared.rule.End.TheVariants.{Left, Made}
use Rattle.kasa_rules.specs.Rule.{RuleParts, action_at, written_state, written_link, made_site, made_link}
use Rattle.kasa_rules.specs.Draft.{new_draft, new_site, new_agent, with_made, HasEndSite, HasEndState, IsOpen, IsUnwritten}
use Rattle.kasa_rules.proofs.DraftLemmas.{new_written, site_count}

-- a link may be written at a site that isn't touched
-- nothing is written on the nodes of a new draft
pub IsUnwritten-new : (name : List ℕ) (left : List Node) (n : ℕ) → IsUnwritten (new_draft name left) n
unfolding new_draft written_state written_link action_at
IsUnwritten-new name left n = λ s. new_written left n s

-- a state of the signature is one of the site's
pub HasEndState-left : (sig : List TypeEntry) (r : RuleParts) (n s u a : ℕ) → IsPatternOver sig r.left → agent_at r.left n ≡ Some a → HasNodeSite r.left n s → HasState sig a s u → HasEndState r (Left n) s u
HasEndState-left sig r n s u a over typed has known = by (site_at r.left n s) refl has
  where
    by : (o : Option SiteTests) → site_at r.left n s ≡ o → IsSome o → HasEndState r (Left n) s u
    by None e some = absurd cc
    by (Some x) e some =
        let count : Some known.0 ≡ Some x.states = sym known.1 ∙ site_count sig r.left n s a x over typed e in
        let same : known.0 ≡ x.states = cc in
        (x.states, rw e refl, rw (← same) known.2)

-- the new created agent has the sites of its type, and they are free
pub made_is_open : (sig : List TypeEntry) (r : RuleParts) (a k s : ℕ) → k ≡ length r.made → HasSite sig a s → HasEndSite (with_made r (new_agent sig a)) (Made k) s × IsOpen (with_made r (new_agent sig a)) (Made k) s
unfolding with_made made_site made_link
made_is_open sig r a k s last has =
    let agent : slice_get (r.made ++ new_agent sig a ∷ []) k ≡ Some (new_agent sig a) = slice_get-append_right r.made (new_agent sig a ∷ []) zero k (omega arith) in
    let count = some_at (state_counts sig a) s has in
    let site : slice_get (map new_site (state_counts sig a)) s ≡ Some (new_site count.0) = slice_get-map new_site (state_counts sig a) s ∙ ap (option_map new_site) count.1 in
    (rw (agent, site) refl, rw (agent, site) refl)

-- a written bond leaves the created sites
-- .. and the left pattern

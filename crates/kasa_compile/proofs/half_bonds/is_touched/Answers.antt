use Rattle.std.proofs.Common.{◌≡◌, ◌∙◌, ap}
use Rattle.std.specs.Prelude.{Some, None, slice_get}
use Rattle.kasa_compile.specs.Sides.{SidesParts}
use Rattle.kasa_compile.specs.Causes.{link_at}
use Rattle.kasa_compile.proofs.TouchedLemmas.{got, not_got, is_paired, leads_to_end, is_touched-kept, is_touched-deleted, is_touched-absent, is_touched-lost}
use Rattle.kasa_compile.proofs.half_bonds.is_touched.Goals as goal

pub returns-in_default : goal.returns-in_default
returns-in_default c =
    let left : slice_get c.args.sides.now.left c.args.n ≡ None = not_got _ _ _ (c.deref.ensures.value ∙ ap (λ (x : SidesParts). x.left) c.sides.view_is) c.in_default.ensures.lookup.3 in
    is_touched-absent c.args.sides.now c.args.n c.args.site left

pub returns-in_default-after : goal.returns-in_default-after
returns-in_default-after c =
    let left : slice_get c.args.sides.now.left c.args.n ≡ Some c.in-Some.agent.now = got _ _ _ _ (c.deref.ensures.value ∙ ap (λ (x : SidesParts). x.left) c.sides.view_is) c.in-Some.ensures.lookup.0 c.in-Some.ensures.lookup.1 in
    let after : slice_get c.args.sides.now.after c.args.n ≡ Some None = got _ _ _ _ (c.deref-2.ensures.value ∙ ap (λ (x : SidesParts). x.after) c.sides.view_is) c.in-Some-get.ensures.lookup.0 c.in-Some-get.ensures.lookup.1 ∙ ap Some c.in_default-after.is in
    is_touched-deleted c.args.sides.now c.args.n c.args.site c.in-Some.agent.now left after

pub returns-in_default-get-2 : goal.returns-in_default-get-2
returns-in_default-get-2 c =
    let left : slice_get c.args.sides.now.left c.args.n ≡ Some c.in-Some.agent.now = got _ _ _ _ (c.deref.ensures.value ∙ ap (λ (x : SidesParts). x.left) c.sides.view_is) c.in-Some.ensures.lookup.0 c.in-Some.ensures.lookup.1 in
    let after : slice_get c.args.sides.now.after c.args.n ≡ Some (Some c.in-Some-after.k) = got _ _ _ _ (c.deref-2.ensures.value ∙ ap (λ (x : SidesParts). x.after) c.sides.view_is) c.in-Some-get.ensures.lookup.0 c.in-Some-get.ensures.lookup.1 ∙ ap Some c.in-Some-after.is in
    let right : slice_get c.args.sides.now.right c.in-Some-after.k ≡ None = not_got _ _ _ (c.deref-3.ensures.value ∙ ap (λ (x : SidesParts). x.right) c.sides.view_is) c.in_default-get-2.ensures.lookup.3 in
    is_touched-lost c.args.sides.now c.args.n c.args.site c.in-Some-after.k c.in-Some.agent.now left after right

pub is_link_new-requires-clause-from : goal.is_link_new-requires-clause-from
is_link_new-requires-clause-from c =
    let left : slice_get c.args.sides.now.left c.args.n ≡ Some c.in-Some.agent.now = got _ _ _ _ (c.deref.ensures.value ∙ ap (λ (x : SidesParts). x.left) c.sides.view_is) c.in-Some.ensures.lookup.0 c.in-Some.ensures.lookup.1 in
    let from : c.link_at-from.result ≡ link_at c.in-Some.agent.now.sites c.args.site = c.link_at-from.ensures ∙ ap (λ sites. link_at sites c.args.site) c.sites_of.ensures in
    rw from (is_paired c.args.sides.now.left c.args.n c.args.site c.in-Some.agent.now c.requires.known.1.left_joined left)

pub is_link_new-requires-clause-to : goal.is_link_new-requires-clause-to
is_link_new-requires-clause-to c =
    let right : slice_get c.args.sides.now.right c.in-Some-after.k ≡ Some c.in-Some-get-2.other.now = got _ _ _ _ (c.deref-3.ensures.value ∙ ap (λ (x : SidesParts). x.right) c.sides.view_is) c.in-Some-get-2.ensures.lookup.0 c.in-Some-get-2.ensures.lookup.1 in
    let to : c.link_at-to.result ≡ link_at c.in-Some-get-2.other.now.sites c.args.site = c.link_at-to.ensures ∙ ap (λ sites. link_at sites c.args.site) c.sites_of-2.ensures in
    rw to (is_paired c.args.sides.now.right c.in-Some-after.k c.args.site c.in-Some-get-2.other.now c.requires.known.1.right_joined right)

pub is_link_new-requires-clause-other : goal.is_link_new-requires-clause-other
is_link_new-requires-clause-other c =
    let right : slice_get c.args.sides.now.right c.in-Some-after.k ≡ Some c.in-Some-get-2.other.now = got _ _ _ _ (c.deref-3.ensures.value ∙ ap (λ (x : SidesParts). x.right) c.sides.view_is) c.in-Some-get-2.ensures.lookup.0 c.in-Some-get-2.ensures.lookup.1 in
    let to : c.link_at-to.result ≡ link_at c.in-Some-get-2.other.now.sites c.args.site = c.link_at-to.ensures ∙ ap (λ sites. link_at sites c.args.site) c.sites_of-2.ensures in
    rw to (leads_to_end c.requires.known.0 c.args.sides.now c.in-Some-after.k c.args.site c.in-Some-get-2.other.now c.requires.known.1 right)

pub returns : goal.returns
returns c =
    let left : slice_get c.args.sides.now.left c.args.n ≡ Some c.in-Some.agent.now = got _ _ _ _ (c.deref.ensures.value ∙ ap (λ (x : SidesParts). x.left) c.sides.view_is) c.in-Some.ensures.lookup.0 c.in-Some.ensures.lookup.1 in
    let after : slice_get c.args.sides.now.after c.args.n ≡ Some (Some c.in-Some-after.k) = got _ _ _ _ (c.deref-2.ensures.value ∙ ap (λ (x : SidesParts). x.after) c.sides.view_is) c.in-Some-get.ensures.lookup.0 c.in-Some-get.ensures.lookup.1 ∙ ap Some c.in-Some-after.is in
    let right : slice_get c.args.sides.now.right c.in-Some-after.k ≡ Some c.in-Some-get-2.other.now = got _ _ _ _ (c.deref-3.ensures.value ∙ ap (λ (x : SidesParts). x.right) c.sides.view_is) c.in-Some-get-2.ensures.lookup.0 c.in-Some-get-2.ensures.lookup.1 in
    let from : c.link_at-from.result ≡ link_at c.in-Some.agent.now.sites c.args.site = c.link_at-from.ensures ∙ ap (λ sites. link_at sites c.args.site) c.sites_of.ensures in
    let to : c.link_at-to.result ≡ link_at c.in-Some-get-2.other.now.sites c.args.site = c.link_at-to.ensures ∙ ap (λ sites. link_at sites c.args.site) c.sites_of-2.ensures in
    c.is_link_new.ensures ∙ rw (from, to) (is_touched-kept c.args.sides.now c.args.n c.args.site c.in-Some-after.k c.in-Some.agent.now c.in-Some-get-2.other.now left after right)

-- A draft with its deleted and its created agents, before anything is written.
use Rattle.std.proofs.Common.{◌≡◌, ◌≢◌, ℕ, ◌+◌, ◌<◌, ◌≤◌, inl, inr, List, [], ◌∷◌, ◌++◌, length, map, take, get_or, refl, sym, ap, ◌∙◌, arith, length-append}
use Rattle.std.specs.Prelude.{Option, Some, None, slice_get, option_map, option_and_then}
use Rattle.std.specs.Option.{option_map_or}
use Rattle.std.proofs.lemmas.Option.{slice_get_within, slice_get-map, slice_get-get_or}
use Rattle.std.proofs.lemmas.List.{length-map}
use Rattle.kasa_graph.proofs.TestLemmas.{length-types}
use Rattle.kasa_graph.proofs.TextLemmas.{take-next}
use Rattle.kasa_graph.proofs.SignatureLemmas.{map-push}
use Rattle.indexmap.proofs.IndexTableLemmas.Probe.{OneToOne, pigeonhole}
use Rattle.kasa_graph.specs.declared.pattern.Node.{Node}
use Rattle.kasa_graph.specs.Signature.{TypeEntry, state_counts}
use Rattle.kasa_graph.specs.Mixture.{first_state}
use Rattle.kasa_graph.specs.Pattern.{types_of}
use Rattle.kasa_graph.proofs.ListLemmas.{same_or_not, some_at, some_map, slice_get-update_same, slice_get-update_other}
use Rattle.kasa_rules.specs.declared.rule.Fate.{Fate}
use Rattle.kasa_rules.specs.declared.rule.Fate.TheVariants.{Deleted, Kept}
use Rattle.kasa_rules.specs.declared.rule.End.{End}
use Rattle.kasa_rules.specs.declared.rule.End.TheVariants.{Left, Made}
use Rattle.kasa_rules.specs.declared.rule.Written.{Written}
use Rattle.kasa_rules.specs.declared.rule.Written.TheVariants.{Free, To}
use Rattle.kasa_rules.specs.declared.rule.NodeAction.{NodeAction}
use Rattle.kasa_rules.specs.declared.rule.MadeSite.{MadeSite}
use Rattle.kasa_rules.specs.declared.rule.MadeAgent.{MadeAgent}
use Rattle.kasa_rules.specs.Rule.{RuleParts, fate_at, written_state, written_link, made_type, made_site, made_state, made_link, action_at, IsDraftOver}
use Rattle.kasa_rules.specs.Draft.{new_draft, keep_node, new_site, new_agent, with_made, with_deleted, delete_node, IsOpen, IsUnwritten}
use Rattle.kasa_rules.proofs.DraftLemmas.{written_state-deleted, written_link-deleted}
use Rattle.kasa_rules.proofs.ReadyLemmas.{IsUnwritten-new}
use Rattle.kasa_compile.specs.declared.said.AgentSaid.{AgentSaid}
use Rattle.kasa_compile.specs.Sides.{SidesParts}
use Rattle.kasa_compile.specs.Rule.{fate_of, end_at, type_on_right}
use Rattle.kasa_compile.specs.Valid.{AreSides}
use Rattle.kasa_compile.specs.Building.{state_now, state_open, first_of_right, link_due, IsFresh, IsBare, CanWrite, AwaitsLink, AreAwaiting}

-- ---- fates

fate_deleted : (r : RuleParts) (n : ℕ) (f : Fate) → fate_at r n ≡ Some f → fate_at (with_deleted r n) n ≡ Some Deleted
unfolding fate_at with_deleted
fate_deleted r n f is =
    let action = some_map (λ (a : NodeAction). a.fate) (slice_get r.actions n) f is in
    rw (slice_get-update_same r.actions n delete_node, action.1) refl

fate_other : (r : RuleParts) (n k : ℕ) → n ≢ k → fate_at (with_deleted r n) k ≡ fate_at r k
unfolding fate_at with_deleted
fate_other r n k ne = ap (option_map (λ (a : NodeAction). a.fate)) (slice_get-update_other r.actions n k delete_node ne)

name_deleted : (r : RuleParts) (n : ℕ) → (with_deleted r n).name ≡ r.name
unfolding with_deleted
name_deleted r n = refl

left_deleted : (r : RuleParts) (n : ℕ) → (with_deleted r n).left ≡ r.left
unfolding with_deleted
left_deleted r n = refl

pub made_deleted : (r : RuleParts) (n : ℕ) → (with_deleted r n).made ≡ r.made
unfolding with_deleted
made_deleted r n = refl

module _ (x : SidesParts) (name : List ℕ) (g : List Node) where
  pub IsFresh-deleted : (r : RuleParts) (n : ℕ) → slice_get x.after n ≡ Some None → IsFresh x name g n r → IsFresh x name g (n + 1) (with_deleted r n)
  IsFresh-deleted r n gone fresh = record {
    named = name_deleted r n ∙ fresh.named;
    left = left_deleted r n ∙ fresh.left;
    fates = λ k o below is. elim (same_or_not n k) [
      | inl same ↦ at_once k o same is
      | inr ne ↦ fate_other r n k ne ∙ fresh.fates k o (omega (arith, ne)) is
    ];
    kept = λ k o above is. fate_other r n k (λ e. omega arith) ∙ fresh.kept k o (omega arith) is;
    unwritten = λ k s. (written_state-deleted r n k s ∙ (fresh.unwritten k s).0, written_link-deleted r n k s ∙ (fresh.unwritten k s).1);
  }
    where
      at_once : (k : ℕ) (o : Option ℕ) → n ≡ k → slice_get x.after k ≡ Some o → fate_at (with_deleted r n) k ≡ Some (fate_of o)
      at_once k o same is =
          let here : slice_get x.after n ≡ Some o = rw same is in
          let none : None ≡ o = cc in
          rw (← same, ← none) (fate_deleted r n Kept (fresh.kept n None (omega arith) gone))

  pub IsFresh-kept : (r : RuleParts) (n k : ℕ) → slice_get x.after n ≡ Some (Some k) → IsFresh x name g n r → IsFresh x name g (n + 1) r
  IsFresh-kept r n k stays fresh = record {
    named = fresh.named;
    left = fresh.left;
    fates = λ l o below is. elim (same_or_not n l) [
      | inl same ↦ at_once l o same is
      | inr ne ↦ fresh.fates l o (omega (arith, ne)) is
    ];
    kept = λ l o above is. fresh.kept l o (omega arith) is;
    unwritten = fresh.unwritten;
  }
    where
      at_once : (l : ℕ) (o : Option ℕ) → n ≡ l → slice_get x.after l ≡ Some o → fate_at r l ≡ Some (fate_of o)
      at_once l o same is =
          let here : slice_get x.after n ≡ Some o = rw same is in
          let some : Some k ≡ o = cc in
          rw (← same, ← some) (fresh.kept n (Some k) (omega arith) stays)

  pub IsBare-fresh : (sig : List TypeEntry) (r : RuleParts) → r.made ≡ [] → IsFresh x name g (length x.after) r → IsBare sig x name g [] r
  IsBare-fresh sig r none fresh = record {
    named = fresh.named;
    left = fresh.left;
    fates = λ n o is. fresh.fates n o (slice_get_within x.after n o is) is;
    unwritten = fresh.unwritten;
    made = none;
  }

-- ---- created agents

made-push : (r : RuleParts) (a : MadeAgent) → (with_made r a).made ≡ r.made ++ a ∷ []
unfolding with_made
made-push r a = refl

pub count-made : (r : RuleParts) (a : MadeAgent) (j : ℕ) → length r.made ≡ j → length (with_made r a).made ≡ j + 1
count-made r a j e = rw made-push (simp length-append (omega arith))

fate_at-made : (r : RuleParts) (a : MadeAgent) (n : ℕ) → fate_at (with_made r a) n ≡ fate_at r n
unfolding fate_at with_made
fate_at-made r a n = refl

unwritten-made : (r : RuleParts) (a : MadeAgent) (n : ℕ) → IsUnwritten r n → IsUnwritten (with_made r a) n
unfolding written_state written_link action_at with_made
unwritten-made r a n none = none

named-made : (r : RuleParts) (a : MadeAgent) → ((with_made r a).name ≡ r.name) × ((with_made r a).left ≡ r.left)
unfolding with_made
named-made r a = (refl, refl)

pub IsBare-made : (sig : List TypeEntry) (x : SidesParts) (name : List ℕ) (g : List Node) (j k : ℕ) (r : RuleParts) (a : ℕ) → slice_get x.made j ≡ Some k → a ≡ type_on_right x k → IsBare sig x name g (take j x.made) r → IsBare sig x name g (take (j + 1) x.made) (with_made r (new_agent sig a))
IsBare-made sig x name g j k r a at is bare = record {
  named = (named-made r (new_agent sig a)).0 ∙ bare.named;
  left = (named-made r (new_agent sig a)).1 ∙ bare.left;
  fates = λ n o e. fate_at-made r (new_agent sig a) n ∙ bare.fates n o e;
  unwritten = λ n. unwritten-made r (new_agent sig a) n (bare.unwritten n);
  made = rw (made-push, take-next x.made j k at, bare.made, is) (sym (map-push (λ k. new_agent sig (type_on_right x k)) (take j x.made) k));
}

-- ---- all created agents stand on the right, so they are few

module _ (sig : List TypeEntry) (x : SidesParts) (sides : AreSides sig x) where
  pub made_within : (j k : ℕ) → slice_get x.made j ≡ Some k → k < length x.right
  made_within j k at = rw (← sides.numbered.ends_count) (slice_get_within x.ends k (Made j) ((sides.numbered.is_made j k).0 at))

  pub made_known : (j k : ℕ) → slice_get x.made j ≡ Some k → type_on_right x k < length sig
  made_known j k at =
      let b = some_at x.right k (made_within j k at) in
      rw b.1 ((sides.right k b.0 b.1).known)

  pub made_few : length x.made ≤ length x.right
  made_few = pigeonhole (length x.made) (length x.right) (λ j. get_or x.made j 0) (λ j within. made_within j (get_or x.made j 0) (slice_get-get_or x.made j 0 within)) apart
    where
      apart : OneToOne (λ j. get_or x.made j 0) (length x.made)
      apart i j first second same =
          let a = (sides.numbered.is_made i (get_or x.made i 0)).0 (slice_get-get_or x.made i 0 first) in
          let b = (sides.numbered.is_made j (get_or x.made j 0)).0 (slice_get-get_or x.made j 0 second) in
          one_made i j (get_or x.made i 0) (get_or x.made j 0) same a b
        where
          one_made : (i j k l : ℕ) → k ≡ l → slice_get x.ends k ≡ Some (Made i) → slice_get x.ends l ≡ Some (Made j) → i ≡ j
          one_made i j k l e a b = cc

-- ---- the new draft, and what is known of the bare one

new_kept : (name : List ℕ) (g : List Node) (n : ℕ) → n < length g → fate_at (new_draft name g) n ≡ Some Kept
unfolding fate_at new_draft
new_kept name g n within =
    let node = some_at g n within in
    rw (slice_get-map keep_node g n, node.1) refl

new_parts : (name : List ℕ) (g : List Node) → ((new_draft name g).name ≡ name) × ((new_draft name g).left ≡ g)
unfolding new_draft
new_parts name g = (refl, refl)

pub new_made : (name : List ℕ) (g : List Node) → (new_draft name g).made ≡ []
unfolding new_draft
new_made name g = refl

pub IsFresh-new : (x : SidesParts) (name : List ℕ) (g : List Node) → length x.after ≡ length x.left → types_of g ≡ map (λ (a : AgentSaid). a.agent) x.left → IsFresh x name g 0 (new_draft name g)
IsFresh-new x name g count types = record {
  named = (new_parts name g).0;
  left = (new_parts name g).1;
  fates = λ n o none is. absurd (omega arith);
  kept = λ n o above is.
      let within = slice_get_within x.after n o is in
      let long : length g ≡ length x.left = length-types g ∙ ap length types ∙ length-map x.left (λ (a : AgentSaid). a.agent) in
      new_kept name g n (omega arith);
  unwritten = λ n. IsUnwritten-new name g n;
}

module _ (sig : List TypeEntry) (x : SidesParts) (sides : AreSides sig x) (name : List ℕ) (g : List Node) (r : RuleParts) (bare : IsBare sig x name g x.made r) where
  made_there : (j : ℕ) → slice_get r.made j ≡ option_map (λ k. new_agent sig (type_on_right x k)) (slice_get x.made j)
  made_there j = rw bare.made (slice_get-map (λ k. new_agent sig (type_on_right x k)) x.made j)

  bare_type : (j k : ℕ) (b : AgentSaid) → slice_get x.made j ≡ Some k → slice_get x.right k ≡ Some b → made_type r j ≡ Some b.agent
  unfolding made_type
  bare_type j k b at is = rw (made_there j, at, is) refl

  made_open : (j s : ℕ) → made_link r j s ≡ Free
  unfolding made_link made_site
  made_open j s = rw made_there (by_number (slice_get x.made j))
    where
      by_site : (o : Option ℕ) → option_map_or (λ (y : MadeSite). y.link) (option_map new_site o) Free ≡ Free
      by_site None = refl
      by_site (Some n) = refl

      by_number : (o : Option ℕ) → option_map_or (λ (y : MadeSite). y.link) (option_and_then (λ (m : MadeAgent). slice_get m.sites s) (option_map (λ k. new_agent sig (type_on_right x k)) o)) Free ≡ Free
      by_number None = refl
      by_number (Some k) = rw (slice_get-map new_site (state_counts sig (type_on_right x k)) s) (by_site (slice_get (state_counts sig (type_on_right x k)) s))

  bare_open : (e : End) (s : ℕ) → IsOpen r e s
  bare_open (Left n) s = (bare.unwritten n s).1
  bare_open (Made j) s = made_open j s

  bare_state : (e : End) (s : ℕ) → state_now r e s ≡ state_open sig x e s
  unfolding made_state made_site state_open
  bare_state (Left n) s = (bare.unwritten n s).0
  bare_state (Made j) s = rw made_there (by_number (slice_get x.made j) refl)
    where
      by_site : (o : Option ℕ) → option_and_then (λ (y : MadeSite). y.state) (option_map new_site o) ≡ option_and_then first_state o
      by_site None = refl
      by_site (Some n) = refl

      by_number : (o : Option ℕ) → slice_get x.made j ≡ o → option_and_then (λ (y : MadeSite). y.state) (option_and_then (λ (m : MadeAgent). slice_get m.sites s) (option_map (λ k. new_agent sig (type_on_right x k)) o)) ≡ option_and_then (λ k. option_and_then (first_of_right sig s) (slice_get x.right k)) o
      by_number None at = refl
      by_number (Some k) at =
          let b = some_at x.right k (made_within sig x sides j k at) in
          rw (b.1, slice_get-map new_site (state_counts sig b.0.agent) s) (by_site (slice_get (state_counts sig b.0.agent) s))

  pub CanWrite-bare : IsDraftOver sig r → types_of g ≡ map (λ (a : AgentSaid). a.agent) x.left → CanWrite sig x g r
  CanWrite-bare over types = record {
    sides = sides;
    over = over;
    left = bare.left;
    types = types;
    kept = λ n k is. bare.fates n (Some k) is;
    made = bare_type;
    states = λ e s. inl (bare_state e s);
    links = λ e s. inl (bare_open e s);
  }

  bare_awaits : (e : End) (s : ℕ) (o : Option Written) → AwaitsLink r e s o
  bare_awaits e s None = bare_open e s
  bare_awaits e s (Some Free) = bare_open e s
  bare_awaits e s (Some (To f t)) = λ first. (bare_open e s, bare_open f t)

  pub AreAwaiting-bare : AreAwaiting x g r 0 0
  AreAwaiting-bare l j s later says = bare_awaits (end_at x.ends l) s.site (link_due x g (end_at x.ends l) s.site)

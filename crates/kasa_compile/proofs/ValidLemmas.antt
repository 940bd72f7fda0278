-- What the passes over an init or a rule show: the agents of an init are said and joined, and so are those of the two
-- sides of a rule, forward and in reverse; and they are few.
use Rattle.std.proofs.Common.{◌≡◌, ◌≤◌, ℕ, zero, suc, Bool, true, false, List, [], ◌∷◌, ◌++◌, length, map, cond, Option, Some, None, refl, ap, sym, subst, ◌∙◌, arith}
use Rattle.std.specs.Prelude.{nat_le, if◌then◌else◌}
use Rattle.std.specs.List.{flat_map}
use Rattle.std.proofs.lemmas.Grind.{flat_map-append}
use Rattle.kasa_graph.specs.Signature.{TypeEntry}
use Rattle.kasa_graph.proofs.SignatureLemmas.{length-map}
use Rattle.kasa_syntax.specs.declared.agents.AgentText.{AgentText}
use Rattle.kasa_syntax.specs.declared.decls.Item.{Item}
use Rattle.kasa_syntax.specs.declared.decls.Item.TheVariants.{Absent, Agent}
use Rattle.kasa_syntax.specs.declared.decls.Form.{Form}
use Rattle.kasa_syntax.specs.declared.decls.Form.TheVariants.{Edit, Arrow}
use Rattle.kasa_compile.specs.declared.resolved.Side.{Side}
use Rattle.kasa_compile.specs.declared.resolved.Side.TheVariants.{Left, Right}
use Rattle.kasa_compile.specs.declared.said.AgentSaid.{AgentSaid}
use Rattle.kasa_compile.specs.declared.said.Pair.{Pair}
use Rattle.kasa_compile.specs.Names.{unknown_types, unknown_sites, unknown_states, sites_twice}
use Rattle.kasa_compile.specs.Said.{stands_on, items_on, agent_on, item_on, across, pairs_of, turned}
use Rattle.kasa_compile.specs.Labels.{agents_of, standing, agents_on, behind, labels_on, odd_labels}
use Rattle.kasa_compile.specs.Sides.{sides_of}
use Rattle.kasa_compile.specs.Causes.{lesser, thirteenth, mismatches, agents_of_form}
use Rattle.kasa_compile.specs.Valid.{AreSaid, AreJoined, AreSides}
use Rattle.kasa_compile.proofs.PairLemmas.{no_left, no_right}
use Rattle.kasa_compile.proofs.SidesLemmas.{one, lefts_of, rights_of, sides_of-left, sides_of-right, AreTyped-sides_of, mismatches-turned, lefts_of-turned, rights_of-turned}
use Rattle.kasa_compile.proofs.SaidLemmas.{AreSaid-on}
use Rattle.kasa_compile.proofs.JoinLemmas.{AreJoined-on}

-- ---- the agents of a side

none-standing : (side : Side) (f : AgentText → List ℕ) (items : List Item) → flat_map f (agents_of items) ≡ [] → flat_map f (standing side items) ≡ []
none-standing side f [] e = refl
none-standing side f (Absent ∷ items) e = none-standing side f items e
none-standing side f (Agent a ∷ items) e = by (stands_on side a.mark) (no_left (f a) (flat_map f (agents_of items)) e) (none-standing side f items (no_right (f a) (flat_map f (agents_of items)) e))
  where
    by : (b : Bool) → f a ≡ [] → flat_map f (standing side items) ≡ [] → flat_map f (cond b (a ∷ []) [] ++ standing side items) ≡ []
    by true here later = rw (here, later) refl
    by false here later = later

none-on : (side : Side) (f : AgentText → List ℕ) (form : Form) → flat_map f (agents_of_form form) ≡ [] → flat_map f (agents_on side form) ≡ []
none-on side f (Edit items) e = none-standing side f items e
none-on Left f (Arrow left right both) e = none-standing Left f left (no_left (flat_map f (agents_of left)) (flat_map f (agents_of right)) (sym (flat_map-append f (agents_of left) (agents_of right)) ∙ e))
none-on Right f (Arrow left right both) e = none-standing Right f right (no_right (flat_map f (agents_of left)) (flat_map f (agents_of right)) (sym (flat_map-append f (agents_of left) (agents_of right)) ∙ e))

items-said : (side : Side) (text : List ℕ) (sig : List TypeEntry) (items : List Item) → flat_map one (map (item_on side text sig) items) ≡ map (agent_on side text sig) (standing side items)
items-said side text sig [] = refl
items-said side text sig (Absent ∷ items) = items-said side text sig items
items-said side text sig (Agent a ∷ items) = by (stands_on side a.mark) (items-said side text sig items)
  where
    by : (b : Bool) → flat_map one (map (item_on side text sig) items) ≡ map (agent_on side text sig) (standing side items)
        → one (if b then Some (agent_on side text sig a) else None) ++ flat_map one (map (item_on side text sig) items) ≡ map (agent_on side text sig) (cond b (a ∷ []) [] ++ standing side items)
    by true later = rw later refl
    by false later = later

lefts_of-across : (ls rs : List (Option AgentSaid)) → lefts_of (across ls rs) ≡ flat_map one ls
lefts_of-across [] [] = refl
lefts_of-across [] (r ∷ rs) = lefts_of-across [] rs
lefts_of-across (l ∷ ls) [] = ap (λ xs. one l ++ xs) (lefts_of-across ls [])
lefts_of-across (l ∷ ls) (r ∷ rs) = ap (λ xs. one l ++ xs) (lefts_of-across ls rs)

rights_of-across : (ls rs : List (Option AgentSaid)) → rights_of (across ls rs) ≡ flat_map one rs
rights_of-across [] [] = refl
rights_of-across [] (r ∷ rs) = ap (λ xs. one r ++ xs) (rights_of-across [] rs)
rights_of-across (l ∷ ls) [] = rights_of-across ls []
rights_of-across (l ∷ ls) (r ∷ rs) = ap (λ xs. one r ++ xs) (rights_of-across ls rs)

lefts_of-pairs : (text : List ℕ) (sig : List TypeEntry) (form : Form) → lefts_of (pairs_of text sig form) ≡ map (agent_on Left text sig) (agents_on Left form)
unfolding pairs_of
lefts_of-pairs text sig form = lefts_of-across (map (item_on Left text sig) (items_on Left form)) (map (item_on Right text sig) (items_on Right form)) ∙ items-said Left text sig (items_on Left form)

rights_of-pairs : (text : List ℕ) (sig : List TypeEntry) (form : Form) → rights_of (pairs_of text sig form) ≡ map (agent_on Right text sig) (agents_on Right form)
unfolding pairs_of
rights_of-pairs text sig form = rights_of-across (map (item_on Left text sig) (items_on Left form)) (map (item_on Right text sig) (items_on Right form)) ∙ items-said Right text sig (items_on Right form)

-- ---- rules

-- what is known of the pairs of a rule, whichever way it is read
pub record ArePairs (sig : List TypeEntry) (pairs : List Pair) : Type 0 where
  pub left : AreSaid sig (lefts_of pairs)
  pub right : AreSaid sig (rights_of pairs)
  pub left_joined : AreJoined (lefts_of pairs)
  pub right_joined : AreJoined (rights_of pairs)
  pub same : mismatches pairs ≡ []

pub AreSides-of : (sig : List TypeEntry) (pairs : List Pair) → ArePairs sig pairs → AreSides sig (sides_of pairs)
AreSides-of sig pairs are =
    let typed = AreTyped-sides_of pairs are.same in
    record {
      numbered = typed.numbered;
      left = subst (λ (xs : List AgentSaid). AreSaid sig xs) (sym (sides_of-left pairs)) are.left;
      right = subst (λ (xs : List AgentSaid). AreSaid sig xs) (sym (sides_of-right pairs)) are.right;
      left_joined = subst (λ (xs : List AgentSaid). AreJoined xs) (sym (sides_of-left pairs)) are.left_joined;
      right_joined = subst (λ (xs : List AgentSaid). AreJoined xs) (sym (sides_of-right pairs)) are.right_joined;
      same_types = typed.same;
    }

pub ArePairs-turned : (sig : List TypeEntry) (pairs : List Pair) → ArePairs sig pairs → ArePairs sig (turned pairs)
ArePairs-turned sig pairs are = record {
  left = subst (λ (xs : List AgentSaid). AreSaid sig xs) (sym (lefts_of-turned pairs)) are.right;
  right = subst (λ (xs : List AgentSaid). AreSaid sig xs) (sym (rights_of-turned pairs)) are.left;
  left_joined = subst (λ (xs : List AgentSaid). AreJoined xs) (sym (lefts_of-turned pairs)) are.right_joined;
  right_joined = subst (λ (xs : List AgentSaid). AreJoined xs) (sym (rights_of-turned pairs)) are.left_joined;
  same = mismatches-turned pairs are.same;
}

-- a form whose names are known, whose labels stand twice on their sides, and whose agents that belong together have one type
pub record IsKnown (text : List ℕ) (sig : List TypeEntry) (form : Form) : Type 0 where
  pub types : flat_map (unknown_types text sig) (agents_of_form form) ≡ []
  pub sites : flat_map (unknown_sites text sig) (agents_of_form form) ≡ []
  pub states : flat_map (unknown_states text sig) (agents_of_form form) ≡ []
  pub once : flat_map (sites_twice text) (agents_of_form form) ≡ []
  pub left_even : odd_labels (labels_on Left (agents_on Left form)) ≡ []
  pub right_even : odd_labels (labels_on Right (agents_on Right form)) ≡ []
  pub same : mismatches (pairs_of text sig form) ≡ []

module _ (text : List ℕ) (sig : List TypeEntry) (form : Form) where
  module _ (known : IsKnown text sig form) where
    said_on : (side : Side) → AreSaid sig (map (agent_on side text sig) (agents_on side form))
    said_on side = AreSaid-on text sig side (agents_on side form) (none-on side (unknown_types text sig) form known.types) (none-on side (unknown_sites text sig) form known.sites) (none-on side (unknown_states text sig) form known.states) (none-on side (sites_twice text) form known.once)

    ArePairs-of : ArePairs sig (pairs_of text sig form)
    ArePairs-of = record {
      left = subst (λ (xs : List AgentSaid). AreSaid sig xs) (sym (lefts_of-pairs text sig form)) (said_on Left);
      right = subst (λ (xs : List AgentSaid). AreSaid sig xs) (sym (rights_of-pairs text sig form)) (said_on Right);
      left_joined = subst (λ (xs : List AgentSaid). AreJoined xs) (sym (lefts_of-pairs text sig form)) (AreJoined-on text sig Left (agents_on Left form) known.left_even);
      right_joined = subst (λ (xs : List AgentSaid). AreJoined xs) (sym (rights_of-pairs text sig form)) (AreJoined-on text sig Right (agents_on Right form) known.right_even);
      same = known.same;
    }

    pub AreSides-forward : AreSides sig (sides_of (pairs_of text sig form))
    AreSides-forward = AreSides-of sig (pairs_of text sig form) ArePairs-of

    pub AreSides-reverse : AreSides sig (sides_of (turned (pairs_of text sig form)))
    AreSides-reverse = AreSides-of sig (turned (pairs_of text sig form)) (ArePairs-turned sig (pairs_of text sig form) ArePairs-of)

-- ---- limits

pub few-behind : (most : ℕ) (agents : List AgentText) → behind most agents ≡ None → length agents ≤ most
few-behind most [] e = omega arith
few-behind zero (a ∷ agents) e = absurd cc
few-behind (suc most) (a ∷ agents) e = let more = few-behind most agents e in omega (arith, more)

pub neither : (a b : Option ℕ) → lesser a b ≡ None → (a ≡ None) × (b ≡ None)
neither None b e = (refl, e)
neither (Some m) None e = absurd cc
neither (Some m) (Some n) e = by (nat_le m n) e
  where
    by : (c : Bool) → (if c then Some m else Some n) ≡ None → (Some m ≡ None) × (Some n ≡ None)
    by true e = absurd cc
    by false e = absurd cc

module _ (text : List ℕ) (sig : List TypeEntry) (form : Form) where
  left_count : length (lefts_of (pairs_of text sig form)) ≡ length (agents_on Left form)
  left_count = ap length (lefts_of-pairs text sig form) ∙ length-map (agent_on Left text sig) (agents_on Left form)

  right_count : length (rights_of (pairs_of text sig form)) ≡ length (agents_on Right form)
  right_count = ap length (rights_of-pairs text sig form) ∙ length-map (agent_on Right text sig) (agents_on Right form)

  module _ (none : thirteenth form ≡ None) where
    few_left : length (agents_on Left form) ≤ 12
    few_left = few-behind 12 (agents_on Left form) (neither (behind 12 (agents_on Left form)) (behind 12 (agents_on Right form)) none).0

    few_right : length (agents_on Right form) ≤ 12
    few_right = few-behind 12 (agents_on Right form) (neither (behind 12 (agents_on Left form)) (behind 12 (agents_on Right form)) none).1

    pub few-forward : (length (sides_of (pairs_of text sig form)).left ≤ 12) × (length (sides_of (pairs_of text sig form)).right ≤ 12)
    few-forward =
        let pairs = pairs_of text sig form in
        (rw (sides_of-left pairs, left_count) few_left, rw (sides_of-right pairs, right_count) few_right)

    pub few-reverse : (length (sides_of (turned (pairs_of text sig form))).left ≤ 12) × (length (sides_of (turned (pairs_of text sig form))).right ≤ 12)
    few-reverse =
        let pairs = pairs_of text sig form in
        (rw (sides_of-left (turned pairs), lefts_of-turned pairs, right_count) few_right, rw (sides_of-right (turned pairs), rights_of-turned pairs, left_count) few_left)

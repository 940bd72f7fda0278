-- What complexes and live rules add is the contact map.
use Rattle.std.proofs.Common.{◌≡◌, ℕ, ◌⊎◌, inl, inr, List, [], subst}
use Rattle.std.specs.Prelude.{Bool, true, false, Option, ◌↔◌}
use Rattle.std.specs.Bool.{OnTrue, OnFalse}
use Rattle.kasa_graph.specs.declared.mixture.Agent.{Agent}
use Rattle.kasa_graph.specs.Lists.{Has}
use Rattle.kasa_rules.specs.declared.model.Model.{Model}
use Rattle.kasa_rules.specs.declared.rule.End.TheVariants.{Left, Made}
use Rattle.kasa_rules.specs.Reached.{Reached, IsModel}
use Rattle.kasa_rules.specs.Rule.{RuleParts}
use Rattle.kasa_graph.specs.Signature.{TypeEntry}
use Rattle.kasa_families.specs.Table.{Table, AreTables}
use Rattle.kasa_pre.specs.Allowed.{IsAllowed}
use Rattle.kasa_pre.specs.Closed.{IsClosed}
use Rattle.kasa_polymers.specs.declared.map.Bond.{Bond}
use Rattle.kasa_polymers.specs.declared.map.StateSeen.{StateSeen}
use Rattle.kasa_polymers.specs.declared.map.ContactMap.{ContactMap}
use Rattle.kasa_polymers.specs.declared.gather.Seen.{Seen}
use Rattle.kasa_polymers.specs.Contact.{HasBond, HasStateSeen, WritesBond, WritesState, SomeComplex, SomeLiveRule, IsContactBond, IsContactState, IsMapped}
use Rattle.kasa_polymers.specs.inner.Gather.{Adds, AddsSeen, IsBondOfEnd, IsStateOfEnd}
use Rattle.kasa_polymers.proofs.AddsLemmas.{AddsSeen-same, AddsSeen-then}
use Rattle.kasa_polymers.proofs.GatherLemmas.{rule_bonds, rule_states}
use Rattle.kasa_polymers.proofs.ContactLemmas.{IsContactBond-reached, IsContactState-reached}

pub at_true : (b : Bool) (P : Type 0) → OnTrue b P → b ≡ true → P
at_true true P h e = h
at_true false P h e = absurd cc

pub at_false : (b : Bool) (P : Type 0) → OnFalse b P → b ≡ false → P
at_false true P h e = absurd cc
at_false false P h e = h

-- what a live rule writes and creates
pub live_adds : (r : RuleParts) (A : Type 0) → A → (first middle last : Seen) → AddsSeen (λ p. (n : ℕ) × IsBondOfEnd r (Left n) p) (λ q. (n : ℕ) × IsStateOfEnd r (Left n) q) first middle →
    AddsSeen (λ p. (k : ℕ) × IsBondOfEnd r (Made k) p) (λ q. (k : ℕ) × IsStateOfEnd r (Made k) q) middle last → AddsSeen (λ p. A × WritesBond r p) (λ q. A × WritesState r q) first last
live_adds r A live first middle last left made =
    AddsSeen-same (λ p. ((n : ℕ) × IsBondOfEnd r (Left n) p) ⊎ ((k : ℕ) × IsBondOfEnd r (Made k) p)) (λ p. A × WritesBond r p)
    (λ q. ((n : ℕ) × IsStateOfEnd r (Left n) q) ⊎ ((k : ℕ) × IsStateOfEnd r (Made k) q)) (λ q. A × WritesState r q) first last
    (λ p. (λ o. (live, (rule_bonds r p).0 o), λ (_, writes). (rule_bonds r p).1 writes))
    (λ q. (λ o. (live, (rule_states r q).0 o), λ (_, writes). (rule_states r q).1 writes))
    (AddsSeen-then (λ p. (n : ℕ) × IsBondOfEnd r (Left n) p) (λ p. (k : ℕ) × IsBondOfEnd r (Made k) p) (λ q. (n : ℕ) × IsStateOfEnd r (Left n) q) (λ q. (k : ℕ) × IsStateOfEnd r (Made k) q) first middle last left made)

-- elements that were added to nothing
only_added : {X : Type 0} (P : X → Type 0) (xs ys : List X) → xs ≡ [] → Adds P xs ys → (x : X) → Has ys x ↔ P x
only_added P xs ys empty added x = (
  λ h. elim ((added x).0 h) [ inl old ↦ none old | inr p ↦ p ],
  λ p. (added x).1 (inr p),
)
  where
    none : Has xs x → P x
    none old = let gone = rw empty at old in absurd (let e = gone.1 in cc)

-- what complexes and then rules added to nothing is the contact map
module _ (model : Model) (tables : List Table) (first middle last : Seen) (no_bonds : first.bonds.items ≡ []) (no_states : first.states.items ≡ [])
    (complexes : AddsSeen (λ p. SomeComplex model (λ m. HasBond m p)) (λ q. SomeComplex model (λ m. HasStateSeen m q)) first middle)
    (rules : AddsSeen (λ p. SomeLiveRule model tables (λ r. WritesBond r p)) (λ q. SomeLiveRule model tables (λ r. WritesState r q)) middle last) where
  all_added : AddsSeen (IsContactBond model tables) (IsContactState model tables) first last
  all_added = AddsSeen-then (λ p. SomeComplex model (λ m. HasBond m p)) (λ p. SomeLiveRule model tables (λ r. WritesBond r p)) (λ q. SomeComplex model (λ m. HasStateSeen m q)) (λ q. SomeLiveRule model tables (λ r. WritesState r q)) first middle last complexes rules

  pub contact_bonds : (p : Bond) → Has last.bonds.items p ↔ IsContactBond model tables p
  contact_bonds p = let all = all_added in only_added (IsContactBond model tables) first.bonds.items last.bonds.items no_bonds all.bonds p

  pub contact_states : (q : StateSeen) → Has last.states.items q ↔ IsContactState model tables q
  contact_states q = let all = all_added in only_added (IsContactState model tables) first.states.items last.states.items no_states all.states q

-- the contact map of closed tables has all of a reached mixture
pub IsMapped-reached : (model : Model) (tables : List Table) (map : ContactMap) → AreTables model.sig tables → IsModel model → ((p : Bond) → Has map.bonds p ↔ IsContactBond model tables p) → ((q : StateSeen) → Has map.states q ↔ IsContactState model tables q) →
    IsClosed model tables → (m : List (Option Agent)) → Reached model m → IsMapped map m
IsMapped-reached model tables map ok valid bonds states closed m reached = record {
  bonds = λ p has. (bonds p).1 (IsContactBond-reached model valid tables ok closed m reached p has);
  states = λ q has. (states q).1 (IsContactState-reached model valid tables ok closed m reached q has);
}

-- the same, read through a model's parts
module _ (model : Model) (tables : List Table) (sig : List TypeEntry) (complexes : List (List (Option Agent))) (rules : List RuleParts) (same_sig : sig ≡ model.sig) (same_complexes : complexes ≡ model.inits) (same_rules : rules ≡ model.rules)
    (first middle last : Seen) (no_bonds : first.bonds.items ≡ []) (no_states : first.states.items ≡ [])
    (held : AddsSeen (λ p. (m : List (Option Agent)) × Has complexes m × HasBond m p) (λ q. (m : List (Option Agent)) × Has complexes m × HasStateSeen m q) first middle)
    (written : AddsSeen (λ p. (r : RuleParts) × Has rules r × IsAllowed sig tables r.left × WritesBond r p) (λ q. (r : RuleParts) × Has rules r × IsAllowed sig tables r.left × WritesState r q) middle last) where
  held_by_model : AddsSeen (λ p. SomeComplex model (λ m. HasBond m p)) (λ q. SomeComplex model (λ m. HasStateSeen m q)) first middle
  held_by_model = subst (λ (ms : List (List (Option Agent))). AddsSeen (λ p. (m : List (Option Agent)) × Has ms m × HasBond m p) (λ q. (m : List (Option Agent)) × Has ms m × HasStateSeen m q) first middle) same_complexes held

  written_by_model : AddsSeen (λ p. SomeLiveRule model tables (λ r. WritesBond r p)) (λ q. SomeLiveRule model tables (λ r. WritesState r q)) middle last
  written_by_model =
      subst (λ (rs : List RuleParts). AddsSeen (λ p. (r : RuleParts) × Has rs r × IsAllowed model.sig tables r.left × WritesBond r p) (λ q. (r : RuleParts) × Has rs r × IsAllowed model.sig tables r.left × WritesState r q) middle last) same_rules
      (subst (λ (s : List TypeEntry). AddsSeen (λ p. (r : RuleParts) × Has rules r × IsAllowed s tables r.left × WritesBond r p) (λ q. (r : RuleParts) × Has rules r × IsAllowed s tables r.left × WritesState r q) middle last) same_sig written)

  pub gathered_bonds : (p : Bond) → Has last.bonds.items p ↔ IsContactBond model tables p
  gathered_bonds = contact_bonds model tables first middle last no_bonds no_states held_by_model written_by_model

  pub gathered_states : (q : StateSeen) → Has last.states.items q ↔ IsContactState model tables q
  gathered_states = contact_states model tables first middle last no_bonds no_states held_by_model written_by_model

-- one fact after another
pub and_then : {A B C : Type 0} → A ↔ B → B ↔ C → A ↔ C
and_then first second = (λ a. second.0 (first.0 a), λ c. first.1 (second.1 c))

-- The step graph of the contact map: its bonds are over the signature, its points those that are allowed.
use Rattle.std.proofs.Common.{◌≡◌, ℕ, List, length}
use Rattle.std.specs.Prelude.{Option, ◌↔◌}
use Rattle.std.specs.List.{AllPairs}
use Rattle.kasa_graph.specs.declared.mixture.Agent.{Agent}
use Rattle.kasa_graph.specs.Lists.{Has}
use Rattle.kasa_graph.specs.Signature.{TypeEntry}
use Rattle.kasa_graph.proofs.SignatureLemmas.{type_of_site}
use Rattle.kasa_rules.specs.declared.model.Model.{Model}
use Rattle.kasa_rules.specs.Reached.{Reached, IsModel}
use Rattle.kasa_families.specs.Table.{Table, AreTables}
use Rattle.kasa_pre.specs.Allowed.{IsAllowed}
use Rattle.kasa_pre.specs.Closed.{IsClosed}
use Rattle.kasa_polymers.specs.declared.map.Bond.{Bond}
use Rattle.kasa_polymers.specs.declared.map.Polymers.{Polymers}
use Rattle.kasa_polymers.specs.declared.map.Polymers.TheVariants.{AtMost, Beyond, Cycle}
use Rattle.kasa_polymers.specs.Contact.{turned, IsContactBond}
use Rattle.kasa_polymers.specs.Order.{IsBondBelow}
use Rattle.kasa_polymers.specs.StepGraph.{bond_pattern, IsPoint}
use Rattle.kasa_polymers.specs.Verdict.{IsVerdict, BoundsSpecies}
use Rattle.kasa_polymers.specs.inner.Steps.{IsBondOver, AreSteps}
use Rattle.kasa_polymers.specs.inner.Bound.{IsGraphOf}
use Rattle.kasa_polymers.proofs.ContactSites.{HasSite-contact}
use Rattle.kasa_polymers.proofs.ContactLemmas.{IsContactBond-back, IsContactBond-reached}
use Rattle.kasa_polymers.proofs.Bound.{AllSpeciesWithin-reached}

-- the bonds of the contact map are over the signature
pub IsBondOver-contact : (model : Model) (tables : List Table) → IsModel model → (p : Bond) → IsContactBond model tables p → IsBondOver model.sig p
IsBondOver-contact model tables valid p is =
    let first = HasSite-contact model tables p valid is in
    let second = HasSite-contact model tables (turned p) valid (IsContactBond-back model tables valid p is) in
    record {
      first = type_of_site model.sig p.a p.x first;
      second = type_of_site model.sig p.b p.y second;
      first_site = first;
      second_site = second;
    }

-- the points are the bonds of the contact map that are allowed
pub IsGraphOf-contact : (model : Model) (tables : List Table) (bonds points : List Bond) (size : ℕ) (next : ℕ → List ℕ) → ((p : Bond) → Has bonds p ↔ IsContactBond model tables p) →
    ((p : Bond) → Has points p ↔ (Has bonds p × IsAllowed model.sig tables (bond_pattern model.sig p))) → AllPairs IsBondBelow points → size ≡ length points → AreSteps model.sig tables points next → IsGraphOf model tables points size next
IsGraphOf-contact model tables bonds points size next contact listed ascend whole steps = record {
  listed = λ p. (
    λ has. let h = (listed p).0 has in ((contact p).0 h.0, h.1),
    λ (is, allowed). (listed p).1 ((contact p).1 is, allowed),
  );
  ascend = ascend;
  whole = whole;
  steps = steps;
}

-- the same, over the bonds and the signature as the calls read them
module _ (model : Model) (tables : List Table) (sig : List TypeEntry) (same : sig ≡ model.sig) (map bonds points : List Bond) (is : bonds ≡ map) (contact : (p : Bond) → Has map p ↔ IsContactBond model tables p) where
  pub IsBondOver-read : IsModel model → (p : Bond) → Has bonds p → IsBondOver sig p
  IsBondOver-read valid p has = rw same (IsBondOver-contact model tables valid p ((contact p).0 (rw is at has)))

  module _ (listed : (p : Bond) → Has points p ↔ (Has bonds p × IsAllowed sig tables (bond_pattern sig p))) where
    pub IsBondOver-point : IsModel model → (p : Bond) → Has points p → IsBondOver sig p
    IsBondOver-point valid p has = IsBondOver-read valid p ((listed p).0 has).0

    pub IsGraphOf-read : (size : ℕ) (next : ℕ → List ℕ) → AllPairs IsBondBelow points → size ≡ length points → AreSteps sig tables points next → IsGraphOf model tables points size next
    IsGraphOf-read size next ascend whole steps = IsGraphOf-contact model tables map points size next contact (λ p. rw (is, same) at (listed p)) ascend whole (rw same at steps)

-- a verdict over closed tables bounds the species of each reached mixture
pub BoundsSpecies-verdict : (model : Model) (tables : List Table) → AreTables model.sig tables → IsModel model → (verdict : Polymers) → IsVerdict model tables verdict → IsClosed model tables → (m : List (Option Agent)) → Reached model m → BoundsSpecies verdict m
BoundsSpecies-verdict model tables ok valid (AtMost n) is closed m reached =
    AllSpeciesWithin-reached model tables m n ok valid closed reached (IsContactBond-reached model valid tables ok closed m reached) is.0
BoundsSpecies-verdict model tables ok valid Beyond is closed m reached = tt
BoundsSpecies-verdict model tables ok valid (Cycle walk) is closed m reached = tt

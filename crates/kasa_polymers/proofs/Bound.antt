-- No species of a reached mixture has more cells than the bound.
use Rattle.std.proofs.Common.{◌≡◌, ◌≢◌, ℕ, zero, suc, ◌≤◌, List, refl, arith}
use Rattle.std.specs.Prelude.{Option, Some}
use Rattle.kasa_graph.specs.declared.mixture.Agent.{Agent}
use Rattle.kasa_graph.specs.Mixture.{type_in, partner_in, IsMixtureOver}
use Rattle.kasa_graph.proofs.MixtureLemmas.{type_of_partner}
use Rattle.kasa_rules.specs.declared.model.Model.{Model}
use Rattle.kasa_rules.specs.Reached.{Reached, IsModel}
use Rattle.kasa_rules.proofs.ReachedLemmas.{IsMixtureOver-reached}
use Rattle.kasa_families.specs.Table.{Table, AreTables}
use Rattle.kasa_pre.specs.Closed.{Cover, IsClosed}
use Rattle.kasa_pre.proofs.SoundLemmas.{Cover-reached}
use Rattle.kasa_polymers.specs.declared.map.Bond.{Bond}
use Rattle.kasa_polymers.specs.Contact.{HasBond, IsContactBond}
use Rattle.kasa_polymers.specs.StepGraph.{IsBound}
use Rattle.kasa_polymers.specs.Species.{AllSpeciesWithin}
use Rattle.kasa_polymers.proofs.Different.{share-within}
use Rattle.kasa_polymers.proofs.Branches.{Branch, branch_at, branch_of, within-branch}
use Rattle.kasa_polymers.proofs.Points.{bond_of, site_of_bond, IsAllowedType-cell, IsPoint-bond, IsEdge-bonds}

module _ (model : Model) (tables : List Table) (m : List (Option Agent)) (ok : AreTables model.sig tables) (over : IsMixtureOver model.sig m) (cover : Cover model.sig tables m) (contact : (bond : Bond) → HasBond m bond → IsContactBond model tables bond) (n : ℕ) (bound : IsBound model tables n) where
  -- a bond to another cell leads to a branch within its weight, where that is at most so much
  abbrev Leads : ℕ → Type 0
  Leads most = (c a x d b y : ℕ) → type_in m c ≡ Some a → type_in m d ≡ Some b → partner_in m c x ≡ Some (d, y) → d ≢ c → bound.weight (bond_of a x b y) ≤ most → Branch m c d (bound.weight (bond_of a x b y))

  -- a branch within a smaller number
  wider : (c d k l : ℕ) → k ≤ l → Branch m c d k → Branch m c d l
  wider c d k l h branch = record { cells = branch.cells; short = let s = branch.short in omega arith; entered = branch.entered; closed = branch.closed }

  leads_further : (most : ℕ) → Leads most → Leads (suc most)
  leads_further most leads c a x d b y on_c on_d to apart light =
      let w = bound.weighing (bond_of a x b y) (IsPoint-bond model tables m ok over cover contact c a x d b y on_c on_d to apart) in
      let weight = w.2 in
      branch_of m c d w.0 (bound.weight (bond_of a x b y))
      (λ z e t f. let site = site_of_bond model tables m ok over cover d b z e t on_d f in let long = w.1.0 in omega arith)
      (λ z k is. branch_at m c d k (partner_in m d z) (λ e t f not_c not_d.
      let g = type_of_partner model.sig m over d z e t f in
      let within = (w.1.1 z k is).0 (bond_of b z g.0 t) (IsEdge-bonds model tables m ok over cover contact c a x d b y on_c on_d to apart z e g.0 t g.1 f not_c not_d, refl) in
      let share = share-within w.0 z k is in
      wider d e (bound.weight (bond_of b z g.0 t)) k within (leads d b z e g.0 t on_d g.1 f not_d (omega arith))))
      (omega arith)

  leads_nowhere : Leads 0
  leads_nowhere c a x d b y on_c on_d to apart light =
      let w = bound.weighing (bond_of a x b y) (IsPoint-bond model tables m ok over cover contact c a x d b y on_c on_d to apart) in
      let weight = w.2 in absurd (omega arith)

  leads : (most : ℕ) → Leads most
  leads zero = leads_nowhere
  leads (suc most) = leads_further most (leads most)

  -- a cell and the branches of its sites
  whole : (c a : ℕ) → type_in m c ≡ Some a → Branch m c c n
  whole c a on_c =
      let largest = bound.largest a (IsAllowedType-cell model tables m ok over cover c a on_c) in
      let shares = largest.1 in
      let sum_of = shares.2 in
      let within = largest.2 in
      branch_of m c c shares.0 n
      (λ z e t f. let site = site_of_bond model tables m ok over cover c a z e t on_c f in let long = shares.1.0 in omega arith)
      (λ z k is. branch_at m c c k (partner_in m c z) (λ e t f not_c _.
      let g = type_of_partner model.sig m over c z e t f in
      let point = IsPoint-bond model tables m ok over cover contact c a z e g.0 t on_c g.1 f not_c in
      wider c e (bound.weight (bond_of a z g.0 t)) k ((shares.1.1 z k is).0 (bond_of a z g.0 t) (point, refl, refl)) (leads (bound.weight (bond_of a z g.0 t)) c a z e g.0 t on_c g.1 f not_c (omega arith))))
      (omega arith)

  pub AllSpeciesWithin-cover : AllSpeciesWithin m n
  AllSpeciesWithin-cover c a on_c cells different connected = within-branch m c n (whole c a on_c) cells different connected

module _ (model : Model) (tables : List Table) (m : List (Option Agent)) (n : ℕ) (ok : AreTables model.sig tables) (valid : IsModel model) (closed : IsClosed model tables) (reached : Reached model m) where
  pub AllSpeciesWithin-reached : ((bond : Bond) → HasBond m bond → IsContactBond model tables bond) → IsBound model tables n → AllSpeciesWithin m n
  AllSpeciesWithin-reached contact bound =
      AllSpeciesWithin-cover model tables m ok (IsMixtureOver-reached model valid m reached) (Cover-reached model valid tables ok closed m reached) contact n bound

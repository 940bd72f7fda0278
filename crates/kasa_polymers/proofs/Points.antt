-- Bonds of a mixture that tables cover are points of the step graph, and two at one cell are a step.
use Rattle.std.proofs.Common.{◌≡◌, ◌≢◌, ℕ, zero, suc, List, [], ◌∷◌, refl, sym, ◌∙◌}
use Rattle.std.specs.Prelude.{Option, Some, slice_get}
use Rattle.std.proofs.lemmas.Option.{some_pair_parts}
use Rattle.kasa_graph.specs.declared.mixture.Agent.{Agent}
use Rattle.kasa_graph.specs.Signature.{HasSite}
use Rattle.kasa_graph.specs.Pattern.{blank_node, with_bond, HasNodeSite}
use Rattle.kasa_graph.specs.Mixture.{type_in, partner_in, IsMixtureOver}
use Rattle.kasa_graph.proofs.ListLemmas.{AllDifferent-cons, AllDifferent-[]}
use Rattle.kasa_graph.proofs.EmbeddingLemmas.{IsEmbedding-blank, IsEmbedding-with_bond}
use Rattle.kasa_graph.proofs.TestLemmas.{HasNodeSite-blank, HasNodeSite-with_bond}
use Rattle.kasa_graph.proofs.MixtureLemmas.{type_of_partner}
use Rattle.kasa_rules.specs.declared.model.Model.{Model}
use Rattle.kasa_rules.proofs.FiredLemmas.{agent_of_type}
use Rattle.kasa_families.specs.Table.{Table, AreTables}
use Rattle.kasa_pre.specs.Allowed.{IsAllowed}
use Rattle.kasa_pre.specs.Closed.{Cover}
use Rattle.kasa_pre.proofs.CoverLemmas.{IsAllowed-cover}
use Rattle.kasa_polymers.specs.declared.map.Bond.{Bond}
use Rattle.kasa_polymers.specs.Contact.{HasBond, IsContactBond}
use Rattle.kasa_polymers.specs.StepGraph.{bond_pattern, step_pattern, IsPoint, IsEdge, IsAllowedType}

abbrev pub bond_of : ℕ → ℕ → ℕ → ℕ → Bond
bond_of a x b y = record { a = a; x = x; b = b; y = y }

-- ---- nodes without tests on cells of their types

abbrev AreTyped : List (Option Agent) → List ℕ → List ℕ → Type 0
AreTyped m types cells = (n c a : ℕ) → slice_get cells n ≡ Some c → slice_get types n ≡ Some a → type_in m c ≡ Some a

typed-[] : (m : List (Option Agent)) → AreTyped m [] []
typed-[] m n c a e f = absurd cc

typed-cons : (m : List (Option Agent)) (types cells : List ℕ) (a c : ℕ) → type_in m c ≡ Some a → AreTyped m types cells → AreTyped m (a ∷ types) (c ∷ cells)
typed-cons m types cells a c is typed zero d b e f = let cell : c ≡ d = cc in let agent : a ≡ b = cc in rw (← cell, ← agent) is
typed-cons m types cells a c is typed (suc n) d b e f = typed n d b e f

apart-[] : (c n : ℕ) → slice_get [] n ≢ Some c
apart-[] c n e = cc

apart-cons : (c d : ℕ) (cells : List ℕ) → c ≢ d → ((n : ℕ) → slice_get cells n ≢ Some c) → (n : ℕ) → slice_get (d ∷ cells) n ≢ Some c
apart-cons c d cells ne apart zero e = ne cc
apart-cons c d cells ne apart (suc n) e = apart n e

-- ---- the points and steps of a mixture

module _ (model : Model) (tables : List Table) (m : List (Option Agent)) (ok : AreTables model.sig tables) (over : IsMixtureOver model.sig m) (cover : Cover model.sig tables m) where
  pub site_of_bond : (c a s d t : ℕ) → type_in m c ≡ Some a → partner_in m c s ≡ Some (d, t) → HasSite model.sig a s
  site_of_bond c a s d t typed bound =
      let found = type_of_partner model.sig m over d t c s (over.linked.both_ways c s d t bound) in
      let same : Some found.0 ≡ Some a = sym found.1 ∙ typed in
      let agent : found.0 ≡ a = cc in
      rw agent at found.2

  pub IsAllowedType-cell : (c a : ℕ) → type_in m c ≡ Some a → IsAllowedType model tables a
  IsAllowedType-cell c a typed = (
    (let agent = agent_of_type m c a typed in rw (← agent.2) (over.types c agent.0 agent.1)),
    IsAllowed-cover model.sig tables m (blank_node model.sig a ∷ []) (c ∷ []) ok over cover
        (IsEmbedding-blank model.sig (a ∷ []) m (c ∷ []) refl (AllDifferent-cons c [] (apart-[] c) AllDifferent-[]) (typed-cons m [] [] a c typed (typed-[] m))),
  )

  module _ (contact : (bond : Bond) → HasBond m bond → IsContactBond model tables bond) (c a x d b y : ℕ) (on_c : type_in m c ≡ Some a) (on_d : type_in m d ≡ Some b) (bound : partner_in m c x ≡ Some (d, y)) (apart : d ≢ c) where
    pub IsPoint-bond : IsPoint model tables (bond_of a x b y)
    IsPoint-bond =
        let back = over.linked.both_ways c x d y bound in (
          contact (bond_of a x b y) (record { first = c; second = d; first_type = on_c; partner = bound; second_type = on_d }),
          IsAllowed-cover model.sig tables m (bond_pattern model.sig (bond_of a x b y)) (c ∷ d ∷ []) ok over cover (
              IsEmbedding-with_bond (blank_node model.sig a ∷ blank_node model.sig b ∷ []) m (c ∷ d ∷ []) 0 x 1 y c d
              (HasNodeSite-blank model.sig (a ∷ b ∷ []) 0 x a refl (site_of_bond c a x d y on_c bound))
              (HasNodeSite-blank model.sig (a ∷ b ∷ []) 1 y b refl (site_of_bond d b y c x on_d back))
              refl refl bound back
              (IsEmbedding-blank model.sig (a ∷ b ∷ []) m (c ∷ d ∷ []) refl
              (AllDifferent-cons c (d ∷ []) (apart-cons c d [] (λ e. apart (sym e)) (apart-[] c)) (AllDifferent-cons d [] (apart-[] d) AllDifferent-[]))
              (typed-cons m (b ∷ []) (d ∷ []) a c on_c (typed-cons m [] [] b d on_d (typed-[] m))))),
        )

  module _ (contact : (bond : Bond) → HasBond m bond → IsContactBond model tables bond) (c a x d b y : ℕ) (on_c : type_in m c ≡ Some a) (on_d : type_in m d ≡ Some b) (bound : partner_in m c x ≡ Some (d, y)) (apart : d ≢ c) (z e g w : ℕ) (on_e : type_in m e ≡ Some g) (goes_on : partner_in m d z ≡ Some (e, w)) (not_c : e ≢ c) (not_d : e ≢ d) where
    step_site : z ≢ y
    step_site same =
        let back : partner_in m d z ≡ Some (c, x) = rw same (over.linked.both_ways c x d y bound) in
        not_c (some_pair_parts e c w x (sym goes_on ∙ back)).0

    step_allowed : IsAllowed model.sig tables (step_pattern model.sig (bond_of a x b y) (bond_of b z g w))
    step_allowed =
        let back = over.linked.both_ways c x d y bound in
        let back' = over.linked.both_ways d z e w goes_on in
        let nodes = blank_node model.sig a ∷ blank_node model.sig b ∷ blank_node model.sig g ∷ [] in
        let has : (n s t : ℕ) → slice_get (a ∷ b ∷ g ∷ []) n ≡ Some t → HasSite model.sig t s → HasNodeSite nodes n s = λ n s t is site. HasNodeSite-blank model.sig (a ∷ b ∷ g ∷ []) n s t is site in
        IsAllowed-cover model.sig tables m (step_pattern model.sig (bond_of a x b y) (bond_of b z g w)) (c ∷ d ∷ e ∷ []) ok over cover (
        IsEmbedding-with_bond (with_bond nodes 0 x 1 y) m (c ∷ d ∷ e ∷ []) 1 z 2 w d e
        (HasNodeSite-with_bond nodes 0 x 1 y 1 z (has 1 z b refl (site_of_bond d b z e w on_d goes_on)))
        (HasNodeSite-with_bond nodes 0 x 1 y 2 w (has 2 w g refl (site_of_bond e g w d z on_e back')))
        refl refl goes_on back' (
        IsEmbedding-with_bond nodes m (c ∷ d ∷ e ∷ []) 0 x 1 y c d
        (has 0 x a refl (site_of_bond c a x d y on_c bound))
        (has 1 y b refl (site_of_bond d b y c x on_d back))
        refl refl bound back
        (IsEmbedding-blank model.sig (a ∷ b ∷ g ∷ []) m (c ∷ d ∷ e ∷ []) refl
        (AllDifferent-cons c (d ∷ e ∷ []) (apart-cons c d (e ∷ []) (λ f. apart (sym f)) (apart-cons c e [] (λ f. not_c (sym f)) (apart-[] c)))
        (AllDifferent-cons d (e ∷ []) (apart-cons d e [] (λ f. not_d (sym f)) (apart-[] d)) (AllDifferent-cons e [] (apart-[] e) AllDifferent-[])))
        (typed-cons m (b ∷ g ∷ []) (d ∷ e ∷ []) a c on_c (typed-cons m (g ∷ []) (e ∷ []) b d on_d (typed-cons m [] [] g e on_e (typed-[] m)))))))

    pub IsEdge-bonds : IsEdge model tables (bond_of a x b y) (bond_of b z g w)
    IsEdge-bonds = record {
      from = IsPoint-bond contact c a x d b y on_c on_d bound apart;
      to = IsPoint-bond contact d b z e g w on_d on_e goes_on not_d;
      goes_on = refl;
      other_site = step_site;
      allowed = step_allowed;
    }

-- Which bonds are possible: those of the contact map over no tables; and the partners at a site, in order.
use Rattle.std.proofs.Common.{◌≡◌, ℕ, zero, suc, ◌+◌, ◌<◌, ◌≤◌, ◌⊎◌, inl, inr, ◌↔◌, Bool, true, false, ◌&&◌, cond, List, [], ◌∷◌, ◌++◌, length, map, refl, ap, sym, subst, ◌∙◌, arith, Option, Some, None}
use Rattle.std.specs.Prelude.{nat_eq}
use Rattle.std.specs.List.{filter, flat_map, list_any, range_with_len, AllPairs}
use Rattle.std.proofs.lemmas.Bool.{eqb-true, eq-eqb}
use Rattle.kasa_lists.specs.Lists.{Has}
use Rattle.kasa_lists.proofs.Having.{Has-[], Has-head, Has-later, Has-append, Has-left, Has-right, Has-map, Has-of_map}
use Rattle.kasa_graph.specs.declared.mixture.Agent.{Agent}
use Rattle.kasa_graph.specs.Mixture.{type_in, partner_in}
use Rattle.kasa_graph.specs.Signature.{state_counts}
use Rattle.kasa_graph.proofs.SignatureLemmas.{type_of_site}
use Rattle.kasa_rules.specs.declared.model.Model.{Model}
use Rattle.kasa_rules.specs.declared.rule.End.{End}
use Rattle.kasa_rules.specs.declared.rule.End.TheVariants.{Left, Made}
use Rattle.kasa_rules.specs.declared.rule.Written.{Written}
use Rattle.kasa_rules.specs.declared.rule.Written.TheVariants as written
use Rattle.kasa_rules.specs.Rule.{RuleParts, end_type, end_link}
use Rattle.kasa_rules.specs.Reached.{IsModel}
use Rattle.kasa_rules.proofs.FiredLemmas.{type_within}
use Rattle.std.proofs.lemmas.Option.{some_pair_parts}
use Rattle.kasa_families.specs.Family.{Ascends}
use Rattle.kasa_families.proofs.RowTests.{Ascends-tail}
use Rattle.kasa_polymers.specs.declared.map.Bond.{Bond}
use Rattle.kasa_polymers.specs.Contact.{HasBond, WritesBond, IsContactBond, turned}
use Rattle.kasa_polymers.specs.Order.{IsBondBelow}
use Rattle.kasa_polymers.proofs.ContactSites.{HasSite-contact}
use Rattle.kasa_polymers.proofs.ContactLemmas.{IsContactBond-back}
use Rattle.kasa_polymers.proofs.GatherLemmas.{left_there, made_there}
use Rattle.kasa_polymers.proofs.OrderLemmas.{bond_same, not_below_self, below-trans}
use Rattle.kasa_report.proofs.InOrder.{AreBelow, AreBelow-pairs, ordered_same}
use Rattle.kasa_choose.specs.Views.{numbers, is_type, sites_of_type}
use Rattle.kasa_choose.specs.Parallel.{leads_to, has_bond, writes_to, ends_of, writes_bond, is_possible, partners_at, partners, over_sites, over_site, over_type}
use Rattle.kasa_choose.specs.Own.{far_end, partners_among}
use Rattle.kasa_choose.proofs.PlanLists.{Ascends-head}
use Rattle.kasa_choose.proofs.TestLemmas.{or_told, and_told, filter_has, any_has, flat_has, range_has, numbers_has, Ascends-range}

-- ---- what the tests tell

is_type_told : (a : ℕ) (o : Option ℕ) → is_type a o ≡ true ↔ (o ≡ Some a)
is_type_told a None = (λ h. absurd cc, λ is. absurd cc)
is_type_told a (Some b) = (λ h. ap Some (eqb-true b a h), λ is. let same : b ≡ a = cc in eq-eqb b a same)

module _ (bond : Bond) where
  leads_told : (m : List (Option Agent)) (o : Option (ℕ × ℕ)) → leads_to m bond.b bond.y o ≡ true ↔ ((d : ℕ) × (o ≡ Some (d, bond.y)) × (type_in m d ≡ Some bond.b))
  leads_told m None = (λ h. absurd cc, λ h. absurd (let none = h.1 in cc))
  leads_told m (Some (d, t)) =
      let told = and_told (nat_eq t bond.y) (is_type bond.b (type_in m d)) in (
        λ h. let own = told.0 h in (d, ap (λ k. Some (d, k)) (eqb-true t bond.y own.0), (is_type_told bond.b (type_in m d)).0 own.1),
        λ (e, is, type). let same = some_pair_parts d e t bond.y is in
            told.1 (eq-eqb t bond.y same.1, (is_type_told bond.b (type_in m d)).1 (ap (type_in m) same.0 ∙ type)),
      )

  has_bond_told : (m : List (Option Agent)) → has_bond bond.a bond.x bond.b bond.y m ≡ true ↔ HasBond m bond
  has_bond_told m =
      let test : ℕ → Bool = λ c. is_type bond.a (type_in m c) && leads_to m bond.b bond.y (partner_in m c bond.x) in
      let any = any_has test (numbers (length m)) in (
        λ h.
            let (c, _, own) = any.0 h in
            let both = (and_told (is_type bond.a (type_in m c)) (leads_to m bond.b bond.y (partner_in m c bond.x))).0 own in
            let (d, to, far) = (leads_told m (partner_in m c bond.x)).0 both.1 in
            record { first = c; second = d; first_type = (is_type_told bond.a (type_in m c)).0 both.0; partner = to; second_type = far },
        λ has. any.1 (
          has.first,
          (numbers_has (length m) has.first).1 (type_within m has.first bond.a has.first_type),
          (and_told (is_type bond.a (type_in m has.first)) (leads_to m bond.b bond.y (partner_in m has.first bond.x))).1
              ((is_type_told bond.a (type_in m has.first)).1 has.first_type, (leads_told m (partner_in m has.first bond.x)).1 (has.second, has.partner, has.second_type)),
        ),
      )

  writes_told : (r : RuleParts) (o : Option Written) → writes_to r bond.b bond.y o ≡ true ↔ ((f : End) × (o ≡ Some (written.To f bond.y)) × (end_type r f ≡ Some bond.b))
  writes_told r None = (λ h. absurd cc, λ h. absurd (let none = h.1 in cc))
  writes_told r (Some written.Free) = (λ h. absurd cc, λ h. absurd (let other = h.1 in cc))
  writes_told r (Some (written.To e t)) =
      let told = and_told (nat_eq t bond.y) (is_type bond.b (end_type r e)) in (
        λ h. let own = told.0 h in (e, ap (λ k. Some (written.To e k)) (eqb-true t bond.y own.0), (is_type_told bond.b (end_type r e)).0 own.1),
        λ (f, is, type). let first : e ≡ f = cc in let second : t ≡ bond.y = cc in
            told.1 (eq-eqb t bond.y second, (is_type_told bond.b (end_type r e)).1 (ap (end_type r) first ∙ type)),
      )

  -- an end with a type is an end of the rule
  is_end : (r : RuleParts) (e : End) (a : ℕ) → end_type r e ≡ Some a → Has (ends_of r) e
  is_end r (Left n) a is = Has-left (map Left (numbers (length r.left))) (map Made (numbers (length r.made))) (Left n) (Has-map Left (numbers (length r.left)) n ((numbers_has (length r.left) n).1 (left_there r (Left n) n refl (rw is refl))))
  is_end r (Made k) a is = Has-right (map Left (numbers (length r.left))) (map Made (numbers (length r.made))) (Made k) (Has-map Made (numbers (length r.made)) k ((numbers_has (length r.made) k).1 (made_there r (Made k) k refl (rw is refl))))

  writes_bond_told : (r : RuleParts) → writes_bond bond.a bond.x bond.b bond.y r ≡ true ↔ WritesBond r bond
  writes_bond_told r =
      let test : End → Bool = λ e. is_type bond.a (end_type r e) && writes_to r bond.b bond.y (end_link r e bond.x) in
      let any = any_has test (ends_of r) in (
        λ h.
            let (e, _, own) = any.0 h in
            let both = (and_told (is_type bond.a (end_type r e)) (writes_to r bond.b bond.y (end_link r e bond.x))).0 own in
            let (f, to, far) = (writes_told r (end_link r e bond.x)).0 both.1 in
            record { first = e; second = f; first_type = (is_type_told bond.a (end_type r e)).0 both.0; link = to; second_type = far },
        λ has. any.1 (
          has.first,
          is_end r has.first bond.a has.first_type,
          (and_told (is_type bond.a (end_type r has.first)) (writes_to r bond.b bond.y (end_link r has.first bond.x))).1
              ((is_type_told bond.a (end_type r has.first)).1 has.first_type, (writes_told r (end_link r has.first bond.x)).1 (has.second, has.link, has.second_type)),
        ),
      )

  possible_told : (model : Model) → is_possible model bond.a bond.x bond.b bond.y ≡ true ↔ IsContactBond model [] bond
  possible_told model =
      let either = or_told (list_any (has_bond bond.a bond.x bond.b bond.y) model.inits) (list_any (writes_bond bond.a bond.x bond.b bond.y) model.rules) in
      let inits = any_has (has_bond bond.a bond.x bond.b bond.y) model.inits in
      let rules = any_has (writes_bond bond.a bond.x bond.b bond.y) model.rules in (
        λ h. elim (either.0 h) [
          | inl own ↦ let (m, has, is) = inits.0 own in inl (m, has, (has_bond_told m).0 is)
          | inr own ↦ let (r, has, is) = rules.0 own in inr (r, has, (λ family none. absurd (Has-[] family none)), (writes_bond_told r).0 is)
        ],
        λ h. either.1 (elim h [
          | inl (m, has, is) ↦ inl (inits.1 (m, has, (has_bond_told m).1 is))
          | inr (r, has, allowed, is) ↦ inr (rules.1 (r, has, (writes_bond_told r).1 is))
        ]),
      )

-- ---- partners, in order

abbrev PortBelow : ℕ × ℕ → ℕ × ℕ → Type 0
PortBelow p q = (p.0 < q.0) ⊎ ((p.0 ≡ q.0) × (p.1 < q.1))

port_asym : (p q : ℕ × ℕ) → PortBelow p q → PortBelow q p → ⊥
port_asym p q (inl a) (inl b) = omega arith
port_asym p q (inl a) (inr b) = let e = b.0 in omega arith
port_asym p q (inr a) (inl b) = let e = a.0 in omega arith
port_asym p q (inr a) (inr b) = let less : p.1 < q.1 = a.1 in let more : q.1 < p.1 = b.1 in omega arith

abbrev ArePorts : List (ℕ × ℕ) → Type 0
ArePorts ports = AreBelow PortBelow port_asym ports

bond_asym : (p q : Bond) → IsBondBelow p q → IsBondBelow q p → ⊥
bond_asym p q h k = not_below_self p (below-trans p q p h k)

abbrev AreBonds : List Bond → Type 0
AreBonds bonds = AreBelow IsBondBelow bond_asym bonds

bonds_filtered : (p : Bond → Bool) (bonds : List Bond) → AreBonds bonds → AreBonds (filter p bonds)
bonds_filtered p [] up = tt
bonds_filtered p (b ∷ bonds) up = by (p b) (bonds_filtered p bonds up.1)
  where
    by : (t : Bool) → AreBonds (filter p bonds) → AreBonds (cond t (b ∷ filter p bonds) (filter p bonds))
    by true rest = ((λ q h. up.0 q ((filter_has p bonds q).0 h).0), rest)
    by false rest = rest

far_below : (p q : Bond) → p.a ≡ q.a → p.x ≡ q.x → IsBondBelow p q → PortBelow (far_end p) (far_end q)
far_below p q a x (inl less) = absurd (omega arith)
far_below p q a x (inr (inl less)) = absurd (let other = less.1 in omega arith)
far_below p q a x (inr (inr (inl less))) = inl less.2
far_below p q a x (inr (inr (inr less))) = inr (less.2, less.3)

far_ordered : (a x : ℕ) (bonds : List Bond) → ((bond : Bond) → Has bonds bond → (bond.a ≡ a) × (bond.x ≡ x)) → AreBonds bonds → ArePorts (map far_end bonds)
far_ordered a x [] all up = tt
far_ordered a x (b ∷ bonds) all up = (
  (λ port h.
      let (bond, own, is) = Has-of_map far_end bonds port h in
      let here = all b (Has-head b bonds) in
      let there = all bond (Has-later b bonds bond own) in
      subst (PortBelow (far_end b)) is (far_below b bond (here.0 ∙ sym there.0) (here.1 ∙ sym there.1) (up.0 bond own))),
  far_ordered a x bonds (λ bond own. all bond (Has-later b bonds bond own)) up.1,
)

append_ports : (ps qs : List (ℕ × ℕ)) → ArePorts ps → ArePorts qs → ((p q : ℕ × ℕ) → Has ps p → Has qs q → PortBelow p q) → ArePorts (ps ++ qs)
append_ports [] qs up own before = own
append_ports (p ∷ ps) qs up own before = (
  (λ q h. elim (Has-append ps qs q h) [ inl early ↦ up.0 q early | inr late ↦ before p q (Has-head p ps) late ]),
  append_ports ps qs up.1 own (λ r q early late. before r q (Has-later p ps r early) late),
)

sites_ordered : (b : ℕ) (ys : List ℕ) → Ascends ys → ArePorts (map (λ y. (b, y)) ys)
sites_ordered b [] up = tt
sites_ordered b (y ∷ ys) up = (
  (λ port h.
      let (z, own, is) = Has-of_map (λ z. (b, z)) ys port h in
      let pair : ℕ × ℕ = (b, y) in
      subst (PortBelow pair) is (inr (refl, Ascends-head y ys z up own))),
  sites_ordered b ys (Ascends-tail y ys up),
)

module _ (model : Model) (valid : IsModel model) (a x : ℕ) where
  at_type : (b : ℕ) (port : ℕ × ℕ) → Has (partners_at model a x b) port ↔ ((port.0 ≡ b) × (port.1 < length (state_counts model.sig b)) × (is_possible model a x b port.1 ≡ true))
  at_type b port =
      let ys = filter (is_possible model a x b) (sites_of_type model b) in (
        λ h.
            let (y, own, is) = Has-of_map (λ y. (b, y)) ys port h in
            let told = (filter_has (is_possible model a x b) (sites_of_type model b) y).0 own in
            let less = (numbers_has (length (state_counts model.sig b)) y).0 told.0 in
            let first : port.0 ≡ b = ap (λ p. p.0) (sym is) in
            let second : y ≡ port.1 = ap (λ p. p.1) is in
            (first, subst (λ k. k < length (state_counts model.sig b)) second less, subst (λ k. is_possible model a x b k ≡ true) second told.1),
        λ (first, less, is).
            let told = (filter_has (is_possible model a x b) (sites_of_type model b) port.1).1 ((numbers_has (length (state_counts model.sig b)) port.1).1 less, is) in
            let pair : (b, port.1) ≡ port = ap (λ k. (k, port.1)) (sym first) in
            subst (Has (partners_at model a x b)) pair (Has-map (λ y. (b, y)) ys port.1 told),
      )

  types_from : (b n : ℕ) → ArePorts (flat_map (partners_at model a x) (range_with_len b n))
  types_from b zero = tt
  types_from b (suc n) =
      append_ports (partners_at model a x b) (flat_map (partners_at model a x) (range_with_len (b + 1) n))
      (sites_ordered b (filter (is_possible model a x b) (sites_of_type model b)) (Ascends-range (is_possible model a x b) 0 (length (state_counts model.sig b))))
      (types_from (b + 1) n)
      (λ p q early late.
      let (c, type, own) = (flat_has (partners_at model a x) (range_with_len (b + 1) n) q).0 late in
      let here = ((at_type b p).0 early).0 in
      let there = ((at_type c q).0 own).0 in
      let above : b + 1 ≤ c = ((range_has (b + 1) n c).0 type).0 in
      let less : p.0 < q.0 = omega arith in
      inl less)

  partners_told : (port : ℕ × ℕ) → Has (partners model a x) port ↔ (let bond : Bond = record { a = a; x = x; b = port.0; y = port.1 } in IsContactBond model [] bond)
  partners_told port =
      let bond : Bond = record { a = a; x = x; b = port.0; y = port.1 } in
      let flat = flat_has (partners_at model a x) (numbers (length model.sig)) port in (
        λ h.
            let (b, _, own) = flat.0 h in
            let (first, _, is) = (at_type b port).0 own in
            (possible_told bond model).0 (subst (λ k. is_possible model a x k port.1 ≡ true) (sym first) is),
        λ contact.
            let site = HasSite-contact model [] (turned bond) valid (IsContactBond-back model [] valid bond contact) in
            flat.1 (port.0, (numbers_has (length model.sig) port.0).1 (type_of_site model.sig port.0 port.1 site), (at_type port.0 port).1 (refl, site, (possible_told bond model).1 contact)),
      )

  -- the far ends of the contact map's bonds at a site, over no tables, are its partners
  pub among_is : (bonds : List Bond) → AllPairs IsBondBelow bonds → ((bond : Bond) → Has bonds bond ↔ IsContactBond model [] bond) → partners_among (filter (λ bond. nat_eq bond.a a) bonds) x ≡ partners model a x
  among_is bonds pairs exact =
      ordered_same PortBelow port_asym (map far_end at_x) (partners model a x)
      (far_ordered a x at_x (λ bond own. let t = told bond own in (t.0, t.1)) (bonds_filtered (λ bond. nat_eq bond.x x) of_a (bonds_filtered (λ bond. nat_eq bond.a a) bonds (AreBelow-pairs IsBondBelow bond_asym bonds pairs))))
      (types_from 0 (length model.sig))
      (λ port. (there port, back port))
    where
      of_a : List Bond
      of_a = filter (λ bond. nat_eq bond.a a) bonds

      at_x : List Bond
      at_x = filter (λ bond. nat_eq bond.x x) of_a

      told : (bond : Bond) → Has at_x bond → (bond.a ≡ a) × (bond.x ≡ x) × IsContactBond model [] bond
      told bond own =
          let first = (filter_has (λ bond. nat_eq bond.x x) of_a bond).0 own in
          let second = (filter_has (λ bond. nat_eq bond.a a) bonds bond).0 first.0 in
          (eqb-true bond.a a second.1, eqb-true bond.x x first.1, (exact bond).0 second.0)

      there : (port : ℕ × ℕ) → Has (map far_end at_x) port → Has (partners model a x) port
      there port h =
          let (bond, own, is) = Has-of_map far_end at_x port h in
          let (first, second, contact) = told bond own in
          let same : bond ≡ record { a = a; x = x; b = port.0; y = port.1 } = bond_same bond (record { a = a; x = x; b = port.0; y = port.1 }) first second (ap (λ p. p.0) is) (ap (λ p. p.1) is) in
          (partners_told port).1 (subst (IsContactBond model []) same contact)

      back : (port : ℕ × ℕ) → Has (partners model a x) port → Has (map far_end at_x) port
      back port h =
          let bond : Bond = record { a = a; x = x; b = port.0; y = port.1 } in
          let contact = (exact bond).1 ((partners_told port).0 h) in
          let first = (filter_has (λ bond. nat_eq bond.a a) bonds bond).1 (contact, eq-eqb a a refl) in
          let second = (filter_has (λ bond. nat_eq bond.x x) of_a bond).1 (first, eq-eqb x x refl) in
          Has-map far_end at_x bond second

-- ---- the same partners, the same families

flat_same : {X Y : Type 0} (f g : X → List Y) (xs : List X) → ((x : X) → f x ≡ g x) → flat_map f xs ≡ flat_map g xs
flat_same f g [] e = refl
flat_same f g (x ∷ xs) e = rw (e x, flat_same f g xs e) refl

pub over_type_same : (one two : ℕ → List (ℕ × ℕ)) (a count : ℕ) → ((x : ℕ) → one x ≡ two x) → over_type one a count ≡ over_type two a count
over_type_same one two a count e =
    flat_same (over_site one a count) (over_site two a count) (numbers count)
    (λ x. flat_same (over_sites one a x) (over_sites two a x) (numbers count) (λ u. rw (e x, e u) refl))

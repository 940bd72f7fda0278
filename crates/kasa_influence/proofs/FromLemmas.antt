-- Freed tests, site by site.
use Rattle.std.proofs.Common.{◌≡◌, ◌≢◌, ℕ, zero, suc, ◌+◌, ◌<◌, ◌≤◌, ◌⊎◌, ◌↔◌, inl, inr, false, List, [], ◌∷◌, ◌++◌, length, refl, sym, ap, subst, ◌∙◌, arith}
use Rattle.std.specs.Prelude.{Some, None, slice_get}
use Rattle.kasa_lists.proofs.Numbers.{same_or_not}
use Rattle.kasa_lists.proofs.Having.{Has-append, Has-left, Has-right}
use Rattle.kasa_graph.specs.declared.pattern.Node.{Node}
use Rattle.kasa_graph.specs.declared.pattern.LinkTest.TheVariants as test
use Rattle.kasa_graph.specs.Signature.{state_counts}
use Rattle.kasa_graph.specs.Lists.{Has}
use Rattle.kasa_graph.specs.Pattern.{agent_at, link_test, site_at}
use Rattle.kasa_rules.specs.Rule.{RuleParts, touched}
use Rattle.kasa_rules.specs.declared.rule.Fate.TheVariants.{Deleted, Kept}
use Rattle.kasa_pre.specs.declared.Stand.{Stand}
use Rattle.kasa_pre.specs.declared.Stand.TheVariants.{Left, Made, Outside}
use Rattle.kasa_pre.specs.declared.FreedBy.{FreedBy}
use Rattle.kasa_pre.specs.Before.{link_written, AreFreed, place_of, outside_types}
use Rattle.kasa_pre.proofs.AskedLemmas.{place_of-left}
use Rattle.kasa_influence.specs.Gain.{Makes}
use Rattle.kasa_influence.specs.inner.Ask.{Asked, IsAsked, IsOne}
use Rattle.kasa_influence.specs.inner.Makes.{MakesAt, FreeSameBelow, MakesFrom, IsSource}
use Rattle.kasa_influence.proofs.OneLemmas.{the_type, below_tested}
use Rattle.kasa_influence.proofs.TouchLemmas.{not_touched, touched-past, IsOpen-partner}

Has-one : {X : Type 0} (y x : X) → Has (y ∷ []) x → y ≡ x
Has-one y x (k, e) = by_place k e
  where
    by_place : (k : ℕ) → slice_get (y ∷ []) k ≡ Some x → y ≡ x
    by_place zero e = cc
    by_place (suc k) e = absurd cc

-- the last element, or one before it
last_or : {X : Type 0} (xs : List X) (y x : X) → Has (xs ++ y ∷ []) x → Has xs x ⊎ (y ≡ x)
last_or xs y x has = elim (Has-append xs (y ∷ []) x has) [ inl old ↦ inl old | inr new ↦ inr (Has-one y x new) ]

-- some listed test is one of the site, or none is
some_at_site : (xs : List FreedBy) (s : ℕ) → ((f : FreedBy) × Has xs f × (f.site ≡ s)) ⊎ ((f : FreedBy) → Has xs f → f.site ≢ s)
some_at_site [] s = inr (λ f has e. let h = has.1 in cc)
some_at_site (x ∷ xs) s =
    elim (same_or_not x.site s) [
      | inl e ↦ inl (x, (0, refl), e)
      | inr ne ↦ elim (some_at_site xs s) [
        | inl found ↦ inl (found.0, (suc found.1.0, found.1.1), found.2)
        | inr none ↦ inr (λ f has. by_place f has.0 has.1 ne none)
      ]
    ]
  where
    by_place : (f : FreedBy) (k : ℕ) → slice_get (x ∷ xs) k ≡ Some f → x.site ≢ s → ((f : FreedBy) → Has xs f → f.site ≢ s) → f.site ≢ s
    by_place f zero e ne none = let same : x ≡ f = cc in rw (← same) ne
    by_place f (suc k) e ne none = none f (k, e)

-- a test past the first node asks for nothing
past_first : (v : List Node) (n s : ℕ) → length v ≡ 1 → link_test v (suc n) s ≡ test.Any
unfolding link_test site_at
past_first [] n s one = absurd cc
past_first (node ∷ []) n s one = refl
past_first (node ∷ other ∷ v) n s one = absurd cc

place_of-outside : (r : RuleParts) → place_of r (Outside ∷ []) 0 ≡ Some (length r.left)
unfolding place_of
place_of-outside r = refl

module _ (a : Asked) (ok : IsAsked a) (v : List Node) (one : IsOne a.sig v) (stand : Stand) where
  -- each freed test is one of the node
  first_node : (freed : List FreedBy) → AreFreed a.rule v (stand ∷ []) freed → (f : FreedBy) → Has freed f → f.node ≡ 0
  first_node freed free f has = by_node f.node refl (free.free f has)
    where
      by_node : (n : ℕ) → f.node ≡ n → link_test v f.node f.site ≡ test.Free → n ≡ 0
      by_node zero e t = refl
      by_node (suc n) e t = let any = past_first v n f.site one.one in absurd (let t' : link_test v (suc n) f.site ≡ test.Free = rw e at t in let g : test.Any ≡ test.Free = sym any ∙ t' in cc)

  freed_test : (freed : List FreedBy) → AreFreed a.rule v (stand ∷ []) freed → (f : FreedBy) → Has freed f → link_test v 0 f.site ≡ test.Free
  freed_test freed free f has = rw (first_node freed free f has) at (free.free f has)

  freed_below : (freed : List FreedBy) → AreFreed a.rule v (stand ∷ []) freed → (f : FreedBy) → Has freed f → (b : ℕ) → agent_at v 0 ≡ Some b → f.site < length (state_counts a.sig b)
  freed_below freed free f has b typed =
      below_tested a.sig v one b f.site typed (inr (λ any. let e : test.Free ≡ test.Any = sym (freed_test freed free f has) ∙ any in cc))

  freed_unwritten : (freed : List FreedBy) → AreFreed a.rule v (stand ∷ []) freed → (f : FreedBy) → Has freed f → link_written a.rule stand f.site ≡ None
  freed_unwritten freed free f has = by_node f.node (free.unwritten f has).0 (first_node freed free f has) (free.unwritten f has).1 (free.unwritten f has).2
    where
      by_node : (n : ℕ) (other : Stand) → n ≡ 0 → slice_get (stand ∷ []) n ≡ Some other → link_written a.rule other f.site ≡ None → link_written a.rule stand f.site ≡ None
      by_node zero other e at none = let same : stand ≡ other = cc in rw same none
      by_node (suc n) other e at none = absurd cc

  -- lists of the same tests make the same
  makes-same : (xs ys : List FreedBy) → AreFreed a.rule v (stand ∷ []) xs → ((f : FreedBy) → Has xs f ↔ Has ys f) → Makes a.sig a.tables a.rule v stand ys → Makes a.sig a.tables a.rule v stand xs
  makes-same xs ys free same makes = record {
    pattern = makes.pattern;
    free = free;
    before = record {
      stand = makes.before.stand;
      valid = makes.before.valid;
      types = makes.before.types;
      left_states = makes.before.left_states;
      left_links = makes.before.left_links;
      states = makes.before.states;
      links = λ i s stand at kept. makes.before.links i s stand at (λ (f, has, e, g). kept (f, (same f).1 has, e, g));
      sources = λ f has. makes.before.sources f ((same f).0 has);
    };
    allowed = makes.allowed;
    gained = elim makes.gained [ inl meets ↦ inl meets | inr (f, has) ↦ inr (f, (same f).1 has) ];
  }

  -- the source of a freed test frees it
  module _ (all : List FreedBy) (makes : Makes a.sig a.tables a.rule v stand all) (f : FreedBy) (has : Has all f) where
    -- the place of the node, and that the rule leaves its site
    left_alone : (stand' : Stand) → stand ≡ stand' → (p : ℕ) × (place_of a.rule (stand ∷ []) 0 ≡ Some p) × (touched a.rule p f.site ≡ false)
    left_alone (Left n) e =
        let b = the_type a.sig v one in
        let fit = makes.before.stand.fit 0 b.0 (Left n) (ap Some e) b.1 in
        let none = rw e at (freed_unwritten all makes.free f has) in
        (n, place_of-left a.rule (stand ∷ []) 0 n (ap Some e), not_touched a.rule n f.site (λ gone. let g : Some Kept ≡ Some Deleted = sym fit.0 ∙ gone in cc) none)
    left_alone (Made k) e = absurd (let none = rw e at (freed_unwritten all makes.free f has) in cc)
    left_alone Outside e = (length a.rule.left, rw e (place_of-outside a.rule), touched-past a.rule (length a.rule.left) (let count = ok.over.is_rule.actions in omega arith) f.site)

    -- what the pattern before has at the node
    pub source_at : (p : ℕ) → place_of a.rule (stand ∷ []) 0 ≡ Some p → link_test makes.pattern p f.site ≡ test.To f.from f.«at»
    source_at p at = makes.before.sources f has p (rw (first_node all makes.free f has) at)

    pub IsSource-freed : IsSource a.rule v stand f.site f
    IsSource-freed =
        let p = left_alone stand refl in
        record {
          first = first_node all makes.free f has;
          at_site = refl;
          test = freed_test all makes.free f has;
          unwritten = freed_unwritten all makes.free f has;
          opened = IsOpen-partner a.sig a.rule ok.over makes.pattern makes.before.valid (outside_types v (stand ∷ [])) makes.before.types p.0 f.site f.from f.«at» (makes.before.left_links f.from f.«at») (source_at p.0 p.1) (makes.free.by_touched f has) p.2;
        }

  -- one site has one source
  one_source : (all : List FreedBy) → Makes a.sig a.tables a.rule v stand all → (f h : FreedBy) → Has all f → Has all h → f.site ≡ h.site → f ≡ h
  one_source all makes f h has has' same =
      let p = left_alone all makes f has stand refl in
      let first = source_at all makes f has p.0 p.1 in
      let second = source_at all makes h has' p.0 p.1 in
      let both : test.To f.from f.«at» ≡ test.To h.from h.«at» = sym first ∙ ap (λ (z : ℕ). link_test makes.pattern p.0 z) same ∙ second in
      let from : f.from ≡ h.from = cc in
      let at : f.«at» ≡ h.«at» = cc in
      let node : f.node ≡ h.node = first_node all makes.free f has ∙ sym (first_node all makes.free h has') in
      λ i. record { node = node i; site = same i; from = from i; «at» = at i }

  -- ---- from a site on

  module _ (s : ℕ) (freed : List FreedBy) (free : AreFreed a.rule v (stand ∷ []) freed) (below : (f : FreedBy) → Has freed f → f.site < s) where
    -- past the last site nothing more is freed
    pub from_end : (b : ℕ) → agent_at v 0 ≡ Some b → length (state_counts a.sig b) ≤ s → Makes a.sig a.tables a.rule v stand freed ↔ MakesFrom a v stand s freed
    from_end b typed past = (λ makes. (freed, (λ f less. (λ has. has, λ has. has)), makes), back)
      where
        back : MakesFrom a v stand s freed → Makes a.sig a.tables a.rule v stand freed
        back (all, same, makes) = makes-same freed all free (λ f. (λ has. (same f (below f has)).0 has, λ has. (same f (let within = freed_below all makes.free f has b typed in omega arith)).1 has)) makes

    pub from_kept : MakesFrom a v stand (s + 1) freed → MakesFrom a v stand s freed
    from_kept (all, same, makes) = (all, (λ f less. same f (omega arith)), makes)

    module _ (f : FreedBy) (source : IsSource a.rule v stand s f) where
      pub AreFreed-more : AreFreed a.rule v (stand ∷ []) (freed ++ f ∷ [])
      AreFreed-more = record {
        free = λ h has. elim (last_or freed f h has) [ inl old ↦ free.free h old | inr new ↦ rw (← new, source.first, source.at_site) source.test ];
        unwritten = λ h has. elim (last_or freed f h has) [ inl old ↦ free.unwritten h old | inr new ↦ rw (← new, source.first, source.at_site) (stand, refl, source.unwritten) ];
        by_touched = λ h has. elim (last_or freed f h has) [ inl old ↦ free.by_touched h old | inr new ↦ rw (← new) source.opened.1 ];
      }

      pub below-more : (h : FreedBy) → Has (freed ++ f ∷ []) h → h.site < s + 1
      below-more h has = elim (last_or freed f h has) [
        | inl old ↦ (let less = below h old in omega arith)
        | inr new ↦ rw (← new) (let e = source.at_site in omega arith)
      ]

      pub from_freed : MakesFrom a v stand (s + 1) (freed ++ f ∷ []) → MakesFrom a v stand s freed
      from_freed (all, same, makes) = (
        all,
        (λ h less. (
          λ has. (same h (omega arith)).0 (Has-left freed (f ∷ []) h has),
          λ has. elim (last_or freed f h ((same h (omega arith)).1 has)) [ inl old ↦ old | inr new ↦ absurd (let e : h.site ≡ s = rw (← new) source.at_site in omega arith) ],
        )),
        makes,
      )

    -- nothing else is
    pub from_all : MakesFrom a v stand s freed → MakesFrom a v stand (s + 1) freed ⊎ ((f : FreedBy) × IsSource a.rule v stand s f × MakesFrom a v stand (s + 1) (freed ++ f ∷ []))
    from_all (all, same, makes) =
        elim (some_at_site all s) [
          | inr none ↦ inl (all, kept none, makes)
          | inl (f, has, e) ↦ inr (f, subst (λ (z : ℕ). IsSource a.rule v stand z f) e (IsSource-freed all makes f has), (all, more f has e, makes))
        ]
      where
        kept : ((f : FreedBy) → Has all f → f.site ≢ s) → FreeSameBelow a v (s + 1) freed all
        kept none f less = (λ has. (same f (below f has)).0 has, λ has. (same f (let ne = none f has in omega arith)).1 has)

        more : (f : FreedBy) → Has all f → f.site ≡ s → FreeSameBelow a v (s + 1) (freed ++ f ∷ []) all
        more f has e h less = (
          λ in_more. elim (last_or freed f h in_more) [ inl old ↦ (same h (below h old)).0 old | inr new ↦ rw (← new) has ],
          λ in_all. elim (same_or_not h.site s) [
            | inl at_s ↦ Has-right freed (f ∷ []) h (0, ap Some (one_source all makes f h has in_all (e ∙ sym at_s)))
            | inr ne ↦ Has-left freed (f ∷ []) h ((same h (omega arith)).1 in_all)
          ],
        )

  -- ---- all

  pub from_none : MakesFrom a v stand 0 [] ↔ MakesAt a v stand
  from_none = (λ (all, same, makes). (all, makes), λ (all, makes). (all, (λ f less. absurd (omega arith)), makes))

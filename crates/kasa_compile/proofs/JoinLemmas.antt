-- Labels that stand exactly twice among agents join two sites.
use Rattle.std.proofs.Common.{◌≡◌, ℕ, ◌+◌, suc, Bool, true, false, List, [], ◌∷◌, ◌++◌, length, map, Option, Some, None, refl, ap, sym, subst, ◌∙◌}
use Rattle.std.specs.Prelude.{slice_get, option_map, count_by, nat_eq, ◌==◌, cond, if◌then◌else◌}
use Rattle.std.specs.List.{flat_map}
use Rattle.std.proofs.lemmas.Bool.Decides.{Decides-eqb}
use Rattle.std.proofs.lemmas.List.{length-append}
use Rattle.std.proofs.lemmas.Grind.{flat_map-append}
use Rattle.std.proofs.lemmas.List.Sums.{sum_by-append}
use Rattle.kasa_graph.specs.Signature.{TypeEntry}
use Rattle.kasa_syntax.specs.declared.tokens.Span.{Span}
use Rattle.kasa_syntax.specs.declared.agents.LinkWord.{LinkWord}
use Rattle.kasa_syntax.specs.declared.agents.LinkWord.TheVariants as link
use Rattle.kasa_syntax.specs.declared.agents.SiteText.{SiteText}
use Rattle.kasa_syntax.specs.declared.agents.AgentText.{AgentText}
use Rattle.kasa_compile.specs.declared.resolved.Side.{Side}
use Rattle.kasa_compile.specs.declared.said.LinkSaid.{LinkSaid}
use Rattle.kasa_compile.specs.declared.said.LinkSaid.TheVariants as said
use Rattle.kasa_compile.specs.declared.said.SiteSaid.{SiteSaid}
use Rattle.kasa_compile.specs.declared.said.AgentSaid.{AgentSaid}
use Rattle.kasa_compile.specs.Names.{type_number}
use Rattle.kasa_compile.specs.declared.label_counts.Label.{Label}
use Rattle.kasa_compile.specs.Labels.{label_in, labels_in, labels_on, if_odd, odd_labels}
use Rattle.kasa_compile.specs.Said.{link_said, link_word, site_on, agent_on}
use Rattle.kasa_compile.specs.Bonds.{has_label, labelled, labelled_from, places_of}
use Rattle.kasa_compile.specs.Valid.{AreJoined}
use Rattle.kasa_compile.proofs.SaidLemmas.{plain_agent, agent_on-plain, each_none, mapped_from}

-- ---- the labels of agents

abbrev said_label : Option LinkSaid → List ℕ
said_label (Some (said.Label number)) = number ∷ []
said_label _ = []

abbrev labels_said_in : List SiteSaid → List ℕ
labels_said_in sites = flat_map (λ (s : SiteSaid). said_label s.link) sites

abbrev labels_said : List AgentSaid → List ℕ
labels_said agents = flat_map (λ (a : AgentSaid). labels_said_in a.sites) agents

-- ---- as often as a label stands there, so many places has it

count_both : (number : ℕ) (xs ys : List ℕ) → count_by (λ x. x == number) (xs ++ ys) ≡ count_by (λ x. x == number) xs + count_by (λ x. x == number) ys
count_both number xs ys = sum_by-append (λ x. cond (x == number) 1 0) xs ys

count_label : (number k x : ℕ) (l : Option LinkSaid) → length {A = ℕ × ℕ} (if has_label number l then (k, x) ∷ [] else []) ≡ count_by (λ y. y == number) (said_label l)
count_label number k x None = refl
count_label number k x (Some said.Any) = refl
count_label number k x (Some said.Free) = refl
count_label number k x (Some said.Bound) = refl
count_label number k x (Some (said.Partner b y)) = refl
count_label number k x (Some (said.Label n)) = by (nat_eq n number) refl
  where
    by : (b : Bool) → nat_eq n number ≡ b → length {A = ℕ × ℕ} (if b then (k, x) ∷ [] else []) ≡ count_by (λ y. y == number) (n ∷ [])
    by true h = rw h
    by false h = rw h

count_labelled : (number k : ℕ) (sites : List SiteSaid) → length (labelled k number sites) ≡ count_by (λ y. y == number) (labels_said_in sites)
count_labelled number k [] = refl
count_labelled number k (s ∷ sites) =
    length-append (if has_label number s.link then (k, s.site) ∷ [] else []) (labelled k number sites)
    ∙ ap (λ n. n + length (labelled k number sites)) (count_label number k s.site s.link)
    ∙ ap (λ n. count_by (λ y. y == number) (said_label s.link) + n) (count_labelled number k sites)
    ∙ sym (count_both number (said_label s.link) (labels_said_in sites))

count_from : (number k : ℕ) (agents : List AgentSaid) → length (labelled_from k number agents) ≡ count_by (λ y. y == number) (labels_said agents)
count_from number k [] = refl
count_from number k (a ∷ agents) =
    length-append (labelled k number a.sites) (labelled_from (suc k) number agents)
    ∙ ap (λ n. n + length (labelled_from (suc k) number agents)) (count_labelled number k a.sites)
    ∙ ap (λ n. count_by (λ y. y == number) (labels_said_in a.sites) + n) (count_from number (suc k) agents)
    ∙ sym (count_both number (labels_said_in a.sites) (labels_said agents))

count_places : (number : ℕ) (agents : List AgentSaid) → length (places_of number agents) ≡ count_by (λ y. y == number) (labels_said agents)
unfolding places_of
count_places number agents = count_from number 0 agents

-- ---- the labels of agents of a text

-- so many of them have a number
abbrev times_in : ℕ → List Label → ℕ
times_in number labels = count_by (λ (l : Label). l.number == number) labels

times_both : (number : ℕ) (xs ys : List Label) → times_in number (xs ++ ys) ≡ times_in number xs + times_in number ys
times_both number xs ys = sum_by-append (λ (l : Label). cond (l.number == number) 1 0) xs ys

nested : {X Y Z : Type 0} (g : Y → List Z) (f : X → List Y) (xs : List X) → flat_map g (flat_map f xs) ≡ flat_map (λ x. flat_map g (f x)) xs
nested g f [] = refl
nested g f (x ∷ xs) = flat_map-append g (f x) (flat_map f xs) ∙ ap (λ zs. flat_map g (f x) ++ zs) (nested g f xs)

module _ (text : List ℕ) (sig : List TypeEntry) (side : Side) where
  -- as often as among what is said of them
  times_of_word : (number : ℕ) (w : Option LinkWord) → count_by (λ x. x == number) (said_label (option_map (link_said text sig) w)) ≡ times_in number (label_in w)
  times_of_word number None = refl
  times_of_word number (Some link.Free) = refl
  times_of_word number (Some link.Hash) = refl
  times_of_word number (Some link.Bound) = refl
  times_of_word number (Some (link.Partner s t)) = refl
  times_of_word number (Some (link.Label n span)) = refl

  times_of_sites : (number a : ℕ) (sites : List SiteText) → count_by (λ x. x == number) (labels_said_in (map (site_on side text sig a) sites)) ≡ times_in number (flat_map (λ s. label_in (link_word side s)) sites)
  times_of_sites number a [] = refl
  times_of_sites number a (s ∷ sites) =
      count_both number (said_label (option_map (link_said text sig) (link_word side s))) (labels_said_in (map (site_on side text sig a) sites))
      ∙ ap (λ n. n + count_by (λ x. x == number) (labels_said_in (map (site_on side text sig a) sites))) (times_of_word number (link_word side s))
      ∙ ap (λ n. times_in number (label_in (link_word side s)) + n) (times_of_sites number a sites)
      ∙ sym (times_both number (label_in (link_word side s)) (flat_map (λ t. label_in (link_word side t)) sites))

  times_of : (number : ℕ) (agents : List AgentText) → count_by (λ x. x == number) (labels_said (map (plain_agent side text sig) agents)) ≡ times_in number (flat_map (labels_in side) agents)
  times_of number [] = refl
  times_of number (a ∷ agents) =
      count_both number (labels_said_in (map (site_on side text sig (type_number text sig a.name)) a.sites)) (labels_said (map (plain_agent side text sig) agents))
      ∙ ap (λ n. n + count_by (λ x. x == number) (labels_said (map (plain_agent side text sig) agents))) (times_of_sites number (type_number text sig a.name) a.sites)
      ∙ ap (λ n. times_in number (labels_in side a) + n) (times_of number agents)
      ∙ sym (times_both number (labels_in side a) (flat_map (labels_in side) agents))

  label_from : (w : Option LinkWord) (number : ℕ) → option_map (link_said text sig) w ≡ Some (said.Label number) → (span : Span) × (w ≡ Some (link.Label number span))
  label_from None number h = absurd cc
  label_from (Some link.Free) number h = absurd cc
  label_from (Some link.Hash) number h = absurd cc
  label_from (Some link.Bound) number h = absurd cc
  label_from (Some (link.Partner s t)) number h = absurd cc
  label_from (Some (link.Label n span)) number h = let e : n ≡ number = cc in (span, ap (λ m. Some (link.Label m span)) e)

  -- a label that isn't one of those that don't stand twice
  twice : (labels : List Label) (number : ℕ) (span : Span) → flat_map (if_odd labels) (label_in (Some (link.Label number span))) ≡ [] → times_in number labels ≡ 2
  twice labels number span e = by (times_in number labels == 2) refl e
    where
      by : (b : Bool) → (times_in number labels == 2) ≡ b → (if b then [] else span.start ∷ []) ++ [] ≡ [] → times_in number labels ≡ 2
      by true h e = (Decides-eqb (times_in number labels) 2).0 h
      by false h e = absurd cc

  pub AreJoined-on : (agents : List AgentText) → odd_labels (labels_on side agents) ≡ [] → AreJoined (map (agent_on side text sig) agents)
  unfolding odd_labels labels_on
  AreJoined-on agents e k i number a s at there is =
      let labels = flat_map (labels_in side) agents in
      let plain : map (agent_on side text sig) agents ≡ map (plain_agent side text sig) agents = map-plain agents in
      let t = mapped_from (plain_agent side text sig) agents k a (rw plain at at) in
      let inside : slice_get (map (site_on side text sig (type_number text sig t.0.name)) t.0.sites) i ≡ Some s = ap (λ (x : AgentSaid). slice_get x.sites i) t.2 ∙ there in
      let u = mapped_from (site_on side text sig (type_number text sig t.0.name)) t.0.sites i s inside in
      let word = label_from (link_word side u.0) number (ap (λ (x : SiteSaid). x.link) u.2 ∙ is) in
      let of_agents : flat_map (λ a. flat_map (if_odd labels) (labels_in side a)) agents ≡ [] = sym (nested (if_odd labels) (labels_in side) agents) ∙ e in
      let of_agent = each_none (λ a. flat_map (if_odd labels) (labels_in side a)) agents k t.0 of_agents t.1 in
      let of_sites : flat_map (λ s. flat_map (if_odd labels) (label_in (link_word side s))) t.0.sites ≡ [] = sym (nested (if_odd labels) (λ s. label_in (link_word side s)) t.0.sites) ∙ of_agent in
      let even = each_none (λ s. flat_map (if_odd labels) (label_in (link_word side s))) t.0.sites i u.0 of_sites u.1 in
      ap (λ agents. length (places_of number agents)) plain ∙ count_places number (map (plain_agent side text sig) agents) ∙ times_of number agents
      ∙ twice labels number word.0 (subst (λ (w : Option LinkWord). flat_map (if_odd labels) (label_in w) ≡ []) word.1 even)
    where
      map-plain : (agents : List AgentText) → map (agent_on side text sig) agents ≡ map (plain_agent side text sig) agents
      map-plain [] = refl
      map-plain (a ∷ agents) = rw (agent_on-plain side text sig a, map-plain agents)

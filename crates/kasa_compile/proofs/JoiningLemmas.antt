-- Bonds come into a complex label by label.
use Rattle.std.proofs.Common.{◌≡◌, ◌≢◌, ℕ, ◌+◌, ◌<◌, ◌≤◌, true, false, List, length, refl, sym, ap, ◌∙◌, inl, inr, arith}
use Rattle.std.specs.Prelude.{Option, Some, None, is_some, slice_get}
use Rattle.std.proofs.lemmas.Option.{slice_get_within, same_Some}
use Rattle.kasa_graph.specs.declared.mixture.Agent.{Agent}
use Rattle.kasa_graph.specs.Signature.{TypeEntry}
use Rattle.kasa_graph.specs.Mixture.{partner_in, HasAgentSite, with_partner, with_joined}
use Rattle.kasa_graph.proofs.ListLemmas.{same_or_not}
use Rattle.kasa_graph.proofs.CellLemmas.{partner_in-with_partner_same, partner_in-with_partner_other, HasAgentSite-with_partner, length-with_joined, partner_in-with_joined, IsMixture-with_joined}
use Rattle.kasa_graph.proofs.MixtureOverLemmas.{IsMixtureOver-joined, HasAgentSite-of_type}
use Rattle.kasa_compile.specs.declared.said.LinkSaid.{LinkSaid}
use Rattle.kasa_compile.specs.declared.said.LinkSaid.TheVariants.{Any, Free, Bound, Partner, Label}
use Rattle.kasa_compile.specs.declared.said.SiteSaid.{SiteSaid}
use Rattle.kasa_compile.specs.declared.said.AgentSaid.{AgentSaid}
use Rattle.kasa_compile.specs.Bonds.{said_at, places_of, joined_to}
use Rattle.kasa_compile.specs.Complex.{joined_by, partner_given}
use Rattle.kasa_compile.proofs.ComplexRead.{IsComplexOf}
use Rattle.kasa_compile.specs.Valid.{AreSaid, AreJoined}
use Rattle.kasa_compile.specs.BondIndex.{label_of}
use Rattle.kasa_compile.specs.Cells.{AreUnjoined, bonded, bonded_if_free, HasMoreBonds, IsJoining, AreNamedOnce, IsJoinedAt, AreSitesJoined, AreAgentsJoined}
use Rattle.kasa_compile.proofs.SaidAtLemmas.{said_at-of, said_at-found}
use Rattle.kasa_compile.proofs.StateLemmas.{type_in-with_joined, state_in-with_joined}
use Rattle.kasa_compile.proofs.RuleBonds.{IsLabelled, IsJoined, is_joined}

pub bonded-free : (m : List (Option Agent)) (p q : ℕ × ℕ) (o : Option (ℕ × ℕ)) → o ≡ partner_in m p.0 p.1 → is_some o ≡ false → with_joined m p.0 p.1 q.0 q.1 ≡ bonded m p q
unfolding bonded
bonded-free m p q None at none = rw (← at) refl
bonded-free m p q (Some r) at none = absurd cc

pub bonded-bound : (m : List (Option Agent)) (p q : ℕ × ℕ) (o : Option (ℕ × ℕ)) → o ≡ partner_in m p.0 p.1 → is_some o ≡ true → m ≡ bonded m p q
unfolding bonded
bonded-bound m p q None at some = absurd cc
bonded-bound m p q (Some r) at some = rw (← at) refl

clash : (o : Option (ℕ × ℕ)) (q : ℕ × ℕ) → o ≡ None → o ≡ Some q → ⊥
clash o q none is = cc

-- ---- more bonds

pub HasMoreBonds-same : (m : List (Option Agent)) → HasMoreBonds m m
HasMoreBonds-same m = record { over = λ sig over. over; cells = refl; types = λ c. refl; states = λ c s. refl; sites = λ c s has. has; kept = λ c s q is. is }

pub HasMoreBonds-then : (m k n : List (Option Agent)) → HasMoreBonds m k → HasMoreBonds k n → HasMoreBonds m n
HasMoreBonds-then m k n first second = record {
  over = λ sig over. second.over sig (first.over sig over);
  cells = second.cells ∙ first.cells;
  types = λ c. second.types c ∙ first.types c;
  states = λ c s. second.states c s ∙ first.states c s;
  sites = λ c s has. second.sites c s (first.sites c s has);
  kept = λ c s q is. second.kept c s q (first.kept c s q is);
}

-- two sites between which a bond can come
pub record CanBond (m : List (Option Agent)) (p q : ℕ × ℕ) : Type 0 where
  pub first : HasAgentSite m p.0 p.1
  pub second : HasAgentSite m q.0 q.1
  pub differ : p.0 ≡ q.0 → p.1 ≢ q.1
  pub free : partner_in m p.0 p.1 ≡ None → partner_in m q.0 q.1 ≡ None

module _ (m : List (Option Agent)) (p q : ℕ × ℕ) (can : CanBond m p q) where
  abbrev new : List (Option Agent)
  new = with_joined m p.0 p.1 q.0 q.1

  at_first : partner_in new p.0 p.1 ≡ Some q
  at_first = partner_in-with_partner_other (with_partner m p.0 p.1 (Some q)) q.0 q.1 p.0 p.1 (Some p) (λ e f. can.differ (sym e) (sym f)) ∙ partner_in-with_partner_same m p.0 p.1 (Some q) can.first

  at_second : partner_in new q.0 q.1 ≡ Some p
  at_second = partner_in-with_partner_same (with_partner m p.0 p.1 (Some q)) q.0 q.1 (Some p) (HasAgentSite-with_partner m p.0 p.1 q.0 q.1 (Some q) can.second)

  more_joined : partner_in m p.0 p.1 ≡ None → HasMoreBonds m new
  more_joined free = record {
    over = λ sig over. IsMixtureOver-joined sig m p.0 p.1 q.0 q.1 over can.first can.second can.differ free (can.free free);
    cells = length-with_joined m p.0 p.1 q.0 q.1;
    types = type_in-with_joined m p.0 p.1 q.0 q.1;
    states = state_in-with_joined m p.0 p.1 q.0 q.1;
    sites = λ c s has. HasAgentSite-with_partner (with_partner m p.0 p.1 (Some q)) q.0 q.1 c s (Some p) (HasAgentSite-with_partner m p.0 p.1 c s (Some q) has);
    kept = λ c s r is. elim (partner_in-with_joined m p.0 p.1 q.0 q.1 can.first can.second can.differ c s) [
      | inl e ↦ absurd (clash (partner_in m p.0 p.1) r free (rw (e.0, e.1) is))
      | inr rest ↦ elim rest [
        | inl e ↦ absurd (clash (partner_in m q.0 q.1) r (can.free free) (rw (e.0, e.1) is))
        | inr same ↦ same ∙ is
      ]
    ];
  }

  pub HasMoreBonds-bonded : HasMoreBonds m (bonded m p q)
  unfolding bonded
  HasMoreBonds-bonded = by (partner_in m p.0 p.1) refl
    where
      by : (o : Option (ℕ × ℕ)) → partner_in m p.0 p.1 ≡ o → HasMoreBonds m (bonded_if_free m p q o)
      by None e = more_joined e
      by (Some r) e = HasMoreBonds-same m

-- ---- a label

module _ (agents : List AgentSaid) (once : AreNamedOnce agents) where
  -- what is given at a place of a label
  given_label : (number n t : ℕ) (a : AgentSaid) → IsLabelled agents number n t → slice_get agents n ≡ Some a → partner_given agents n (said_at a.sites t) ≡ Some (joined_to agents number (n, t))
  given_label number n t a here at =
      let same : here.agent ≡ a = same_Some _ _ (sym here.is_agent ∙ at) in
      let said : said_at a.sites t ≡ Some here.site = rw (← same, ← here.named) (said_at-of here.agent.sites here.index here.site (once n here.agent here.is_agent) here.is_site) in
      rw (said, here.label, here.named) refl

  module _ (m : List (Option Agent)) (number n t : ℕ) (joining : IsJoining agents m) (two : length (places_of number agents) ≡ 2) (here : IsLabelled agents number n t) where
    abbrev p : ℕ × ℕ
    p = (n, t)

    abbrev q : ℕ × ℕ
    q = joined_to agents number p

    other : IsJoined agents number p q
    other = is_joined agents number n t once two here

    apart : n ≡ q.0 → t ≢ q.1
    apart e f = other.apart (pair n t q e f)
      where
        pair : (n t : ℕ) (q : ℕ × ℕ) → n ≡ q.0 → t ≡ q.1 → ◌≡◌ {A = ℕ × ℕ} (n, t) q
        pair n t (d, u) e f = cc

    site_of : (c u : ℕ) → IsLabelled agents number c u → HasAgentSite m c u
    site_of c u at = rw at.named at (joining.sites c at.index at.agent at.site at.is_agent at.is_site)

    free_both : partner_in m n t ≡ None → partner_in m q.0 q.1 ≡ None
    free_both free = by (partner_in m q.0 q.1) refl
      where
        by : (o : Option (ℕ × ℕ)) → partner_in m q.0 q.1 ≡ o → o ≡ None
        by None e = refl
        by (Some r) e =
            let given : Some (joined_to agents number q) ≡ Some r = sym (given_label number q.0 q.1 other.labelled.agent other.labelled other.labelled.is_agent) ∙ joining.given q.0 q.1 other.labelled.agent r other.labelled.is_agent e in
            let back : r ≡ p = same_Some _ _ (sym given ∙ ap Some other.back) in
            let bound : partner_in m n t ≡ Some q = joining.linked.both_ways q.0 q.1 n t (e ∙ ap Some back) in
            absurd (clash (partner_in m n t) q free bound)

    pub can_bond : CanBond m (n, t) (joined_to agents number (n, t))
    can_bond = record { first = site_of n t here; second = site_of q.0 q.1 other.labelled; differ = apart; free = free_both }

    pub IsJoining-bonded : IsJoining agents (bonded m (n, t) (joined_to agents number (n, t)))
    unfolding bonded
    IsJoining-bonded = by (partner_in m n t) refl
      where
        by : (o : Option (ℕ × ℕ)) → partner_in m n t ≡ o → IsJoining agents (bonded_if_free m p q o)
        by (Some r) e = joining
        by None e = record {
          linked = IsMixture-with_joined m n t q.0 q.1 can_bond.first can_bond.second can_bond.differ joining.linked e (free_both e);
          sites = λ c i a x is at. (more_joined m p q can_bond e).sites c x.site (joining.sites c i a x is at);
          given = λ c s a r is bound. elim (partner_in-with_joined m n t q.0 q.1 can_bond.first can_bond.second can_bond.differ c s) [
            | inl same ↦
                let first : q ≡ r = same_Some _ _ (sym (at_first m p q can_bond) ∙ rw (← same.0, ← same.1) at bound) in
                rw (← same.0, ← same.1, ← first) (given_label number n t a here (rw (← same.0) at is))
            | inr rest ↦ elim rest [
              | inl same ↦
                  let second : p ≡ r = same_Some _ _ (sym (at_second m p q can_bond) ∙ rw (← same.0, ← same.1) at bound) in
                  rw (← same.0, ← same.1, ← second) (given_label number q.0 q.1 a other.labelled (rw (← same.0) at is) ∙ ap Some other.back)
              | inr same ↦ joining.given c s a r is (sym same ∙ bound)
            ]
          ];
        }

    pub joined-bonded : partner_in (bonded m (n, t) (joined_to agents number (n, t))) n t ≡ Some (joined_to agents number (n, t))
    unfolding bonded
    joined-bonded = by (partner_in m n t) refl
      where
        by : (o : Option (ℕ × ℕ)) → partner_in m n t ≡ o → partner_in (bonded_if_free m p q o) n t ≡ Some q
        by None e = at_first m p q can_bond
        by (Some r) e = e ∙ sym (joining.given n t here.agent r here.is_agent e) ∙ given_label number n t here.agent here here.is_agent

-- ---- all labels

pub AreSitesJoined-more : (agents : List AgentSaid) (m k : List (Option Agent)) (c : ℕ) (sites : List SiteSaid) (n : ℕ) → HasMoreBonds m k → AreSitesJoined agents m c sites n → AreSitesJoined agents k c sites n
AreSitesJoined-more agents m k c sites n more joined i x within at number label = more.kept c x.site (joined_to agents number (c, x.site)) (joined i x within at number label)

pub AreSitesJoined-next : (agents : List AgentSaid) (m : List (Option Agent)) (c : ℕ) (sites : List SiteSaid) (n : ℕ) (x : SiteSaid) → AreSitesJoined agents m c sites n → slice_get sites n ≡ Some x → IsJoinedAt agents m c x → AreSitesJoined agents m c sites (n + 1)
AreSitesJoined-next agents m c sites n x joined at here i y within there = elim (same_or_not i n) [
  | inl e ↦ let same : x ≡ y = same_Some _ _ (sym at ∙ rw e at there) in rw same at here
  | inr ne ↦ joined i y (omega arith) there
]

pub AreAgentsJoined-next : (agents : List AgentSaid) (m k : List (Option Agent)) (n : ℕ) → HasMoreBonds m k → AreAgentsJoined agents m n → ((a : AgentSaid) → slice_get agents n ≡ Some a → AreSitesJoined agents k n a.sites (length a.sites)) → AreAgentsJoined agents k (n + 1)
AreAgentsJoined-next agents m k n more joined here c a within at = elim (same_or_not c n) [
  | inl e ↦ rw e (here a (rw e at at))
  | inr ne ↦ AreSitesJoined-more agents m k c a.sites (length a.sites) more (joined c a (omega arith) at)
]

-- before the first bond
pub IsJoining-unjoined : (sig : List TypeEntry) (agents : List AgentSaid) (m : List (Option Agent)) → AreSaid sig agents → AreUnjoined sig agents m → IsJoining agents m
IsJoining-unjoined sig agents m said old = record {
  linked = old.over.linked;
  sites = λ c i a x is at. HasAgentSite-of_type sig m c a.agent x.site old.over (old.types c a is) ((said c a is).sites i x at).known;
  given = λ c s a q is bound. absurd (clash (partner_in m c s) q (old.free c s) bound);
}

-- after the last one
pub IsComplexOf-joined : (sig : List TypeEntry) (agents : List AgentSaid) (m k : List (Option Agent)) → AreUnjoined sig agents m → HasMoreBonds m k → IsJoining agents k → AreAgentsJoined agents k (length agents) → IsComplexOf sig agents k
IsComplexOf-joined sig agents m k old more joining joined = record {
  over = more.over sig old.over;
  cells = more.cells ∙ old.cells;
  types = λ c a is. more.types c ∙ old.types c a is;
  states = λ c s a is. more.states c s ∙ old.states c s a is;
  partners = λ c s a is. bound c s a is (partner_in k c s) refl;
}
  where
    -- where there is no bond, no label is given
    unlabelled : (c s : ℕ) (a : AgentSaid) → slice_get agents c ≡ Some a → partner_in k c s ≡ None → (o : Option SiteSaid) → said_at a.sites s ≡ o → None ≡ partner_given agents c o
    unlabelled c s a is free None e = refl
    unlabelled c s a is free (Some x) e =
        let at = said_at-found a.sites s x e in
        by x.link (joined c a (slice_get_within agents c a is) is at.0 x (slice_get_within a.sites at.0 x at.1) at.1) (rw at.2 free)
      where
        by : (link : Option LinkSaid) → ((number : ℕ) → link ≡ Some (Label number) → partner_in k c x.site ≡ Some (joined_to agents number (c, x.site))) → partner_in k c x.site ≡ None → None ≡ joined_by agents (c, x.site) link
        by None at free = refl
        by (Some (Label number)) at free = absurd (let bound = at number refl in cc)
        by (Some Any) at free = refl
        by (Some Free) at free = refl
        by (Some Bound) at free = refl
        by (Some (Partner b y)) at free = refl

    bound : (c s : ℕ) (a : AgentSaid) → slice_get agents c ≡ Some a → (o : Option (ℕ × ℕ)) → partner_in k c s ≡ o → partner_in k c s ≡ partner_given agents c (said_at a.sites s)
    bound c s a is None e = e ∙ unlabelled c s a is e (said_at a.sites s) refl
    bound c s a is (Some q) e = e ∙ sym (joining.given c s a q is e)

-- ---- the loop over the sites of an agent

pub link_of_label : (link : Option LinkSaid) (o : Option ℕ) (number : ℕ) → o ≡ label_of link → o ≡ Some number → link ≡ Some (Label number)
link_of_label None o number is some = absurd (let none : o ≡ None = is in cc)
link_of_label (Some (Label other)) o number is some = let same : other ≡ number = same_Some _ _ (sym is ∙ some) in rw same refl
link_of_label (Some Any) o number is some = absurd (let none : o ≡ None = is in cc)
link_of_label (Some Free) o number is some = absurd (let none : o ≡ None = is in cc)
link_of_label (Some Bound) o number is some = absurd (let none : o ≡ None = is in cc)
link_of_label (Some (Partner b y)) o number is some = absurd (let none : o ≡ None = is in cc)

same_label : (a b : ℕ) → ◌≡◌ {A = Option LinkSaid} (Some (Label a)) (Some (Label b)) → a ≡ b
same_label a b e = cc

pub two_places : (agents : List AgentSaid) (number n t : ℕ) → AreJoined agents → IsLabelled agents number n t → length (places_of number agents) ≡ 2
two_places agents number n t joined h = joined n h.index number h.agent h.site h.is_agent h.is_site h.label

pub labelled_at : (agents : List AgentSaid) (number n i : ℕ) (a : AgentSaid) (items : List SiteSaid) (x : SiteSaid) → slice_get agents n ≡ Some a → items ≡ a.sites → slice_get items i ≡ Some x → x.link ≡ Some (Label number) → IsLabelled agents number n x.site
labelled_at agents number n i a items x is same at label = record { agent = a; index = i; site = x; is_agent = is; is_site = rw same at at; named = refl; label = label }

pub other_within : (agents : List AgentSaid) (number n t : ℕ) → AreNamedOnce agents → length (places_of number agents) ≡ 2 → IsLabelled agents number n t → (joined_to agents number (n, t)).0 < length agents
other_within agents number n t once two here = let other = is_joined agents number n t once two here in slice_get_within agents _ other.labelled.agent other.labelled.is_agent

-- the labels of the first so many sites of an agent are joined, and bonds came in alone
abbrev pub SitesDone : List AgentSaid → List (Option Agent) → List (Option Agent) → ℕ → List SiteSaid → ℕ → Type 0
SitesDone agents old m c items n = record { more : HasMoreBonds old m; joining : IsJoining agents m; labels : AreSitesJoined agents m c items n }

pub site_joined : (agents : List AgentSaid) (old m : List (Option Agent)) (c : ℕ) (items : List SiteSaid) (n number : ℕ) (x : SiteSaid) → AreNamedOnce agents → length (places_of number agents) ≡ 2 → slice_get items n ≡ Some x → x.link ≡ Some (Label number) → IsLabelled agents number c x.site →
    SitesDone agents old m c items n → SitesDone agents old (bonded m (c, x.site) (joined_to agents number (c, x.site))) c items (n + 1)
site_joined agents old m c items n number x once two at label here done =
    let can = can_bond agents once m number c x.site done.joining two here in
    let p : ℕ × ℕ = (c, x.site) in
    let more = HasMoreBonds-bonded m p (joined_to agents number p) can in
    record {
      more = HasMoreBonds-then old m (bonded m p (joined_to agents number p)) done.more more;
      joining = IsJoining-bonded agents once m number c x.site done.joining two here;
      labels = AreSitesJoined-next agents (bonded m p (joined_to agents number p)) c items n x (AreSitesJoined-more agents m (bonded m p (joined_to agents number p)) c items n more done.labels) at
          (λ other is. let same = same_label number other (sym label ∙ is) in rw (← same) (joined-bonded agents once m number c x.site done.joining two here));
    }

pub site_unlabelled : (agents : List AgentSaid) (old m : List (Option Agent)) (c : ℕ) (items : List SiteSaid) (n : ℕ) (x : SiteSaid) (o : Option ℕ) → slice_get items n ≡ Some x → o ≡ label_of x.link → o ≡ None → SitesDone agents old m c items n → SitesDone agents old m c items (n + 1)
site_unlabelled agents old m c items n x o at is none done = record {
  more = done.more;
  joining = done.joining;
  labels = AreSitesJoined-next agents m c items n x done.labels at (λ number label. absurd (let some : o ≡ Some number = is ∙ ap label_of label in cc));
}

pub sites_joined : (agents : List AgentSaid) (m : List (Option Agent)) (c n : ℕ) (items : List SiteSaid) (a b : AgentSaid) → slice_get agents c ≡ Some a → slice_get agents c ≡ Some b → items ≡ a.sites → length items ≤ n → AreSitesJoined agents m c items n → AreSitesJoined agents m c b.sites (length b.sites)
sites_joined agents m c n items a b is at same end joined i x within there =
    let one : a ≡ b = same_Some _ _ (sym is ∙ at) in
    let sites : items ≡ b.sites = same ∙ ap (λ (a : AgentSaid). a.sites) one in
    let long : length items ≡ length b.sites = ap length sites in
    joined i x (omega arith) (rw (sites) there)

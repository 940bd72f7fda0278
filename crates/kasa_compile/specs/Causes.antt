-- The causes for which an init, an addition or a rule is refused, each with the offsets where it comes, in text order.
use Rattle.std.specs.Prelude.{ℕ, Bool, true, false, ◌++◌, ◌&&◌, ◌||◌, not, List, [], ◌∷◌, Option, Some, None, option_map, nat_eq, nat_le, is_some, slice_get, if◌then◌else◌}
use Rattle.std.specs.List.{flat_map}
use Rattle.std.specs.Option.{option_map_or}
use Rattle.kasa_num.specs.declared.Place.{Place}
use Rattle.kasa_graph.specs.Signature.{TypeEntry}
use Rattle.kasa_graph.specs.Lists.{map_from}
use Rattle.kasa_graph.specs.declared.pattern.StateTest.{StateTest}
use Rattle.kasa_graph.specs.declared.pattern.StateTest.TheVariants as state
use Rattle.kasa_graph.specs.declared.pattern.LinkTest.{LinkTest}
use Rattle.kasa_syntax.specs.Place.{place_at}
use Rattle.kasa_syntax.specs.declared.agents.AgentText.{AgentText}
use Rattle.kasa_syntax.specs.declared.decls.InitDecl.{InitDecl}
use Rattle.kasa_syntax.specs.declared.decls.RuleText.{RuleText}
use Rattle.kasa_syntax.specs.declared.decls.Form.{Form}
use Rattle.kasa_syntax.specs.declared.decls.Form.TheVariants.{Edit, Arrow}
use Rattle.kasa_compile.specs.declared.resolved.Side.{Side}
use Rattle.kasa_compile.specs.declared.resolved.Side.TheVariants.{Left, Right}
use Rattle.kasa_compile.specs.declared.said.LinkSaid.{LinkSaid}
use Rattle.kasa_compile.specs.declared.said.LinkSaid.TheVariants as said
use Rattle.kasa_compile.specs.declared.said.SiteSaid.{SiteSaid}
use Rattle.kasa_compile.specs.declared.said.AgentSaid.{AgentSaid}
use Rattle.kasa_compile.specs.declared.said.Pair.{Pair}
use Rattle.kasa_compile.specs.declared.fault.CompileFault.{CompileFault}
use Rattle.kasa_compile.specs.declared.fault.CompileFault.TheVariants.{UnknownType, UnknownSite, UnknownState, SiteTwice, LabelNotTwice, TypeMismatch, HalfBond, BadRight, PartialInit, TooManyNodes, TooManyRules, TooManyInits}
use Rattle.kasa_compile.specs.Names.{unknown_types, unknown_sites, unknown_states, sites_twice}
use Rattle.kasa_compile.specs.Labels.{agents_of, agents_on, behind, labels_on, odd_labels}
use Rattle.kasa_compile.specs.Partial.{partial_sites}
use Rattle.kasa_compile.specs.Said.{pairs_of, turned}
use Rattle.kasa_compile.specs.Sides.{SidesParts, sides_of}
use Rattle.kasa_compile.specs.Bonds.{said_at, joined_to}
use Rattle.kasa_compile.specs.Rule.{left_link_test, link_written_by}

-- ---- causes

-- a cause, and the offset of its first place, where it comes
pub record Cause : Type 0 where
  pub fault : Place → CompileFault
  pub first : Option ℕ

abbrev pub or_else : Option CompileFault → Option CompileFault → Option CompileFault
or_else (Some fault) later = Some fault
or_else None later = later

-- the first cause that comes, at its first place
unfoldable pub first_of : List ℕ → List Cause → Option CompileFault
first_of text [] = None
first_of text (c ∷ causes) = or_else (option_map (λ o. c.fault (place_at text o)) c.first) (first_of text causes)

-- the first one of some offsets in text order, and the lesser one of two
abbrev pub head : List ℕ → Option ℕ
head offsets = slice_get offsets 0

abbrev pub lesser : Option ℕ → Option ℕ → Option ℕ
lesser None o = o
lesser (Some m) None = Some m
lesser (Some m) (Some n) = if nat_le m n then Some m else Some n

-- ---- names

abbrev pub name_causes : List ℕ → List TypeEntry → List AgentText → List Cause
name_causes text sig agents =
    record { fault = UnknownType; first = head (flat_map (unknown_types text sig) agents) }
    ∷ record { fault = UnknownSite; first = head (flat_map (unknown_sites text sig) agents) }
    ∷ record { fault = UnknownState; first = head (flat_map (unknown_states text sig) agents) }
    ∷ record { fault = SiteTwice; first = head (flat_map (sites_twice text) agents) }
    ∷ []

-- ---- labels, and agents beyond a limit, of a side

abbrev pub odd_on : Side → List AgentText → Option ℕ
odd_on side agents = head (odd_labels (labels_on side agents))

-- of a rule, on either side
abbrev pub odd_in : Form → Option ℕ
odd_in form = lesser (odd_on Left (agents_on Left form)) (odd_on Right (agents_on Right form))

abbrev pub thirteenth : Form → Option ℕ
thirteenth form = lesser (behind 12 (agents_on Left form)) (behind 12 (agents_on Right form))

abbrev pub if_past : Bool → ℕ → Option ℕ
if_past true start = Some start
if_past false start = None

-- ---- what belongs together has one type

abbrev pub mismatch : Option AgentSaid → Option AgentSaid → List ℕ
mismatch (Some l) (Some r) = if nat_eq l.agent r.agent then [] else r.«at» ∷ []
mismatch _ _ = []

unfoldable pub mismatches : List Pair → List ℕ
mismatches pairs = flat_map (λ (p : Pair). mismatch p.left p.right) pairs

-- ---- bonds of which one end is touched and the other isn't

-- the left site is deleted with its node, or its link is written
abbrev pub is_written : SidesParts → ℕ → LinkTest → Option ℕ → ℕ → Bool
is_written x n left None s = true
is_written x n left (Some k) s = option_map_or (λ (b : AgentSaid). is_some (link_written_by x k left (said_at b.sites s))) (slice_get x.right k) false

abbrev pub is_touched_of : SidesParts → ℕ → AgentSaid → ℕ → Bool
is_touched_of x n a s = option_map_or (λ k. is_written x n (left_link_test x.left n (said_at a.sites s)) k s) (slice_get x.after n) false

unfoldable pub is_touched : SidesParts → ℕ → ℕ → Bool
is_touched x n s = option_map_or (λ (a : AgentSaid). is_touched_of x n a s) (slice_get x.left n) false

-- a site that isn't touched, whose label leads to one that is
abbrev pub half_bond_at : SidesParts → ℕ → SiteSaid → Option LinkSaid → List ℕ
half_bond_at x n s (Some (said.Label number)) =
    let q = joined_to x.left number (n, s.site) in
    if not (is_touched x n s.site) && is_touched x q.0 q.1 then s.«at» ∷ [] else []
half_bond_at x n s _ = []

abbrev pub half_bonds_of : SidesParts → ℕ → AgentSaid → List ℕ
half_bonds_of x n a = flat_map (λ (s : SiteSaid). half_bond_at x n s s.link) a.sites

unfoldable pub half_bonds : SidesParts → List ℕ
half_bonds x = flat_map (λ offsets. offsets) (map_from 0 (half_bonds_of x) x.left)

-- ---- what can't stand on the right

-- `_` and `s.B` may stand on the right of a kept site only beside the same on the left
abbrev pub is_same_link : Option LinkSaid → Option LinkSaid → Bool
is_same_link (Some said.Bound) (Some said.Bound) = true
is_same_link (Some (said.Partner b y)) (Some (said.Partner c z)) = nat_eq b c && nat_eq y z
is_same_link _ _ = false

abbrev pub link_at : List SiteSaid → ℕ → Option LinkSaid
link_at sites s = option_map_or (λ (x : SiteSaid). x.link) (said_at sites s) None

abbrev pub is_bad_link : List SiteSaid → ℕ → Option LinkSaid → Bool
is_bad_link left s (Some said.Bound) = not (is_same_link (link_at left s) (Some said.Bound))
is_bad_link left s (Some (said.Partner b y)) = not (is_same_link (link_at left s) (Some (said.Partner b y)))
is_bad_link left s _ = false

-- a created site can't have `{#}`, `[#]`, `[_]` or `[s.B]`
abbrev pub leaves_state_open : Option StateTest → Bool
leaves_state_open (Some state.Any) = true
leaves_state_open _ = false

abbrev pub leaves_link_open : Option LinkSaid → Bool
leaves_link_open (Some said.Any) = true
leaves_link_open (Some said.Bound) = true
leaves_link_open (Some (said.Partner b y)) = true
leaves_link_open _ = false

abbrev pub bad_if : (SiteSaid → Bool) → List SiteSaid → List ℕ
bad_if is_bad sites = flat_map (λ (s : SiteSaid). if is_bad s then s.«at» ∷ [] else []) sites

-- an agent that is marked has no `/`
abbrev pub bad_right : Option AgentSaid → Option AgentSaid → List ℕ
bad_right (Some l) (Some r) = bad_if (λ s. is_bad_link l.sites s.site s.link) r.sites
bad_right (Some l) None = bad_if (λ s. s.slash) l.sites
bad_right None (Some r) = bad_if (λ s. s.slash || (leaves_state_open s.state || leaves_link_open s.link)) r.sites
bad_right None None = []

unfoldable pub bad_rights : List Pair → List ℕ
bad_rights pairs = flat_map (λ (p : Pair). bad_right p.left p.right) pairs

-- ---- declared complexes

abbrev pub complex_causes : List AgentText → List Cause
complex_causes agents =
    record { fault = LabelNotTwice; first = odd_on Left agents }
    ∷ record { fault = PartialInit; first = head (flat_map partial_sites agents) }
    ∷ record { fault = TooManyNodes; first = behind 200 agents }
    ∷ []

-- the causes of an init or addition before which so many of both stand
abbrev pub init_causes : List ℕ → List TypeEntry → ℕ → InitDecl → List Cause
init_causes text sig count d = name_causes text sig d.agents ++ (complex_causes d.agents ++ record { fault = TooManyInits; first = if_past (nat_le 1000 count) d.start.start } ∷ [])

-- ---- rules

-- all agents of a rule in text order
abbrev pub agents_of_form : Form → List AgentText
agents_of_form (Edit items) = agents_of items
agents_of_form (Arrow left right both) = agents_of left ++ agents_of right

abbrev pub form_causes : Form → List Pair → List Cause
form_causes form pairs =
    record { fault = LabelNotTwice; first = odd_in form }
    ∷ record { fault = TypeMismatch; first = head (mismatches pairs) }
    ∷ []

abbrev pub sides_causes : List Pair → List Cause
sides_causes pairs =
    record { fault = HalfBond; first = head (half_bonds (sides_of pairs)) }
    ∷ record { fault = BadRight; first = head (bad_rights pairs) }
    ∷ []

-- those of its limits, where so many rules stand before it
abbrev pub limit_causes : Form → ℕ → ℕ → List Cause
limit_causes form count start =
    record { fault = TooManyNodes; first = thirteenth form }
    ∷ record { fault = TooManyRules; first = if_past (nat_le 2000 count) start }
    ∷ []

abbrev pub forward_causes : List ℕ → List TypeEntry → Form → List Cause
forward_causes text sig form = name_causes text sig (agents_of_form form) ++ form_causes form (pairs_of text sig form) ++ sides_causes (pairs_of text sig form)

-- the causes of a rule before which so many stand
abbrev pub rule_causes : List ℕ → List TypeEntry → ℕ → RuleText → List Cause
rule_causes text sig count d = forward_causes text sig d.form ++ limit_causes d.form count d.start.start

-- the same of the reverse rule: what isn't listed here depends on both sides alike, so it came with the forward rule
abbrev pub reverse_causes : List ℕ → List TypeEntry → ℕ → RuleText → List Cause
reverse_causes text sig count d = sides_causes (turned (pairs_of text sig d.form)) ++ record { fault = TooManyRules; first = if_past (nat_le 2000 count) d.start.start } ∷ []

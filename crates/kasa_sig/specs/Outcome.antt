-- The signature of what is named, name by name, or the first name that is refused.
use Rattle.std.specs.Prelude.{ℕ, List, [], ◌∷◌, Option, Some, None, Result, Ok, Err, length, position, slice_get, unwrap_or, nat_lt, is_some, if◌then◌else◌}
use Rattle.std.specs.List.{list_any}
use Rattle.std.specs.Str.{bytes_eq}
use Rattle.kasa_num.specs.declared.Place.{Place}
use Rattle.kasa_syntax.specs.declared.decls.Decl.{Decl}
use Rattle.kasa_graph.specs.Signature.{TypeEntry, type_names, site_names, state_names, with_new_type, with_new_site, with_new_state}
use Rattle.kasa_sig.specs.declared.names.Source.{Source}
use Rattle.kasa_sig.specs.declared.names.Source.TheVariants.{Declarations, Uses}
use Rattle.kasa_sig.specs.declared.fault.SigFault.{SigFault}
use Rattle.kasa_sig.specs.declared.fault.SigFault.TheVariants.{Twice, TooManyTypes, TooManySites, TooManyStates}
use Rattle.kasa_sig.specs.Mentions.{Mention, of_type, of_site, of_state, declared_names, used_names, is_agent}

-- ---- names and numbers

-- the number of a name among some, None where it isn't one of them
unfoldable pub number_of : List (List ℕ) → List ℕ → Option ℕ
number_of names name = position (λ n. bytes_eq n name) names

-- the name of a number
unfoldable pub name_at : List (List ℕ) → ℕ → List ℕ
name_at names n = unwrap_or (slice_get names n) []

abbrev pub type_at : List TypeEntry → ℕ → List ℕ
type_at sig a = name_at (type_names sig) a

abbrev pub site_at : List TypeEntry → ℕ → ℕ → List ℕ
site_at sig a x = name_at (site_names sig a) x

-- ---- one more name

-- a name that stands in the signature: a second declaration is refused, and a second use adds nothing
abbrev pub again : Source → Place → List TypeEntry → Result (List TypeEntry) SigFault
again Declarations place sig = Err (Twice place)
again Uses place sig = Ok sig

-- a name among some, of which there are so many at most: it was there, it is one too many, or it is added
abbrev pub one_more : List (List ℕ) → List ℕ → ℕ → Result (List TypeEntry) SigFault → SigFault → List TypeEntry → Result (List TypeEntry) SigFault
one_more names name most there refused added = if is_some (number_of names name) then there else (if nat_lt (length names) most then Ok added else Err refused)

-- of the owner with this name, where there is one
abbrev pub owned : Option ℕ → List TypeEntry → (ℕ → Result (List TypeEntry) SigFault) → Result (List TypeEntry) SigFault
owned None sig more = Ok sig
owned (Some n) sig more = more n

-- a signature after one more mention
unfoldable pub step : Source → List TypeEntry → Mention → Result (List TypeEntry) SigFault
step source sig (of_type name place) = one_more (type_names sig) name 500 (again source place sig) (TooManyTypes place) (with_new_type sig name)
step source sig (of_site agent name place) =
    owned (number_of (type_names sig) agent) sig (λ a. one_more (site_names sig a) name 32 (again source place sig) (TooManySites place) (with_new_site sig a name))
step source sig (of_state agent site name place) =
    owned (number_of (type_names sig) agent) sig (λ a.
    owned (number_of (site_names sig a) site) sig (λ x. one_more (state_names sig a x) name 32 (again source place sig) (TooManyStates place) (with_new_state sig a x name)))

-- ---- all of them

abbrev pub go_on : Result (List TypeEntry) SigFault → (List TypeEntry → Result (List TypeEntry) SigFault) → Result (List TypeEntry) SigFault
go_on (Ok sig) more = more sig
go_on (Err fault) more = Err fault

-- a signature after some more mentions, or the first fault
unfoldable pub after : Source → List TypeEntry → List Mention → Result (List TypeEntry) SigFault
after source sig [] = Ok sig
after source sig (m ∷ ms) = go_on (step source sig m) (λ next. after source next ms)

-- what agent declarations say where one stands, and what inits, additions and rules use where none does
abbrev pub signature_of : List ℕ → List Decl → Result (List TypeEntry) SigFault
signature_of text decls = if list_any is_agent decls then after Declarations [] (declared_names text decls) else after Uses [] (used_names text decls)

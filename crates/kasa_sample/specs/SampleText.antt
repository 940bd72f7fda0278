-- The text of the sample model of a size: a row of types, each of which binds the next one, and passes a mark on to it.
use Rattle.std.specs.Prelude.{ℕ, zero, suc, ◌+◌, ◌-◌, List, [], ◌∷◌, ◌++◌, codes, decimal}

-- f of each number below n, one behind the other
abbrev pub for_each : (ℕ → List ℕ) → ℕ → List ℕ
for_each f zero = []
for_each f (suc n) = for_each f n ++ f n

-- a line that names type i
abbrev pub type_line : List ℕ → List ℕ → ℕ → List ℕ
type_line before behind i = before ++ decimal i ++ behind ++ 10 ∷ []

-- the line of a rule over type i and the next one: its name, and what it says of each of them
abbrev pub rule_line : List ℕ → List ℕ → List ℕ → ℕ → List ℕ
rule_line name first second i =
    codes "'" ++ name ++ decimal i ++ codes "' D" ++ decimal i ++ first ++ codes ",D" ++ decimal (i + 1) ++ second ++ 10 ∷ []

abbrev pub agent_line : ℕ → List ℕ
agent_line = type_line (codes "%agent: D") (codes "(l,r,m{off on})")

abbrev pub init_line : ℕ → List ℕ
init_line = type_line (codes "%init: 1 D") (codes "()")

abbrev pub bind_line : ℕ → List ℕ
bind_line = rule_line (codes "bind") (codes "(r[./1])") (codes "(l[./1])")

abbrev pub start_line : List ℕ
start_line = codes "'start' D0(r[_],m{off/on})" ++ 10 ∷ []

abbrev pub pass_line : ℕ → List ℕ
pass_line = rule_line (codes "pass") (codes "(r[1],m{on})") (codes "(l[1],m{off/on})")

abbrev pub bad_line : ℕ → List ℕ
bad_line = rule_line (codes "bad") (codes "(r[1],m{off})") (codes "(l[1],m{on/off})")

-- the text of size n
abbrev pub sample_text : ℕ → List ℕ
sample_text n =
    for_each agent_line n
    ++ for_each init_line n
    ++ for_each bind_line (n - 1)
    ++ start_line
    ++ for_each pass_line (n - 1)
    ++ for_each bad_line (n - 1)

-- The section `dead rules`: the numbers, from 1, and the names of the rules that can never fire.
use Rattle.std.specs.Prelude.{◌≡◌, ℕ, ◌+◌, ◌⊎◌, ⊤, List, [], ◌∷◌, ◌++◌, codes, decimal}
use Rattle.kasa_graph.specs.Signature.{TypeEntry}
use Rattle.kasa_rules.specs.Rule.{RuleParts}
use Rattle.kasa_families.specs.Table.{Table}
use Rattle.kasa_pre.specs.Allowed.{IsDead}

-- the name in quotes, nothing where it is empty
abbrev pub quoted : List ℕ → List ℕ
quoted [] = []
quoted (b ∷ name) = codes " '" ++ (b ∷ name) ++ codes "'"

unfoldable pub rule_text : ℕ → RuleParts → List ℕ
rule_text number r = codes " " ++ decimal number ++ quoted r.name

-- the lines are those of the rules that are dead, in order, where the first rule has the number n
abbrev pub AreDeadLines : List TypeEntry → List Table → ℕ → List RuleParts → List (List ℕ) → Type 0
AreDeadLines sig tables n [] [] = ⊤
AreDeadLines sig tables n [] (l ∷ lines) = ⊥
AreDeadLines sig tables n (r ∷ rules) [] = (¬ IsDead sig tables r) × AreDeadLines sig tables (n + 1) rules []
AreDeadLines sig tables n (r ∷ rules) (l ∷ lines) =
    (IsDead sig tables r × (l ≡ rule_text n r) × AreDeadLines sig tables (n + 1) rules lines) ⊎
    ((¬ IsDead sig tables r) × AreDeadLines sig tables (n + 1) rules (l ∷ lines))
